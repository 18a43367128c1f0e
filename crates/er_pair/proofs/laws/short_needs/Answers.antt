use Rattle.er_pair.proofs.Entries.{short_needs}
use Rattle.er_pair.proofs.laws.short_needs.Goals as goal

pub returns : goal.returns
returns c = short_needs
