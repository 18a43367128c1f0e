use Rattle.er_event.proofs.VersionLemmas.{changes_are_kept}
use Rattle.er_event.proofs.laws.changes_are_kept.Goals as goal

pub returns : goal.returns
returns c = changes_are_kept
