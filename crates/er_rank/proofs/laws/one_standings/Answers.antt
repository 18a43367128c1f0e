use Rattle.er_rank.proofs.ListLemmas.{OneStandings-sound}
use Rattle.er_rank.proofs.laws.one_standings.Goals as goal

pub returns : goal.returns
returns c event rows sound are = OneStandings-sound event rows sound are
