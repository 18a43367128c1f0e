use Rattle.er_rank.proofs.ListLemmas.{OneStandings-sound, OneTop-one}
use Rattle.er_rank.proofs.laws.one_top.Goals as goal

pub returns : goal.returns
returns c event k players sound is = OneTop-one event k is.rows players (OneStandings-sound event is.rows sound is.standings) is.top
