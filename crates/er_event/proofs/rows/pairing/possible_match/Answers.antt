use Rattle.er_event.proofs.Prelude.{arith}
use Rattle.er_event.proofs.rows.pairing.possible_match.Goals as goal

pub returns-in_err-a : goal.returns-in_err-a
returns-in_err-a c round n shown is = grind (arith, c.players_of.ensures round n shown is)

pub returns-in_err-score : goal.returns-in_err-score
returns-in_err-score c round n shown is = grind (arith, c.score_of.ensures round n shown is)

pub returns : goal.returns
returns c round n shown is = grind (arith, c.players_of.ensures round n shown is, c.score_of.ensures round n shown is)
