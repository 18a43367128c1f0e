use Rattle.er_event.proofs.Prelude.{arith, rules, ◌≡◌}
use Rattle.er_event.proofs.rows.bracket.possible_match.Goals as goal

pub returns-in_err-score : goal.returns-in_err-score
returns-in_err-score c stage n shown is = grind (arith, c.score_of.ensures stage n shown is)

pub returns : goal.returns
returns c stage n shown is =
    let a : c.in_ok-a.a ≡ n.1.a = search rules in
    let b : c.in_ok-b.b ≡ n.1.b = search rules in
    grind (arith, c.score_of.ensures stage n shown is)
