use Rattle.std.proofs.{Common.{arith, rules, ◌≡◌, Some, IsSome, sym, ap, ◌∙◌}, lemmas.Grind.common_steps}
use Rattle.er_event.specs.{declared.events.Phase.TheVariants.Finished, declared.brackets.Bracket.Bracket, Bracket.last_match}
use Rattle.er_bracket.proofs.WinnerLemmas.{winner-known, some-number}
use Rattle.er_bracket.proofs.champions.champion.Goals as goal

over : (c : goal.After-try_new) → c.args.event.now.phase ≡ Finished
over c = search rules

is : (c : goal.After-try_new) → last_match c.args.event.now.bracket.stages ≡ Some c.in_ok-played.played.now
is c = ap (λ (b : Bracket). last_match b.stages) (sym c.bracket.ensures.value) ∙ sym (c.in_ok-played.ensures)

named : (c : goal.After-try_new) → IsSome c.try_new.result
named c = grind (arith, common_steps, is, over, winner-known)

pub returns-clause-value : goal.returns-clause-value
returns-clause-value c = grind (arith, common_steps, is, named, over, some-number)

pub returns-clause-finished : goal.returns-clause-finished
returns-clause-finished c = (λ _. over c, λ _. named c)
