use Rattle.er_event.proofs.Prelude.{arith, sym, true≢false, ◌∙◌, common_steps}
use Rattle.er_event.proofs.EndLemmas.{beq-same, none-over, same-beq}
use Rattle.er_event.proofs.events.fits.may_end.Goals as goal

pub returns-then-may_be_last : goal.returns-then-may_be_last
returns-then-may_be_last c = grind (arith, common_steps, beq-same, none-over, same-beq)

pub returns-else-may_be_last : goal.returns-else-may_be_last
returns-else-may_be_last c = (λ never. absurd (true≢false (sym never ∙ c.if-may_be_last.false)), λ end. c.may_be_last.ensures.1 end.follows)
