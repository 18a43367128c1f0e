use Rattle.std.proofs.{lemmas.Grind.common_steps, Common.{◌≡◌, ℕ, arith}}
use Rattle.er_event.specs.{declared.tallies.Meeting.Meeting, declared.totals.Totals.Totals}
use Rattle.er_rank.proofs.PlacingLemmas.{number-here, totals-here}
use Rattle.er_rank.proofs.meetings.meeting_of.Goals as goal

abbrev meeting : ℕ → ℕ → Totals → Totals → Meeting
meeting lo hi lo_totals hi_totals = record { lo = lo; hi = hi; lo_totals = lo_totals; hi_totals = hi_totals }

same : (a b c d : ℕ) (t u v w : Totals) → a ≡ b → c ≡ d → t ≡ u → v ≡ w → meeting a c t v ≡ meeting b d u w
same a b c d t u v w first second third fourth = cc

pub returns : goal.returns
returns c = grind (arith, common_steps, number-here, same, totals-here)
