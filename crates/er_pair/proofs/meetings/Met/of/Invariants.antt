use Rattle.std.proofs.Common.{◌≡◌, ◌||◌, ℕ, Bool, take}
use Rattle.std.specs.List.{list_any}
use Rattle.er_event.specs.{declared.matches.Match.Match, Round.matches_of}
use Rattle.er_event.specs.Round.{are_pair}
use Rattle.er_pair.specs.Met.{has_met}
use Rattle.er_pair.proofs.meetings.Met.of.Given as goal

abbrev have_met : ℕ → ℕ → Match → Bool
have_met p q m = are_pair m.a m.b p q

abbrev pub invariant-loop-round : goal.invariant-loop-round
invariant-loop-round l = (p q : ℕ) → has_met l.met p q ≡ list_any (have_met p q) (matches_of (take l.round-index l.round-items))

abbrev pub invariant-loop-table : goal.invariant-loop-table
invariant-loop-table l = (p q : ℕ) → has_met l.met p q ≡ (
    list_any (have_met p q) (matches_of (take l.round-index l.round-items))
    || list_any (have_met p q) (take l.table-index l.table-items)
    )
