use Rattle.std.proofs.Common.{◌≡◌, ℕ, ◌+◌, ◌<◌, take, get_or, All}
use Rattle.er_event.specs.declared.tallies.Tally.{Tally}
use Rattle.er_rank.specs.Meeting.{IsRecord}
use Rattle.er_rank.proofs.lists.are_tallies.Given as goal

abbrev pub invariant-loop-at : goal.invariant-loop-at
invariant-loop-at l = record {
  numbered : (k : ℕ) (d : Tally) → k < l.at → (get_or l.list k d).no ≡ 1 + k;
  records : All (λ (t : Tally). IsRecord t.totals) (take l.at l.list);
}
