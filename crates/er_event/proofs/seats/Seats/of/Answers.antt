use Rattle.er_event.proofs.Prelude.{sym, take, ◌∙◌, true≢false}
use Rattle.er_event.proofs.SeatLemmas.{seats-apart, seats-free, seats-more}
use Rattle.er_event.proofs.SeatTables.{free-shares, free-sits, seats-with, sits-free}
use Rattle.er_event.proofs.seats.Seats.of.Goals as goal

pub returns-then-not-may_sit-clause-once : goal.returns-then-not-may_sit-clause-once
returns-then-not-may_sit-clause-once c =
    let ms = c.args.matches.now in
    let i = c.loop-place.place in
    let m = c.index-matches-place.result in
    let is = sym c.index-matches-place.is in (
      λ never. absurd (true≢false (sym never)),
      λ once. sym c.if-not-may_sit.true ∙ (c.may_sit.ensures ∙ free-sits (take i ms) m (seats-apart ms i m m c.loop-place-test.true is once)
          (seats-free ms i m m c.loop-place-test.true is once)),
    )

pub loop-place-preserved : goal.loop-place-preserved
loop-place-preserved c =
    let ms = c.args.matches.now in
    let i = c.loop-place.place in
    let m = c.index-matches-place.result in
    let is = sym c.index-matches-place.is in
    let free = sits-free (take i ms) m (sym c.may_sit.ensures ∙ c.if-not-may_sit.false) in
    let shared = free-shares m (take i ms) free.1 free.2 in
    rw (c.seat-in-loop-place.ensures, c.seat.ensures) record {
      seated_once = seats-more ms i m m c.loop-place-test.true is c.loop-place.invariant.seated_once shared free.0;
      seats = seats-with ms i m c.loop-place-test.true is c.loop-place.table c.loop-place.invariant.seats free.1 free.2;
    }
