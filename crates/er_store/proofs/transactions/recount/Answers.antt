use Rattle.er_store.proofs.Prelude.{◌≡◌, ◌+◌, ◌<◌, length, ap, ◌∙◌, state, Player, after, totals, set_for, set_up_to, arith}
use Rattle.er_store.proofs.{Lending.{lends_self, lends_then}, Crash.was_clean, Together.makes_then}
use Rattle.er_store.proofs.Tallying.{numbered_too, rows_agree, none_set, not_yet, set_more, all_set, leaves_self, contains_numbered}
use Rattle.er_store.proofs.Tallying.{number-at}
use Rattle.er_store.proofs.Tallying.{length-numbers}
use Rattle.er_store.proofs.Tallying.{totals-at}
use Rattle.er_store.proofs.Prelude.{get_or, sym}
use Rattle.er_event.specs.Totals.{gathered_of}
use Rattle.er_store.proofs.transactions.recount.Goals as goal

pub loop-player-init : goal.loop-player-init
loop-player-init g c =
    let old = state g.S.Store c.args.tx.now.conn.now in
    let now = totals (after c.args.event.now c.args.change.now) in
    let before = totals c.args.event.now in (
      lends_self g.S.Store c.args.tx.now,
      λ clean l e s same leaves represents.
          let numbered = numbered_too e.players c.args.event.now.players same c.players-players.ensures.sound.players.numbered in
          rw (← rows_agree before (set_up_to 0 now before) e.players numbered (λ q low high. none_set now before q low))
          (record { leaves = leaves; represents = represents }),
    )

pub returns-in_err-recount_one-clause-lends : goal.returns-in_err-recount_one-clause-lends
returns-in_err-recount_one-clause-lends g c = lends_then c.loop-player.invariant.0 c.recount_one.ensures.lends

pub loop-player-preserved : goal.loop-player-preserved
loop-player-preserved g c =
    let event = c.args.event.now in
    let now = totals (after event c.args.change.now) in
    let before = totals event in
    let k = c.loop-player.player-index in
    let so_far = c.loop-player.invariant in
    let sound = c.players-players.ensures.sound in
    let value = c.players-players.ensures.value in
    let below : k < length event.players = rw value at c.loop-player-test.true in
    let it = c.player-item.result in
    let is : it ≡ get_or event.players k it = rw value at c.player-item.is in
    let was_due : gathered_of c.all_totals-was.result it ≡ before it.no =
    totals-at event event.players c.all_totals-was.result c.all_totals-was.ensures k it below is in
    let due : gathered_of c.all_totals_after-now.result it ≡ now it.no =
    totals-at (after event c.args.change.now) event.players c.all_totals_after-now.result c.all_totals_after-now.ensures k it below is in
    let no : it.no ≡ k + 1 = ap (λ (p : Player). p.no) (rw value at c.player-item.is) ∙ (number-at event sound k it below ∙ omega arith)
    in (
      lends_then so_far.0 c.recount_one.ensures.lends,
      λ clean l e s same leaves represents.
          let was = so_far.1 (was_clean c.recount_one.ensures.lends.stays.survives clean) l e s same leaves represents in
          let numbered = numbered_too e.players event.players same sound.players.numbered in
          let many = length-numbers e.players event.players same in
          let known = contains_numbered e.players it.no numbered (omega (arith, no)) (omega (arith, no, many, below)) in
          let made = c.in_ok-recount_one.ensures.makes l e (set_up_to k now before) (numbered, known)
          (not_yet now before k it.no no ∙ sym (c.of.ensures ∙ was_due))
          (leaves_self was.leaves) s was.represents clean in
          rw (← rows_agree (set_for it.no (now it.no) (set_up_to k now before)) (set_up_to (k + 1) now before) e.players numbered
          (λ q low high. set_more now before k it.no q no))
          (makes_then was (rw (c.of-in-loop-player.ensures ∙ due) at made)),
    )

pub returns-clause-makes : goal.returns-clause-makes
returns-clause-makes g c l e same leaves s represents clean =
    let event = c.args.event.now in
    let now = totals (after event c.args.change.now) in
    let before = totals event in
    let k = c.loop-player.player-index in
    let numbered = numbered_too e.players event.players same c.players-players.ensures.sound.players.numbered in
    let many = length-numbers e.players event.players same in
    rw (← rows_agree (set_up_to k now before) now e.players numbered
    (λ q low high. all_set now before k q (omega (arith, many, high, ap length c.players-players.ensures.value, c.loop-player-test.false))))
    (c.loop-player.invariant.1 clean l e s same leaves represents)

pub returns-clause-lends : goal.returns-clause-lends
returns-clause-lends g c = c.loop-player.invariant.0

pub returns-then-not-may_alter_totals-clause-makes : goal.returns-then-not-may_alter_totals-clause-makes
returns-then-not-may_alter_totals-clause-makes g c l e same leaves s represents clean =
    let event = c.args.event.now in
    let sound = c.players-players.ensures.sound in
    let numbered = numbered_too e.players event.players same sound.players.numbered in
    let many = length-numbers e.players event.players same in
    rw (← rows_agree (totals event) (totals (after event c.args.change.now)) e.players numbered
    (λ q low high. sym (c.may_alter_totals.ensures.others (grind arith) q
    (contains_numbered event.players q sound.players.numbered low (omega (arith, many, high))))))
    (record { leaves = leaves; represents = represents })
