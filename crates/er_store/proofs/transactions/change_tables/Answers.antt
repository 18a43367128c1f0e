use Rattle.er_store.proofs.Prelude.{sym, on_ok_weaker, after, tally_rows, totals}
use Rattle.er_store.proofs.{Lending.lends_then, Crash.was_clean, Together.makes_then, Tallying.{leaves_self, same_players, same_numbers}}
use Rattle.er_store.proofs.Tallying.{one_more_player}
use Rattle.er_store.proofs.transactions.change_tables.Goals as goal

pub returns-in-AddPlayer-clause-makes : goal.returns-in-AddPlayer-clause-makes
returns-in-AddPlayer-clause-makes g c l version s represents clean =
    let e = c.args.event.now in
    let one = c.in_ok-change_rows.ensures.makes l version s (tally_rows e) represents
    (was_clean c.insert_totals.ensures.lends.stays.survives clean) in
    let made = c.insert_totals.ensures.makes l (after e c.args.change.now) (tally_rows e) s one.represents clean in
    let fits = rw c.in-AddPlayer.is at c.requires.fits in
    let sound = c.events_are_sound.ensures in
    rw (
      c.in-AddPlayer.is,
      ← one_more_player e c.in-AddPlayer.name sound.players.numbered
          (λ q known. c.others_keep_totals.ensures e c.in-AddPlayer.name q sound fits known),
    )
    (on_ok_weaker c.insert_totals.result (λ two. makes_then (rw c.in-AddPlayer.is at one) two) (rw c.in-AddPlayer.is at made))

pub returns-in_default : goal.returns-in_default
returns-in_default g c =
    let e = c.args.event.now in
    let next = after e c.args.change.now in
    let same = same_numbers e c.args.change.now c.in_default.not-AddPlayer in
    let first = c.in_ok-change_rows.ensures in
    record {
      lends = lends_then first.lends c.recount.ensures.lends;
      makes = λ l version s represents clean.
          let one = first.makes l version s (tally_rows e) represents (was_clean c.recount.ensures.lends.stays.survives clean) in
          on_ok_weaker c.recount.result (λ two. makes_then one two) (c.recount.ensures.makes l next same (leaves_self one.leaves) s
          (rw (← same_players (totals e) e.players next.players (sym same)) one.represents) clean);
    }
