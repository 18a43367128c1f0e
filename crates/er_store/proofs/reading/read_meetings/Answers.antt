use Rattle.er_store.proofs.Prelude.{state, out_of_memory, rules, ◌≡◌, ◌⊎◌, inl, inr, [], ◌∷◌, ◌++◌, map, List, refl, sym, ap, length}
use Rattle.er_store.proofs.Prelude.{◌∙◌, arith, map-append, length-map, Row, HasCleanDisk, IsUnchanged, unchanged_then}
use Rattle.er_store.proofs.Prelude.{survives_then, meeting_rows, IsReadRefused, first_columns, meeting_columns, FailsToQuery, Shown}
use Rattle.er_store.proofs.Prelude.{Layout, HasTablesAt, Schema, Selects}
use Rattle.std.proofs.Common.{length-append}
use Rattle.er_store.proofs.Lending.{no_ok}
use Rattle.er_store.proofs.{Meaning.meeting_query, MeetingText.meetings_mean, Refusals.meetings_refused, Crash.{survives_both, was_clean}}
use Rattle.er_store.proofs.Prelude.{PairingTable, TallyTable}
use Rattle.er_store.proofs.LoadLemmas.{all_err, kept_represents, told, then_keeps, unchanged_keeps}
use Rattle.er_store.proofs.Selecting.{commits_nothing, fails_keeping, selects, begun-select, given-shown, row-among, refused-after}
use Rattle.er_store.proofs.{Selecting.unchanged-refl, Exact.is_memory, Meetings.{meetings-listed, meetings-exact, meetings-read}}
use Rattle.er_store.specs.Tables as sql
use Rattle.er_store.proofs.reading.read_meetings.Given as given
use Rattle.er_store.proofs.reading.read_meetings.Goals as goal

chosen : (l : Layout) {schema : Schema} → HasTablesAt l schema
    → Selects sql.read_meetings (meeting_query (l.tree PairingTable) (l.tree TallyTable)) schema
chosen l has = meetings_mean (has.has PairingTable).1 (has.has TallyTable).1

pub returns-in_err-rows-clause-refused : goal.returns-in_err-rows-clause-refused
returns-in_err-rows-clause-refused g c clean e s represents sound =
    told c.from_residual.result c.in_err-rows.field-0.0 _ c.from_residual.ensures.1 (inr (meetings_refused _ _ _ _ _
    (chosen represents.0 represents.1.has.tables) ((rw c.in_err-rows.was at c.query.follows.holds-at-none).err clean)))

pub loop-rows-init : goal.loop-rows-init
loop-rows-init g c =
    let made = c.in_ok-rows.ensures in
    let now = state g.S.Store c.in_ok-rows.rows.conn.now in (
      refl,
      commits_nothing _ _ selects.meetings made.survives,
      made.mode,
      λ clean.
          let begun = begun-select g.S.Store sql.read_meetings [] c.args.conn.now c.in_ok-rows.rows.conn.now selects.meetings
          (made.begun clean) in
          ([], begun.0, ap (map meeting_columns) c.new-meetings.ensures.items, begun.1),
    )

-- the connection is given back as it is
back : (g : given.Over) (c : goal.After-conn-2-1 g) → c.conn-2-1.given.0 ≡ c.next.follows.lender-at-none.conn.now
back g c = search rules

back_unread : (g : given.Over) (c : goal.After-drop-meetings-in_err-row g)
    → c.conn-in_err-row-1.given.0 ≡ c.next.follows.lender-at-none.conn.now
back_unread g c = search rules

back_unpushed : (g : given.Over) (c : goal.After-drop-meetings-in_err-push_row g)
    → c.conn-in_err-push_row-1.given.0 ≡ c.next.follows.lender-at-none.conn.now
back_unpushed g c = search rules

pub returns-clause-exact : goal.returns-clause-exact
returns-clause-exact g c clean e s represents sound =
    let moved = c.next.follows.holds-at-none in
    let then = c.next.follows.lender-at-none.conn.now in
    let late : HasCleanDisk (state g.S.Store then) = rw (back g c) at clean in
    let was = c.loop-rows.invariant.3 (was_clean moved.survives late) in
    let now = state g.S.Store c.loop-rows.rows.conn.now in
    let shown : Shown sql.read_meetings [] now (state g.S.Store then) was.0 =
    (rw (c.in_ok-row.was, c.in_default.is) at (moved.ok late)) sql.read_meetings [] was.0 was.1 in
    let here = kept_represents (state g.S.Store c.args.conn.now) now e s was.3 represents in
    let l = here.0 in
    meetings-read l now.now e s was.0 c.loop-rows.meetings.items here.1 sound
    (meetings-listed (l.tree PairingTable) (l.tree TallyTable) _ _ (chosen l here.1.has.tables) shown) was.2

pub returns-in_err-row-clause-refused : goal.returns-in_err-row-clause-refused
returns-in_err-row-clause-refused g c clean e s represents sound =
    let moved = c.next.follows.holds-at-none in
    let then = state g.S.Store c.next.follows.lender-at-none.conn.now in
    let late : HasCleanDisk then = rw (back_unread g c) at clean in
    let was = c.loop-rows.invariant.3 (was_clean moved.survives late) in
    let old = state g.S.Store c.args.conn.now in
    let now = state g.S.Store c.loop-rows.rows.conn.now in
    let here = kept_represents old now e s was.3 represents in
    let failed : FailsToQuery sql.read_meetings [] now then c.in_err-row.field-0.0 =
    (rw c.in_err-row.was at (moved.err late)) sql.read_meetings [] was.0 was.1 in
    let refused = meetings_refused _ _ _ _ _ (chosen here.0 here.1.has.tables) failed in
    rw (back_unread g c) (told c.from_residual-in_err-row.result c.in_err-row.field-0.0 _ c.from_residual-in_err-row.ensures.1
    (inr (refused-after old now then (λ _. ⊥) c.in_err-row.field-0.0 was.3 c.loop-rows.invariant.1 refused)))

pub loop-rows-preserved : goal.loop-rows-preserved
loop-rows-preserved g c =
    let moved = c.next.follows.holds-at-none in
    let then = state g.S.Store c.next.follows.lender-at-none.conn.now in
    let old = state g.S.Store c.args.conn.now in
    let now = state g.S.Store c.loop-rows.rows.conn.now in
    let inv = c.loop-rows.invariant in
    let row = c.in-Some.row.now in
    let added : map meeting_columns c.push_row.new.typed.items
    ≡ map meeting_columns c.loop-rows.meetings.items ++ first_columns 13 row ∷ [] = c.in_ok-push_row.ensures.value in (
      moved.same_reference ∙ inv.0,
      survives_then old now then (λ _. ⊥) (λ _. ⊥) (λ _. ⊥) (λ clean db none. none) (λ clean db none. none) inv.1 moved.survives,
      (λ outside. moved.mode (inv.2 outside)),
      λ late.
          let was = inv.3 (was_clean moved.survives late) in
          let given = (rw (c.in_ok-row.was, c.in-Some.is) at (moved.ok late)) sql.read_meetings [] was.0 was.1 in
          let same : IsUnchanged now then = rw c.in_ok-row.was at (moved.same late) in (
            was.0 ++ row ∷ [],
            given,
            added ∙ (ap (λ (xs : List Row). xs ++ first_columns 13 row ∷ []) was.2 ∙ sym (map-append (first_columns 13) was.0 (row ∷ []))),
            unchanged_then old now then was.3 same,
          ),
    )

pub returns-in_err-push_row-clause-refused : goal.returns-in_err-push_row-clause-refused
returns-in_err-push_row-clause-refused g c clean e s represents sound =
    let moved = c.next.follows.holds-at-none in
    let held = c.next.follows.lender-at-none.conn.now in
    let then = state g.S.Store held in
    let late : HasCleanDisk then = rw (back_unpushed g c) at clean in
    let was = c.loop-rows.invariant.3 (was_clean moved.survives late) in
    let old = state g.S.Store c.args.conn.now in
    let now = state g.S.Store c.loop-rows.rows.conn.now in
    let row = c.in-Some.row.now in
    let given = (rw (c.in_ok-row.was, c.in-Some.is) at (moved.ok late)) sql.read_meetings [] was.0 was.1 in
    let same : IsUnchanged old then = unchanged_then old now then was.3 (rw c.in_ok-row.was at (moved.same late)) in
    let there = kept_represents old then e s same represents in
    let it = chosen there.0 there.1.has.tables in
    let shown = given-shown g.S.Store sql.read_meetings (meeting_query (there.0.tree PairingTable) (there.0.tree TallyTable)) held (was.0 ++ row ∷ []) it (unchanged-refl old then same) given in
    let rows = meetings-exact there.0 then.now e s ((was.0 ++ row ∷ []) ++ shown.0) there.1 sound
    (meetings-listed (there.0.tree PairingTable) (there.0.tree TallyTable) _ _ it shown.1) in
    let among = row-among meeting_columns was.0 shown.0 row (meeting_rows e) rows in
    let memory : c.in_err-push_row.field-0.0 ≡ out_of_memory =
    is_memory c.in_err-push_row.field-0.0 (λ unless. c.in_err-push_row.ensures.refused unless among.0 among.1) in
    let why : (c.in_err-push_row.field-0.0 ≡ out_of_memory) ⊎ IsReadRefused old then c.in_err-push_row.field-0.0 = inl memory in
    rw (back_unpushed g c) (told c.from_residual-in_err-push_row.result c.in_err-push_row.field-0.0 _
    c.from_residual-in_err-push_row.ensures.1 why)

pub loop-rows-smaller : goal.loop-rows-smaller
loop-rows-smaller g c =
    let old = c.loop-rows.meetings.items in
    let new = c.push_row.new.typed.items in
    let more : length (map meeting_columns new) ≡ length (map meeting_columns old ++ first_columns 13 c.in-Some.row.now ∷ []) =
    ap length c.in_ok-push_row.ensures.value in
    let here = length-map old meeting_columns in
    let there = length-map new meeting_columns in
    omega (
      arith,
      more,
      here,
      there,
      length-append (map meeting_columns old) (first_columns 13 c.in-Some.row.now ∷ []),
      c.push_row.new.typed.small,
    )

-- ---- what a look leaves, at each of the four ends

pub returns-in_err-rows-clause-looks : goal.returns-in_err-rows-clause-looks
returns-in_err-rows-clause-looks g c = record {
  mode = search rules;
  clean = search rules;
  same = λ clean. no_ok _ c.from_residual.result c.in_err-rows.field-0.0 c.from_residual.ensures.1;
  kept = λ clean.
      all_err c.from_residual.result
      (fails_keeping _ _ _ _ _ selects.meetings ((rw c.in_err-rows.was at c.query.follows.holds-at-none).err clean));
  survives = commits_nothing sql.read_meetings [] selects.meetings (search rules);
}

pub returns-in_err-row-clause-looks : goal.returns-in_err-row-clause-looks
returns-in_err-row-clause-looks g c = record {
  mode = search rules;
  clean = search rules;
  same = λ clean. no_ok _ c.from_residual-in_err-row.result c.in_err-row.field-0.0 c.from_residual-in_err-row.ensures.1;
  kept = λ clean.
      let moved = c.next.follows.holds-at-none in
      let then = state g.S.Store c.next.follows.lender-at-none.conn.now in
      let late : HasCleanDisk then = rw (back_unread g c) at clean in
      let now = state g.S.Store c.loop-rows.rows.conn.now in
      let was = c.loop-rows.invariant.3 (was_clean moved.survives late) in
      let failed : FailsToQuery sql.read_meetings [] now then c.in_err-row.field-0.0 =
      (rw c.in_err-row.was at (moved.err late)) sql.read_meetings [] was.0 was.1 in
      rw (back_unread g c) (all_err c.from_residual-in_err-row.result
      (then_keeps (state g.S.Store c.args.conn.now) now then was.3 (fails_keeping _ _ _ _ _ selects.meetings failed)));
  survives =
      rw (back_unread g c) (survives_both c.loop-rows.invariant.1 c.next.follows.holds-at-none.survives);
}

pub returns-in_err-push_row-clause-looks : goal.returns-in_err-push_row-clause-looks
returns-in_err-push_row-clause-looks g c = record {
  mode = search rules;
  clean = search rules;
  same = λ clean. no_ok _ c.from_residual-in_err-push_row.result c.in_err-push_row.field-0.0 c.from_residual-in_err-push_row.ensures.1;
  kept = λ clean.
      let moved = c.next.follows.holds-at-none in
      let then = state g.S.Store c.next.follows.lender-at-none.conn.now in
      let late : HasCleanDisk then = rw (back_unpushed g c) at clean in
      let old = state g.S.Store c.args.conn.now in
      let now = state g.S.Store c.loop-rows.rows.conn.now in
      let was = c.loop-rows.invariant.3 (was_clean moved.survives late) in
      let same : IsUnchanged old then = unchanged_then old now then was.3 (rw c.in_ok-row.was at (moved.same late)) in
      rw (back_unpushed g c) (all_err c.from_residual-in_err-push_row.result (unchanged_keeps old then same));
  survives =
      rw (back_unpushed g c) (survives_both c.loop-rows.invariant.1 c.next.follows.holds-at-none.survives);
}

pub returns-clause-looks : goal.returns-clause-looks
returns-clause-looks g c = record {
  mode = search rules;
  clean = search rules;
  same = search rules;
  kept = λ clean. tt;
  survives = rw (back g c) (survives_both c.loop-rows.invariant.1 c.next.follows.holds-at-none.survives);
}
