use Rattle.std.proofs.Common.{rules, inl, inr, ◌≡◌, ◌∙◌, IsTrue, IsFalse, false, true≢false, refl, sym, subst}
use Rattle.std.proofs.lemmas.Result.{err_from_is_err_and}
use Rattle.sqlite.specs.State.{State, HasCleanDisk, IsUnchanged}
use Rattle.er_event.specs.Event.{EventValue}
use Rattle.er_event.specs.declared.refusals.Refusal.TheVariants.{Memory}
use Rattle.er_rank.specs.Meeting.{AreListsOf}
use Rattle.er_store.specs.{Representing.{Represents, RepresentsIn}}
use Rattle.sqlite.specs.Held as sqlite
use Rattle.er_store.specs.Store as store
use Rattle.er_desk.proofs.Looking.{reads_on, reads_failed, reads_well, reads_passing, reads_ended}
use Rattle.er_desk.proofs.stored.read_standings.Goals as goal

still_represents : (v : _) (old new : State) (e : EventValue) (s : _) → IsUnchanged old new → RepresentsIn v old.now e s
    → Represents new.now e s
still_represents v old new e s same represents = subst (λ db. Represents db e s) (sym same.0.now_is)
    (represents.layout, represents.represents)

-- ---- the tallies are not read

pub returns-in_err-tallies-clause-reads : goal.returns-in_err-tallies-clause-reads
returns-in_err-tallies-clause-reads g c =
    let p = err_from_is_err_and c.from_residual.result c.from_residual.ensures.1 in
    rw (p.1, p.2) (reads_failed g.S.Store c.args.store.now c.tallies.new.self c.requires.running Memory _ c.in_err-tallies.ensures.reads)

pub returns-in_err-tallies-clause-found : goal.returns-in_err-tallies-clause-found
returns-in_err-tallies-clause-found g c runs clean e s represents sound =
    let p = err_from_is_err_and c.from_residual.result c.from_residual.ensures.1 in
    rw (p.1, p.2) (c.in_err-tallies.ensures.found runs clean e s represents sound)

pub returns-in_err-tallies-clause-same : goal.returns-in_err-tallies-clause-same
returns-in_err-tallies-clause-same g c clean runs =
    absurd (true≢false (sym (c.in_err-tallies.ensures.reads.as_call.stops c.requires.running).1 ∙ runs))

-- ---- the meetings are not read

pub returns-in_err-meetings-clause-reads : goal.returns-in_err-meetings-clause-reads
returns-in_err-meetings-clause-reads g c =
    let p = err_from_is_err_and c.from_residual-in_err-meetings.result c.from_residual-in_err-meetings.ensures.1 in
    rw (p.1, p.2) (reads_failed g.S.Store c.args.store.now c.meetings.new.self c.requires.running Memory _
    (reads_on g.S.Store c.args.store.now c.tallies.new.self c.requires.running c.meetings.new.self _ _ c.in_ok-tallies.ensures.reads
    c.in_err-meetings.ensures.reads))

pub returns-in_err-meetings-clause-found : goal.returns-in_err-meetings-clause-found
returns-in_err-meetings-clause-found g c runs clean e s represents sound =
    let early = c.meetings.ensures.reads.as_call.call.clean clean in
    let running : IsFalse (store.needs_reopen c.tallies.new.self) = c.in_ok-tallies.ensures.reads.as_call.stops c.requires.running in
    let here = still_represents (store.store_version c.args.store.now) (store.store_state g.S.Store c.args.store.now)
    (store.store_state g.S.Store c.tallies.new.self) e s
    (c.in_ok-tallies.ensures.reads.same early) represents in
    let p = err_from_is_err_and c.from_residual-in_err-meetings.result c.from_residual-in_err-meetings.ensures.1 in
    rw (p.1, p.2) (c.in_err-meetings.ensures.found running clean e s here sound)

pub returns-in_err-meetings-clause-same : goal.returns-in_err-meetings-clause-same
returns-in_err-meetings-clause-same g c clean runs =
    let stopped = (c.in_err-meetings.ensures.reads.as_call.stops (c.in_ok-tallies.ensures.reads.as_call.stops c.requires.running)).1 in
    absurd (true≢false (sym stopped ∙ runs))

-- ---- memory ran out

pub returns-in_err-are_lists-clause-reads : goal.returns-in_err-are_lists-clause-reads
returns-in_err-are_lists-clause-reads g c =
    let p = err_from_is_err_and c.from_residual-in_err-are_lists.result c.from_residual-in_err-are_lists.ensures.1 in
    rw (p.1, p.2) (reads_passing g.S.Store c.args.store.now c.meetings.new.self c.requires.running Memory _
    (reads_on g.S.Store c.args.store.now c.tallies.new.self c.requires.running c.meetings.new.self _ _ c.in_ok-tallies.ensures.reads
    c.in_ok-meetings.ensures.reads))

pub returns-in_err-are_lists-clause-found : goal.returns-in_err-are_lists-clause-found
returns-in_err-are_lists-clause-found g c runs clean e s represents sound =
    let p = err_from_is_err_and c.from_residual-in_err-are_lists.result c.from_residual-in_err-are_lists.ensures.1 in
    rw (p.1, p.2) (inl refl)

pub returns-in_err-are_lists-clause-same : goal.returns-in_err-are_lists-clause-same
returns-in_err-are_lists-clause-same g c clean runs =
    (reads_on g.S.Store c.args.store.now c.tallies.new.self c.requires.running c.meetings.new.self _ _ c.in_ok-tallies.ensures.reads
    c.in_ok-meetings.ensures.reads).same clean

pub returns-in_err-standings_of-clause-reads : goal.returns-in_err-standings_of-clause-reads
returns-in_err-standings_of-clause-reads g c =
    let p = err_from_is_err_and c.from_residual-in_err-standings_of.result c.from_residual-in_err-standings_of.ensures.1 in
    rw (p.1, p.2) (reads_passing g.S.Store c.args.store.now c.meetings.new.self c.requires.running Memory _
    (reads_on g.S.Store c.args.store.now c.tallies.new.self c.requires.running c.meetings.new.self _ _ c.in_ok-tallies.ensures.reads
    c.in_ok-meetings.ensures.reads))

pub returns-in_err-standings_of-clause-found : goal.returns-in_err-standings_of-clause-found
returns-in_err-standings_of-clause-found g c runs clean e s represents sound =
    let p = err_from_is_err_and c.from_residual-in_err-standings_of.result c.from_residual-in_err-standings_of.ensures.1 in
    rw (p.1, p.2) (inl refl)

pub returns-in_err-standings_of-clause-same : goal.returns-in_err-standings_of-clause-same
returns-in_err-standings_of-clause-same g c clean runs =
    (reads_on g.S.Store c.args.store.now c.tallies.new.self c.requires.running c.meetings.new.self _ _ c.in_ok-tallies.ensures.reads
    c.in_ok-meetings.ensures.reads).same clean

-- ---- the lists are of no event

pub returns-then-not-branch-clause-reads : goal.returns-then-not-branch-clause-reads
returns-then-not-branch-clause-reads g c =
    reads_ended g.S.Store c.args.store.now c.meetings.new.self c.requires.running Memory _ c.refuse_rows.new.self _
    (reads_on g.S.Store c.args.store.now c.tallies.new.self c.requires.running c.meetings.new.self _ _ c.in_ok-tallies.ensures.reads
    c.in_ok-meetings.ensures.reads)
    c.refuse_rows.ensures.same c.refuse_rows.ensures.version (inr c.refuse_rows.ensures.refusal) c.refuse_rows.ensures.needs_reopen

pub returns-then-not-branch-clause-same : goal.returns-then-not-branch-clause-same
returns-then-not-branch-clause-same g c clean runs = absurd (true≢false (sym c.refuse_rows.ensures.needs_reopen ∙ runs))

pub returns-then-not-branch-clause-found : goal.returns-then-not-branch-clause-found
returns-then-not-branch-clause-found g c runs clean e s represents sound =
    let late : HasCleanDisk (store.store_state g.S.Store c.meetings.new.self) =
    subst (λ h. HasCleanDisk (sqlite.state g.S.Store h)) c.refuse_rows.ensures.same clean in
    let early = c.meetings.ensures.reads.as_call.call.clean late in
    let running : IsFalse (store.needs_reopen c.tallies.new.self) = c.in_ok-tallies.ensures.reads.as_call.stops c.requires.running in
    let here = still_represents (store.store_version c.args.store.now) (store.store_state g.S.Store c.args.store.now)
    (store.store_state g.S.Store c.tallies.new.self) e s
    (c.in_ok-tallies.ensures.reads.same early) represents in
    let are : AreListsOf e c.as_slice.result.now c.as_slice-2.result.now = record {
      sound = sound;
      tallies = c.as_slice.ensures.value ∙ c.in_ok-tallies.ensures.found c.requires.running early e s represents sound;
      meetings = c.as_slice-2.ensures.value ∙ c.in_ok-meetings.ensures.found running late e s here sound;
    } in
    let yes : IsTrue c.in_ok-are_lists.field-0 = c.in_ok-are_lists.ensures.event e are in
    let no : c.in_ok-are_lists.field-0 ≡ false = search rules in
    absurd (true≢false (sym yes ∙ no))

-- ---- they are

pub returns-clause-reads : goal.returns-clause-reads
returns-clause-reads g c =
    reads_well g.S.Store c.args.store.now c.meetings.new.self c.requires.running Memory _ _
    (reads_on g.S.Store c.args.store.now c.tallies.new.self c.requires.running c.meetings.new.self _ _ c.in_ok-tallies.ensures.reads
    c.in_ok-meetings.ensures.reads)

pub returns-clause-found : goal.returns-clause-found
returns-clause-found g c runs clean e s represents sound =
    let early = c.meetings.ensures.reads.as_call.call.clean clean in
    let running : IsFalse (store.needs_reopen c.tallies.new.self) = c.in_ok-tallies.ensures.reads.as_call.stops c.requires.running in
    let here = still_represents (store.store_version c.args.store.now) (store.store_state g.S.Store c.args.store.now)
    (store.store_state g.S.Store c.tallies.new.self) e s
    (c.in_ok-tallies.ensures.reads.same early) represents in
    let are : AreListsOf e c.as_slice-3.result.now c.as_slice-4.result.now = record {
      sound = sound;
      tallies = c.as_slice-3.ensures.value ∙ c.in_ok-tallies.ensures.found c.requires.running early e s represents sound;
      meetings = c.as_slice-4.ensures.value ∙ c.in_ok-meetings.ensures.found running clean e s here sound;
    } in
    (c.in_ok-standings_of.ensures.value e are, c.in_ok-standings_of.ensures.only e are)

pub returns-clause-same : goal.returns-clause-same
returns-clause-same g c clean runs =
    (reads_on g.S.Store c.args.store.now c.tallies.new.self c.requires.running c.meetings.new.self _ _ c.in_ok-tallies.ensures.reads
    c.in_ok-meetings.ensures.reads).same clean
