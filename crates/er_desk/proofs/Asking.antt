-- What a call does to the file, and two calls one after the other.
use Rattle.std.proofs.{Common.{◌≡◌, ℕ, inl, inr, ◌+◌, Bool, true, false, IsTrue, IsFalse, List, [], ◌∷◌, ◌++◌, Result, MatchResult}}
use Rattle.std.proofs.Common.{Option, Some, None, Ok, Err, IfErr, IfSome, OnOk, OnErr, MatchOption, refl, sym, ap, ap₂, subst, ◌∙◌, arith}
use Rattle.std.proofs.Common.{append-nil, true≢false}
use Rattle.std.specs.Prelude.{if◌then◌else◌}
use Rattle.er_event.specs.declared.refusals.Refusal.{Refusal}
use Rattle.er_event.specs.declared.refusals.Refusal.TheVariants.{NeedsReopen}
use Rattle.sqlite_trees.specs.declared.store.Store.{Ghosts}
use Rattle.sqlite.specs.{Tree.Trees, State.{HasCleanDisk, IsUnchanged}}
use Rattle.er_event.specs.{declared.commands.Command.Command, Event.EventValue}
use Rattle.er_rules.specs.Step.{Steps}
use Rattle.er_store.specs.{Reading.KeepsTables, Representing.{AfterCrash, RepresentsNow}}
use Rattle.er_desk.specs.Reply.{Reply}
use Rattle.er_desk.specs.Desk.{Point, DeskState, Outcome, HoldsOwnEvent, point_of, placed_at, placed_of, state, desk_state}
use Rattle.er_desk.specs.{declared.desk.Desk.Desk, Desk.version_in}
use Rattle.er_desk.specs.Headline.{RecoversJust, RecoversEnd}
use Rattle.er_desk.specs.Run.{Session, session_of, no_session, EndsAfterAcknowledged}
use Rattle.er_desk.specs.{Run.{EndsWithDoubt, IsStoredEnd, Runs, acknowledged_commands, last_tried, tried_or}, History.LeadsTo}
use Rattle.er_desk.specs.Asking.{Asks, DeskCall, Submits, join_sessions, later_in_doubt}
use Rattle.er_desk.proofs.Running.{accepts_of, runs_lead, session_goes_on, session_stops, stops_now, keeps_more}
use Rattle.er_desk.proofs.Running.{was_running, fault_tried}
use Rattle.er_desk.proofs.Turns.{waits_of, stops_of, stopped_of, turn_fault, turn_asks, same_keeps, same_call}
use Rattle.er_desk.proofs.Slips.{read_keeps, read_others, still_shows}
use Rattle.er_desk.proofs.Histories.{leads_then}
use Rattle.er_desk.proofs.NextSession.{quiet_end}

-- ---- one command

waited_session : (c : Command) (b : Bool) → session_of (c ∷ []) (Err NeedsReopen ∷ []) b ≡ no_session
waited_session c true = refl
waited_session c false = refl

module _ {S : Type 0} (g : Ghosts S) (old new : Desk S g) (c : Command) where
  stored_now : (r : Reply) → OnOk r (RecoversJust (state g new) (placed_of (desk_state new)))
      → IfErr r (λ _. IsFalse (desk_state new).needs_reopen → new ≡ old)
      → (new ≡ old → RecoversJust (state g new) (placed_of (desk_state old)))
      → IsFalse (desk_state new).needs_reopen → RecoversJust (state g new) (placed_of (desk_state new))
  stored_now (Ok it) done same refused runs = done
  stored_now (Err why) done same refused runs =
      subst (λ (d : Desk S g). RecoversJust (state g new) (placed_of (desk_state d))) (sym (same runs)) (refused (same runs))

  -- a command that was kept is one
  unless_kept : (r : Reply) (P : Type 0) → acknowledged_commands (c ∷ []) (r ∷ []) ≡ [] → OnErr r P → P
  unless_kept (Ok it) P none kept = absurd (cc)
  unless_kept (Err why) P none kept = kept

  module _ (r : Reply) (it : Submits g old c r new) where
    command_idle : IsTrue (desk_state old).needs_reopen → session_of (c ∷ []) (r ∷ []) (desk_state new).needs_reopen ≡ no_session
    command_idle stopped = subst (λ (x : Reply). session_of (c ∷ []) (x ∷ []) (desk_state new).needs_reopen ≡ no_session)
        (sym (it.asks.1 stopped)) (waited_session c (desk_state new).needs_reopen)

    command_crash : HoldsOwnEvent g old
        → RecoversEnd (state g new) (placed_of (desk_state old)) (session_of (c ∷ []) (r ∷ []) (desk_state new).needs_reopen)
    command_crash shows clean trees may = by_start (desk_state old).needs_reopen refl
      where
        by_stop : IsFalse (desk_state old).needs_reopen → (b : Bool) → (desk_state new).needs_reopen ≡ b
            → IsStoredEnd (placed_of (desk_state old)) (session_of (c ∷ []) (r ∷ []) (desk_state new).needs_reopen) trees
        by_stop runs true is = subst (λ (b : Bool). IsStoredEnd (placed_of (desk_state old)) (session_of (c ∷ []) (r ∷ []) b) trees)
            (sym is)
            (session_stops (desk_state old) (desk_state old) (desk_state new) [] [] c r trees refl refl
            (stops_now (desk_state old) (desk_state new) c r runs is it.turn) (it.in_doubt runs shows clean trees may))
        by_stop runs false is = subst (λ (b : Bool). IsStoredEnd (placed_of (desk_state old)) (session_of (c ∷ []) (r ∷ []) b) trees)
            (sym is)
            (session_goes_on (desk_state old) (desk_state new) (c ∷ []) (r ∷ []) trees (desk_state new, it.turn, refl) it.as_call.version
            (stored_now r (it.acknowledged shows) it.same (it.refused shows) is clean trees may))

        by_start : (b : Bool) → (desk_state old).needs_reopen ≡ b
            → IsStoredEnd (placed_of (desk_state old)) (session_of (c ∷ []) (r ∷ []) (desk_state new).needs_reopen) trees
        by_start true is = subst (λ (s : Session). IsStoredEnd (placed_of (desk_state old)) s trees) (sym (command_idle is))
            (quiet_end (placed_of (desk_state old)) trees (it.refused shows (it.as_call.waits is) clean trees may))
        by_start false is = by_stop is (desk_state new).needs_reopen refl

    -- what one command does to the file
    pub submits_ask : Asks g old (session_of (c ∷ []) (r ∷ []) (desk_state new).needs_reopen) new
    submits_ask = record {
      as_call = it.as_call;
      idle = command_idle;
      leads = runs_lead (desk_state old) (desk_state new) (c ∷ []) (r ∷ []) (desk_state new, it.turn, refl);
      sure = λ runs. rw runs refl;
      kept = λ none now shows. unless_kept r (KeepsTables (state g old) (state g new)) none (it.kept now);
      crash = command_crash;
    }

-- ---- two

later_alone : (one two : Option Command) → one ≡ None → later_in_doubt one two ≡ two
later_alone one None is = is
later_alone one (Some later) is = refl

in_doubt : (o : Option Command) (P Q : Command → Type 0) → ((d : Command) → P d → Q d) → MatchOption o ⊥ P → MatchOption o ⊥ Q
in_doubt None P Q more it = absurd it
in_doubt (Some d) P Q more it = more d it

later_none : (two : Option Command) → two ≡ later_in_doubt None two
later_none None = refl
later_none (Some later) = refl

-- from the point that the first session has surely led to
module _ (first mid : Point) (s t : Session) (leads : LeadsTo first s.acknowledged mid) (sure : s.in_doubt ≡ None) where
  joined_kept : (last : Point) → EndsAfterAcknowledged mid t last → EndsAfterAcknowledged first (join_sessions s t) last
  joined_kept last it =
      let all = leads_then first mid last s.acknowledged t.acknowledged leads (record { event = it.event; serial = it.serial }) in
      record {
        event = all.event;
        serial = all.serial;
        taken = subst (λ (o : Option Command). IfSome o (λ (d : Command). (n : EventValue) × Steps last.event d (Ok n)))
            (sym (later_alone s.in_doubt t.in_doubt sure)) it.taken;
      }

  joined_doubt : (last : Point) (doubt : Command) → EndsWithDoubt mid t last doubt → EndsWithDoubt first (join_sessions s t) last doubt
  joined_doubt last doubt it = record { mid = it.mid; kept = joined_kept it.mid it.kept; event = it.event; serial = it.serial }

  pub joined_end : (version : ℕ) (trees : Trees) → IsStoredEnd (placed_at mid version) t trees
      → IsStoredEnd (placed_at first version) (join_sessions s t) trees
  joined_end version trees (last, inl kept, stored) = (last, inl (joined_kept last kept), stored)
  joined_end version trees (last, inr with_doubt, stored) = (
    last,
    inr (subst (λ (o : Option Command). MatchOption o ⊥ (EndsWithDoubt first (join_sessions s t) last))
        (sym (later_alone s.in_doubt t.in_doubt sure))
        (in_doubt t.in_doubt (EndsWithDoubt mid t last) (EndsWithDoubt first (join_sessions s t) last) (joined_doubt last) with_doubt)),
    stored,
  )

joined_none : (s : Session) → join_sessions s no_session ≡ s
joined_none s =
    ap (λ (ks : List Command). let it : Session = record { acknowledged = ks; in_doubt = s.in_doubt } in it) (append-nil s.acknowledged)

none_first : (xs ys : List Command) → xs ++ ys ≡ [] → xs ≡ []
none_first [] ys none = refl
none_first (x ∷ xs) ys none = absurd (cc)

none_then : (xs ys : List Command) → xs ++ ys ≡ [] → ys ≡ []
none_then [] ys none = none
none_then (x ∷ xs) ys none = absurd (cc)

module _ {S : Type 0} (g : Ghosts S) (old mid new : Desk S g) (s t : Session) (one : Asks g old s mid) (two : Asks g mid t new) where
  -- a desk that runs has run before
  ran : IsFalse (desk_state new).needs_reopen → IsFalse (desk_state mid).needs_reopen
  ran runs = by_stop (desk_state mid).needs_reopen refl
    where
      by_stop : (b : Bool) → (desk_state mid).needs_reopen ≡ b → IsFalse (desk_state mid).needs_reopen
      by_stop true is = absurd (true≢false (sym (ap (λ (d : Desk S g). (desk_state d).needs_reopen) (two.as_call.waits is) ∙ is) ∙ runs))
      by_stop false is = is

  still_stopped : IsTrue (desk_state old).needs_reopen → IsTrue (desk_state mid).needs_reopen
  still_stopped stopped = ap (λ (d : Desk S g). (desk_state d).needs_reopen) (one.as_call.waits stopped) ∙ stopped

  both_call : DeskCall g old new
  both_call = record {
    waits = λ stopped. two.as_call.waits (still_stopped stopped) ∙ one.as_call.waits stopped;
    clean = λ clean. one.as_call.clean (two.as_call.clean clean);
    represents = λ clean shows runs.
        two.as_call.represents clean (one.as_call.represents (two.as_call.clean clean) shows (ran runs)) runs;
    others = λ clean shows. keeps_more g old mid new one.as_call.version two.as_call.waits
        (one.as_call.represents (two.as_call.clean clean) shows)
        (one.as_call.others (two.as_call.clean clean) shows) (two.as_call.others clean);
    version = two.as_call.version ∙ one.as_call.version;
  }

  both_idle : IsTrue (desk_state old).needs_reopen → join_sessions s t ≡ no_session
  both_idle stopped = subst (λ (a : Session). join_sessions a t ≡ no_session) (sym (one.idle stopped))
      (subst (λ (b : Session). join_sessions no_session b ≡ no_session) (sym (two.idle (still_stopped stopped))) refl)

  both_crash : HoldsOwnEvent g old → RecoversEnd (state g new) (placed_of (desk_state old)) (join_sessions s t)
  both_crash shows clean trees may = by_stop (desk_state mid).needs_reopen refl
    where
      by_stop : (b : Bool) → (desk_state mid).needs_reopen ≡ b → IsStoredEnd (placed_of (desk_state old)) (join_sessions s t) trees
      by_stop true is = subst (λ (x : Session). IsStoredEnd (placed_of (desk_state old)) x trees)
          (sym (subst (λ (b : Session). join_sessions s b ≡ s) (sym (two.idle is)) (joined_none s)))
          (one.crash shows (two.as_call.clean clean) trees
          (subst (λ (d : Desk S g). (state g d).may_leave trees) (two.as_call.waits is) may))
      by_stop false is =
          joined_end (point_of (desk_state old)) (point_of (desk_state mid)) s t one.leads (one.sure is) (version_in old) trees
          (subst (λ (v : ℕ). IsStoredEnd (placed_at (point_of (desk_state mid)) v) t trees) one.as_call.version
          (two.crash (one.as_call.represents (two.as_call.clean clean) shows is) clean trees may))

  both_kept : (join_sessions s t).acknowledged ≡ [] → HasCleanDisk (state g new) → HoldsOwnEvent g old
      → KeepsTables (state g old) (state g new)
  both_kept none clean shows = by_stop (desk_state mid).needs_reopen refl
    where
      before : KeepsTables (state g old) (state g mid)
      before = one.kept (none_first s.acknowledged t.acknowledged none) (two.as_call.clean clean) shows

      by_stop : (b : Bool) → (desk_state mid).needs_reopen ≡ b → KeepsTables (state g old) (state g new)
      by_stop true is = subst (λ (d : Desk S g). KeepsTables (state g old) (state g d)) (sym (two.as_call.waits is)) before
      by_stop false is = λ settled is_open.
          let here = one.as_call.represents (two.as_call.clean clean) shows is in
          let first = before settled here.is_open in
          let later = two.kept (none_then s.acknowledged t.acknowledged none) clean here here.settled is_open in
          (later.0 ∙ first.0, later.1 ∙ first.0)

  pub asks_joined : Asks g old (join_sessions s t) new
  asks_joined = record {
    as_call = both_call;
    idle = both_idle;
    leads = leads_then (point_of (desk_state old)) (point_of (desk_state mid))
        (point_of (desk_state new)) s.acknowledged t.acknowledged one.leads
        two.leads;
    sure = λ runs. later_alone s.in_doubt t.in_doubt (one.sure (ran runs)) ∙ two.sure runs;
    kept = both_kept;
    crash = both_crash;
  }

-- ---- nothing

-- a desk that only reads
pub reading_asks : {S : Type 0} (g : Ghosts S) (old new : Desk S g) → DeskCall g old new
    → point_of (desk_state new) ≡ point_of (desk_state old) → (HasCleanDisk (state g new) → KeepsTables (state g old) (state g new))
    → (HoldsOwnEvent g old → RecoversJust (state g new) (placed_of (desk_state old)))
    → Asks g old no_session new
reading_asks g old new call same kept crash = record {
  as_call = call;
  idle = λ stopped. refl;
  leads = record { event = ap (λ (p : Point). p.event) same; serial = ap (λ (p : Point). p.serial) same ∙ omega arith };
  sure = λ runs. refl;
  kept = λ none now shows. kept now;
  crash = λ shows clean trees may. quiet_end (placed_of (desk_state old)) trees (crash shows clean trees may);
}

-- a desk that reads nothing of its tables, as one that was just adopted
pub same_asks : {S : Type 0} (g : Ghosts S) (desk : Desk S g)
    → (HoldsOwnEvent g desk → RecoversJust (state g desk) (placed_of (desk_state desk)))
    → Asks g desk no_session desk
same_asks g desk crash = reading_asks g desk desk (same_call g desk) refl (λ clean. same_keeps (state g desk)) crash

-- a desk whose store has read something
module _ {S A : Type 0} (g : Ghosts S) (old new : Desk S g) (Fails : Refusal → Type 0) (read : Result A Refusal) where
  pub read_asks : IsFalse (desk_state old).needs_reopen → point_of (desk_state new) ≡ point_of (desk_state old)
      → version_in new ≡ version_in old
      → MatchResult read (λ _. IsFalse (desk_state new).needs_reopen) Fails → (HasCleanDisk (state g new) → HasCleanDisk (state g old))
      → (HasCleanDisk (state g new) → IsFalse (desk_state new).needs_reopen → IsUnchanged (state g old) (state g new))
      → (HasCleanDisk (state g new) → OnErr read (KeepsTables (state g old) (state g new)))
      → AfterCrash (state g new) (state g old).may_leave
      → (HoldsOwnEvent g old → RecoversJust (state g old) (placed_of (desk_state old))) → Asks g old no_session new
  read_asks runs same version stops clean still kept crash left =
      reading_asks g old new (record {
        waits = λ stopped. absurd (true≢false (sym stopped ∙ runs));
        clean = clean;
        represents = λ now shows runs. subst (λ (p : Point). RepresentsNow (version_in new) (state g new) p.event p.serial) (sym same)
            (still_shows (version_in old) (version_in new) (state g old) (state g new) old.event old.serial version shows (still now runs));
        others = λ now shows is_open. read_others Fails read (desk_state new).needs_reopen (version_in old) (state g old) (state g new)
            shows.settled is_open stops (still now) (kept now);
        version = version;
      }) same (λ now. read_keeps Fails read (desk_state new).needs_reopen (state g old) (state g new) stops (still now) (kept now))
      (λ shows now trees may. left shows (clean now) trees (crash now trees may))

-- a refusal that leaves the desk as it is
module _ {S : Type 0} (g : Ghosts S) (desk : Desk S g) (c : Command) where
  pub refused_submits : (r : Reply) → Outcome (desk_state desk) c r (desk_state desk)
      → (HoldsOwnEvent g desk → RecoversJust (state g desk) (placed_of (desk_state desk))) → Submits g desk c r desk
  refused_submits (Ok it) turn left = absurd (no_more (accepts_of (desk_state desk) (desk_state desk) c it turn).serial_is)
    where
      no_more : desk.serial ≡ desk.serial + 1 → ⊥
      no_more is = omega (arith, is)
  refused_submits (Err why) turn left = record {
    as_call = same_call g desk;
    turn = turn;
    stops = (stops_of _ _ _ _ turn, stopped_of _ _ _ _ turn);
    fault = turn_fault _ _ _ _ turn;
    asks = (turn_asks _ _ _ _ turn, waits_of _ _ _ _ turn);
    same = λ runs. refl;
    kept = λ clean. same_keeps (state g desk);
    acknowledged = λ shows. tt;
    in_doubt = λ runs shows clean trees may. inl (left shows clean trees may);
    refused = λ shows same. left shows;
  }

-- ---- a list of commands

tried_later : (one two : Option Command) (d : Command) (s : Reply)
    → tried_or (later_in_doubt one two) d s ≡ later_in_doubt (tried_or one d s) two
tried_later one None d s = refl
tried_later one (Some later) d s = refl

kept_push : (old mid : DeskState) (cs : List Command) (rs : List Reply) (c : Command) (r : Reply) → Runs old cs rs mid
    → acknowledged_commands (cs ++ c ∷ []) (rs ++ r ∷ []) ≡ acknowledged_commands cs rs ++ acknowledged_commands (c ∷ []) (r ∷ [])
kept_push old mid [] [] c r is = refl
kept_push old mid [] (s ∷ rs) c r is = absurd is
kept_push old mid (d ∷ cs) [] c r is = absurd is
kept_push old mid (d ∷ cs) (Ok it ∷ rs) c r is = ap (λ (xs : List Command). d ∷ xs) (kept_push is.0 mid cs rs c r is.2)
kept_push old mid (d ∷ cs) (Err e ∷ rs) c r is = kept_push is.0 mid cs rs c r is.2

tried_last : (old mid : DeskState) (cs : List Command) (rs : List Reply) (c : Command) (r : Reply) → Runs old cs rs mid
    → last_tried (cs ++ c ∷ []) (rs ++ r ∷ []) ≡ later_in_doubt (last_tried cs rs) (tried_or None c r)
tried_last old mid [] [] c r is = later_none (tried_or None c r)
tried_last old mid [] (s ∷ rs) c r is = absurd is
tried_last old mid (d ∷ cs) [] c r is = absurd is
tried_last old mid (d ∷ cs) (s ∷ rs) c r is =
    ap (λ (o : Option Command). tried_or o d s) (tried_last is.0 mid cs rs c r is.2) ∙ tried_later (last_tried cs rs) (tried_or None c r)
    d s

-- The session of a list and of one command more. A desk that was stopped tries no more of it, and one that runs has
-- nothing in doubt.
pub session_push : (old mid new : DeskState) (cs : List Command) (rs : List Reply) (c : Command) (r : Reply) → Runs old cs rs mid
    → Outcome mid c r new
    → join_sessions (session_of cs rs mid.needs_reopen) (session_of (c ∷ []) (r ∷ []) new.needs_reopen)
    ≡ session_of (cs ++ c ∷ []) (rs ++ r ∷ []) new.needs_reopen
session_push old mid new cs rs c r runs turn =
    ap₂ (λ (ks : List Command) (o : Option Command). let it : Session = record { acknowledged = ks; in_doubt = o } in it)
    (sym (kept_push old mid cs rs c r runs)) (by_stops mid.needs_reopen new.needs_reopen refl refl)
  where
    by_stops : (b d : Bool) → mid.needs_reopen ≡ b → new.needs_reopen ≡ d
        → later_in_doubt (if b then last_tried cs rs else None) (if d then tried_or None c r else None)
        ≡ (if d then last_tried (cs ++ c ∷ []) (rs ++ r ∷ []) else None)
    by_stops true true was is = sym (tried_last old mid cs rs c r runs)
    by_stops false false was is = refl
    by_stops true false was is = absurd (true≢false (sym was ∙ was_running mid new c r is turn))
    by_stops false true was is =
        let it = stops_now mid new c r was is turn in
        let tried : tried_or None c r ≡ Some c =
        subst (λ (x : Reply). tried_or None c x ≡ Some c) (sym it.answered) (fault_tried c it.why it.fault) in
        ap (λ (o : Option Command). later_in_doubt None o) tried
        ∙ sym (tried_last old mid cs rs c r runs ∙ ap (λ (o : Option Command). later_in_doubt (last_tried cs rs) o) tried)

pub empty_asks : {S : Type 0} (g : Ghosts S) (desk : Desk S g)
    → (HoldsOwnEvent g desk → RecoversJust (state g desk) (placed_of (desk_state desk)))
    → Asks g desk (session_of [] [] (desk_state desk).needs_reopen) desk
empty_asks g desk crash = subst (λ (s : Session). Asks g desk s desk) (sym (empty (desk_state desk).needs_reopen)) (same_asks g desk crash)
  where
    empty : (b : Bool) → session_of [] [] b ≡ no_session
    empty true = refl
    empty false = refl
