-- A run of commands, and where a crash leaves it.
use Rattle.std.proofs.{lemmas.Grind.common_steps, Common.{◌≡◌, ℕ, inl, inr, ◌+◌, Bool, true, false, IsTrue, IsFalse, List, [], ◌∷◌, ◌++◌}}
use Rattle.std.proofs.Common.{Option, Some, None, Ok, Err, IfSome, MatchOption, refl, sym, ap, subst, ◌∙◌, arith, true≢false}
use Rattle.sqlite_trees.specs.declared.store.Store.{Ghosts}
use Rattle.sqlite.specs.{Tree.Trees}
use Rattle.er_event.specs.{declared.commands.Command.Command, declared.commands.Receipt.Receipt, declared.refusals.Refusal.Refusal}
use Rattle.er_event.specs.{declared.refusals.Refusal.TheVariants.NeedsReopen, Event.EventValue}
use Rattle.er_rules.specs.Step.{Steps, Answers}
use Rattle.er_store.specs.{Fault.IsFault, Representing.{Either, KeepsOthers}}
use Rattle.er_desk.specs.{Reply.Reply}
use Rattle.er_desk.specs.Desk.{Point, Placed, DeskState, Accepts, Stops, Outcome, HoldsOwnEvent, IsStoredAt, IsStoredAfter, point_of}
use Rattle.er_desk.specs.Desk.{placed_at, placed_of, state}
use Rattle.er_desk.specs.Desk.{desk_state, version_in}
use Rattle.er_desk.specs.{declared.desk.Desk.Desk, Run.{Runs, acknowledged_commands, tried_or}}
use Rattle.er_desk.specs.{Run.{last_tried, Session, session_of, EndsAfterAcknowledged, EndsWithDoubt, IsStoredEnd}, History.LeadsTo}
use Rattle.er_desk.proofs.Turns.{stops_of, keeps_then}

-- ---- one turn

no_receipt : (receipt : Receipt) (why : Refusal) → ◌≡◌ {A = Reply} (Ok receipt) (Err why) → ⊥
no_receipt receipt why is = cc

-- what is taken is the step's
pub steps_of : (event next : EventValue) (command : Command) → Answers event command (Ok next) → Steps event command (Ok next)
steps_of event next command h1 = grind (arith, common_steps)

pub accepts_of : (old new : DeskState) (command : Command) (receipt : Receipt) → Outcome old command (Ok receipt) new
    → Accepts old command (Ok receipt) new
accepts_of old new command receipt h1 = grind (arith, common_steps)

pub stops_now : (old new : DeskState) (command : Command) (reply : Reply) → IsFalse old.needs_reopen → IsTrue new.needs_reopen
    → Outcome old command reply new → Stops old command reply new
stops_now old new command reply runs stopped turn =
    elim (stops_of old new command reply turn stopped) [ inl was ↦ absurd (true≢false (sym was ∙ runs)) | inr stops ↦ stops ]

-- ---- many

pub runs_push : (old mid new : DeskState) (cs : List Command) (rs : List Reply) (c : Command) (r : Reply) → Runs old cs rs mid
    → Outcome mid c r new → Runs old (cs ++ c ∷ []) (rs ++ r ∷ []) new
runs_push old mid new [] [] c r is turn = (new, subst (λ (s : DeskState). Outcome s c r new) is turn, refl)
runs_push old mid new [] (s ∷ rs) c r is turn = absurd is
runs_push old mid new (d ∷ cs) [] c r is turn = absurd is
runs_push old mid new (d ∷ cs) (s ∷ rs) c r is turn = (is.0, is.1, runs_push is.0 mid new cs rs c r is.2 turn)

-- the acknowledged commands lead to the desk's state
pub runs_lead : (old new : DeskState) (cs : List Command) (rs : List Reply) → Runs old cs rs new
    → LeadsTo (point_of old) (acknowledged_commands cs rs) (point_of new)
runs_lead old new [] [] is = grind (arith, common_steps)
runs_lead old new [] (r ∷ rs) is = absurd is
runs_lead old new (c ∷ cs) [] is = absurd is
runs_lead old new (c ∷ cs) (Ok r ∷ rs) (mid, turn, rest) =
    let it = accepts_of old mid c r turn in
    let more = runs_lead mid new cs rs rest in
    let one = it.serial_is in
    let others = more.serial in
    record { event = (mid.event, steps_of old.event mid.event c it.taken, more.event); serial = omega arith }
runs_lead old new (c ∷ cs) (Err why ∷ rs) (mid, turn, rest) = grind (arith, common_steps, runs_lead mid new cs rs rest)

refused_push : (old mid : DeskState) (cs : List Command) (rs : List Reply) (c : Command) (why : Refusal) → Runs old cs rs mid
    → acknowledged_commands (cs ++ c ∷ []) (rs ++ Err why ∷ []) ≡ acknowledged_commands cs rs
refused_push old mid [] [] c why is = refl
refused_push old mid [] (s ∷ rs) c why is = absurd is
refused_push old mid (d ∷ cs) [] c why is = absurd is
refused_push old mid (d ∷ cs) (Ok r ∷ rs) c why is = ap (λ (xs : List Command). d ∷ xs) (refused_push is.0 mid cs rs c why is.2)
refused_push old mid (d ∷ cs) (Err e ∷ rs) c why is = refused_push is.0 mid cs rs c why is.2

waited_push : (old mid : DeskState) (cs : List Command) (rs : List Reply) (c : Command) → Runs old cs rs mid
    → last_tried (cs ++ c ∷ []) (rs ++ Err NeedsReopen ∷ []) ≡ last_tried cs rs
waited_push old mid [] [] c is = refl
waited_push old mid [] (s ∷ rs) c is = absurd is
waited_push old mid (d ∷ cs) [] c is = absurd is
waited_push old mid (d ∷ cs) (s ∷ rs) c is = ap (λ (o : Option Command). tried_or o d s) (waited_push is.0 mid cs rs c is.2)

tried_push : (old mid : DeskState) (cs : List Command) (rs : List Reply) (c : Command) (r : Reply) → tried_or None c r ≡ Some c
    → Runs old cs rs mid → last_tried (cs ++ c ∷ []) (rs ++ r ∷ []) ≡ Some c
tried_push old mid [] [] c r tried is = tried
tried_push old mid [] (s ∷ rs) c r tried is = absurd is
tried_push old mid (d ∷ cs) [] c r tried is = absurd is
tried_push old mid (d ∷ cs) (s ∷ rs) c r tried is = ap (λ (o : Option Command). tried_or o d s) (tried_push is.0 mid cs rs c r tried is.2)

pub fault_tried : (c : Command) (why : Refusal) → IsFault why → tried_or None c (Err why) ≡ Some c
fault_tried c why h1 = grind (arith, common_steps)

-- ---- sessions

-- a command that finds the desk stopped changes nothing of the session
pub session_waits : (old mid : DeskState) (cs : List Command) (rs : List Reply) (c : Command) (r : Reply) → r ≡ Err NeedsReopen
    → Runs old cs rs mid → session_of (cs ++ c ∷ []) (rs ++ r ∷ []) true ≡ session_of cs rs true
session_waits old mid cs rs c r answer is = grind (arith, common_steps, refused_push, waited_push)

-- if the doubt is a command that the step takes, the session may end before or after it
ends_either : (first : Placed) (mid : DeskState) (s : Session) (c : Command) (next : EventValue) (trees : Trees)
    → LeadsTo first.point s.acknowledged (point_of mid) → s.in_doubt ≡ Some c → Steps mid.event c (Ok next)
    → Either (IsStoredAt (placed_at (point_of mid) first.version)) (IsStoredAfter (placed_at (point_of mid) first.version) c) trees
    → IsStoredEnd first s trees
ends_either first mid s c next trees leads doubt steps left =
    let taken : IfSome s.in_doubt (λ (d : Command). (n : EventValue) × Steps mid.event d (Ok n)) =
    subst (λ (o : Option Command). IfSome o (λ (d : Command). (n : EventValue) × Steps mid.event d (Ok n))) (sym doubt) (next, steps) in
    let kept : EndsAfterAcknowledged first.point s (point_of mid) = record { event = leads.event; serial = leads.serial; taken = taken } in
    elim left [
      | inl before ↦ (point_of mid, inl kept, before)
      | inr (n, answers, after) ↦
          let last : Point = record { event = n; serial = mid.serial + 1 } in
          let ends : EndsWithDoubt first.point s last c =
          record { mid = point_of mid; kept = kept; event = steps_of mid.event n c answers; serial = refl } in
          (last, inr (subst (λ (o : Option Command). MatchOption o ⊥ (EndsWithDoubt first.point s last)) (sym doubt) ends), after)
    ]

-- the store has failed in this command
pub session_stops : (old mid new : DeskState) (cs : List Command) (rs : List Reply) (c : Command) (r : Reply) (trees : Trees)
    → Runs old cs rs mid → mid.version ≡ old.version → Stops mid c r new
    → Either (IsStoredAt (placed_of mid)) (IsStoredAfter (placed_of mid) c) trees
    → IsStoredEnd (placed_of old) (session_of (cs ++ c ∷ []) (rs ++ r ∷ []) true) trees
session_stops old mid new cs rs c r trees is same it left =
    subst (λ (x : Reply). IsStoredEnd (placed_of old) (session_of (cs ++ c ∷ []) (rs ++ x ∷ []) true) trees) (sym it.answered)
    (ends_either (placed_of old) mid (session_of (cs ++ c ∷ []) (rs ++ Err it.why ∷ []) true) c it.next trees
    (subst (λ (ks : List Command). LeadsTo (point_of old) ks (point_of mid)) (sym (refused_push old mid cs rs c it.why is))
    (runs_lead old mid cs rs is))
    (tried_push old mid cs rs c (Err it.why) (fault_tried c it.why it.fault) is) (steps_of mid.event it.next c it.taken)
    (subst (λ (v : ℕ). Either (IsStoredAt (placed_at (point_of mid) v)) (IsStoredAfter (placed_at (point_of mid) v) c) trees) same left))

-- it has not failed
pub session_goes_on : (old new : DeskState) (cs : List Command) (rs : List Reply) (trees : Trees) → Runs old cs rs new
    → new.version ≡ old.version → IsStoredAt (placed_of new) trees → IsStoredEnd (placed_of old) (session_of cs rs false) trees
session_goes_on old new cs rs trees is same stored =
    let leads = runs_lead old new cs rs is in (
      point_of new,
      inl (record { event = leads.event; serial = leads.serial; taken = tt }),
      subst (λ (v : ℕ). IsStoredAt (placed_at (point_of new) v) trees) same stored,
    )

pub was_running : (old new : DeskState) (command : Command) (reply : Reply) → IsFalse new.needs_reopen → Outcome old command reply new
    → IsFalse old.needs_reopen
was_running old new command reply runs h1 = grind (arith, common_steps)

-- ---- desks

-- other tables stay from one command to the next, even if the desk has stopped
module _ {S : Type 0} (g : Ghosts S) (first old new : Desk S g) where
  pub keeps_more : version_in old ≡ version_in first → (IsTrue (desk_state old).needs_reopen → new ≡ old)
      → (IsFalse (desk_state old).needs_reopen → HoldsOwnEvent g old)
      → (IsTrue (state g old).is_open → KeepsOthers (version_in first) (state g first).now (state g old).now)
      → (HoldsOwnEvent g old → IsTrue (state g new).is_open → KeepsOthers (version_in old) (state g old).now (state g new).now)
      → IsTrue (state g new).is_open → KeepsOthers (version_in first) (state g first).now (state g new).now
  keeps_more version waits represents before more is_open = by_stop (desk_state old).needs_reopen refl
    where
      by_stop : (b : Bool) → (desk_state old).needs_reopen ≡ b → KeepsOthers (version_in first) (state g first).now (state g new).now
      by_stop true is = subst (λ (d : Desk S g). KeepsOthers (version_in first) (state g first).now (state g d).now) (sym (waits is))
          (before (subst (λ (d : Desk S g). IsTrue (state g d).is_open) (waits is) is_open))
      by_stop false is =
          let shows = represents is in
          keeps_then (version_in first) (state g first).now (state g old).now (state g new).now (before shows.is_open)
          (subst (λ v. KeepsOthers v (state g old).now (state g new).now) version (more shows is_open))
