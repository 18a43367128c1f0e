-- A run in plain words.
use Rattle.std.proofs.{lemmas.Grind.common_steps, Common.{◌≡◌, ◌⊎◌, inl, inr, ℕ, zero, suc, ◌+◌, ◌<◌, IsTrue, List, [], ◌∷◌, length, take}}
use Rattle.std.proofs.{Common.{Some, Err, refl, sym, ap, subst, ◌∙◌, arith}, lemmas.Option.{none-some, same_Some}}
use Rattle.std.specs.List.{slice_get}
use Rattle.er_event.specs.{declared.commands.Command.Command, declared.refusals.Cause.Cause, declared.refusals.Refusal.TheVariants.Store}
use Rattle.er_event.specs.{declared.refusals.Refusal.TheVariants.NeedsReopen, Event.EventValue}
use Rattle.er_rules.specs.Fold.{Folds}
use Rattle.er_desk.specs.{Reply.{Reply, IsLawfulReply}, Desk.{DeskState, Stops, Outcome}, Run.{Runs, acknowledged_commands, FailsAt, IsRun}}
use Rattle.er_desk.proofs.{Turns.{turn_fault, waits_of, stops_of, stopped_of}, Running.runs_lead}

-- once stopped, it stays so
runs_stopped : (old new : DeskState) (cs : List Command) (rs : List Reply) → Runs old cs rs new → IsTrue old.needs_reopen
    → IsTrue new.needs_reopen
runs_stopped old new [] [] is was = ap (λ (s : DeskState). s.needs_reopen) is ∙ was
runs_stopped old new [] (r ∷ rs) is was = absurd is
runs_stopped old new (c ∷ cs) [] is was = absurd is
runs_stopped old new (c ∷ cs) (r ∷ rs) (mid, turn, rest) was = runs_stopped mid new cs rs rest (stopped_of old mid c r turn (inl was))

-- each reply is lawful, or the desk is stopped
pub turn_lawful : (old new : DeskState) (c : Command) (r : Reply) → Outcome old c r new
    → IsLawfulReply old.version old.event old.serial c r ⊎ ((r ≡ Err NeedsReopen) × IsTrue old.needs_reopen)
turn_lawful old new c r h1 = grind (arith, common_steps)

-- the version stays
turn_version : (old new : DeskState) (c : Command) (r : Reply) → Outcome old c r new → new.version ≡ old.version
turn_version old new c r (inl it) = it.version_is
turn_version old new c r (inr (inl it)) = ap (λ (s : DeskState). s.version) it.same
turn_version old new c r (inr (inr (inl it))) = ap (λ (s : DeskState). s.version) it.needs_reopen
turn_version old new c r (inr (inr (inr it))) = ap (λ (s : DeskState). s.version) it.same

runs_version : (old new : DeskState) (cs : List Command) (rs : List Reply) → Runs old cs rs new → new.version ≡ old.version
runs_version old new [] [] is = ap (λ (s : DeskState). s.version) is
runs_version old new [] (r ∷ rs) is = absurd is
runs_version old new (c ∷ cs) [] is = absurd is
runs_version old new (c ∷ cs) (r ∷ rs) (mid, turn, rest) = runs_version mid new cs rs rest ∙ turn_version old mid c r turn

-- at each place
abbrev At : DeskState → List Command → List Reply → DeskState → ℕ → Command → Reply → Type 0
At old cs rs new k c r =
    (mid : EventValue) × Folds old.event (acknowledged_commands (take k cs) (take k rs)) mid
    × (IsLawfulReply old.version mid (old.serial + length (acknowledged_commands (take k cs) (take k rs))) c r
    ⊎ ((r ≡ Err NeedsReopen) × IsTrue new.needs_reopen))

-- the runs before and after a place
split : (old new : DeskState) (cs : List Command) (rs : List Reply) (k : ℕ) (c : Command) (r : Reply) → Runs old cs rs new
    → slice_get cs k ≡ Some c → slice_get rs k ≡ Some r
    → (mid : DeskState) × (next : DeskState) × Runs old (take k cs) (take k rs) mid × Outcome mid c r next
    × (IsTrue next.needs_reopen → IsTrue new.needs_reopen)
split old new [] rs k c r is at there = absurd (none-some c at)
split old new (x ∷ cs) [] k c r is at there = absurd (none-some r there)
split old new (x ∷ cs) (y ∷ rs) zero c r (mid, turn, rest) at there = grind (arith, common_steps, runs_stopped, same_Some)
split old new (x ∷ cs) (y ∷ rs) (suc k) c r (mid, turn, rest) at there =
    let more = split mid new cs rs k c r rest at there in
    (more.0, more.1, (mid, turn, more.2), more.3, more.4)

-- a stopped desk answers each command alike
all_wait : (old new : DeskState) (cs : List Command) (rs : List Reply) → Runs old cs rs new → IsTrue old.needs_reopen → (k : ℕ) (r : Reply)
    → slice_get rs k ≡ Some r → r ≡ Err NeedsReopen
all_wait old new cs [] is was k r at = absurd (none-some r at)
all_wait old new [] (y ∷ rs) is was k r at = absurd is
all_wait old new (c ∷ cs) (y ∷ rs) (mid, turn, rest) was zero r at = sym (same_Some y r at) ∙ waits_of old mid c y turn was
all_wait old new (c ∷ cs) (y ∷ rs) (mid, turn, rest) was (suc k) r at =
    all_wait mid new cs rs rest (stopped_of old mid c y turn (inl was)) k r at

-- a desk stops after a fault of the store
runs_stopped_by : (old new : DeskState) (cs : List Command) (rs : List Reply) → Runs old cs rs new → IsTrue new.needs_reopen
    → IsTrue old.needs_reopen ⊎ ((k : ℕ) × FailsAt rs k)
runs_stopped_by old new [] [] is stopped = inl (sym (ap (λ (s : DeskState). s.needs_reopen) is) ∙ stopped)
runs_stopped_by old new [] (r ∷ rs) is stopped = absurd is
runs_stopped_by old new (c ∷ cs) [] is stopped = absurd is
runs_stopped_by old new (c ∷ cs) (r ∷ rs) (mid, turn, rest) stopped = elim (runs_stopped_by mid new cs rs rest stopped) [
  | inl before ↦ by_turn before (stops_of old mid c r turn before)
  | inr (k, ((why, fault, at), later)) ↦ inr (suc k, ((why, fault, at), after k later))
]
  where
    after : (k : ℕ) → ((later : ℕ) (reply : Reply) → k < later → slice_get rs later ≡ Some reply → reply ≡ Err NeedsReopen)
        → (later : ℕ) (reply : Reply) → suc k < later → slice_get (r ∷ rs) later ≡ Some reply → reply ≡ Err NeedsReopen
    after k all zero reply low at = absurd (omega (arith, low))
    after k all (suc later) reply low at = all later reply (omega (arith, low)) at

    first : IsTrue mid.needs_reopen → (later : ℕ) (reply : Reply) → 0 < later → slice_get (r ∷ rs) later ≡ Some reply
        → reply ≡ Err NeedsReopen
    first was zero reply low at = absurd (omega (arith, low))
    first was (suc later) reply low at = all_wait mid new cs rs rest was later reply at

    by_turn : IsTrue mid.needs_reopen → IsTrue old.needs_reopen ⊎ Stops old c r mid → IsTrue old.needs_reopen
        ⊎ ((k : ℕ) × FailsAt (r ∷ rs) k)
    by_turn was (inl before) = inl before
    by_turn was (inr stops) = inr (0, ((stops.why, stops.fault, ap (λ (x : Reply). Some x) stops.answered), first was))

-- and each fault stops it
runs_fault : (old new : DeskState) (cs : List Command) (rs : List Reply) → Runs old cs rs new → (k : ℕ) (cause : Cause)
    → slice_get rs k ≡ Some (Err (Store cause)) → IsTrue new.needs_reopen
runs_fault old new cs [] is k cause at = absurd (none-some _ at)
runs_fault old new [] (r ∷ rs) is k cause at = absurd is
runs_fault old new (c ∷ cs) (r ∷ rs) (mid, turn, rest) zero cause at = grind (arith, common_steps, runs_stopped, same_Some, turn_fault)
runs_fault old new (c ∷ cs) (r ∷ rs) (mid, turn, rest) (suc k) cause at = runs_fault mid new cs rs rest k cause at

pub runs_plain : (old new : DeskState) (cs : List Command) (rs : List Reply) → Runs old cs rs new → IsRun old cs rs new
runs_plain old new cs rs is =
    let leads = runs_lead old new cs rs is in
    record {
      all = same_count old new cs rs is;
      each = λ k c r at there. place k c r at there;
      event_is = leads.event;
      serial_is = leads.serial;
      version_is = runs_version old new cs rs is;
      stopped_by = runs_stopped_by old new cs rs is;
      needed_reopen = λ was. (runs_stopped old new cs rs is was, all_wait old new cs rs is was);
      stops = runs_fault old new cs rs is;
    }
  where
    same_count : (old new : DeskState) (cs : List Command) (rs : List Reply) → Runs old cs rs new → length rs ≡ length cs
    same_count old new [] [] is = refl
    same_count old new [] (r ∷ rs) is = absurd is
    same_count old new (c ∷ cs) [] is = absurd is
    same_count old new (c ∷ cs) (r ∷ rs) (mid, turn, rest) = ap (λ (n : ℕ). suc n) (same_count mid new cs rs rest)

    place : (k : ℕ) (c : Command) (r : Reply) → slice_get cs k ≡ Some c → slice_get rs k ≡ Some r → At old cs rs new k c r
    place k c r at there =
        let parts = split old new cs rs k c r is at there in
        let mid = parts.0 in
        let before = runs_lead old mid (take k cs) (take k rs) parts.2 in (
          mid.event,
          before.event,
          elim (turn_lawful mid parts.1 c r parts.3) [
            | inl lawful ↦ inl
                (subst (λ (v : ℕ). IsLawfulReply v mid.event (old.serial + length (acknowledged_commands (take k cs) (take k rs))) c r)
                (runs_version old mid (take k cs) (take k rs) parts.2)
                (subst (λ (n : ℕ). IsLawfulReply mid.version mid.event n c r) before.serial lawful))
            | inr waits ↦ inr (waits.0, parts.4 (stopped_of mid parts.1 c r parts.3 (inl waits.1)))
          ],
        )
