-- What a command does to a desk.
use Rattle.std.proofs.Common.{◌≡◌, ◌⊎◌, inl, inr, ℕ, ◌+◌, ◌<◌, eqb, Bool, cond, true, false, List, [], ◌∷◌}
use Rattle.std.proofs.Common.{Result, Ok, Err, IfOk, IfErr, IsErrAnd, IsTrue, IsFalse, refl, sym, ap, subst, ◌∙◌, arith, true≢false}
use Rattle.std.proofs.lemmas.Bool.Decides.{nat_tests}
use Rattle.std.specs.List.{AllByRecursion}
use Rattle.sqlite_trees.specs.declared.store.Store.{Ghosts}
use Rattle.sqlite.specs.{Table.Table, Tree.Trees, Effect.Database, State.{State, IsUnchanged}}
use Rattle.er_event.specs.declared.changes.Change.{Change}
use Rattle.er_event.specs.{declared.refusals.Cause.Cause, declared.commands.Command.Command, declared.commands.Receipt.Receipt}
use Rattle.er_event.specs.{declared.refusals.Refusal.Refusal}
use Rattle.er_event.specs.{declared.refusals.Refusal.TheVariants.{Memory, Budget, SerialFull, BadSetup, Store}}
use Rattle.er_event.specs.{declared.refusals.Refusal.TheVariants.NeedsReopen, Event.EventValue}
use Rattle.er_rules.specs.{Late.is_late, Refusing.IsOfRules, Step.{Answers, NeedsMoreSteps}}
use Rattle.er_store.specs.{Fault.IsFault, Reading.KeepsTables, Representing.{IsOther, HasTablesAt, KeepsOthers}, Layout.Layout}
use Rattle.er_store.specs.Representing.{RepresentsNow, AfterCrash, Either, AreTreesOf, IsStoredIn, IsStoredAmong}
use Rattle.er_desk.specs.{Reply.{Reply, reply_to, receipt, IsDue}}
use Rattle.er_desk.specs.{Desk.{DeskState, Outcome, Stops, HoldsOwnEvent, IsOwn, placed_of, state, desk_state}}
use Rattle.er_desk.specs.{Asking.DeskCall, Headline.RecoversJust, inside.Taking.TakesChange, declared.desk.Desk.Desk}

-- ---- replies

module _ (version : ℕ) (event : EventValue) (serial : ℕ) (command : Command) (next : EventValue) where
  pub reply-full : serial ≡ 999999 → Err SerialFull ≡ reply_to version event serial command (Ok next)
  reply-full full = let last : eqb serial 999999 ≡ true = grind (arith, nat_tests) in rw last refl

  pub reply-late : serial < 999999 → IsTrue (is_late version event command) → Err BadSetup ≡ reply_to version event serial command (Ok next)
  reply-late low late = let other : eqb serial 999999 ≡ false = grind (arith, nat_tests) in rw (other, late) refl

  pub reply-low : serial < 999999 → IsFalse (is_late version event command)
      → Ok (receipt (serial + 1)) ≡ reply_to version event serial command (Ok next)
  reply-low low in_time = let other : eqb serial 999999 ≡ false = grind (arith, nat_tests) in rw (other, in_time) refl

module _ (old : DeskState) (runs : IsFalse old.needs_reopen) (command : Command) where
  declines : (why : Refusal) → (why ≡ Memory) ⊎ IsDue old.version old.event old.serial command (Err why) → IsOwn why
      → Outcome old command (Err why) old
  declines why cause own = inr (inl (record { was_running = runs; same = refl; why = why; answered = refl; cause = cause; own = own }))

  -- the step refuses it, or memory ran out
  pub declined : (result : Reply) (why : Refusal) → IsErrAnd result (λ e. e ≡ why) → (why ≡ Memory) ⊎ Answers old.event command (Err why)
      → (why ≡ Memory) ⊎ IsOfRules why → Outcome old command result old
  declined (Ok r) why is cause named = absurd is
  declined (Err e) why is cause named = subst (λ (w : Refusal). Outcome old command (Err w) old) (sym is)
      (declines why (due cause) (own named))
    where
      due : (why ≡ Memory) ⊎ Answers old.event command (Err why)
          → (why ≡ Memory) ⊎ IsDue old.version old.event old.serial command (Err why)
      due (inl memory) = inl memory
      due (inr refuses) = inr (Err why, refuses, refl)

      own : (why ≡ Memory) ⊎ IsOfRules why → IsOwn why
      own (inl memory) = inl memory
      own (inr rules) = inr (inr (inr rules))

  -- all serials are given
  pub full : (next : EventValue) → Answers old.event command (Ok next) → old.serial ≡ 999999 → Outcome old command (Err SerialFull) old
  full next taken last =
      declines SerialFull (inr (Ok next, taken, reply-full old.version old.event old.serial command next last)) (inr (inl refl))

  -- the tables have no place for who comes late
  pub too_late : (next : EventValue) → Answers old.event command (Ok next) → old.serial < 999999
      → IsTrue (is_late old.version old.event command) → Outcome old command (Err BadSetup) old
  too_late next taken room late =
      declines BadSetup (inr (Ok next, taken, reply-late old.version old.event old.serial command next room late)) (inr (inr (inl refl)))

  -- it is written, or not
  pub written : (new : DeskState) (result : Reply) (next : EventValue) (Same : Type 0) → (Same → new ≡ old)
      → Answers old.event command (Ok next) → old.serial < 999999 → IsFalse (is_late old.version old.event command)
      → IfOk result (λ r. (new ≡ record old { event = next; serial = old.serial + 1 }) × (r.serial ≡ old.serial + 1))
      → IfErr result (λ why. (Same × (why ≡ Memory)) ⊎ ((new ≡ record old { needs_reopen = true }) × IsFault why))
      → Outcome old command result new
  written new (Ok r) next Same same taken room in_time (is, numbered) refused =
      let serial = ap (λ (s : DeskState). s.serial) is in inl (record {
        was_running = runs;
        taken = subst (λ (e : EventValue). Answers old.event command (Ok e)) (sym (ap (λ (s : DeskState). s.event) is)) taken;
        room = room;
        in_time = in_time;
        serial_is = serial;
        version_is = ap (λ (s : DeskState). s.version) is;
        runs = ap (λ (s : DeskState). s.needs_reopen) is ∙ runs;
        answered = ap (λ (n : ℕ). Ok (receipt n)) (numbered ∙ sym serial);
      })
  written new (Err e) next Same same taken room in_time done (inl own) =
      inr (inl (record { was_running = runs; same = same own.0; why = e; answered = refl; cause = inl own.1; own = inl own.1 }))
  written new (Err e) next Same same taken room in_time done (inr stops) = inr (inr (inl (record {
    was_running = runs;
    next = next;
    taken = taken;
    room = room;
    in_time = in_time;
    needs_reopen = stops.0;
    why = e;
    fault = stops.1;
    answered = refl;
  })))

pub desk_state_same : (a b : EventValue) (n v w : ℕ) (s t : Bool) → a ≡ b → v ≡ w → s ≡ t
    → (let it : DeskState = record { event = a; serial = n; version = v; needs_reopen = s } in it)
    ≡ record { event = b; serial = n; version = w; needs_reopen = t }
desk_state_same a b n v w s t events versions stops = cc

-- ---- what a turn tells

same_refusal : {A : Type 0} (why w : Refusal) → ◌≡◌ {A = Result A Refusal} (Err why) (Err w) → why ≡ w
same_refusal why w is = cc

no_receipt : (it : Receipt) (why : Refusal) → ◌≡◌ {A = Reply} (Ok it) (Err why) → ⊥
no_receipt it why is = cc

-- what the desk refuses by itself speaks neither of the store nor of reopening
own_store : (cause : Cause) → IsOwn (Store cause) → ⊥
own_store cause (inl memory) = cc
own_store cause (inr (inl full)) = cc
own_store cause (inr (inr (inl late))) = cc
own_store cause (inr (inr (inr rules))) = rules

own_reopen : IsOwn NeedsReopen → ⊥
own_reopen (inl memory) = cc
own_reopen (inr (inl full)) = cc
own_reopen (inr (inr (inl late))) = cc
own_reopen (inr (inr (inr rules))) = rules

-- nor does a fault of the store speak of reopening
fault_reopen : IsFault NeedsReopen → ⊥
fault_reopen (inl memory) = cc
fault_reopen (inr refused) = cc

module _ (old new : DeskState) (command : Command) (result : Reply) where
  -- a fault of the store stops the desk
  pub turn_fault : Outcome old command result new → (cause : Cause) → result ≡ Err (Store cause) → IsTrue new.needs_reopen
  turn_fault (inl it) cause is = absurd (no_receipt _ _ (sym it.answered ∙ is))
  turn_fault (inr (inl it)) cause is = absurd (own_store cause (subst IsOwn (same_refusal _ _ (sym it.answered ∙ is)) it.own))
  turn_fault (inr (inr (inl it))) cause is = ap (λ (s : DeskState). s.needs_reopen) it.needs_reopen
  turn_fault (inr (inr (inr it))) cause is = ap (λ (s : DeskState). s.needs_reopen) it.same ∙ it.needed_reopen

  -- and only a stopped desk asks for reopening
  pub turn_asks : Outcome old command result new → result ≡ Err NeedsReopen → IsTrue old.needs_reopen
  turn_asks (inl it) is = absurd (no_receipt _ _ (sym it.answered ∙ is))
  turn_asks (inr (inl it)) is = absurd (own_reopen (subst IsOwn (same_refusal _ _ (sym it.answered ∙ is)) it.own))
  turn_asks (inr (inr (inl it))) is = absurd (fault_reopen (subst IsFault (same_refusal _ _ (sym it.answered ∙ is)) it.fault))
  turn_asks (inr (inr (inr it))) is = it.needed_reopen

  pub waits_of : Outcome old command result new → IsTrue old.needs_reopen → result ≡ Err NeedsReopen
  waits_of (inl it) stopped = absurd (true≢false (sym stopped ∙ it.was_running))
  waits_of (inr (inl it)) stopped = absurd (true≢false (sym stopped ∙ it.was_running))
  waits_of (inr (inr (inl it))) stopped = absurd (true≢false (sym stopped ∙ it.was_running))
  waits_of (inr (inr (inr it))) stopped = it.answered

  pub stops_of : Outcome old command result new → IsTrue new.needs_reopen → IsTrue old.needs_reopen ⊎ Stops old command result new
  stops_of (inl it) stopped = absurd (true≢false (sym stopped ∙ it.runs))
  stops_of (inr (inl it)) stopped = inl (sym (ap (λ (s : DeskState). s.needs_reopen) it.same) ∙ stopped)
  stops_of (inr (inr (inl it))) stopped = inr it
  stops_of (inr (inr (inr it))) stopped = inl it.needed_reopen

  pub stopped_of : Outcome old command result new → IsTrue old.needs_reopen ⊎ Stops old command result new → IsTrue new.needs_reopen
  stopped_of turn (inr stops) = ap (λ (s : DeskState). s.needs_reopen) stops.needs_reopen
  stopped_of (inl it) (inl was) = absurd (true≢false (sym was ∙ it.was_running))
  stopped_of (inr (inl it)) (inl was) = ap (λ (s : DeskState). s.needs_reopen) it.same ∙ was
  stopped_of (inr (inr (inl it))) (inl was) = ap (λ (s : DeskState). s.needs_reopen) it.needs_reopen
  stopped_of (inr (inr (inr it))) (inl was) = ap (λ (s : DeskState). s.needs_reopen) it.same ∙ was

-- ---- the budget

-- what the step takes is refused for the serial or for the tables
full_or_late : (b c : Bool) (why : Refusal) (it : Receipt)
    → ◌≡◌ {A = Reply} (Err why) (cond b (Err SerialFull) (cond c (Err BadSetup) (Ok it))) → (why ≡ SerialFull) ⊎ (why ≡ BadSetup)
full_or_late true c why it is = inl (same_refusal _ _ is)
full_or_late false true why it is = inr (same_refusal _ _ is)
full_or_late false false why it is = absurd (no_receipt _ _ (sym is))

no_budget : (why : Refusal) (steps : ℕ) → (why ≡ SerialFull) ⊎ (why ≡ BadSetup) → why ≡ Budget steps → ⊥
no_budget why steps (inl full) is = cc
no_budget why steps (inr late) is = cc

module _ (old new : DeskState) (command : Command) where
  -- if the search has too few steps, the step said so
  pub turn_budget : (result : Reply) → Outcome old command result new → (steps : ℕ) → result ≡ Err (Budget steps)
      → Answers old.event command (Err (Budget steps))
  turn_budget result (inl it) steps is = absurd (no_receipt _ _ (sym it.answered ∙ is))
  turn_budget result (inr (inl it)) steps is = by_cause it.why it.cause (same_refusal _ _ (sym it.answered ∙ is))
    where
      by_cause : (why : Refusal) → (why ≡ Memory) ⊎ IsDue old.version old.event old.serial command (Err why) → why ≡ Budget steps
          → Answers old.event command (Err (Budget steps))
      by_cause why (inl memory) is = absurd (cc)
      by_cause why (inr (Ok next, taken, due)) is = absurd (no_budget why steps (full_or_late _ _ _ _ due) is)
      by_cause why (inr (Err w, refuses, due)) is =
          subst (λ (r : Refusal). Answers old.event command (Err r)) (sym (same_refusal _ _ due) ∙ is) refuses
  turn_budget result (inr (inr (inl it))) steps is = absurd (of_store it.why it.fault (same_refusal _ _ (sym it.answered ∙ is)))
    where
      of_store : (why : Refusal) → IsFault why → why ≡ Budget steps → ⊥
      of_store why (inl memory) is = cc
      of_store why (inr refused) is = cc
  turn_budget result (inr (inr (inr it))) steps is = absurd (let same = same_refusal _ _ (sym it.answered ∙ is) in cc)

  not_taken : (next : EventValue) → NeedsMoreSteps old.event command → Answers old.event command (Ok next) → ⊥
  not_taken next needs (inl (steps, enough)) = enough needs
  not_taken next needs (inr (is, more)) = cc

  -- and it always says so, if memory lasts
  pub turn_searched : (result : Reply) → Outcome old command result new → IsFalse old.needs_reopen → NeedsMoreSteps old.event command
      → (result ≡ Err Memory) ⊎ ((steps : ℕ) × (result ≡ Err (Budget steps)))
  turn_searched result (inl it) runs needs = absurd (not_taken _ needs it.taken)
  turn_searched result (inr (inl it)) runs needs = elim it.cause [
    | inl memory ↦ inl (it.answered ∙ ap (λ (w : Refusal). Err w) memory)
    | inr (Ok next, taken, due) ↦ absurd (not_taken next needs taken)
    | inr (Err w, inl (steps, enough), due) ↦ absurd (enough needs)
    | inr (Err w, inr (is, more), due) ↦ inr (_, it.answered ∙ (due ∙ ap (λ (w : Refusal). Err w) (same_refusal _ _ is)))
  ]
  turn_searched result (inr (inr (inl it))) runs needs = absurd (not_taken _ needs it.taken)
  turn_searched result (inr (inr (inr it))) runs needs = absurd (true≢false (sym it.needed_reopen ∙ runs))

-- ---- tables

keeps_all : (l : Layout) (db : Database) (tables : List Table)
    → AllByRecursion (λ t. IsOther l t.tree → db.trees t.tree ≡ db.trees t.tree) tables
keeps_all l db [] = tt
keeps_all l db (t ∷ ts) = (λ _. refl, keeps_all l db ts)

pub keeps_self : (version : ℕ) (db : Database) → KeepsOthers version db db
keeps_self version db =
    record { schema = refl; rest = λ l is has. record { schema = refl; rows = keeps_all l db db.schema.tables } }

keeps_rows : (l : Layout) (old mid new : Database) (tables : List Table)
    → AllByRecursion (λ t. IsOther l t.tree → mid.trees t.tree ≡ old.trees t.tree) tables
    → AllByRecursion (λ t. IsOther l t.tree → new.trees t.tree ≡ mid.trees t.tree) tables
    → AllByRecursion (λ t. IsOther l t.tree → new.trees t.tree ≡ old.trees t.tree) tables
keeps_rows l old mid new [] one two = tt
keeps_rows l old mid new (t ∷ ts) one two = (λ other. two.0 other ∙ one.0 other, keeps_rows l old mid new ts one.1 two.1)

pub keeps_then : (version : ℕ) (old mid new : Database) → KeepsOthers version old mid → KeepsOthers version mid new
    → KeepsOthers version old new
keeps_then version old mid new one two = record {
  schema = two.schema ∙ one.schema;
  rest = λ l is has.
      let first = one.rest l is has in
      let then = two.rest l is (subst (HasTablesAt l) (sym one.schema) has) in
      record {
        schema = two.schema ∙ one.schema;
        rows = keeps_rows l old mid new old.schema.tables first.rows (rw one.schema at then.rows);
      };
}

-- tables that a crash left as they were hold the event that they represented
pub still_stored : {v : ℕ} {s : State} {e : EventValue} {n : ℕ} → RepresentsNow v s e n → {trees : Trees} → AreTreesOf s.now trees
    → IsStoredIn v e n trees
still_stored {s = s} shows same = rw same (record { schema = s.now.schema; sound = shows.sound; represents = shows.represents })

-- so a crash leaves this event or that one, whatever else is in the file
pub stored_either : {v : ℕ} {old : State} (new : State) {e next : EventValue} {n m : ℕ} → RepresentsNow v old e n
    → AfterCrash new (Either (AreTreesOf old.now) (IsStoredAmong v old.now next m))
    → AfterCrash new (Either (IsStoredIn v e n) (IsStoredIn v next m))
stored_either new shows leaves clean trees may = elim (leaves clean trees may) [
  | inl same ↦ inl (still_stored shows same)
  | inr made ↦ inr made.stored
]

pub unchanged_keeps : (old new : State) → IsUnchanged old new → KeepsTables old new
unchanged_keeps old new same settled is_open = (same.0.now_is, same.0.committed_is ∙ sym settled)

pub same_keeps : (s : State) → KeepsTables s s
same_keeps s settled is_open = (refl, sym settled)

-- of a desk that stays as it is
pub same_call : {S : Type 0} (g : Ghosts S) (desk : Desk S g) → DeskCall g desk desk
same_call g desk = record {
  waits = λ stopped. refl;
  clean = λ clean. clean;
  represents = λ clean shows runs. shows;
  others = λ clean shows is_open. keeps_self _ (state g desk).now;
  version = refl;
}

pub on_error : {A E : Type 0} (r : Result A E) (P : Type 0) → P → IfErr r (λ _. P)
on_error (Ok a) P p = tt
on_error (Err e) P p = p

if_error : {A E : Type 0} (P Q : E → Type 0) (r : Result A E) → ((e : E) → P e → Q e) → IfErr r P → IfErr r Q
if_error P Q (Ok a) more h = tt
if_error P Q (Err e) more h = more e h

module _ {S : Type 0} (g : Ghosts S) (old new : Desk S g) (result : Reply) where
  abbrev pub Unwritten : Refusal → Type 0
  Unwritten why = ((new ≡ old) × (why ≡ Memory)) ⊎ ((desk_state new ≡ record (desk_state old) { needs_reopen = true }) × IsFault why)

  abbrev pub IsUnwritten : Type 0
  IsUnwritten = IfErr result Unwritten

  stops : desk_state new ≡ record (desk_state old) { needs_reopen = true } → IsFalse (desk_state new).needs_reopen → ⊥
  stops is runs = true≢false (sym (ap (λ (s : DeskState). s.needs_reopen) is) ∙ runs)

  pub same_unless : IsUnwritten → IfErr result (λ _. IsFalse (desk_state new).needs_reopen → new ≡ old)
  same_unless refused = if_error _ _ result same refused
    where
      same : (why : Refusal) → Unwritten why → IsFalse (desk_state new).needs_reopen → new ≡ old
      same why (inl own) runs = own.0
      same why (inr is) runs = absurd (stops is.0 runs)

-- a change for which memory runs out outside the store leaves all as it was
pub untaken : {S : Type 0} (g : Ghosts S) (desk : Desk S g) (change : Change) (reply : Reply) (why : Refusal)
    → IsErrAnd reply (λ e. e ≡ why) → why ≡ Memory → (HoldsOwnEvent g desk → RecoversJust (state g desk) (placed_of (desk_state desk)))
    → TakesChange g desk change reply desk
untaken g desk change (Ok r) why is memory left = absurd is
untaken g desk change (Err e) why is memory left = record {
  as_call = same_call g desk;
  taken = tt;
  refused = inl (refl, is ∙ memory);
  kept = λ clean. same_keeps (state g desk);
  acknowledged = λ shows. tt;
  crash = λ shows clean trees may. inl (left shows clean trees may);
}
