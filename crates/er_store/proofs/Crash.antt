-- What a crash, or a step within a transaction, leaves of a change.
use Rattle.er_store.proofs.Prelude.{common_steps, refl, ◌≡◌, ◌⊎◌, inl, inr, ℕ, true, false, IsTrue, sym, ◌∙◌, arith, Trees, State}
use Rattle.er_store.proofs.Prelude.{HasCleanDisk, Survives, survives_then, EventValue, IsStoredIn, RepresentsNow, IsReady, List, Result}
use Rattle.er_store.proofs.Prelude.{Err}
use Rattle.er_store.proofs.Prelude.{true≢false, ap, Row, Error, Held, state, Ghosts, KeepsTables, Stays}
use Rattle.er_store.proofs.Prelude.{AreTreesOf, IsStoredAmong, KeepsOthers, Database}
use Rattle.sqlite.specs.{State.{KeepsCommit, IsRolledBack, ExecutesInside}, Steps.FailsToCommit}
use Rattle.er_store.specs.Representing.{Either}
use Rattle.sqlite.specs.State as sqlite

-- ---- what a crash leaves of a change

-- while the store is open, a crash leaves only the last commit
abbrev pub Settles : State → Type 0
Settles s = (db : Trees) → IsTrue s.is_open → s.may_leave db → db ≡ s.committed.trees

pub was_clean : {a b : State} {P : Trees → Type 0} → Survives a b P → HasCleanDisk b → HasCleanDisk a
was_clean s clean = let rises = s.clean in omega arith

pub survives_self : (s : State) → Survives s s (λ _. ⊥)
survives_self s = grind (arith, common_steps)

pub shows_leaves_in : (v : ℕ) (s : State) (e : EventValue) (serial : ℕ) → Settles s → RepresentsNow v s e serial → (trees : Trees)
    → s.may_leave trees → IsStoredIn v e serial trees
shows_leaves_in v s e serial settles shows trees may = grind (arith, common_steps)

-- with nothing pending, that is what the connection shows
pub leaves_now : {v : ℕ} {e : EventValue} {serial : ℕ} (s : State) → Settles s → RepresentsNow v s e serial → (trees : Trees)
    → s.may_leave trees → AreTreesOf s.now trees
leaves_now s settles shows trees may = settles trees shows.is_open may ∙ ap (λ (d : Database). d.trees) (sym shows.settled)

pub only : {A : Type 0} → A ⊎ ⊥ → A
only (inl a) = a
only (inr none) = absurd none

-- what the commit leaves, beside the other tables of the database before it
among : {v : ℕ} {last : State} {e : EventValue} {s : ℕ} {old : Database} → IsReady v last e s → KeepsOthers v old last.now
    → {trees : Trees} → trees ≡ last.now.trees → IsStoredAmong v old e s trees
among {last = last} ready others same = rw same (record {
  stored = record { schema = last.now.schema; sound = ready.sound; represents = ready.represents };
  others = others;
})

module _ {v : ℕ} {last end : State} {e : EventValue} {s : ℕ} (ready : IsReady v last e s) where
  -- once it is committed, the connection sees it
  pub written : sqlite.Shows last end last.now last.now false → RepresentsNow v end e s
  written done = grind (arith, common_steps)

  -- and the other tables are those of this database
  module _ {old : Database} (others : KeepsOthers v old last.now) where
    -- a crash leaves the event among them
    pub leaves_among : Settles end → sqlite.Shows last end last.now last.now false → (trees : Trees) → end.may_leave trees
        → IsStoredAmong v old e s trees
    leaves_among settles done trees may =
        among ready others (settles trees done.is_open may ∙ ap (λ (d : Database). d.trees) done.committed_is)

    -- and if the commit fails, what it could before, or that
    pub leaves_either : (start : State) → ((trees : Trees) → start.may_leave trees → AreTreesOf old trees)
        → Survives start last (λ _. ⊥) → Survives last end (λ db. db ≡ last.now.trees)
        → HasCleanDisk end → (trees : Trees) → end.may_leave trees → Either (AreTreesOf old) (IsStoredAmong v old e s) trees
    leaves_either start before quiet commits clean trees may = elim (commits.crash clean trees may) [
      | inl was ↦ inl (before trees (only (quiet.crash (was_clean commits clean) trees was)))
      | inr same ↦ inr (among ready others same)
    ]

pub survives_both : {a b c : State} → Survives a b (λ _. ⊥) → Survives b c (λ _. ⊥) → Survives a c (λ _. ⊥)
survives_both {a} {b} {c} = survives_then a b c (λ _. ⊥) (λ _. ⊥) (λ _. ⊥) (λ _ db none. none) (λ _ db none. none)

-- if nothing was committed, a crash leaves what was there before the change
pub leaves_old : {v : ℕ} {e : EventValue} {s : ℕ} (old end : State) → Settles old → RepresentsNow v old e s
    → Survives (record old { in_transaction = true }) end (λ _. ⊥) → HasCleanDisk end → (trees : Trees) → end.may_leave trees
    → AreTreesOf old.now trees
leaves_old old end settles was quiet clean trees may = leaves_now old settles was trees (only (quiet.crash clean trees may))

-- ---- what a step within a transaction leaves of the last commit, whatever it does and however it ends

pub commit_stays : (s : State) → KeepsCommit s s
commit_stays s = record { was_open = λ is_open. is_open; committed = λ _. refl }

-- a statement in a transaction, or in one that a failure ended
pub step_keeps : {S : Type 0} (g : Ghosts S) (old new : Held S) (sql : List ℕ) (params : Row) (r : Result ℕ Error) (e : Error)
    → ((state g old).in_transaction ≡ false → (r ≡ Err e) × (new ≡ old))
    → (IsTrue (state g old).in_transaction → ExecutesInside 0 sql params (state g old) (state g new) r)
    → KeepsCommit (state g old) (state g new)
step_keeps g old new sql params r e ended runs = grind (arith, common_steps)

pub stays_self : (s : State) → Stays s s
stays_self s = record { committed = λ _. commit_stays s; survives = survives_self s }

-- one step after another
pub stays_then : {a b c : State} → Stays a b → Stays b c → Stays a c
stays_then p q = grind (arith, common_steps)

-- what a transaction leaves that was undone
undone_keeps : (old : State) {last end : State} → KeepsCommit (record old { in_transaction = true }) last → IsRolledBack last end
    → KeepsTables old end
undone_keeps old kept rolled settled is_open = grind (arith, common_steps)

-- one that was dropped
pub dropped_keeps : (old : State) {last end : State} {P : Trees → Type 0} → Stays (record old { in_transaction = true }) last
    → Survives last end P → (HasCleanDisk end → IsRolledBack last end) → HasCleanDisk end → KeepsTables old end
dropped_keeps old stays survives undone clean = undone_keeps old (stays.committed (was_clean survives clean)) (undone clean)

-- and one that was not committed
pub uncommitted_keeps : (old : State) {last : State} (end : State) (e : Error) → IsTrue last.in_transaction
    → KeepsCommit (record old { in_transaction = true }) last → FailsToCommit last end e → KeepsTables old end
uncommitted_keeps old end e inside kept (inl fails) = undone_keeps old kept fails.3
uncommitted_keeps old end e inside kept (inr none) = absurd (true≢false (sym inside ∙ none.1))
