-- What reading the tables leaves of the tables of others.
use Rattle.std.proofs.Common.{◌≡◌, ◌⊎◌, inl, inr, ℕ, Bool, Result, Ok, Err, OnErr, MatchResult, IsTrue, IsFalse}
use Rattle.std.proofs.Common.{refl, sym, ap, ap₂, subst, ◌∙◌}
use Rattle.sqlite.specs.{Effect.{Database, IsDatabase}, State.{State, IsUnchanged}}
use Rattle.er_event.specs.declared.refusals.Refusal.{Refusal}
use Rattle.er_event.specs.Event.{EventValue}
use Rattle.er_store.specs.{Fault.IsReadFault, Reading.KeepsTables, Representing.{KeepsOthers, RepresentsIn, RepresentsNow}}
use Rattle.er_desk.specs.Desk.{DeskState, Reads}
use Rattle.er_desk.proofs.Turns.{keeps_self, unchanged_keeps}

keeps_same : (version : ℕ) (old new : Database) → new ≡ old → KeepsOthers version old new
keeps_same version old new same = subst (KeepsOthers version old) (sym same) (keeps_self version old)

pub read_others : {A : Type 0} (Fails : Refusal → Type 0) (read : Result A Refusal) (stopped : Bool) (version : ℕ) (old new : State)
    → old.now ≡ old.committed → IsTrue new.is_open
    → MatchResult read (λ _. IsFalse stopped) Fails → (IsFalse stopped → IsUnchanged old new) → OnErr read (KeepsTables old new)
    → KeepsOthers version old.now new.now
read_others Fails (Ok row) stopped version old new settled is_open still same kept =
    keeps_same version old.now new.now (same still).0.now_is
read_others Fails (Err why) stopped version old new settled is_open stops same kept =
    keeps_same version old.now new.now (kept settled is_open).0

pub read_keeps : {A : Type 0} (Fails : Refusal → Type 0) (read : Result A Refusal) (stopped : Bool) (old new : State)
    → MatchResult read (λ _. IsFalse stopped) Fails → (IsFalse stopped → IsUnchanged old new) → OnErr read (KeepsTables old new)
    → KeepsTables old new
read_keeps Fails (Ok row) stopped old new still same kept = unchanged_keeps old new (same still)
read_keeps Fails (Err why) stopped old new stops same kept = kept

-- what is read leaves the desk as it is, or stops it
pub reads : {A : Type 0} (passing : Refusal) (old : DeskState) (v : ℕ) (is : Bool) (read : Result A Refusal) → IsFalse old.needs_reopen
    → v ≡ old.version → MatchResult read (λ _. IsFalse is) (λ why. ((why ≡ passing) × IsFalse is) ⊎ (IsReadFault why × IsTrue is))
    → Reads passing old read (record old { version = v; needs_reopen = is })
reads passing old v is (Ok row) runs same still =
    inl (runs, ap₂ (λ (n : ℕ) (b : Bool). record old { version = n; needs_reopen = b }) same (still ∙ sym runs), inl refl)
reads passing old v is (Err why) runs same (inl (passes, still)) = inl (
  runs,
  ap₂ (λ (n : ℕ) (b : Bool). record old { version = n; needs_reopen = b }) same (still ∙ sym runs),
  inr (ap (λ (w : Refusal). Err w) passes),
)
reads passing old v is (Err why) runs same (inr (fault, stopped)) =
    inr (inl (runs, ap₂ (λ (n : ℕ) (b : Bool). record old { version = n; needs_reopen = b }) same stopped, why, fault, refl))

-- and the tables represent its event
pub still_shows : (v w : ℕ) (old new : State) (e : EventValue) (n : ℕ) → w ≡ v → RepresentsNow v old e n → IsUnchanged old new
    → RepresentsNow w new e n
still_shows v w old new e n is shows same = record {
  is_open = same.0.is_open;
  sound = subst IsDatabase (sym same.0.now_is) shows.sound;
  settled = same.0.now_is ∙ shows.settled ∙ sym same.0.committed_is;
  represents = subst (λ (db : Database). RepresentsIn w db e n) (sym same.0.now_is)
      (subst (λ k. RepresentsIn k old.now e n) (sym is) shows.represents);
}
