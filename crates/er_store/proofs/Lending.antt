-- Steps within a transaction, one after the other, and looks.
use Rattle.er_store.proofs.Prelude.{◌∙◌, ◌≡◌, refl, subst, sym, true, false, Held, Ghosts, Result, Ok, Err, IsErrAnd, IsTrue, state}
use Rattle.er_store.proofs.Prelude.{on_ok_weaker, unchanged_then, Error, HasCleanDisk, Trees, KeepsTables}
use Rattle.std.proofs.Common.{OnOk, OnErr, IfErr}
use Rattle.sqlite.specs.{State.{State, IsRolledBack, KeepsCommit, Survives}, Steps.FailsToCommit}
use Rattle.sqlite.specs.declared.transaction.Transaction.{Transaction}
use Rattle.er_store.proofs.Crash.{stays_self, stays_then, survives_both, was_clean, dropped_keeps, uncommitted_keeps}
use Rattle.er_store.proofs.LoadLemmas.{all_ok, all_err, unchanged_keeps, then_keeps}
use Rattle.er_store.specs.Calls.{Call}
use Rattle.er_store.specs.inside.{Steps.Stays, Within.{tx_state, Lends}, Looking.{OnlyLooks, Transacts}}

pub lends_self : {S : Type 0} (g : Ghosts S) (tx : Transaction S) → Lends g tx tx
lends_self g tx = record { same_reference = refl; stays = stays_self (tx_state g tx) }

pub lends_then : {S : Type 0} {g : Ghosts S} {a b c : Transaction S} → Lends g a b → Lends g b c → Lends g a c
lends_then p q = record { same_reference = q.same_reference ∙ p.same_reference; stays = stays_then p.stays q.stays }

-- a refusal isn't an answer
pub no_ok : {A E : Type 0} (P : Type 0) (r : Result A E) (e : E) → IsErrAnd r (λ x. x ≡ e) → OnOk r P
no_ok P (Ok a) e is = absurd is
no_ok P (Err x) e is = tt

on_err_weaker : {A E : Type 0} {P Q : Type 0} (r : Result A E) → (P → Q) → OnErr r P → OnErr r Q
on_err_weaker (Ok a) f p = tt
on_err_weaker (Err e) f p = f p

-- of what went well it may be said later that this holds
pub on_ok_later : {A E : Type 0} (P Q : Type 0) (r : Result A E) → (P → OnOk r Q) → OnOk r (P → Q)
on_ok_later P Q (Ok a) f = f
on_ok_later P Q (Err e) f = tt

-- one look after another
pub looks_on : {S A B E F : Type 0} {g : Ghosts S} {a b c : Held S} {x : A} {r : Result B F}
    → OnlyLooks {A = A} {E = E} g a (Ok x) b → OnlyLooks g b r c → OnlyLooks g a r c
looks_on {g = g} {a} {b} {c} {r = r} one two = record {
  mode = λ outside. two.mode (one.mode outside);
  clean = λ clean. one.clean (two.clean clean);
  same = λ clean. on_ok_weaker r (λ same. unchanged_then (state g a) (state g b) (state g c) (one.same (two.clean clean)) same)
      (two.same clean);
  kept = λ clean. on_err_weaker r (λ kept. then_keeps (state g a) (state g b) (state g c) (one.same (two.clean clean)) kept)
      (two.kept clean);
  survives = survives_both one.survives two.survives;
}

-- what is worked out of what was found
pub looks_as : {S A B E F : Type 0} {g : Ghosts S} {a b : Held S} {x : A} (r : Result B F)
    → OnlyLooks {A = A} {E = E} g a (Ok x) b → OnlyLooks g a r b
looks_as {g = g} {a} {b} r look = record {
  mode = look.mode;
  clean = look.clean;
  same = λ clean. all_ok r (look.same clean);
  kept = λ clean. all_err r (unchanged_keeps (state g a) (state g b) (look.same clean));
  survives = look.survives;
}

-- what is told in other words
pub looks_fail : {S A B E F : Type 0} {g : Ghosts S} {a b : Held S} {x : E} (r : Result B F) (why : F)
    → IsErrAnd r (λ y. y ≡ why) → OnlyLooks {A = A} {E = E} g a (Err x) b → OnlyLooks g a r b
looks_fail r why is look = record {
  mode = look.mode;
  clean = look.clean;
  same = λ clean. no_ok _ r why is;
  kept = λ clean. all_err r (look.kept clean);
  survives = look.survives;
}

-- what a look says as a call that gives back its answer, or its refusal, in other words
pub looks_call : {S A E B F : Type 0} {g : Ghosts S} {a b : Held S} {r : Result A E} (q : Result B F) → OnlyLooks g a r b
    → (HasCleanDisk (state g b) → OnErr q (KeepsTables (state g a) (state g b))) → Call (state g a) q (state g b)
looks_call q look kept = record {
  clean = λ clean. was_clean look.survives clean;
  limit = look.survives.limit;
  kept = kept;
}

-- what a call that went well says of one that gives back something else
pub still_ok : {A E B F : Type 0} {old new : State} {x : A} {y : B} → Call {A = A} {E = E} old (Ok x) new
    → Call {A = B} {E = F} old (Ok y) new
still_ok call = record { clean = call.clean; limit = call.limit; kept = λ clean. tt }

-- ---- a transaction was begun on a connection that is lent, and one step was done in it

module _ {S A : Type 0} (g : Ghosts S) (old begun last end conn : Held S) (P : Trees → Type 0) (r : Result A Error)
    (is : begun ≡ record old { in_transaction = true }) (stays : Stays (state g begun) (state g last))
    (survives : Survives (state g last) (state g end) P) (same : end ≡ conn) (mode : conn.in_transaction ≡ false) where
  step : Stays (record (state g old) { in_transaction = true }) (state g last)
  step = subst (λ (h : Held S). Stays (state g h) (state g last)) is stays

  late : HasCleanDisk (state g conn) → HasCleanDisk (state g end)
  late = subst (λ (h : Held S). HasCleanDisk (state g h)) (sym same)

  cleaned : HasCleanDisk (state g conn) → HasCleanDisk (state g old)
  cleaned clean = was_clean step.survives (was_clean survives (late clean))

  keeps : (HasCleanDisk (state g end) → OnErr r (KeepsTables (state g old) (state g end))) → Transacts g old r conn
  keeps kept = record {
    mode = mode;
    call = record {
      clean = cleaned;
      limit = subst (λ (h : Held S). (state g h).step_limit ≡ (state g old).step_limit) same (survives.limit ∙ step.survives.limit);
      kept = λ clean. subst (λ (h : Held S). OnErr r (KeepsTables (state g old) (state g h))) same (kept (late clean));
    };
  }

  -- it was dropped
  pub dropped : (HasCleanDisk (state g end) → IsRolledBack (state g last) (state g end)) → Transacts g old r conn
  dropped undone = keeps (λ clean. all_err r (dropped_keeps (state g old) step survives undone clean))

  -- it was committed, or its commit was refused
  pub committed : (HasCleanDisk (state g last) → IsTrue (state g last).in_transaction)
      → (HasCleanDisk (state g end) → IfErr r (FailsToCommit (state g last) (state g end))) → Transacts g old r conn
  committed inside failed = keeps (λ clean.
      let early = was_clean survives clean in
      refused r (inside early) (step.committed early) (failed clean))
    where
      refused : (q : Result A Error) → IsTrue (state g last).in_transaction → KeepsCommit (record (state g old) { in_transaction = true })
          (state g last)
          → IfErr q (FailsToCommit (state g last) (state g end)) → OnErr q (KeepsTables (state g old) (state g end))
      refused (Ok a) within kept fails = tt
      refused (Err e) within kept fails = uncommitted_keeps (state g old) (state g end) e within kept fails
