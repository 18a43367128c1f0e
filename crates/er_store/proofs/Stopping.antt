-- A store that stopped, since its transaction was refused.
use Rattle.er_store.proofs.Prelude.{◌≡◌, ◌∙◌, sym, subst, true≢false, HasCleanDisk, Err, IsTrue, IsFalse, IsFault, Ghosts, Held}
use Rattle.er_store.proofs.Prelude.{KeepsTables}
use Rattle.er_event.specs.declared.refusals.Refusal.{Refusal}
use Rattle.sqlite.specs.Held as sqlite
use Rattle.sqlite.specs.declared.error.Error.{Error}
use Rattle.er_store.specs.{Calls.{StoreCall, StopsByFault}, inside.Looking.Transacts}
use Rattle.er_store.specs.declared.Store.{Store}
use Rattle.er_store.specs.Store as store

-- It stays on the connection that the transaction left.
pub stopped_call : {S : Type 0} (g : Ghosts S) (old new : Store S g) (conn : Held S) {why : Refusal} {error : Error}
    → Transacts {A = Unit {0}} g (store.connection old) (Err error) conn
    → IsFalse (store.needs_reopen old) → store.connection new ≡ conn → IsFault why → IsTrue (store.needs_reopen new)
    → StoreCall {A = Unit {0}} g StopsByFault old (Err why) new
stopped_call g old new conn failed runs same fault stopped =
    let late : HasCleanDisk (store.store_state g new) → HasCleanDisk (sqlite.state g conn) =
    subst (λ (h : Held _). HasCleanDisk (sqlite.state g h)) same in
    record {
      call = record {
        clean = λ now. failed.call.clean (late now);
        limit = subst (λ (h : Held _). (sqlite.state g h).step_limit ≡ (store.store_state g old).step_limit) (sym same)
            failed.call.limit;
        kept = λ now.
            subst (λ (h : Held _). KeepsTables (store.store_state g old) (sqlite.state g h)) (sym same) (failed.call.kept (late now));
      };
      waits = λ stopped. absurd (true≢false (sym stopped ∙ runs));
      stops = λ runs. (fault, stopped);
    }
