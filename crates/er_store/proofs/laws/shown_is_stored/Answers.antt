use Rattle.er_store.specs.Store.{connection, store_state}
use Rattle.er_store.proofs.Crash.{shows_leaves_in}
use Rattle.er_store.proofs.laws.shown_is_stored.Goals as goal

pub returns : goal.returns
returns g c v e s shows clean trees may =
    shows_leaves_in v (store_state g.S.Store c.args.store.now) e s
    (λ db is_open left. g.met.S.Store.settled (connection c.args.store.now).store db is_open left) shows trees may
