-- What a store shows.
use Rattle.std.specs.Prelude.{ℕ, Bool}
use Rattle.sqlite_trees.specs.declared.store.Store.{Ghosts}
use Rattle.sqlite.specs.State.{State}
use Rattle.sqlite.specs.Held as sqlite
use Rattle.sqlite.specs.Held.{Held}
use Rattle.er_store.specs.declared.Store.{Store}

-- the connection that it has
abbrev pub connection : {S : Type 0} {g : Ghosts S} → Store S g → Held S
connection store = store.conn

-- what its connection shows
abbrev pub store_state : {S : Type 0} (g : Ghosts S) → Store S g → State
store_state g store = sqlite.state g (connection store)

-- the version that it works in
abbrev pub store_version : {S : Type 0} {g : Ghosts S} → Store S g → ℕ
store_version store = store.version

-- a fault has ended it
abbrev pub needs_reopen : {S : Type 0} {g : Ghosts S} → Store S g → Bool
needs_reopen store = store.needs_reopen
