-- What a step within a transaction promises.
use Rattle.std.specs.Prelude.{◌≡◌, ℕ, Result, List, OnOk, Contains, IsTrue, length}
use Rattle.std.specs.List.{range_with_len}
use Rattle.sqlite.specs.Held.{state}
use Rattle.sqlite.specs.Schema.{Schema}
use Rattle.sqlite.specs.State.{State, HasCleanDisk}
use Rattle.sqlite.specs.declared.error.Error.{Error}
use Rattle.sqlite.specs.declared.transaction.Transaction.{Transaction}
use Rattle.sqlite.specs.Table.{Table}
use Rattle.sqlite_trees.specs.declared.store.Store.{Ghosts}
use Rattle.er_event.specs.Event.{EventValue}
use Rattle.er_event.specs.Sound.{numbers}
use Rattle.er_event.specs.declared.rows.tally.TallyRow.{TallyRow}
use Rattle.er_store.specs.Layout.{Layout}
use Rattle.er_store.specs.Representing.{RepresentsWith}
use Rattle.er_store.specs.inside.Making.{MakesTable}
use Rattle.er_store.specs.inside.Steps.{Stays, BringsToWith}

-- what the connection of a transaction shows
abbrev pub tx_state : {S : Type 0} (g : Ghosts S) → Transaction S → State
tx_state g tx = state g tx.conn.now

-- A step works on the connection that was lent. However it ends, a crash leaves what it could before, and the last commit is
-- as it was.
pub record Lends {S : Type 0} (g : Ghosts S) (old new : Transaction S) : Type 0 where
  pub same_reference : new.conn.ghost_name ≡ old.conn.ghost_name
  pub stays : Stays (tx_state g old) (tx_state g new)

-- On a clean disk, a step that goes well does this.
abbrev pub Achieves : {S : Type 0} (g : Ghosts S) → (State → State → Type 0)
    → Transaction S → Result (Unit {0}) Error → Transaction S → Type 0
Achieves g This old result new = HasCleanDisk (tx_state g new) → OnOk result (This (tx_state g old) (tx_state g new))

-- Tables that lie so and represent the one event then represent the other, with the serial and the totals that they had.
abbrev pub Brings : {S : Type 0} (g : Ghosts S) → Layout → (from to : EventValue)
    → Transaction S → Result (Unit {0}) Error → Transaction S → Type 0
Brings g l from to old result new =
    (s : ℕ) (t : List TallyRow) → RepresentsWith l (tx_state g old).now from s t
    → Achieves g (λ a b. BringsToWith l a b to s t) old result new

-- Tables that lie so and represent the event with the one rows of totals then represent it with the others.
abbrev pub Counts : {S : Type 0} (g : Ghosts S) → Layout → EventValue → (was now : List TallyRow)
    → Transaction S → Result (Unit {0}) Error → Transaction S → Type 0
Counts g l e was now old result new =
    (s : ℕ) → RepresentsWith l (tx_state g old).now e s was → Achieves g (λ a b. BringsToWith l a b e s now) old result new

-- a transaction is still begun
abbrev pub Inside : State → State → Type 0
Inside old new = IsTrue new.in_transaction

-- the players are numbered from 1 on, and one has this number
abbrev pub HasPlayer : EventValue → ℕ → Type 0
HasPlayer e number = (numbers e.players ≡ range_with_len 1 (length e.players)) × Contains (numbers e.players) number

-- Of the one schema it makes the other, with one table more; and whatever stood, the table comes after it.
pub record MakesNext {S : Type 0} (g : Ghosts S) (table : ℕ → Table) (before after : Schema)
    (old : Transaction S) (result : Result (Unit {0}) Error) (new : Transaction S)
    : Type 0 where
  pub creates : (tx_state g old).now.schema ≡ before → Achieves g (λ a b. b.now.schema ≡ after) old result new
  pub beside : Achieves g (MakesTable table) old result new
