use Rattle.er_store.proofs.Prelude.{◌≡◌, ◌-◌, false, length, List, [], map, Row, HasCleanDisk, IsUnchanged, Survives, state, HasGiven}
use Rattle.er_store.proofs.Prelude.{first_columns, meeting_columns}
use Rattle.er_store.specs.Tables as sql
use Rattle.er_store.proofs.reading.read_meetings.Given as goal

abbrev pub invariant-loop-rows : goal.invariant-loop-rows
invariant-loop-rows g l =
    let old = state g.S.Store l.fn.conn in
    let now = state g.S.Store l.rows.conn.now in
    (l.rows.conn.ghost_name ≡ l.initial.rows.conn.ghost_name) × Survives old now (λ _. ⊥)
    × (old.in_transaction ≡ false → now.in_transaction ≡ false)
    × (HasCleanDisk now → (given : List Row) × HasGiven g.S.Store sql.read_meetings [] l.rows.conn.now given
    × (map meeting_columns l.meetings.items ≡ map (first_columns 13) given) × IsUnchanged old now)

abbrev pub decreases-loop-rows : goal.decreases-loop-rows
decreases-loop-rows g l = 18446744073709551616 - length l.meetings.items
