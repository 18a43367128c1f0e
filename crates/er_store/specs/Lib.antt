-- What er_store promises: the tables of a file represent the event, and a crash leaves those of the event before a
-- change or after it, whole.
--
-- Representing is the heart of it: when tables represent an event and its serial, and what a crash may leave. Tables is the
-- schema that the texts make in either version, Layout how the tables lie in a file, Rows how rows show and are stored,
-- and Store what a store shows. Loading is what is found in the tables, Damage which table is the first at fault in any
-- file, Slip the slip of a match by a join, Migrated what a migration promises, Beside what creation leaves beside
-- tables of others. Reading says what a statement that reads leaves as it was, Fault what a refusal means.
-- Begins is how a store begins, over tables that are made or that are there, and Calls what a call of it does: the records that the
-- contracts of Store are made of.
--
-- What only private functions cite lies in `inside`. In the words of the field: `Represents` is the abstraction relation, and
-- `AfterCrash` the crash condition. Of a step in a transaction `Lends` is the frame, what it leaves alone however it ends, `Achieves` the
-- postcondition on a clean disk, and `Brings` a step of the refinement: from tables of one event to tables of the next.
--
-- Which contract carries it:
--   `Store::create`, by `Creates`: the five tables beside whatever stands in the file, which stays as it was. They represent the new event
--     if no foreign key there names one of them. If something called `event` can be read, it is refused and no table changes.
--   `Store::adopt`, by `Adopts`, and `load`: of tables that represent a sound event just that event and its serial; of any others an event
--     that they show, sound but for its seeds, or the first table at fault. Nothing is written.
--   `Store::write`, by `WritesChange`: a change and the next serial in one transaction, whole or not at all, after a crash too. The tables
--     of others have the rows that they had.
--   `Store::slip`, `tallies`, `meetings`, by `OnlyReads` and `Finds`: of tables that represent a sound event, what the event has. Nothing
--     is written in a file of any schema.
--   `Store::migrate`, by `MovesTables`: from version 1 to 2 in one transaction, whole in one or in the other at every exit, and nothing
--     leads back. Whatever stood beside the five stays, after a crash too. `Store::version` says which.
--   `laws::shown_is_stored`, `stored_represents`, `represented_is_read`: a crash leaves what the tables represent, and what a crash left
--     represents it again.
--
-- Each call may fail for memory or by the store, on a clean disk too. A store that a fault has stopped answers `NeedsReopen` to each call
-- that reads or writes its tables, and stays as it is.
--
-- Supposed: nobody else writes the file, and the device keeps the model of crashes (`HasCleanDisk`); no foreign key of a table leads to one
-- of the five.
--
-- Not promised: that memory ran out or the database refused a statement if it is said; the texts of CREATE TABLE that a file keeps; what a
-- migration leaves if a foreign key names `player2`.
--
-- Wrong bodies that bear on the theorem: `two_transactions`, `early_acknowledgement`, `born_needing_reopening`, `refuses_every_file`,
-- `repairs_on_open`, `migrates_in_two`; of creation `makes_nothing_beside_others`, `creation_empties_another_table`,
-- `creation_drops_another_table`, `further_tables`; of the migration `players_not_copied`, `player_not_emptied`, `dropped_forgotten`,
-- `version_not_set`, `serial_set_for_the_version`, `migrates_again`, `goes_on_in_version_1`, `goes_back_to_version_1`,
-- `migrates_and_says_so_of_version_1`, `migration_fault_goes_on`, `player2_of_another`; of the two versions `creates_version_1`,
-- `old_events_in_version_2`, `works_in_the_other_version`, `version_of_the_newest`, `reads_player_always`,
-- `version_2_by_the_first_row_alone`, `slip_of_the_old_names`, `player_added_to_both_tables`, `dropped_in_both_tables`,
-- `names_have_to_be_utf8`.
pub mod Tables
pub mod Layout
pub mod Rows
pub mod Representing
pub mod Reading
pub mod Shape
pub mod Loading
pub mod Fault
pub mod Store
pub mod Migrated
pub mod Beside
pub mod Damage
pub mod Slip
pub mod Calls
pub mod Begins
pub mod inside
