-- What er_desk promises: stop the program before or within any write, and reopening the file finds the event that a
-- prefix of the accepted commands gives, one that holds every acknowledged command.
--
-- Headline says just that, in few lines, each of which a public call cites; begin there. Reply says which replies to a
-- command are lawful, Desk what one command does to a desk, and Run what a list of them does. History is many sessions,
-- one after the other, Resuming sessions that send from one list, Asking what a call does to the file, and Opening why a file
-- was not opened. Migrating says what a desk that moves its tables to version 2 answers, and Migrations what histories
-- with such moves come to.
--
-- Doubt is what becomes of the command that a stop left in doubt.
--
-- Begins is how a desk begins, Looking what a call that only reads the tables does, and Files how the file of an event is opened,
-- or made: the records that those calls' contracts are made of.
--
-- What only private functions cite lies in `inside`.
--
-- Which contract carries it; docs/PROOF.md has the steps of the theorem with the field of each:
--   `Desk::submit`, by `Submits`: one command, accepted with the next serial, declined with nothing changed, or stopped by a fault of the
--     store. After such a fault, and only then, the answer is `NeedsReopen`. `SerialFull` comes only in place of a receipt, and after it
--     `BadSetup`, of an enrolment that is too late for tables of version 1 (`is_late` of er_rules).
--   `Desk::run`: a list of commands, by `IsRun` and `Asks`.
--   `Desk::submits_ask`, `asks_then`, `asks_nothing`: one command asks a session of its own, two calls ask the two sessions joined, and a
--     desk that is only looked at asks nothing.
--   `Desk::create`, by `CreatesDesk`, and `create_in_opened`, by `MakesFile`: a new event beside whatever the file holds.
--   `Desk::adopt`, by `AdoptsDesk`, and `open`, `adopt_opened`, by `OpensFile`: what is found is sound, seeds too, with a serial of at most
--     999,999; or the first fault is named. Nothing is written. Files that could not be opened come back as the storage crate leaves them
--     (`SparesAt`).
--   `Desk::slip`, `stored_standings`, by `ReadsTables` and `FindsOwn`; `event`, `serial`, `standings`, unless a fault came before.
--   `Desk::migrate`, by `MovesDesk`: the event and its serial stay.
--   `laws::histories`, `next_sessions`, `histories_with_migrations`, `doubts`, `resuming`, `no_double_effect`: what many sessions come to.
--   `laws::sessions_join`, `lists_grow`: two sessions lead and end where the two joined do, and the session of a list of commands, with
--     that of one command more, is the session of the longer list.
--   `laws::new_files_await_none`: no foreign key in a file that holds nothing names a table of the event.
--
-- Supposed: what er_store supposes, a creation that was acknowledged, and an opening that begins on what a crash may leave.
--
-- Not promised: that memory ran out or the store failed if it is said; two processes at one file.
--
-- Wrong bodies that bear on the theorem: `memory_alone`, `goes_on_after_fault`, `opens_as_new`, `seeds_unchecked`, `doubt_kept`,
-- `two_doubts`, `session_from_the_start`, `history_with_a_gap`, `serial_before_rules`, `emptied_and_called_unopened`,
-- `made_and_called_unopened`, `refused_file_is_emptied`; of the migration `migrated_desk_migrates_again`, `serial_after_a_migration`,
-- `migrates_and_says_so_of_version_1`, `version_of_the_newest`.
pub mod Reply
pub mod Desk
pub mod Run
pub mod Headline
pub mod History
pub mod Resuming
pub mod Opening
pub mod Asking
pub mod Migrations
pub mod Migrating
pub mod Looking
pub mod Begins
pub mod Files
pub mod Doubt
pub mod inside
