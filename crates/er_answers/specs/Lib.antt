-- What er_answers promises: one question to a desk, and what it answers.
--
-- Question is what the texts of an event are, and what is told of what was read or made. Due is what is due at a point, and
-- what may be answered there. Answers is what one question does: to the desk, and to its file.
--
-- Which contract carries it: `ask`. Clause `answers` (`AnswersDesk`) has what is told, a receipt, a refusal, the serial after a migration
-- or a text to the byte, and what the desk is then. Its field `due` says that this is what the event at that point gives, or a fault of
-- memory or of the device, if the tables represent the event on a clean disk and no fault came before; so the standings are those of the
-- rules. Clause `asked` (`AsksFor`) has what the file takes: a session of one command, or of none, or a migration.
--
-- Not promised: that memory ran out or the device failed if it is said.
--
-- Wrong bodies that bear on the theorem: `submits_twice`, `swallows_store_fault`, `answers_without_the_reply`, `standings_submit_too`,
-- `migrated_to_serial_zero`.
pub mod Question
pub mod Due
pub mod Answers
