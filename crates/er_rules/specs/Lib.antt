-- What er_rules promises: each of the eight commands does to an event what the rules say, or is refused by the first
-- check that fails, memory aside.
--
-- Commands has the checks of each command as a list in their order, and what the command makes of the event. Step is
-- the whole rule: taken with one event after it, or refused in one way.
-- Sound adds to an event's soundness the seeds of the standings. Fold is the event after many commands, Retry what a
-- command meets that is sent again, Refusing which refusals are the rules' own, and Late who enrols too late for tables.
--
-- Which contract carries it:
--   `decide`: a change that fits, with just the event after it that the command makes (`taken`), or the refusal of the first check that
--     fails, `NoPairing` or `Budget` (`refused`). A refusal is one of 1 to 22, or for memory, and that only of `Pair`, `Cut` and `Playoff`
--     of er_event (`named`, `memory`).
--   `laws::one_step`: of a sound event a command has one outcome. `laws::step_keeps_sound`, and clause `keeps`: the event stays sound, its
--     seeds too.
--   `laws::budget_searches`: `Budget` is answered only if the search needs more than its steps.
--   `laws::steps_are_taken`: tables of a version can take what a command makes, unless it enrols too late for them.
--   `seeds_agree`: exactly whether an event has the seeds of its standings.
--   `laws::no_double_effect`, `names_stay`: a command that was taken once, and no correction, is refused at every later point of a run; a
--     correction that is sent again at once is taken, and gives the same event.
--
-- Not promised: that memory ran out if it is said. The refusals of a file and of a full serial are not the rules' own: er_desk has them.
--
-- Wrong body that bears on the theorem: `overwrites_a_result`.
pub mod Commands
pub mod Refusing
pub mod Step
pub mod Sound
pub mod Fold
pub mod Retry
pub mod Late
