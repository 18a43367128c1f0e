-- What er_event promises: an Event is always sound, and a change that fits gives the event that the rules name.
--
-- Event is the tournament as every contract sees it; Name and Score say what may stand in one. Round, Match and Bracket
-- say what matches are, and Sound puts all of it together: what is true of every event, but for who is seeded where.
-- Change says when a change fits, and the event after it; Safe, which changes keep an event sound, but for its seeds.
-- Results are the rounds that a player has played, and has missed, and Totals count them; Tallies are the totals of all, and
-- who met whom; Altered says whether a change may alter any totals, and whose match it corrects;
-- Slip is one match with its names.
--
-- Rows are the rows of the five tables that an event has, and Version says which events each version of the tables can
-- keep. Pairings and Parts read the rows back: the event that they stand for, or the first table at fault. Refusal
-- numbers and names the thirty refusals.
--
-- What only private functions cite lies in `inside`.
--
-- Which contract carries it; 'sound' leaves out the seeds of the playoff:
--   The invariant of `Event`, which `laws::events_are_sound` repeats: no value of the type is unsound.
--   `Event::create`, `Name::try_from_bytes`, `Score::swiss`, `Score::playoff`: taken exactly if the rule says so.
--   `Event::fits`: exactly whether a change fits. `apply` gives the event after one that does, or the event as it was if memory runs out,
--     which is never so for a drop, a phase or a Swiss score. `laws::changes_keep_sound` says what is enough for each change; `has_name`,
--     `player`, `stored`, `cut`, `match_at` and `slot_at` say which changes fit for sure.
--   `Event::from_parts`: of rows the one sound event that has them, or the first table at fault, in the order event, player, pairing,
--     bracket; memory aside.
--   `totals`, `all_totals`, and both after a change: what a player has from the complete rounds, with no memory. `has_tallies` says exactly
--     whether rows of totals are the event's; `may_alter_totals`: if not, a change leaves the totals of each player.
--     `corrects`: exactly whether a change replaces a score of a match of this player. `laws::others_keep_totals`: a player who is added
--     leaves the totals of the others.
--   `laws::changes_are_kept`: if tables of a version keep an event and can take a change, they keep the event after it.
--   `Refusal::number`, `name`, `Display`: the number and the name of each refusal, and how it is shown.
--
-- Not promised: that a playoff has the seeds of the standings (`IsSound` of er_rules).
--
-- Wrong bodies that bear on the theorem: `counts_open_round`, `correction_added_twice`, `pairs_again`, `trusts_the_file`,
-- `admits_bad_rows`, `admits_bad_rows_of_the_bracket`; of versions `twelve_in_version_1`, `nine_rounds_in_version_2`, `version_3_is_read`.
pub mod Refusal
pub mod Score
pub mod Name
pub mod Event
pub mod Round
pub mod Match
pub mod Bracket
pub mod Sound
pub mod Change
pub mod Safe
pub mod Version
pub mod Rows
pub mod Parts
pub mod Pairings
pub mod Results
pub mod Totals
pub mod Slip
pub mod Tallies
pub mod Altered
pub mod inside
