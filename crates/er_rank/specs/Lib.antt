-- What er_rank promises: the standings of an event are the one list that the Magic Tournament Rules, appendix
-- Tiebreaker Explanation, define.
--
-- Standings is all of it: percentages of a player, averages over opponents, who is better, ranks, and who is seeded.
-- Whoever knows the rules can read it by itself. Meeting and Tally are for those who work out standings by two lists:
-- what each player's matches come to, and who met whom.
--
-- What only private functions cite lies in `inside`.
--
-- Which contract carries it:
--   `standings`, clauses `value` and `only`, and `laws::one_standings`: the list that the rules define, and no other, of any sound event.
--   `top`, clauses `value` and `only`, and `laws::one_top`: its first active players.
--   `standings_of`: the same list, worked out of two lists only, of any event that has them. `are_lists` says exactly whether lists are
--     within the limits of an event, which the call asks of its caller.
--
-- Not promised: what `standings_of` gives for lists that are of no event.
--
-- Wrong bodies that bear on the theorem: `pooled_opponents`, `bye_as_opponent`.
pub mod Standings
pub mod Tally
pub mod Meeting
pub mod inside
