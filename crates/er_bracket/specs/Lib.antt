-- What er_bracket promises: the slots of the first stage, the stage after a stage that is played, and the champion.
--
-- Seeds says who meets whom in the first stage. The stage after it, and who won the playoff, are words of er_event
-- (Bracket). Winners says which matches somebody has won.
--
-- Which contract carries it:
--   `first_stage`: the slots of the rules for 2, 4 or 8 seeds, the better seed first-named.
--   `next_stage`: after 2 or 4 matches that somebody won, the winners of each two slots.
--   `champion`: the winner of the final, exactly if the playoff is finished.
--
-- Its callers give lists of these lengths (`requires`). Memory may run out. No wrong body of it is among the named ones.
pub mod Seeds
pub mod Winners
