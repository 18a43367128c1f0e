-- What er_sessions promises: what sessions over the two files of an event come to, one after the other, with a crash after each.
--
-- Sessions is all of it: what a desk is asked and answers in a session, what is left of its files, and the sessions in their order. What a
-- session goes on with, and how the next one finds it, are er_cli's GoingOn and Next.
--
-- What only private functions cite lies in `inside`.
--
-- Which contract carries it; docs/PROOF.md has the theorem and the chain below it:
--   `next_session`, clause `holds` (`HoldsNext`): one session goes on with the history that left the files.
--   `hold_sessions`, clause `holds` (`HoldsAll`): many sessions, with a crash after each. One that can't open its files, or can't close
--     them, is the last (`HoldsSome`).
--
-- Not promised: that a session succeeds.
--
-- Wrong bodies that bear on the theorem: `session_skips_the_crash`, `sessions_migrate_too`, `session_asks_nothing`, `never_over`.
pub mod Sessions
pub mod inside
