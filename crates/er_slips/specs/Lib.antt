-- What er_slips promises: one request, one answer, which depends only on the event and the whole input, however
-- that is cut; or a 503, if memory runs out or the store has a fault.
--
-- Whole is the answer to an input, and what is submitted for it. It stands on Request, which says what an input asks
-- for, by the checks in their order (Head and Routes are the first of them), and on Response, which has each answer to
-- the byte. Serving is what one call does: to the desk, and to what is written. Retry is a score that is handed in
-- again.
--
-- What only private functions cite lies in `inside`.
--
-- Which contract carries it:
--   `serve_one`, by `Serves`: the desk is asked what the input asks for, by the checks in their order, and its answer is written, to the
--     byte; or a 503, if memory ran out for a body. The file takes the one score that the input asks for, or nothing. If a write fails, a
--     beginning of the answer was written; if a read fails, nothing was written and nothing submitted.
--   `laws::writes_due`: of a desk that runs, and whose tables represent its event on a clean disk, the answer is the one of that event to
--     the whole input; or a 503 that says why, and that only for a whole request whose head passes each check.
--   `laws::one_answer`: of a sound event, a serial and an input there is one answer, and one command at most.
--   `laws::retries`: a score that was taken once, and is handed in again, is answered with the score that the match has then, or that the
--     event is no longer in its Swiss rounds.
--
-- Not promised: what arrives over a socket, and when. Of a reader that doesn't tell its bytes, only what the desk does is said.
pub mod Head
pub mod Routes
pub mod Request
pub mod Response
pub mod Whole
pub mod Serving
pub mod Retry
pub mod inside
