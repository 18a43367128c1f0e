-- What er_cli promises: what a command line prints, where, and with which status; what a script prints; and what
-- serving and importing do.
--
-- A command line has two halves. The first is what is told: words, an event and text, and no file. Action is what a line has done, Setup
-- what an event is set up with, and Tasks what is done with one that was opened; Importing is a list of players, Again one that is imported
-- again, Serving the clients of a listener. Help is what asks for a text, and where an answer goes, Texts what a writer holds then, and
-- Complaints what a person is told of words that aren't a line. Script and Input are a script and its lines, Status how it ends.
--
-- The second is what the file becomes, with no text. Remains is what is left of it, Files what a line does to a file that may hold
-- anything, GoingOn to one that a history left, and Next how the next line finds it. Words joins the halves. Clients are those whom a
-- listener serves. Stopped is what a stop at any instant has to do with what a disk may leave at an exit.
--
-- What only private functions cite lies in `inside`.
--
-- Which contract carries it; docs/PROOF.md has the theorem and the chain below it:
--   `run_on`, clause `goes_on` (`GoesOnWords`): the theorem, of files that a history left. Clause `ends` (`EndsWords`): what one command
--     line does, prints and leaves over a file that may hold anything. `run_from` says the same of the system, which tells nothing of lists
--     and clients, and `run` clause `ends` of files that were empty.
--   What is printed: a text or an answer on its stream, with the status that is due; or a write failed, a beginning is there, and the
--     status is 3. How closing ends changes neither.
--   What is left (`PutsAway`, `RemainsOf`): files that hold one of the things that a crash could leave before, in the database file alone
--     or, if the log could not be copied, in the two; or a store that was not closed, with nothing lost.
--   `import`, by `Imports`: the names of the list in their order, until one is refused otherwise than with `NameTaken`; if the list can't
--     be taken, nobody.
--   `serve_clients`, `serve_all`, `serve_on`: a session of one score or none a client. If all were served, and it is known what clients
--     send and get, each whose connection has not failed was answered on the event that those before it left.
--   `run_script`: the answers to the lines in turn, to the byte, or a beginning of them. A script imports no list and serves no clients.
--   `close`, by `RemainsOf`: what is left of a file. `laws::imports_again`, `stops_are_exits`, `texts_are_asked`, `migrations_go_on`.
--
--   `run_on`, clause `held` (`LetsNoneGo`): a file that was opened is not let go.
--
-- Not promised: that a call succeeds; what is done to paths, lists and ports that the line doesn't name; how long a client may take; that
-- `serve` listened before it says so.
--
-- Wrong bodies that bear on the theorem: `asks_twice`, `unopened_is_absent`; of clients and lists `serves_nobody`, `reads_nobody`,
-- `any_break_is_told`, `first_byte_twice`, `a_word_behind_the_answer`, `second_import_adds`; of what is left `never_closes`,
-- `copies_after_a_fault`, `gives_back_what_was_not_copied`, `copies_before_commit`, `empties_after_the_answer`,
-- `starts_after_the_answer`, `empties_a_refused_file`, `starts_and_wants_memory`, `drops_what_is_left`, `drops_a_refused_file`,
-- `unread_event_let_go`, `help_opens_a_file`, `refused_limits_open_a_file`, `forgets_an_open_file`. Only tests refuse those in
-- `refused-by-tests`.
pub mod Setup
pub mod Texts
pub mod Input
pub mod Action
pub mod Script
pub mod Logs
pub mod World
pub mod Remains
pub mod Next
pub mod Status
pub mod Help
pub mod Complaints
pub mod Serving
pub mod Clients
pub mod Importing
pub mod Again
pub mod Tasks
pub mod Files
pub mod GoingOn
pub mod Words
pub mod Stopped
pub mod inside
