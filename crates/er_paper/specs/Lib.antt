-- What er_paper promises: each text of an event, to the byte, and that what is exported reads back.
--
-- Texts has the printed texts, whose columns are in Column. Tables are the players and the results as fields, Csv the
-- records of a text, Reading what such a text is read as, or its first bad row, and ReadBack that an export is read as
-- what was written. Slip is a match as JSON, and the games of one that is handed in.
--
-- What only private functions cite lies in `inside`.
--
-- Which contract carries it:
--   `standings_text` (clauses `value` and `only`), `rows_text`, `players_text`, `pairings_text`, `bracket_text`, `players_csv`,
--     `results_csv`, `slip_json`: the bytes of the formats. A round that isn't stored has no text.
--   `read_slip`: the games, exactly if the bytes are a JSON object with the keys `a`, `b` and `d` and no other, each a whole number from 0
--     to 255.
--   `read_players_csv`, `read_results_csv`: the lines, exactly if each row keeps the rules; otherwise a faulty heading, or the first bad
--     row.
--   `digits`: the bytes as a text, exactly if all are digits.
--   `laws::players_read_back`, `results_read_back`: what is written of a sound event is read as its players or its matches, and as nothing
--     else.
--
-- Each but `digits` may be refused for memory. Which records a text has is the definition of the `csv` crate (`HasRecords`):
-- `without_mark` takes off one byte order mark, and the crate one more.
--
-- Wrong body that bears on the theorem: `lenient_slip`.
pub mod Column
pub mod Texts
pub mod Csv
pub mod Tables
pub mod Reading
pub mod ReadBack
pub mod Slip
pub mod inside
