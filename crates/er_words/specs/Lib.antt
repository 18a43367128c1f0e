-- What er_words promises: words are read as the one line that they mean, or a fault of theirs is named.
--
-- Values is what a word is: a number, a seed, a list, a score. Kinds is what words have to be, Faults what is at fault in words that have to be
-- of kinds, and Taken how they are taken one after the other. Line has the subcommands, each with its name, the kinds of its words and its line,
-- and is what words mean; Fields is what a line of a script is, and Usage what is at fault in words that aren't a line.
--
-- What only private functions cite lies in `inside`.
--
-- Which contract carries it:
--   `read_words`, `read_line`: just what the words mean, or `Usage` with the first fault, exactly if they mean nothing. Words of which one
--     begins with `-` mean nothing.
--   `text`, `small_number`, `number`, `seed`, `count`, `list_kind`, `score`, `end`: a word as what it is, or that there is none, a wrong
--     one, or one too many.
--   `name_of`: any word, to the byte.
--
-- `read_words`, `read_line` and `name_of` may be refused for memory, and no other. Whether a name or a score is lawful is no
-- matter of words: er_event and er_rules say it.
--
-- Wrong body that bears on the theorem: `swapped_words`.
pub mod Values
pub mod Kinds
pub mod Faults
pub mod Taken
pub mod Line
pub mod Fields
pub mod Usage
pub mod inside
