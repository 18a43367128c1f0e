-- How the parser of words splits them.
use Rattle.std.specs.Prelude.{true, List, [], Some, unwrap_or, codes}
use Rattle.clap.specs.Walk.{all_of}
use Rattle.clap.specs.Words.{App, Row, Rule, Shape, Text, new_app, new_rule, with_rule, with_subcommand}
use Rattle.clap.specs.Lexer.{usize_max}

-- any number of words
abbrev pub words_rule : Rule
words_rule = record (new_rule (codes "words")) { range = Some (record { start_inclusive = 0; end_inclusive = usize_max }) }

-- a subcommand, as the parser knows it
abbrev pub leaf : Text → Shape
leaf name = (with_rule (new_app name) words_rule).top

abbrev pub bare : App
bare = record (new_app (codes "event_reporter")) {
  top = record (new_app (codes "event_reporter")).top { no_binary_name = true; disable_help_flag = true; disable_help_subcommand = true };
}

-- the program, as the parser knows it, with this one subcommand
abbrev pub program : Text → App
program name = with_subcommand bare (leaf name)

-- the words that the parser found after a subcommand's name
abbrev pub words_in : List Row → List Text
words_in rows = unwrap_or (all_of (codes "words") rows) []
