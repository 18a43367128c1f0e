-- The parts of a complaint.
use Rattle.std.specs.Prelude.{ℕ, List, ◌++◌, slice_get, unwrap_or}
use Rattle.er_cli.specs.declared.complaints.TheConstants.{TRY_HELP}
use Rattle.er_words.specs.declared.usage.UsageFault.{UsageFault}
use Rattle.er_cli.specs.Complaints.{complaint_head, place_of, what_is_wrong}
use Rattle.er_cli.specs.Help.{subcommand_text}

-- how the subcommand of this name is called, or where to look
abbrev pub advice : List ℕ → List ℕ
advice name = unwrap_or (subcommand_text name) TRY_HELP.now

abbrev pub complaint_with : List (List ℕ) → UsageFault → List ℕ → List ℕ
complaint_with words fault advice = (complaint_head (slice_get words (place_of fault)) ++ what_is_wrong fault) ++ advice
