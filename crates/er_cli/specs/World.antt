-- What a command line finds where it runs, as far as it is known.
use Rattle.std.specs.Prelude.{◌≡◌, ℕ, Bool, true, false, List, Option, None, Some, Result, Ok, Err}
use Rattle.sqlite_wal.specs.Recovery.{Image}
use Rattle.er_cli.specs.Logs.{Lengths}

pub record World : Type 0 where
  -- what the two files at a path hold, as an opening finds them
  pub image : List ℕ → Image
  -- whether a file is there, if that is known
  pub is_there : List ℕ → Option Bool
  -- the files beside that of an event
  pub lengths : Lengths
  -- what a list at a path holds, and what the clients of a port will send, if that is known
  pub list : List ℕ → Option (List ℕ)
  pub coming : ℕ → Option (List (List ℕ))

-- at each path the same, and nothing else is known
abbrev pub untold : Image → World
untold image = record { image = λ path. image; is_there = λ path. None; lengths = None; list = λ path. None; coming = λ port. None }

-- An opening doesn't change lists and clients.
pub record KeepsListsAndClients (old new : World) : Type 0 where
  pub list : new.list ≡ old.list
  pub coming : new.coming ≡ old.coming

-- whether an opening gives files back, open or not
abbrev pub gives_files : {A E L : Type 0} → Result A (E × Option L) → Bool
gives_files (Ok conn) = true
gives_files (Err (error, None)) = false
gives_files (Err (error, Some left)) = true
