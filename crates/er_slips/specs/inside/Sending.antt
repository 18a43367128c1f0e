-- What went out.
use Rattle.std.specs.Prelude.{ℕ, List, Option, length, take, ◌≤◌}
use Rattle.std.specs.Io.KnownBytes.{Appends}
use Rattle.er_slips.specs.declared.serve.sending.SendEnd.{SendEnd}
use Rattle.er_slips.specs.declared.serve.sending.SendEnd.TheVariants.{All, Fault}

abbrev pub SendsBytes : Option (List ℕ) → Option (List ℕ) → List ℕ → SendEnd → Type 0
SendsBytes old new bytes All = Appends old new bytes
SendsBytes old new bytes (Fault n) = (n ≤ length bytes) × Appends old new (take n bytes)
