-- A writer between two records.
use Rattle.std.specs.Prelude.{◌≡◌, ◌++◌, false, Vec, ℕ, List}
use Rattle.std.specs.Global.{Global}
use Rattle.csv.specs.Writing.{default_writer, fields_written, has_written, writer_pending, writer_setup, writer_under}
use Rattle.csv.specs.declared.Writer.{Writer}

-- what a writer of a list has written
abbrev pub written_bytes : Writer (Vec ℕ Global) → List ℕ
written_bytes w = (writer_under w).items ++ writer_pending w

-- a writer with the defaults, between two records
abbrev pub IsPlainWriter : Writer (Vec ℕ Global) → Type 0
IsPlainWriter w = (writer_setup w ≡ default_writer) × (fields_written w ≡ 0) × (has_written w ≡ false)
