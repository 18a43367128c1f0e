-- What a read gives.
use Rattle.std.specs.Prelude.{ℕ, ◌<◌, ◌≤◌, List, Option, length, take}
use Rattle.std.specs.Io.KnownBytes.{Consumes, IsAtEnd}

-- the first `count` bytes of the buffer came from the reader. If they do not fill it, the input has ended.
pub record Fills (old new : Option (List ℕ)) (buf : List ℕ) (count : ℕ) : Type 0 where
  pub within : count ≤ length buf
  pub came : Consumes old new (take count buf)
  pub ended : count < length buf → IsAtEnd new
