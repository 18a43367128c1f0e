-- The bytes that were read, against the whole input.
use Rattle.std.proofs.Common.{◌≡◌, ℕ, ◌+◌, ◌-◌, ◌<◌, List, ◌++◌, take, drop, length, Option, Some, None, IfSome, sym, ap, ◌∙◌, arith}
use Rattle.std.proofs.{Common.{append-nil, length-append, slice_range}, Math.Seq.take-add}
use Rattle.std.specs.Io.KnownBytes.{Consumes, IsAtEnd}

-- one read more
pub grown : (old new : List ℕ) (filled count : ℕ) → take filled new ≡ take filled old
    → take filled old ++ slice_range new filled (filled + count) ≡ take (filled + count) new
grown old new filled count kept =
    let e : filled + count - filled ≡ count = omega arith in
    ap (λ k. take filled old ++ take k (drop filled new)) e ∙ ap (λ t. t ++ take count (drop filled new)) (sym kept)
    ∙ sym (take-add filled count new)

-- what was read to the end is the whole
pub all_read : (old new : Option (List ℕ)) (bytes : List ℕ) → Consumes old new bytes → IsAtEnd new → IfSome old (λ all. bytes ≡ all)
all_read None new bytes came end = tt
all_read (Some xs) None bytes came end = absurd came
all_read (Some xs) (Some ys) bytes came end = sym (came ∙ (ap (λ rest. bytes ++ rest) end ∙ append-nil bytes))

-- and the whole is as long as what was read
pub long_read : (old new : Option (List ℕ)) (bytes : List ℕ) (n : ℕ) → Consumes old new bytes → n < length bytes
    → IfSome old (λ all. n < length all)
long_read None new bytes n came long = tt
long_read (Some xs) None bytes n came long = absurd came
long_read (Some xs) (Some ys) bytes n came long =
    let whole = ap length came in omega (arith, whole, length-append bytes ys)
