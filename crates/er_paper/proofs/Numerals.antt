-- The digits of a number, the last one apart.
use Rattle.std.proofs.{lemmas.Grind.common_steps, Common.{◌≡◌, ℕ, ◌+◌, ◌/◌, ◌%◌, ◌^◌, ◌<◌, ◌≤◌, List, [], ◌∷◌, ◌++◌, length, arith}}
use Rattle.std.proofs.{Common.length-append, lemmas.Fmt.{decimal_step, length-decimal-le}}
use Rattle.std.specs.Fmt.{decimal}

pub front-shorter : (n : ℕ) → 10 ≤ n → n < 2 ^ 64 → length (decimal n) ≡ length (decimal (n / 10)) + 1
front-shorter n large small = grind (arith, common_steps, decimal_step, length-append)

pub one-more : (before middle after : List ℕ) (n : ℕ) → 10 ≤ n → n < 2 ^ 64 → middle ≡ before ++ decimal (n / 10)
    → after ≡ middle ++ (48 + n % 10) ∷ [] → after ≡ before ++ decimal n
one-more before middle after n large small first then = grind (arith, common_steps, decimal_step)

pub decimal_short : (n : ℕ) → n < 2 ^ 64 → length (decimal n) ≤ 20
decimal_short n small = length-decimal-le 20 n (omega arith) (omega arith) small
