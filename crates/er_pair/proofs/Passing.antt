-- The positions of a run that pass a test.
use Rattle.std.proofs.Common.{◌≡◌, ℕ, zero, suc, ◌+◌, ◌<◌, ◌≤◌, Bool, true, false, List, [], ◌∷◌, ◌++◌, refl, ap, ◌∙◌, arith}
use Rattle.std.proofs.lemmas.List.Elements.{filter-append}
use Rattle.std.specs.{Prelude.filter, List.range_with_len}

-- those of the `k` positions from a on
abbrev pub passing : (ℕ → Bool) → ℕ → ℕ → List ℕ
passing test a k = filter test (range_with_len a k)

range-append : (a j k b n : ℕ) → b ≡ a + j → n ≡ j + k → range_with_len a n ≡ range_with_len a j ++ range_with_len b k
range-append a zero k b n is all =
    let here : b ≡ a = omega arith in
    let none : n ≡ k = omega arith in
    cc
range-append a (suc j) k b n is all =
    let one : n ≡ suc (j + k) = omega arith in
    rw one (ap (λ (l : List ℕ). a ∷ l) (range-append (a + 1) j k b (j + k) (omega arith) refl))

pub passing-append : (test : ℕ → Bool) (a j k b n : ℕ) → b ≡ a + j → n ≡ j + k → passing test a n ≡ passing test a j ++ passing test b k
passing-append test a j k b n is all =
    ap (filter test) (range-append a j k b n is all) ∙ filter-append test (range_with_len a j) (range_with_len b k)

pub passing-same : (one two : ℕ → Bool) (a k : ℕ) → ((p : ℕ) → a ≤ p → p < a + k → one p ≡ two p) → passing one a k ≡ passing two a k
passing-same one two a zero same = refl
passing-same one two a (suc k) same =
    let here = same a (omega arith) (omega arith) in
    let rest = passing-same one two (a + 1) k (λ p low high. same p (omega arith) (omega arith)) in
    cc

pub passing-none : (test : ℕ → Bool) (a k : ℕ) → ((p : ℕ) → a ≤ p → p < a + k → test p ≡ false) → passing test a k ≡ []
passing-none test a zero none = refl
passing-none test a (suc k) none =
    rw (none a (omega arith) (omega arith)) (passing-none test (a + 1) k (λ p low high. none p (omega arith) (omega arith)))

pub passing-all : (test : ℕ → Bool) (a k : ℕ) → ((p : ℕ) → test p ≡ true) → passing test a k ≡ range_with_len a k
passing-all test a zero all = refl
passing-all test a (suc k) all = rw (all a) (ap (λ (l : List ℕ). a ∷ l) (passing-all test (a + 1) k all))
