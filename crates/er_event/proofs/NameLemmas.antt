-- When bytes are a lawful name, by the tests of its parts.
use Rattle.er_event.proofs.Prelude.{is_lawful_name, IsTrue, List, MatchResult, Result, ap, arith, drop, false, length, refl, sym, take}
use Rattle.er_event.proofs.Prelude.{true, true≢false, ℕ, ◌++◌, ◌-◌, ◌<◌, ◌==◌, ◌||◌, ◌∙◌, ◌≡◌, ◌≤◌, nat_tests, common_steps, list_all}
use Rattle.er_event.proofs.Prelude.{IsUtf8}
use Rattle.std.proofs.{Common.{Err, Ok, IsOk, replicate, slice_index_or}, lemmas.List.drop-replicate, lemmas.Str.IsUtf8-from_is_utf8}
use Rattle.std.proofs.lemmas.Str.{is_utf8-from_IsUtf8}
use Rattle.er_event.specs.Name.{is_plain_byte, name_with_zeros}

pub is_lawful_name-parts : (bs : List ℕ) → 0 < length bs → length bs ≤ 60 → IsUtf8 bs → list_all is_plain_byte bs ≡ true
    → (slice_index_or bs 0 0 == 32 || slice_index_or bs (length bs - 1) 0 == 32) ≡ false → IsTrue (is_lawful_name bs)
is_lawful_name-parts bs some few utf8 plain spaced = grind (arith, common_steps, is_utf8-from_IsUtf8, nat_tests)

pub is_lawful_name-utf8 : (bs : List ℕ) → IsTrue (is_lawful_name bs) → IsUtf8 bs
is_lawful_name-utf8 bs h = IsUtf8-from_is_utf8 bs (grind (arith, nat_tests))

-- a call that tells whether bytes are text
pub is_ok-when : {A E : Type 0} (P : A → Type 0) (Q : E → Type 0) (U : Type 0) (r : Result A E)
    → MatchResult r (λ s. P s × U) (λ e. (U → ⊥) × Q e) → (IsOk r → U) × (U → IsOk r)
is_ok-when P Q U (Ok s) h = (λ _. h.1, λ _. refl)
is_ok-when P Q U (Err e) h = (λ ok. absurd (true≢false (sym ok)), λ u. absurd (h.0 u))

-- if a lawful name is put in the first places of zeros, they are the name with zeros after it
pub IsStored-name : (name copied : List ℕ) → copied ≡ name → IsTrue (is_lawful_name name)
    → let bytes = copied ++ drop (length name) (replicate 60 0) in
    (bytes ≡ name_with_zeros (take (length name) bytes)) × (length (take (length name) bytes) ≡ length name)
    × IsTrue (is_lawful_name (take (length name) bytes))
IsStored-name name copied same lawful =
    let zeros = drop (length name) (replicate 60 0) in
    let first : take (length name) (copied ++ zeros) ≡ name = grind (arith, common_steps) in
    let behind : copied ++ zeros ≡ name_with_zeros name = rw same (ap (λ zs. name ++ zs) (drop-replicate (length name) 60 0)) in
    (behind ∙ ap name_with_zeros (sym first), ap length first, rw first lawful)
