-- Who has met whom, by the places that are kept.
use Rattle.std.proofs.{lemmas.Grind.common_steps, Common.{◌≡◌, inl, inr, ℕ, zero, suc, ◌+◌, ◌==◌, ◌&&◌, nat_lt, not, Bool}}
use Rattle.std.proofs.{Common.{List, [], length, filter, arith}, lemmas.Bool.{cases_lt, Decides.nat_tests}, lemmas.List.get_or-map}
use Rattle.std.proofs.lemmas.List.{get_or_past, length-map}
use Rattle.std.specs.List.{list_any, range_with_len}
use Rattle.er_pair.specs.{declared.places.Places.Places, inside.Places.{has_place, row_at}}
use Rattle.er_pair.specs.{Met.has_met, inside.Opponents.{numbers_below, opponents_in}}

in_range : (test : ℕ → Bool) (q a n : ℕ) → list_any (λ p. p == q) (filter test (range_with_len a n))
    ≡ (not (nat_lt q a) && nat_lt q (a + n) && test q)
in_range test q a zero = grind (arith, nat_tests)
in_range test q a (suc n) = let more = in_range test q (a + 1) n in grind (arith, common_steps, nat_tests)

in_numbers : (count : ℕ) (places : Places) (q : ℕ)
    → list_any (λ p. p == q) (numbers_below count places) ≡ (nat_lt q count && has_place places q)
unfolding numbers_below
in_numbers count places q = let is = in_range (has_place places) q 0 count in grind (arith, nat_tests)

pub met_by_place : (rows : List Places) (p q : ℕ)
    → has_met (opponents_in rows) p q ≡ (nat_lt p (length rows) && nat_lt q (length rows) && has_place (row_at rows p) q)
met_by_place rows p q =
    let own = in_numbers (length rows) (row_at rows p) q in
    elim (cases_lt p (length rows)) [
      | inl small ↦
          let at = get_or-map (numbers_below (length rows)) rows p (record { words = [] }) [] small in
          grind (arith, common_steps, nat_tests)
      | inr past ↦
          let at = get_or_past (opponents_in rows) p [] (omega (arith, length-map rows (numbers_below (length rows)))) in
          grind (arith, common_steps, nat_tests)
    ]
