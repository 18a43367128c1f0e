-- The first rounds of an event's are an event's too.
use Rattle.er_event.proofs.Prelude.{is_complete, is_same_pairing, matches_of, AreRounds, IsPlayoff, IsRound, Phase, Enrolling, Swiss, Match}
use Rattle.er_event.proofs.Prelude.{Round, MayFollow, All, AllPairs, IsFalse, IsTrue, List, [], ap, arith, drop, get_or, length, subst, sym}
use Rattle.er_event.proofs.Prelude.{take, ℕ, ◌++◌, ◌+◌, ◌-◌, ◌<◌, ◌∙◌, ◌∷◌, ◌≡◌, ◌≤◌, common_steps, All-take}
use Rattle.std.proofs.{lemmas.List.Concat.flat_map-append, lemmas.List.{length-take, take-append-drop, take-take}}
use Rattle.er_event.proofs.{AddLemmas.{may_follow, one_more}, Pairs.pairs_left}

abbrev Differ : Match → Match → Type 0
Differ m n = IsFalse (is_same_pairing m n)

not_over : IsPlayoff Swiss → ⊥
not_over over = grind arith

pub no_rounds : (known : List ℕ) → AreRounds Swiss 0 known []
no_rounds known = grind (arith, common_steps)

module _ (phase : Phase) (limit : ℕ) (known : List ℕ) (rounds : List Round) (h : AreRounds phase limit known rounds) where
  pub first_rounds : (i : ℕ) → i ≤ length rounds → AreRounds Swiss i known (take i rounds)
  first_rounds i within =
      let len = length-take i rounds in
      let split : matches_of rounds ≡ matches_of (take i rounds) ++ matches_of (drop i rounds) =
      ap matches_of (sym (take-append-drop i rounds)) ∙ flat_map-append (λ (r : Round). r.matches) (take i rounds) (drop i rounds) in
      let before : take (length (take i rounds) - 1) (take i rounds) ≡ take (length (take i rounds) - 1) (take (length rounds - 1) rounds) =
      take-take (length (take i rounds) - 1) i rounds (omega arith)
      ∙ sym (take-take (length (take i rounds) - 1) (length rounds - 1) rounds (omega arith)) in
      record {
        few = omega arith;
        enrolling = λ is. absurd (let never : Swiss ≡ Enrolling = is in cc);
        each = All-take (λ (r : Round). IsRound known r.matches) i rounds h.each;
        no_repeats =
            pairs_left Differ (matches_of (take i rounds)) (matches_of (drop i rounds)) (subst (AllPairs Differ) split h.no_repeats);
        earlier_done = subst (All (λ (r : Round). IsTrue (is_complete r.matches))) (sym before)
            (All-take (λ (r : Round). IsTrue (is_complete r.matches)) (length (take i rounds) - 1) (take (length rounds - 1) rounds)
            h.earlier_done);
        done = λ over. absurd (not_over over);
      }

  -- so the next round may follow
  pub next_follows : (i : ℕ) (r : Round) → i < length rounds → r ≡ get_or rounds i r → MayFollow known (take i rounds) r.matches
  next_follows i r below is =
      let more : take (i + 1) rounds ≡ take i rounds ++ r ∷ [] = grind (arith, common_steps) in
      may_follow known (take i rounds) r.matches Swiss (i + 1) (rw more at (first_rounds (i + 1) (omega arith)))

-- and one round more may be the rounds up to there
pub next_rounds : (known : List ℕ) (rounds : List Round) (i : ℕ) (r : Round) → i < length rounds → r ≡ get_or rounds i r
    → AreRounds Swiss i known (take i rounds) → MayFollow known (take i rounds) r.matches
    → AreRounds Swiss (i + 1) known (take (i + 1) rounds)
next_rounds known rounds i r below is before follows =
    let len = length-take i rounds in
    let more : take (i + 1) rounds ≡ take i rounds ++ r ∷ [] = grind (arith, common_steps) in
    rw more (one_more known (take i rounds) r.matches i (i + 1) before (omega arith) follows)
