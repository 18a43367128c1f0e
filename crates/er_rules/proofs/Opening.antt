-- The first stage of the seeds of a cut, and the rounds that are done before it.
use Rattle.std.proofs.{lemmas.Grind.common_steps, Common.{◌≡◌, ◌⊎◌, ℕ, ◌<◌, ◌/◌, ◌==◌, ◌||◌, true, List, [], ◌∷◌, length, flat_map}}
use Rattle.std.proofs.Common.{IsPermutation, refl, arith, lit<}
use Rattle.er_event.specs.{Event.EventValue, Round.seats, Sound.AllRoundsDone}
use Rattle.er_bracket.specs.Seeds.{first_stage}
use Rattle.er_rules.specs.Commands.{all_rounds_done}

abbrev pub IsCut : ℕ → Type 0
IsCut n = (n ≡ 2) ⊎ (n ≡ 4) ⊎ (n ≡ 8)

-- a cut that is played
pub is_cut : (cut : ℕ) → (cut == 0 || cut == 2 || cut == 4 || cut == 8) ≡ true → 0 < cut → IsCut cut
is_cut cut h low = grind (arith, common_steps)

-- the players of the slots, in turn
abbrev pub seated : List ℕ → List ℕ
seated seeds = flat_map seats (first_stage seeds)

pub record Opens (seeds : List ℕ) : Type 0 where
  pub slots : length (first_stage seeds) ≡ length seeds / 2
  pub same : IsPermutation seeds (seated seeds)

pub opens : (seeds : List ℕ) → IsCut (length seeds) → Opens seeds
opens (a ∷ b ∷ []) is = record { slots = refl; same = record { moves = []; below = tt; is = refl } }
opens (a ∷ b ∷ c ∷ d ∷ []) is = record {
  slots = refl;
  same = record { moves = (2, 3) ∷ (1, 3) ∷ []; below = (lit< tt, lit< tt, (lit< tt, lit< tt, tt)); is = refl };
}
opens (a ∷ b ∷ c ∷ d ∷ e ∷ f ∷ g ∷ h ∷ []) is =
    record {
      slots = refl;
      same = record {
        moves = (6, 7) ∷ (5, 6) ∷ (4, 7) ∷ (3, 4) ∷ (2, 3) ∷ (1, 7) ∷ [];
        below = (
          lit< tt,
          lit< tt,
          (lit< tt, lit< tt, (lit< tt, lit< tt, (lit< tt, lit< tt, (lit< tt, lit< tt, (lit< tt, lit< tt, tt))))),
        );
        is = refl;
      };
    }
opens other is = absurd (grind (arith, is))

-- ---- all rounds are done

pub rounds_done : (e : EventValue) → all_rounds_done e ≡ true → AllRoundsDone e
rounds_done e h = grind (arith, common_steps)
