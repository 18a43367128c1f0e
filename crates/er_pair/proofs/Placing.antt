-- The active players by number, with their keys.
use Rattle.std.proofs.{lemmas.Grind.common_steps, Common.{◌≡◌, ℕ, ◌+◌, ◌<◌, false, not, List, [], ◌∷◌, ◌++◌, length, take, map, filter}}
use Rattle.std.proofs.{Common.{get_or, refl, ◌∙◌, arith, not-suc-le-zero, length-append}, lemmas.List.length-map}
use Rattle.std.proofs.lemmas.List.Sums.{length-filter, sum_by_more_le}
use Rattle.er_event.specs.{declared.players.Player.Player, Event.EventValue, Totals.totals}
use Rattle.er_pair.specs.{declared.entrants.Entrant.Entrant, inside.Entrant.{entrant_of, entrants_of}}

abbrev pub active_in : List Player → List ℕ
active_in players = map (λ p. p.no) (filter (λ p. not p.dropped) players)

module _ (players : List Player) (i : ℕ) (p : Player) (below : i < length players) (is : p ≡ get_or players i p)
    (active : p.dropped ≡ false) where
  pub active_more : active_in (take (i + 1) players) ≡ active_in (take i players) ++ p.no ∷ []
  active_more = grind (arith, common_steps)

  pub active_below : length (active_in (take i players)) < length (active_in players)
  active_below = grind (arith, common_steps, length-filter, length-map, sum_by_more_le)

pub placed-push : (event : EventValue) (ns keys : List ℕ) (n : ℕ) → length ns < length keys
    → entrants_of event (ns ++ n ∷ []) keys ≡ entrants_of event ns keys ++ entrant_of event n (get_or keys (length ns) 0) ∷ []
placed-push event [] [] n below = absurd (not-suc-le-zero below)
placed-push event [] (key ∷ keys) n below = refl
placed-push event (m ∷ ns) [] n below = absurd (not-suc-le-zero below)
placed-push event (m ∷ ns) (key ∷ keys) n below = grind (arith, common_steps, placed-push event ns keys n (omega arith))

-- the next active player goes to the end
pub placed_more : (event : EventValue) (players : List Player) (keys : List ℕ) (i : ℕ) (p : Player) (places new : List Entrant)
    (number points len : ℕ) → i < length players → p ≡ get_or players i p → p.dropped ≡ false → number ≡ p.no
    → points ≡ (totals event p.no).points → places ≡ entrants_of event (active_in (take i players)) keys
    → length places ≡ length (active_in (take i players)) → len ≡ length places → len < length keys
    → new ≡ places ++ record { points = record { 0 = points }; key = get_or keys len 0; number = number } ∷ []
    → (new ≡ entrants_of event (active_in (take (i + 1) players)) keys) × (length new ≡ length (active_in (take (i + 1) players)))
placed_more event players keys i p places new number points len below is active numbered pointed value count len_is room pushed =
    let before = active_in (take i players) in
    let more = active_more players i p below is active in
    let at : len ≡ length before = len_is ∙ count in
    let push = placed-push event before keys p.no (omega arith) in
    (rw more (cc), rw (pushed, more) (omega (arith, length-append {A = Entrant}, length-append {A = ℕ})))
