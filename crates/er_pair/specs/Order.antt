-- The order in which the active players are paired, and the words that break its ties.
use Rattle.std.specs.Prelude.{◌≡◌, ℕ, ◌%◌, ◌<◌, ◌==◌, ◌||◌, ◌&&◌, nat_lt, Bool, not, IsTrue, if◌then◌else◌, List, [], ◌∷◌, ◌++◌, length}
use Rattle.std.specs.Prelude.{map, filter, count_by, slice_index, AllPairs, IsPermutation}
use Rattle.rand_chacha.specs.ChaCha.{word_at, key_of}
use Rattle.er_event.specs.Event.{EventValue}
use Rattle.er_event.specs.Totals.{totals}

-- the words of the key that a seed gives: word i of ChaCha20 under it (RFC 8439), stream 0, from place 0
abbrev pub seed_words : List ℕ → ℕ → ℕ
seed_words seed place = word_at 10 (key_of seed) 0 place

-- the list holds the first keys
abbrev pub AreKeys : List ℕ → (ℕ → ℕ) → Type 0
AreKeys list key = (place : ℕ) → place < length list → slice_index list place ≡ key place

abbrev pub active_numbers : EventValue → List ℕ
active_numbers event = map (λ p. p.no) (filter (λ p. not p.dropped) event.players)

-- where the player stands among the active ones by number, from 0
abbrev pub place_among : EventValue → ℕ → ℕ
place_among event player = count_by (λ q. nat_lt q player) (active_numbers event)

-- more match points, then the smaller key, then the smaller number; the i-th active player by number has key i
abbrev pub comes_before : EventValue → (ℕ → ℕ) → ℕ → ℕ → Bool
comes_before event key p q =
    let points : ℕ → ℕ = λ r. (totals event r).points in
    let own : ℕ → ℕ = λ r. key (place_among event r) in
    nat_lt (points q) (points p)
    || (points p == points q && (nat_lt (own p) (own q) || (own p == own q && nat_lt p q)))

-- the bye stands last if their count is odd
abbrev pub seats_of : List ℕ → List ℕ
seats_of players = if length players % 2 == 1 then players ++ 0 ∷ [] else players

pub record IsOrder (event : EventValue) (key : ℕ → ℕ) (order : List ℕ) : Type 0 where
  pub players : List ℕ
  pub everyone : IsPermutation (active_numbers event) players
  pub sorted : AllPairs (λ p q. IsTrue (comes_before event key p q)) players
  pub seated : order ≡ seats_of players
