-- Sets of places, as bits.
use Rattle.std.specs.Prelude.{◌≡◌, ℕ, ◌<◌, ◌/◌, ◌%◌, ◌==◌, ◌||◌, ◌&&◌, nat_lt, if◌then◌else◌, Bool, not, List, [], slice_index}
use Rattle.std.specs.Prelude.{slice_index_or}
use Rattle.std.specs.Int.{bit_at}
use Rattle.std.specs.Slice.Scan.{HoldsNowhere, IsFirstPlace}
use Rattle.er_pair.specs.declared.places.Cursor.{Cursor}
use Rattle.er_pair.specs.declared.places.Places.{Places}

abbrev pub is_set : ℕ → ℕ → Bool
is_set word bit = bit_at word bit == 1

-- whether the place is in the set: each word has 64 of them, from its lowest bit on
unfoldable pub has_place : Places → ℕ → Bool
has_place places place = is_set (slice_index places.words (place / 64)) (place % 64)

abbrev pub in_neither : Places → Places → ℕ → Bool
in_neither one other place = not (has_place one place || has_place other place)

-- the place is ahead of one in this word: one of its bits that are left, or in a later word a place that neither set has
unfoldable pub is_ahead : Places → Places → ℕ → ℕ → ℕ → Bool
is_ahead one other word left place =
    if place / 64 == word then is_set left (place % 64) else (nat_lt word (place / 64) && in_neither one other place)

-- a place that is ahead of a cursor
abbrev pub ahead_of : Places → Places → Cursor → ℕ → Bool
ahead_of one other cursor = is_ahead one other cursor.index cursor.left

-- no place before the end is ahead
abbrev pub IsNoneAhead : Places → Places → Cursor → ℕ → Type 0
IsNoneAhead one other cursor end = HoldsNowhere (ahead_of one other cursor) 0 end

-- the first place that is ahead and before the end, and the cursor after it
abbrev pub IsNext : Places → Places → Cursor → Cursor → ℕ → ℕ → Type 0
IsNext one other cursor behind end place =
    (place < end) × IsFirstPlace (ahead_of one other cursor) 0 end place
    × ((p : ℕ) → ahead_of one other behind p ≡ (ahead_of one other cursor p && not (p == place)))

-- it is this place, in another word
abbrev pub is_later : ℕ → ℕ → ℕ → Bool
is_later word place other = other == place && not (place / 64 == word)

-- a row of the list, and one without a place beyond its end
abbrev pub row_at : List Places → ℕ → Places
row_at rows at = slice_index_or rows at (record { words = [] })
