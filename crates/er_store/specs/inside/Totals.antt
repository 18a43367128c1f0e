-- What the rows of totals are while a change is written, player by player.
use Rattle.std.specs.Prelude.{ℕ, ◌==◌, nat_le, if◌then◌else◌}
use Rattle.er_event.specs.declared.totals.Totals.{Totals}

-- one player's are set, and the others stay
abbrev pub set_for : ℕ → Totals → (ℕ → Totals) → ℕ → Totals
set_for player now before q = if q == player then now else before q

-- those of the first players are set
abbrev pub set_up_to : ℕ → (ℕ → Totals) → (ℕ → Totals) → ℕ → Totals
set_up_to count now before q = if nat_le q count then now q else before q
