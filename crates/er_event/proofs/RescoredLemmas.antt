-- The rounds of an event in which a match gets a score are those of the event after it.
use Rattle.er_event.proofs.Prelude.{open_match, Fits, score_table, match_with_score, scored_slot, with_score, EventValue, enumerate_from}
use Rattle.er_event.proofs.Prelude.{SetScore}
use Rattle.er_event.proofs.Prelude.{Match, Round, Games, IsSeatedOnce, rounds_with_score, All, List, Some, [], ap, arith, get_or, length}
use Rattle.er_event.proofs.Prelude.{map, sym}
use Rattle.er_event.proofs.Prelude.{ℕ, ◌-◌, ◌<◌, ◌∙◌, ◌≡◌, ◌≤◌, set, common_steps, get_or_from_slice_get, slice_get_within, slice_get}
use Rattle.er_event.proofs.{ScoreLemmas.{Found, found}, TableLemmas.{at-place, score-place}}
use Rattle.er_event.specs.inside.Seen.{RoundHasTable}

module _ (e : EventValue) (k t : ℕ) (s : Games) (fits : Fits e (SetScore k t s)) where
  it : Found e k t fits.named.0
  it = found e k t fits.named.0 fits.named.1

  place : (1 ≤ t) × (slice_get it.round.matches (t - 1) ≡ Some fits.named.0)
  place = at-place it.round.matches t fits.named.0 it.here fits.named.2

  pub has-table : RoundHasTable e.stored (k - 1) t
  has-table r there =
      let within = slice_get_within it.round.matches (t - 1) fits.named.0 place.1 in
      grind (arith, it.stored, place)

  -- the round's matches are written alike
  as-written : (ms : List Match) → slice_get ms (t - 1) ≡ Some fits.named.0
      → map (score_table t s) (enumerate_from 1 ms) ≡ set ms (t - 1) (match_with_score s fits.named.0)
      → scored_slot ms t s ≡ map (score_table t s) (enumerate_from 1 ms)
  as-written ms there written =
      ap (λ (m : Match). set ms (t - 1) (match_with_score s m)) (get_or_from_slice_get ms (t - 1) fits.named.0 (open_match 0 0) there)
      ∙ sym written

  pub as-scored : rounds_with_score e.stored (k - 1) t s ≡ (with_score e k t s).stored
  as-scored =
      let here = get_or_from_slice_get e.stored (k - 1) it.round (record { matches = [] }) it.stored in
      let alike = as-written it.round.matches place.1 (score-place s t it.round.matches fits.named.0 it.here fits.named.2) in
      grind (arith, here, alike)

  pub seated-after : All (λ (r : Round). IsSeatedOnce r.matches) (rounds_with_score e.stored (k - 1) t s)
  seated-after = grind (arith, common_steps, as-scored)

  pub table-within : (r : Round) → r ≡ get_or e.stored (k - 1) r → (1 ≤ t) × (t ≤ length r.matches)
  table-within r is = grind (arith, get_or_from_slice_get e.stored (k - 1) it.round r it.stored, has-table it.round it.stored)

  -- the round is there
  pub round-within : k - 1 < length e.stored
  round-within = slice_get_within e.stored (k - 1) it.round it.stored
