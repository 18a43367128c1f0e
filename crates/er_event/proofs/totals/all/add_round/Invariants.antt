use Rattle.er_event.proofs.Prelude.{results_of_match, totals_of, Match, AreOver, All, List, [], flat_map, get_or, length}
use Rattle.er_event.proofs.Prelude.{option_map, ℕ, ◌+◌, ◌<◌, ◌≡◌, ◌≤◌}
use Rattle.er_event.specs.{Totals.plus, inside.Played.IsRescored}
use Rattle.er_event.proofs.totals.all.add_round.Given as goal

abbrev pub invariant-loop-number : goal.invariant-loop-number
invariant-loop-number l = record {
  value : (player : ℕ) → 0 < player → player < l.number → (matches : List Match) → IsRescored l.seats (option_map (λ m. m.now) l.new)
      matches
      → (round : ℕ) → get_or l.played player (totals_of [])
      ≡ plus (get_or l.fn.played player (totals_of [])) (totals_of (flat_map (results_of_match player round) matches));
  over : (rounds : ℕ) → All (AreOver rounds) l.fn.played → (player : ℕ) → player < l.number
      → AreOver (rounds + 1) (get_or l.played player (totals_of []));
  long : length l.played ≡ 513;
  long_before : length l.fn.played ≡ 513;
  rest : (player : ℕ) → l.number ≤ player → get_or l.played player (totals_of []) ≡ get_or l.fn.played player (totals_of []);
}
