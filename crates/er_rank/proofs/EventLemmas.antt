-- The tallies and the meetings of a sound event keep the limits.
use Rattle.std.proofs.{lemmas.Grind.common_steps, Common.{◌≡◌, ℕ, ◌*◌, ◌≤◌, min, max, suc, List, [], ◌∷◌, map, filter, length}}
use Rattle.std.proofs.{Common.{sum_by, get_or, All, refl, sym, ap, ◌∙◌, arith}, lemmas.Bool.not-true, lemmas.List.length-map}
use Rattle.std.proofs.{lemmas.List.Elements.{All-map, All-filter, filter_passes}, lemmas.List.Sums.{sum_by-cons}}
use Rattle.std.specs.List.{range_with_len}
use Rattle.er_event.specs.{declared.tallies.Meeting.Meeting, declared.tallies.Tally.Tally, Event.EventValue}
use Rattle.er_event.specs.{Results.{RoundResult, results_of}, Round.is_bye, Sound.IsSoundButForSeeds}
use Rattle.er_event.specs.{Tallies.{tally_by, tallies}}
use Rattle.er_event.specs.{Tallies.{complete_matches, meeting_by, meetings}, Totals.points_of}
use Rattle.er_event.specs.Totals.{game_points_of, games_of, totals}
use Rattle.er_rank.specs.{declared.lists.TheConstants.MAX_GAMES_OF_MATCH, Meeting.{encounters, tally_totals, IsRecord, AreTallies}}
use Rattle.er_rank.specs.{Meeting.{AreEncounters, IsKnownTo, AreListsOf, AreLists}, Standings.opponents}
use Rattle.er_rank.proofs.{MeetingLemmas.{is_met, opponents-met, lawful-matches, known-counted}, MeritLemmas.opponents-few}
use Rattle.er_rank.proofs.{OpponentLemmas.met-count, SoundLemmas.{AreWithin-sound, first_numbers, seats_known}, StandingLemmas.map-map}
use Rattle.er_rank.proofs.StandingLemmas.{map-agree, totals_of-known}

points-low : (r : RoundResult) → points_of r ≤ 3
points-low r = grind (arith, common_steps)

game_points-low : (r : RoundResult) → game_points_of r ≤ 3 * games_of r
game_points-low r = omega arith

-- what short results come to
record AreShort (own : List RoundResult) : Type 0 where
  points : sum_by points_of own ≤ 3 * length own
  games : sum_by games_of own ≤ MAX_GAMES_OF_MATCH * length own
  game_points : sum_by game_points_of own ≤ 3 * sum_by games_of own

short-results : (own : List RoundResult) → All (λ (r : RoundResult). games_of r ≤ MAX_GAMES_OF_MATCH) own → AreShort own
short-results [] short = record { points = omega arith; games = omega arith; game_points = omega arith }
short-results (r ∷ own) short =
    let rest = short-results own (λ k d below. short (suc k) d (omega arith)) in
    let games = sum_by-cons games_of r own in
    record {
      points = omega (arith, sum_by-cons points_of r own, points-low r, rest.points);
      games = omega (arith, games, short 0 r (omega arith), rest.games);
      game_points = omega (arith, sum_by-cons game_points_of r own, games, game_points-low r, rest.game_points);
    }

module _ (e : EventValue) (sound : IsSoundButForSeeds e) where
  totals-record : (player : ℕ) → IsRecord (totals e player)
  totals-record player =
      let within = AreWithin-sound e sound player in
      let short = short-results (results_of e player) within.short in
      record {
        rounds = within.few;
        points = omega (arith, short.points);
        games = omega (arith, short.games);
        game_points = short.game_points;
      }

  pub AreTallies-event : AreTallies (tallies e)
  AreTallies-event =
      let count : length (tallies e) ≡ length e.players = length-map e.players (tally_by (totals e)) in
      record {
        few = omega (arith, count, sound.players.few);
        numbered = map-map (λ (t : Tally). t.no) (tally_by (totals e)) e.players
            ∙ (sound.players.numbered ∙ ap (range_with_len 1) (sym count));
        records = All-map (λ (t : Tally). IsRecord t.totals) (tally_by (totals e)) e.players (λ k d below. totals-record _);
      }

  AreEncounters-event : AreEncounters (length (tallies e)) (encounters (meetings e))
  AreEncounters-event =
      let players = length e.players in
      let known = known-counted players e.stored (seats_known e sound) in
      let lawful = lawful-matches players (totals e) (complete_matches e.stored) totals-record known in
      rw (length-map e.players (tally_by (totals e))) (record {
        known = λ k d below. (lawful k d below).known;
        few = λ player.
            let met = ap length (opponents-met e player (first_numbers e sound)) in
            let count = length-map (opponents e player) (totals e) in
            omega (arith, met-count (encounters (meetings e)) player, opponents-few e player (AreWithin-sound e sound player));
        records = λ k d below. (lawful k d below).recorded;
      })

  -- the meetings that the code makes of the tallies
  pub meetings-known : map (meeting_by (tally_totals (tallies e))) (filter is_met (complete_matches e.stored)) ≡ meetings e
  meetings-known =
      let all = complete_matches e.stored in
      let known = All-filter is_met (IsKnownTo (length e.players)) all (known-counted (length e.players) e.stored (seats_known e sound)) in
      map-agree (meeting_by (tally_totals (tallies e))) (meeting_by (totals e)) (filter is_met all) (λ k d below.
      let m = get_or (filter is_met all) k d in
      let both = known k d below (not-true (is_bye m) (filter_passes is_met all k d below)) in
      let lo = totals_of-known e sound (min m.a m.b) (omega (arith, both), omega (arith, both)) in
      let hi = totals_of-known e sound (max m.a m.b) (omega (arith, both), omega (arith, both)) in
      rw (lo, hi) refl)

pub AreLists-event : (e : EventValue) (list : List Tally) (met : List Meeting) → AreListsOf e list met → AreLists list met
AreLists-event e list met are = record {
  tallies = rw are.tallies (AreTallies-event e are.sound);
  encounters = rw (are.tallies, are.meetings) (AreEncounters-event e are.sound);
}
