-- The events of rows, while the rows are read.
use Rattle.er_event.proofs.Prelude.{EventValue, IsEventRow, IsFirstFault, IsOf, bracket_rows_from, keyed_rows_from, player_row, ArePlayers}
use Rattle.er_event.proofs.Prelude.{All, HasMissed, subst, AreRounds, AreStages, IsSoundButForSeeds, numbers, Match, Player, Round, Setup}
use Rattle.er_event.proofs.Prelude.{IsSetUpAs, List, [], ap}
use Rattle.er_event.proofs.Prelude.{arith, length, map, refl, sym, ℕ, ◌∙◌, ◌≡◌, common_steps, range_with_len}
use Rattle.er_event.proofs.PartsLemmas.{players-same}
use Rattle.er_event.specs.{Parts.{HasAllRows, HasPlayerRows, HasRoundRows}, Version.KeepsPlayers, declared.events.parts.Parts.Parts}
use Rattle.er_event.specs.declared.refusals.Place.TheVariants.{BracketTable, PairingTable, PlayerTable}

abbrev pub event_of : Setup → List Player → List Round → List (List Match) → EventValue
event_of s players rounds stages = record {
  name = s.name;
  rounds = s.rounds;
  cut = s.cut;
  phase = s.phase;
  players = players;
  stored = rounds;
  bracket = record { stages = stages };
}

-- ---- the event's row is read

module _ (parts : Parts) (s : Setup) (set : (e : EventValue) → IsSetUpAs s e → IsEventRow parts.event e)
    (of_version : (e : EventValue) (row : IsEventRow parts.event e) → row.version ≡ s.version) where
  module _ (players : List Player) (rounds : List Round) (stages : List (List Match)) where
    pub row_there : IsEventRow parts.event (event_of s players rounds stages)
    row_there = set (event_of s players rounds stages) (record { name = refl; rounds = refl; cut = refl; phase = refl })

  as_set : (e : EventValue) → IsEventRow parts.event e → IsSetUpAs s e
  as_set e row = let f = event_of s [] [] [] in let other = row_there [] [] [] in grind arith

  kept_as : (e : EventValue) (row : IsEventRow parts.event e) (players : List Player) → KeepsPlayers row.version players
      → KeepsPlayers s.version players
  kept_as e row players keeps = subst (λ v. KeepsPlayers v players) (of_version e row) keeps

  kept_in : (e : EventValue) (row : IsEventRow parts.event e) (players : List Player) → KeepsPlayers s.version players
      → KeepsPlayers row.version players
  kept_in e row players keeps = subst (λ v. KeepsPlayers v players) (sym (of_version e row)) keeps

  pub players_fault : ((players : List Player) → ArePlayers s.phase s.rounds players → KeepsPlayers s.version players
      → parts.players ≡ map player_row players → ⊥)
      → IsFirstFault parts PlayerTable
  players_fault never = (
    (_, row_there [] [] []),
    λ e has.
        let so = as_set e has.event in
        never e.players (rw (so.phase, so.rounds) at has.players) (kept_as e has.event e.players has.keeps) has.rows,
  )

  -- ---- the players are read

  module _ (players : List Player) (listed : parts.players ≡ map player_row players) (plays : ArePlayers s.phase s.rounds players)
      (kept : KeepsPlayers s.version players) where
    abbrev known : List ℕ
    known = range_with_len 1 (length players)

    same_players : (e : EventValue) → HasPlayerRows parts e → e.players ≡ players
    same_players e has = players-same e.players players (sym has.rows ∙ listed)

    same_known : (e : EventValue) → HasPlayerRows parts e → numbers e.players ≡ known
    same_known e has = ap numbers (same_players e has) ∙ plays.numbered

    players_there : (rounds : List Round) (stages : List (List Match)) → HasPlayerRows parts (event_of s players rounds stages)
    players_there rounds stages =
        let row = row_there players rounds stages in
        record { event = row; rows = listed; players = plays; keeps = kept_in (event_of s players rounds stages) row players kept }

    rounds_as : (e : EventValue) → HasRoundRows parts e → AreRounds s.phase s.rounds known e.stored
    rounds_as e has =
        let so = as_set e has.players.event in
        let known_too = same_known e has.players in
        grind (arith, has.rounds)

    pub rounds_fault : ((rounds : List Round) → AreRounds s.phase s.rounds known rounds → parts.pairings ≡ keyed_rows_from 1 rounds → ⊥)
        → IsFirstFault parts PairingTable
    rounds_fault never = ((_, players_there [] []), λ e has. never e.stored (rounds_as e has) has.rows)

    -- ---- the rounds are read

    module _ (rounds : List Round) (paired : parts.pairings ≡ keyed_rows_from 1 rounds) (are : AreRounds s.phase s.rounds known rounds)
        (only : (others : List Round) → AreRounds s.phase s.rounds known others → parts.pairings ≡ keyed_rows_from 1 others
        → others ≡ rounds) where
      -- but nobody may sit in a round that they missed
      missed_as : (e : EventValue) → HasRoundRows parts e → All (HasMissed rounds) players
      missed_as e has =
          let all = same_players e has.players in
          let stored = only e.stored (rounds_as e has) has.rows in
          subst (λ (rs : List Round). All (HasMissed rs) players) stored
          (subst (λ (ps : List Player). All (HasMissed e.stored) ps) all has.missed)

      pub missed_fault : (All (HasMissed rounds) players → ⊥) → IsFirstFault parts PairingTable
      missed_fault never = ((_, players_there [] []), λ e has. never (missed_as e has))

      module _ (missed : All (HasMissed rounds) players) where
        rounds_there : (stages : List (List Match)) → HasRoundRows parts (event_of s players rounds stages)
        rounds_there stages =
            record { players = players_there rounds stages; rows = paired; rounds = rw plays.numbered are; missed = missed }

        stages_as : (e : EventValue) → HasAllRows parts e → AreStages s.phase s.cut known e.bracket.stages
        stages_as e has =
            let so = as_set e has.rounds.players.event in
            rw (so.phase, so.cut, same_known e has.rounds.players) at has.bracket

        pub stages_fault : ((stages : List (List Match)) → AreStages s.phase s.cut known stages
            → parts.bracket ≡ bracket_rows_from 1 stages → ⊥)
            → IsFirstFault parts BracketTable
        stages_fault never = ((_, rounds_there []), λ e has. never e.bracket.stages (stages_as e has) has.rows)

        -- ---- the stages are read

        module _ (stages : List (List Match)) (drawn : parts.bracket ≡ bracket_rows_from 1 stages)
            (stand : AreStages s.phase s.cut known stages)
            (only_these : (others : List (List Match)) → AreStages s.phase s.cut known others
            → parts.bracket ≡ bracket_rows_from 1 others → others ≡ stages) where
          abbrev whole : EventValue
          whole = event_of s players rounds stages

          pub is_whole : IsOf parts whole × IsSoundButForSeeds whole
              × ((other : EventValue) → IsOf parts other → IsSoundButForSeeds other → other ≡ whole)
          is_whole =
              let event = row_there players rounds stages in (
                record {
                  version = event.version;
                  known = event.known;
                  keeps = record { rounds = event.keeps; players = kept_in whole event players kept };
                  serial = event.serial;
                  low = event.low;
                  are = grind (arith, event.row);
                },
                grind (arith, common_steps, row_there),
                λ other is sound. only_whole other is sound,
              )
            where
              only_whole : (other : EventValue) → IsOf parts other → IsSoundButForSeeds other → other ≡ whole
              only_whole other is sound =
                  let row : IsEventRow parts.event other = record {
                    version = is.version;
                    known = is.known;
                    keeps = is.keeps.rounds;
                    serial = is.serial;
                    low = is.low;
                    set_up = sound.set_up;
                    row = ap (λ (p : Parts). p.event) is.are;
                  } in
                  let listed_too : HasPlayerRows parts other = record {
                    event = row;
                    rows = ap (λ (p : Parts). p.players) is.are;
                    players = sound.players;
                    keeps = is.keeps.players;
                  } in
                  let paired_too : HasRoundRows parts other = record {
                    players = listed_too;
                    rows = ap (λ (p : Parts). p.pairings) is.are;
                    rounds = sound.rounds;
                    missed = sound.missed;
                  } in
                  let all : HasAllRows parts other = record {
                    rounds = paired_too;
                    rows = ap (λ (p : Parts). p.bracket) is.are;
                    bracket = sound.bracket;
                  } in
                  let so = as_set other row in
                  let players_are = same_players other listed_too in
                  let rounds_are = only other.stored (rounds_as other paired_too) paired_too.rows in
                  let stages_are = only_these other.bracket.stages (stages_as other all) all.rows in
                  grind arith
