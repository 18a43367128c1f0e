-- The printed texts of an event: a heading, and one line for each row, player or match.
use Rattle.std.specs.Prelude.{◌≡◌, ℕ, ◌-◌, ◌==◌, List, [], ◌∷◌, ◌++◌, flat_map, if◌then◌else◌, Option, None, Some, option_map}
use Rattle.std.specs.List.{enumerate_from}
use Rattle.std.specs.Prelude.{slice_get, codes}
use Rattle.std.specs.Fmt.{decimal}
use Rattle.er_event.specs.declared.players.Player.{Player}
use Rattle.er_event.specs.declared.matches.Match.{Match}
use Rattle.er_event.specs.declared.rounds.Round.{Round}
use Rattle.er_event.specs.Event.{EventValue}
use Rattle.er_event.specs.Round.{table_of}
use Rattle.er_event.specs.Bracket.{champion}
use Rattle.er_rank.specs.declared.rows.Row.{Row}
use Rattle.er_rank.specs.Standings.{AreStandings}
use Rattle.er_event.specs.Slip.{name_of}
use Rattle.er_paper.specs.Column.{right_aligned, percent, mark, opponent_name, left_aligned, score_text}

abbrev pub player_line : Player → List ℕ
player_line p = right_aligned 4 p.no ++ (32 ∷ (mark p.dropped ++ (32 ∷ (p.name ++ (10 ∷ [])))))

abbrev pub players_text : EventValue → List ℕ
players_text event = codes "  No D Name" ++ (10 ∷ flat_map player_line event.players)

-- rank, number and points
abbrev pub row_numbers : Row → List ℕ
row_numbers row = right_aligned 4 row.rank ++ (32 ∷ (right_aligned 4 row.player ++ (32 ∷ right_aligned 3 row.points)))

abbrev pub row_name : EventValue → Row → List ℕ
row_name event row = 32 ∷ (mark row.dropped ++ (32 ∷ (name_of event row.player ++ (10 ∷ []))))

abbrev pub row_line : EventValue → Row → List ℕ
row_line event row = row_numbers row ++ (percent row.omw ++ (percent row.gwp ++ (percent row.ogw ++ row_name event row)))

-- a heading, and a line for each of these rows
abbrev pub rows_text : EventValue → List Row → List ℕ
rows_text event rows = codes "Rank   No Pts    OMW    GWP    OGW D Name" ++ (10 ∷ flat_map (row_line event) rows)

pub record IsStandingsText (event : EventValue) (bytes : List ℕ) : Type 0 where
  pub rows : List Row
  pub standings : AreStandings event rows
  pub lines : bytes ≡ rows_text event rows

-- there is one such text
abbrev pub OneStandingsText : EventValue → List ℕ → Type 0
OneStandingsText event bytes = (other : List ℕ) → IsStandingsText event other → other ≡ bytes

-- table and numbers
abbrev pub pairing_numbers : ℕ → Match → List ℕ
pairing_numbers table m = right_aligned 4 table ++ (32 ∷ (right_aligned 4 m.a ++ (32 ∷ (right_aligned 4 m.b ++ (32 ∷ [])))))

abbrev pub pairing_names : EventValue → Match → List ℕ
pairing_names event m = 32 ∷ (name_of event m.a ++ (32 ∷ (45 ∷ (32 ∷ (opponent_name event m.b ++ (10 ∷ []))))))

abbrev pub pairing_line : EventValue → ℕ → Match → List ℕ
pairing_line event table m = pairing_numbers table m ++ (left_aligned 5 (score_text m.score) ++ pairing_names event m)

abbrev pub table_line : EventValue → ℕ × Match → List ℕ
table_line event numbered = pairing_line event (table_of numbered) numbered.1

abbrev pub round_text : EventValue → List Match → List ℕ
round_text event matches = codes " Tab    A    B Score Names" ++ (10 ∷ flat_map (table_line event) (enumerate_from 1 matches))

-- none if the round isn't stored
abbrev pub pairings_text : EventValue → ℕ → Option (List ℕ)
pairings_text event round =
    if round == 0 then None
    else option_map (λ (r : Round). round_text event r.matches) (slice_get event.stored (round - 1))

-- the stage, and then as a table is printed
abbrev pub slot_line : EventValue → ℕ → ℕ × Match → List ℕ
slot_line event stage numbered = right_aligned 4 stage ++ (32 ∷ pairing_line event numbered.0 numbered.1)

abbrev pub stage_lines : EventValue → ℕ → List Match → List ℕ
stage_lines event stage matches = flat_map (slot_line event stage) (enumerate_from 1 matches)

abbrev pub stages_lines : EventValue → ℕ → List (List Match) → List ℕ
stages_lines event first stages = flat_map (λ (n : ℕ × List Match). stage_lines event n.0 n.1) (enumerate_from first stages)

abbrev pub champion_line : EventValue → Option ℕ → List ℕ
champion_line event None = []
champion_line event (Some player) = codes "Champion " ++ (decimal player ++ (32 ∷ (name_of event player ++ (10 ∷ []))))

-- stage by stage, and then the champion, once there is one
abbrev pub bracket_text : EventValue → List ℕ
bracket_text event =
    codes " Stg Slot    A    B Score Names"
    ++ (10 ∷ (stages_lines event 1 event.bracket.stages ++ champion_line event (champion event)))
