-- The standings of the Magic Tournament Rules, appendix Tiebreaker Explanation: match points, then opponents'
-- match-win, own game-win and opponents' game-win percentage.
use Rattle.std.specs.Prelude.{◌≡◌, ℕ, ◌+◌, ◌*◌, nat_lt, Bool, not, ◌&&◌, ◌||◌, IsTrue, List, map, filter, take, count_by, All, AllPairs}
use Rattle.std.specs.Prelude.{IsPermutation, Contains}
use Rattle.std.specs.List.{filter_map}
use Rattle.std.specs.declared.cmp.Ordering.{Ordering}
use Rattle.std.specs.Ordering.{nat_cmp, ordering_then, is_gt, is_eq}
use Rattle.er_share.specs.Fraction.{Fraction, fraction_cmp, percentage, average}
use Rattle.er_share.specs.Share.{IsShareOf}
use Rattle.er_event.specs.Event.{EventValue}
use Rattle.er_event.specs.Sound.{IsSoundButForSeeds}
use Rattle.er_event.specs.declared.players.Player.{Player}
use Rattle.er_event.specs.Results.{results_of}
use Rattle.er_event.specs.Totals.{totals}
use Rattle.er_rank.specs.declared.rows.Row.{Row}

abbrev pub match_win : EventValue → ℕ → Fraction
match_win event player = let own = totals event player in percentage own.points (3 * own.rounds)

abbrev pub game_win : EventValue → ℕ → Fraction
game_win event player = let own = totals event player in percentage own.game_points (3 * own.games)

-- one entry for each match; a bye isn't an opponent
abbrev pub opponents : EventValue → ℕ → List ℕ
opponents event player = filter_map (λ r. r.opponent) (results_of event player)

abbrev pub opponents_match_win : EventValue → ℕ → Fraction
opponents_match_win event player = average (map (match_win event) (opponents event player))

abbrev pub opponents_game_win : EventValue → ℕ → Fraction
opponents_game_win event player = average (map (game_win event) (opponents event player))

-- greater if p stands above q: the first difference decides
abbrev pub standing_cmp : EventValue → ℕ → ℕ → Ordering
standing_cmp event p q =
    ordering_then (nat_cmp (totals event p).points (totals event q).points)
    (ordering_then (fraction_cmp (opponents_match_win event p) (opponents_match_win event q))
    (ordering_then (fraction_cmp (game_win event p) (game_win event q))
    (fraction_cmp (opponents_game_win event p) (opponents_game_win event q))))

abbrev pub is_better : EventValue → ℕ → ℕ → Bool
is_better event p q = is_gt (standing_cmp event p q)

-- equal players are listed by number
abbrev pub is_listed_before : EventValue → ℕ → ℕ → Bool
is_listed_before event p q = is_better event p q || (is_eq (standing_cmp event p q) && nat_lt p q)

pub record IsRowOf (event : EventValue) (row : Row) : Type 0 where
  pub listed : Player
  pub is_player : Contains event.players listed
  pub player : row.player ≡ listed.no
  pub dropped : row.dropped ≡ listed.dropped
  -- players equal on all four share a rank
  pub rank : row.rank ≡ 1 + count_by (λ q. is_better event q.no row.player) event.players
  pub points : row.points ≡ (totals event row.player).points
  pub omw : IsShareOf row.omw (opponents_match_win event row.player)
  pub gwp : IsShareOf row.gwp (game_win event row.player)
  pub ogw : IsShareOf row.ogw (opponents_game_win event row.player)

pub record AreStandings (event : EventValue) (rows : List Row) : Type 0 where
  pub everyone : IsPermutation (map (λ p. p.no) event.players) (map (λ r. r.player) rows)
  pub in_order : AllPairs (λ above below. IsTrue (is_listed_before event above.player below.player)) rows
  pub each : All (IsRowOf event) rows

abbrev pub first_active : List Row → ℕ → List ℕ
first_active rows k = take k (map (λ r. r.player) (filter (λ r. not r.dropped) rows))

-- the first k active players of the standings, or all if there are fewer
pub record IsTop (event : EventValue) (k : ℕ) (players : List ℕ) : Type 0 where
  pub rows : List Row
  pub standings : AreStandings event rows
  pub top : players ≡ first_active rows k

-- there is one list of standings at most
abbrev pub OneStandings : EventValue → List Row → Type 0
OneStandings event rows = (other : List Row) → AreStandings event other → other ≡ rows

-- a sound event has one list of standings
abbrev pub HasOneStandings : Type 0
HasOneStandings = (event : EventValue) (rows : List Row) → IsSoundButForSeeds event → AreStandings event rows → OneStandings event rows

-- and one top
abbrev pub OneTop : EventValue → ℕ → List ℕ → Type 0
OneTop event k players = (other : List ℕ) → IsTop event k other → other ≡ players

-- a sound event has at most one top
abbrev pub HasOneTop : Type 0
HasOneTop = (event : EventValue) (k : ℕ) (players : List ℕ) → IsSoundButForSeeds event → IsTop event k players → OneTop event k players
