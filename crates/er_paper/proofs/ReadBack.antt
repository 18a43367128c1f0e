-- What is written of an event is read as what it was made of.
use Rattle.std.proofs.{lemmas.Grind.common_steps, Common.{◌≡◌, ◌≢◌, ℕ, suc, ◌+◌, ◌<◌, ◌≤◌, ◌==◌, eqb, Bool, true, false, if◌then◌else◌}}
use Rattle.std.proofs.Common.{IsTrue, IsFalse, IfSome, List, [], ◌∷◌, ◌++◌, map, flat_map, length, All, AllPairs, Contains, Option, Some}
use Rattle.std.proofs.{Common.{None, Result, Ok, refl, sym, ap, ap₂, subst, ◌∙◌, arith}, lemmas.Bool.Decides.{nat_tests, Decides-eqb}}
use Rattle.std.proofs.{lemmas.Fmt.decimal_nonempty, lemmas.List.map-append, lemmas.List.Elements.recursion_from_All}
use Rattle.std.proofs.{lemmas.List.FromFn.{get_or-range_with_len, length-range_with_len}, lemmas.Map.Made.IsDistinct-from_AllPairs}
use Rattle.std.proofs.lemmas.Map.Steps.{length-le_from_distinct_below}
use Rattle.std.specs.{List.{AllByRecursion, list_any, range_with_len}, Fmt.decimal}
use Rattle.std.specs.List.{enumerate_from}
use Rattle.csv.specs.{Reading.{AreRecords, default_config, strip_bom}, Writing.{escaped, fields_text, is_blank, read_back}}
use Rattle.er_paper.specs.Csv.{csv_text}
use Rattle.er_share.specs.declared.TheConstants.{MAX_ROUNDS}
use Rattle.er_event.specs.{declared.players.Player.Player, declared.matches.Match.Match, declared.rounds.Round.Round}
use Rattle.er_event.specs.{declared.scores.Games.Games, Name.is_lawful_name, Round.{is_bye, seats}, Score.is_swiss_score}
use Rattle.er_event.specs.{Event.EventValue, Sound.{IsRound, IsSoundButForSeeds, names, numbers}}
use Rattle.er_paper.specs.{declared.imports.CsvFault.CsvFault, declared.imports.PlayerLine.PlayerLine}
use Rattle.er_paper.specs.{declared.imports.ResultLine.ResultLine, Csv.HasRecords, Tables.{players_heading, player_fields, players_table}}
use Rattle.er_paper.specs.Tables.{results_heading, score_fields, result_fields, round_table, rounds_table, results_table}
use Rattle.er_paper.specs.Reading.{lines_from, with_line, full_line, player_lines, score_of, result_of, result_lines}
use Rattle.er_paper.specs.ReadBack.{line_of_player}
use Rattle.er_paper.specs.ReadBack.{line_of_match, lines_of_round, lines_of_rounds, exported_players, exported_results, PlayersReadBack}
use Rattle.er_paper.specs.ReadBack.{ResultsReadBack}
use Rattle.er_paper.proofs.{Fields.within-decimal, Rows.{back, one_list}}
use Rattle.csv.specs.declared.parser.State.TheVariants as st

-- ---- the records of what was written

records_at : (rows : List (List (List ℕ))) → strip_bom (csv_text rows) ≡ csv_text rows → map read_back rows ≡ rows
    → HasRecords (csv_text rows) rows
records_at rows plain same =
    subst (λ (bytes : List ℕ). AreRecords default_config st.StartRecord bytes rows) (sym (ap strip_bom plain ∙ plain))
    (subst (λ (rs : List (List (List ℕ))). AreRecords default_config st.StartRecord (csv_text rows) rs) same (back rows))

records_once : (rows found : List (List (List ℕ))) → strip_bom (csv_text rows) ≡ csv_text rows → map read_back rows ≡ rows
    → HasRecords (csv_text rows) found → found ≡ rows
records_once rows found plain same has =
    one_list default_config st.StartRecord (csv_text rows) found rows
    (subst (λ (bytes : List ℕ). AreRecords default_config st.StartRecord bytes found) (ap strip_bom plain ∙ plain) has)
    (subst (λ (rs : List (List (List ℕ))). AreRecords default_config st.StartRecord (csv_text rows) rs) same (back rows))

-- ---- players

no_mark : (rows : List (List (List ℕ))) → strip_bom (csv_text (players_heading ∷ rows)) ≡ csv_text (players_heading ∷ rows)
unfolding strip_bom csv_text fields_text escaped is_blank
no_mark rows = refl

players_same : (ps : List Player) → map read_back (map player_fields ps) ≡ map player_fields ps
players_same [] = refl
players_same (p ∷ ps) = ap (λ rows. player_fields p ∷ rows) (players_same ps)

flag_same : (flag : Bool) → ((if flag then 1 else 0) == 1) ≡ flag
flag_same h1 = grind (arith, common_steps)

player_back : (p : Player) → p.no ≤ 512 → is_lawful_name p.name ≡ true → full_line p.no (player_fields p) ≡ Some (line_of_player p)
player_back p few lawful = grind (arith, common_steps, flag_same, nat_tests, within-decimal)

players_back : (ps : List Player) (k : ℕ) → numbers ps ≡ range_with_len k (length ps) → k + length ps ≤ 513
    → AllByRecursion (λ name. is_lawful_name name ≡ true) (names ps)
    → lines_from full_line k (map player_fields ps) ≡ Ok (map line_of_player ps)
players_back [] k numbered few lawful = refl
players_back (p ∷ ps) k numbered few lawful =
    let here : p.no ≡ k = cc in
    let later : numbers ps ≡ range_with_len (k + 1) (length ps) = cc in
    let read : full_line k (player_fields p) ≡ Some (line_of_player p) =
    subst (λ (place : ℕ). full_line place (player_fields p) ≡ Some (line_of_player p)) here (player_back p (omega arith) lawful.0) in
    ap₂ (λ (o : Option PlayerLine) (r : Result (List PlayerLine) CsvFault). with_line k o r) read
    (players_back ps (k + 1) later (omega arith) lawful.1)

players_as : (event : EventValue) → IsSoundButForSeeds event → player_lines (players_table event) ≡ Ok (exported_players event)
players_as event sound = grind (arith, common_steps, players_back, recursion_from_All)

pub players_read_back : PlayersReadBack
players_read_back event sound =
    let plain = no_mark (map player_fields event.players) in
    let same = ap (λ rs. players_heading ∷ rs) (players_same event.players) in
    let read = players_as event sound in (
      (players_table event, records_at (players_table event) plain same, sym read),
      λ result (rows, has, is). is ∙ ap player_lines (records_once (players_table event) rows plain same has) ∙ read,
    )

-- ---- results

no_mark_either : (rows : List (List (List ℕ))) → strip_bom (csv_text (results_heading ∷ rows)) ≡ csv_text (results_heading ∷ rows)
unfolding strip_bom csv_text fields_text escaped is_blank
no_mark_either rows = refl

matches_same : (round : ℕ) (numbered : List (ℕ × Match))
    → map read_back (map (result_fields round) numbered) ≡ map (result_fields round) numbered
matches_same round [] = refl
matches_same round (n ∷ ns) = ap (λ rows. result_fields round n ∷ rows) (matches_same round ns)

rounds_same : (rounds : List Round) (k : ℕ) → map read_back (rounds_table k rounds) ≡ rounds_table k rounds
rounds_same [] k = refl
rounds_same (r ∷ later) k = grind (arith, common_steps, rounds_same later (k + 1), map-append, matches_same)

score_back : (s : Games) → is_swiss_score s ≡ true → score_of (decimal s.x) (decimal s.y) (decimal s.d) ≡ Some (Some s)
score_back s lawful = grind (arith, common_steps, decimal_nonempty, nat_tests, within-decimal)

-- a match whose numbers and score a row may have
record IsListed (m : Match) : Type 0 where
  pub first : (1 ≤ m.a) × (m.a ≤ 512)
  pub second : m.b ≤ 512
  pub lawful : IfSome m.score (λ s. IsTrue (is_swiss_score s))

row_back : (round table a b : ℕ) (score : Option Games) → (1 ≤ round) × (round ≤ MAX_ROUNDS) → table ≤ 512 → (1 ≤ a) × (a ≤ 512) → b ≤ 512
    → IfSome score (λ s. IsTrue (is_swiss_score s))
    → result_of (decimal round ∷ decimal table ∷ decimal a ∷ decimal b ∷ score_fields score) ≡ Some
    (record { round = round; table = table; a = a; b = b; score = score })
row_back round table a b None r t first second lawful = grind (arith, common_steps, within-decimal)
row_back round table a b (Some s) r t first second lawful = grind (arith, common_steps, score_back, within-decimal)

matches_back : (ms : List Match) (round n : ℕ) → (1 ≤ round) × (round ≤ MAX_ROUNDS) → n + length ms ≤ 513 → AllByRecursion IsListed ms
    → map result_of (map (result_fields round) (enumerate_from n ms)) ≡ map Some (map (line_of_match round) (enumerate_from n ms))
matches_back [] round n r few listed = refl
matches_back (m ∷ ms) round n r few listed = grind (arith, common_steps, matches_back ms round (n + 1) r (omega arith) listed.1, row_back)

-- a round whose matches a table may have
abbrev IsListedRound : Round → Type 0
IsListedRound r = (length r.matches ≤ 512) × AllByRecursion IsListed r.matches

rounds_back : (rounds : List Round) (k : ℕ) → 1 ≤ k → k + length rounds ≤ MAX_ROUNDS + 1 → AllByRecursion IsListedRound rounds
    → map result_of (rounds_table k rounds) ≡ map Some (lines_of_rounds k rounds)
rounds_back [] k low few listed = refl
rounds_back (r ∷ later) k low few listed =
    map-append result_of (round_table k r.matches) (rounds_table (k + 1) later)
    ∙ ap₂ (λ (front rest : List (Option ResultLine)). front ++ rest)
    (matches_back r.matches k 1 (low, omega arith) (let short = listed.0.0 in omega arith) listed.0.1)
    (rounds_back later (k + 1) (omega arith) (omega arith) listed.1)
    ∙ sym (map-append Some (lines_of_round k r.matches) (lines_of_rounds (k + 1) later))

-- rows that are lines, each by itself
in_turn : {L : Type 0} (line : List (List ℕ) → Option L) (rows : List (List (List ℕ))) (lines : List L) (n : ℕ)
    → map line rows ≡ map Some lines → lines_from (λ place. line) n rows ≡ Ok lines
in_turn line [] [] n e = refl
in_turn line [] (l ∷ ls) n e = absurd (cc)
in_turn line (row ∷ rows) [] n e = absurd (cc)
in_turn {L} line (row ∷ rows) (l ∷ ls) n e =
    let here : line row ≡ Some l = cc in
    let later : map line rows ≡ map Some ls = cc in
    ap₂ (λ (o : Option L) (r : Result (List L) CsvFault). with_line n o r) here (in_turn line rows ls (n + 1) later)

-- ---- the matches of a sound round

known_low : (players k : ℕ) → players ≤ 512 → Contains (range_with_len 1 players) k → (1 ≤ k) × (k ≤ 512)
known_low players k few (at, below, is) = grind (arith, common_steps, get_or-range_with_len, length-range_with_len)

second_low : (players b : ℕ) (bye : Bool) → (b == 0) ≡ bye → players ≤ 512 → (IsFalse bye → Contains (range_with_len 1 players) b) → b ≤ 512
second_low players b true is few known = grind (arith, nat_tests)
second_low players b false is few known = (known_low players b few (known refl)).1

module _ (players : ℕ) (few : players ≤ 512) where
  all_listed : (ms : List Match) → All (λ (m : Match). Contains (range_with_len 1 players) m.a) ms
      → All (λ (m : Match). IsFalse (is_bye m) → Contains (range_with_len 1 players) m.b) ms
      → All (λ (m : Match). IfSome m.score (λ s. IsTrue (is_swiss_score s))) ms → AllByRecursion IsListed ms
  all_listed [] first second lawful = tt
  all_listed (m ∷ ms) first second lawful = (
    record {
      first = known_low players m.a few (first 0 m (omega arith));
      second = second_low players m.b (is_bye m) refl few (second 0 m (omega arith));
      lawful = lawful 0 m (omega arith);
    },
    all_listed ms (λ k d below. first (suc k) d (omega arith)) (λ k d below. second (suc k) d (omega arith))
        (λ k d below. lawful (suc k) d (omega arith)),
  )

seats_count : (ms : List Match) → length (flat_map seats ms) ≡ length ms + length ms
seats_count [] = refl
seats_count (m ∷ ms) = let later = seats_count ms in omega arith

seats_low : (ms : List Match) → AllByRecursion IsListed ms → (q : ℕ) → list_any (eqb q) (flat_map seats ms) ≡ true → q < 513
seats_low [] listed q has = absurd (cc)
seats_low (m ∷ ms) listed q has = grind (arith, common_steps, seats_low ms listed.1 q)

-- nobody sits twice, so there are few matches
few_matches : (ms : List Match) → AllByRecursion IsListed ms → AllPairs (λ p q. p ≢ q) (flat_map seats ms) → length ms ≤ 512
few_matches ms listed apart =
    let count = seats_count ms in
    let most = length-le_from_distinct_below (flat_map seats ms) 513 (IsDistinct-from_AllPairs Decides-eqb (flat_map seats ms) apart)
    (seats_low ms listed) in
    omega arith

round_listed : (players : ℕ) (r : Round) → players ≤ 512 → IsRound (range_with_len 1 players) r.matches → IsListedRound r
round_listed players r few sound =
    let listed = all_listed players few r.matches sound.first_known sound.second_known sound.scores in
    (few_matches r.matches listed sound.seated_once, listed)

all_rounds_listed : (players : ℕ) (rounds : List Round) → players ≤ 512
    → AllByRecursion (λ (r : Round). IsRound (range_with_len 1 players) r.matches) rounds → AllByRecursion IsListedRound rounds
all_rounds_listed players [] few sound = tt
all_rounds_listed players (r ∷ later) few sound = (round_listed players r few sound.0, all_rounds_listed players later few sound.1)

results_as : (event : EventValue) → IsSoundButForSeeds event → result_lines (results_table event) ≡ Ok (exported_results event)
results_as event sound =
    let each = subst (λ (known : List ℕ). All (λ (r : Round). IsRound known r.matches) event.stored) sound.players.numbered
    sound.rounds.each in
    let listed = all_rounds_listed (length event.players) event.stored sound.players.few
    (recursion_from_All (λ (r : Round). IsRound (range_with_len 1 (length event.players)) r.matches) event.stored each) in
    let few : 1 + length event.stored ≤ MAX_ROUNDS + 1 = let fits = sound.rounds.few in let limit = sound.set_up.rounds.1 in omega arith in
    in_turn result_of (rounds_table 1 event.stored) (exported_results event) 1 (rounds_back event.stored 1 (omega arith) few listed)

pub results_read_back : ResultsReadBack
results_read_back event sound =
    let plain = no_mark_either (rounds_table 1 event.stored) in
    let same = ap (λ rs. results_heading ∷ rs) (rounds_same event.stored 1) in
    let read = results_as event sound in (
      (results_table event, records_at (results_table event) plain same, sym read),
      λ result (rows, has, is). is ∙ ap result_lines (records_once (results_table event) rows plain same has) ∙ read,
    )
