-- Many records as one text, and the one list of records of a text.
use Rattle.std.proofs.{lemmas.Grind.common_steps, Common.{◌≡◌, ℕ, ◌+◌, ◌<◌, List, [], ◌∷◌, ◌++◌, map, flat_map, take, length, get_or, refl}}
use Rattle.std.proofs.{Common.{sym, ap, ap₂, subst, ◌∙◌, arith, append-nil, Some, None}, lemmas.List.{map_more, take_more, length-take-le}}
use Rattle.csv.specs.{Machine.{Read, next_record}, Reading.{AreRecords, Reached, default_config}, Writing.{default_writer, row_text}}
use Rattle.csv.specs.{Writing.read_back, declared.parser.State.State, declared.parser.Config.Config}
use Rattle.csv.proofs.RoundTrip.{read-write}
use Rattle.er_paper.specs.Csv.{csv_text}
use Rattle.er_event.specs.{declared.players.Player.Player, declared.matches.Match.Match, declared.rounds.Round.Round}
use Rattle.er_paper.specs.Tables.{players_heading, player_fields, result_fields, round_table, rounds_table}
use Rattle.csv.specs.declared.parser.State.TheVariants as st

pub rows-push : (rows : List (List (List ℕ))) (row : List (List ℕ))
    → csv_text (rows ++ row ∷ []) ≡ csv_text rows ++ row_text default_writer row
unfolding csv_text
rows-push [] row = append-nil (row_text default_writer row)
rows-push (r ∷ rows) row = grind (arith, common_steps, rows-push rows row)

-- one more line
pub lines_more : (lines : List Player) (i : ℕ) (d : Player) (old new : List ℕ) → i < length lines
    → old ≡ csv_text (players_heading ∷ map player_fields (take i lines))
    → new ≡ old ++ row_text default_writer (player_fields (get_or lines i d))
    → new ≡ csv_text (players_heading ∷ map player_fields (take (i + 1) lines))
lines_more lines i d old new lt before step =
    step ∙ ap (λ t. t ++ row_text default_writer (player_fields (get_or lines i d))) before
    ∙ sym (rows-push (players_heading ∷ map player_fields (take i lines)) (player_fields (get_or lines i d)))
    ∙ ap (λ (rows : List (List (List ℕ))). csv_text (players_heading ∷ rows)) (sym (map_more player_fields lines i d lt))

-- what is written reads back
pub back : (rows : List (List (List ℕ))) → AreRecords default_config st.StartRecord (csv_text rows) (map read_back rows)
unfolding csv_text Reached next_record
back [] = (st.StartRecord, [], (refl, refl), refl)
back (row ∷ rows) =
    let later = back rows in
    (later.0, later.1, ((read_back row, st.StartRecord, csv_text rows), read-write row (csv_text rows), refl, later.2), later.3)

-- a text has one list of records
step : (cfg : Config) (s : State) (xs : List ℕ) (p q : Read) → next_record cfg s [] [] xs ≡ Some p → next_record cfg s [] [] xs ≡ Some q
    → p ≡ q
step cfg s xs p q a b = let e : Some p ≡ Some q = sym a ∙ b in cc

apart : (p : Read) → Some p ≡ None → ⊥
apart p e = absurd (cc)

one_from : (cfg : Config) (s : State) (xs : List ℕ) (a b : List (List (List ℕ))) (s1 s2 : State) (y1 y2 : List ℕ)
    → Reached cfg s xs a s1 y1 → next_record cfg s1 [] [] y1 ≡ None → Reached cfg s xs b s2 y2 → next_record cfg s2 [] [] y2 ≡ None → a ≡ b
unfolding Reached
one_from cfg s xs [] [] s1 s2 y1 y2 p pe q qe = refl
one_from cfg s xs [] (t ∷ ts) s1 s2 y1 y2 p pe q qe = grind (arith, common_steps)
one_from cfg s xs (r ∷ rs) [] s1 s2 y1 y2 p pe q qe = grind (arith, common_steps)
one_from cfg s xs (r ∷ rs) (t ∷ ts) s1 s2 y1 y2 p pe q qe =
    let same = step cfg s xs p.0 q.0 p.1 q.1 in
    let later = subst (λ (z : Read). Reached cfg z.1 z.2 ts s2 y2) (sym same) q.3 in
    ap₂ (λ (u : List (List ℕ)) (us : List (List (List ℕ))). u ∷ us) (p.2 ∙ ap (λ (z : Read). z.0) same ∙ sym q.2)
    (one_from cfg p.0.1 p.0.2 rs ts s1 s2 y1 y2 p.3 pe later qe)

pub one_list : (cfg : Config) (s : State) (xs : List ℕ) (a b : List (List (List ℕ))) → AreRecords cfg s xs a → AreRecords cfg s xs b → a ≡ b
one_list cfg s xs a b p q = one_from cfg s xs a b p.0 q.0 p.1 q.1 p.2 p.3 q.2 q.3

pub rows-first : (row : List (List ℕ)) → [] ++ row_text default_writer row ≡ csv_text (row ∷ [])
unfolding csv_text
rows-first row = sym (append-nil (row_text default_writer row))

-- ---- results

pub rows-append : (rows more : List (List (List ℕ))) → csv_text (rows ++ more) ≡ csv_text rows ++ csv_text more
unfolding csv_text
rows-append [] more = refl
rows-append (r ∷ rows) more = grind (arith, common_steps, rows-append rows more)

-- the text of a match's row
abbrev pub result_row : ℕ → ℕ × Match → List ℕ
result_row round numbered = row_text default_writer (result_fields round numbered)

pub rows-of-round : (round : ℕ) (numbered : List (ℕ × Match))
    → csv_text (map (result_fields round) numbered) ≡ flat_map (result_row round) numbered
unfolding csv_text
rows-of-round round [] = refl
rows-of-round round (n ∷ ns) = ap (λ t. result_row round n ++ t) (rows-of-round round ns)

rounds-push : (n : ℕ) (rounds : List Round) (r : Round)
    → csv_text (rounds_table n (rounds ++ r ∷ [])) ≡ csv_text (rounds_table n rounds) ++ csv_text
    (round_table (n + length rounds) r.matches)
unfolding csv_text
rounds-push n [] r = grind (arith, common_steps)
rounds-push n (first ∷ later) r = grind (arith, common_steps, rounds-push (n + 1) later r, rows-append, csv_text)

-- one more round
pub rounds-more : (rounds : List Round) (i : ℕ) (r : Round) → i < length rounds → r ≡ get_or rounds i r
    → csv_text (rounds_table 1 (take (i + 1) rounds)) ≡ csv_text (rounds_table 1 (take i rounds)) ++ csv_text
    (round_table (1 + i) r.matches)
rounds-more rounds i r below is = grind (arith, common_steps, length-take-le, rounds-push, csv_text, take_more)

-- no rows, and then some
pub no-rows : (text : List ℕ) → text ≡ text ++ csv_text []
unfolding csv_text
no-rows text = sym (append-nil text)

-- a heading before rows
pub rows-under : (heading : List (List ℕ)) (rows : List (List (List ℕ)))
    → ([] ++ row_text default_writer heading) ++ csv_text rows ≡ csv_text (heading ∷ rows)
unfolding csv_text
rows-under heading rows = refl
