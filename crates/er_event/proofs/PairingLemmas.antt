-- Rows of pairings, and the matches that they show.
use Rattle.er_event.proofs.Prelude.{open_match, AreTables, FitRows, FitsRow, is_of, table_rows, is_bye, enumerate_from}
use Rattle.er_event.proofs.Prelude.{keyed_round_rows, keyed_rows_from, pairing_row, Match, Round, PairingRow, All, Bool, IsFalse, IsTrue}
use Rattle.er_event.proofs.Prelude.{List, MatchResult, None, Option, Result, Some, [], ap, ap₂, arith, false, get_or, inl, inr, length, map}
use Rattle.er_event.proofs.Prelude.{not, pos, refl, subst, sym, take, true, ℕ, ℤ, ◌++◌, ◌+◌, ◌-◌, ◌<◌, ◌==◌, ◌∙◌, ◌∷◌, ◌≡◌, ◌≤◌, ◌⊎◌}
use Rattle.er_event.proofs.Prelude.{Decides-int_eq, nat_tests, common_steps, All-push, All-take, take_more, none-some, Decides}
use Rattle.std.proofs.{Common.filter, lemmas.List.Elements.{All-get_or, All-tail}}
use Rattle.std.proofs.lemmas.List.FromFn.{length-enumerate_from}
use Rattle.er_event.proofs.RowLemmas.{AreInTurn, agree, agree-Decides, numbered-push}
use Rattle.er_event.specs.Rows.{by_key}

pub never_none : {X : Type 0} {Y : Type 0} (o : Option X) (x : X) → o ≡ None → o ≡ Some x → Y
never_none o x none some = absurd (none-some x (sym none ∙ some))

-- ---- rows that agree in each column

abbrev columns : PairingRow → PairingRow → List (ℤ × ℤ)
columns a b = (a.round, b.round) ∷ (a.tab, b.tab) ∷ (a.lo, b.lo) ∷ (a.hi, b.hi) ∷ (a.swapped, b.swapped) ∷ (a.done, b.done) ∷ (a.x, b.x)
    ∷ (a.y, b.y) ∷ (a.d, b.d) ∷ []

pub same_rows : (a b : PairingRow) → Decides (agree (columns a b)) (a ≡ b)
same_rows a b = let each = agree-Decides (columns a b) in (λ is. (let same = each.0 is in grind arith), λ e. each.1 (grind arith))

-- what stands at a place that isn't there
abbrev pub nothing : PairingRow
nothing = record { round = pos 0; tab = pos 0; lo = pos 0; hi = pos 0; swapped = pos 0; done = pos 0; x = pos 0; y = pos 0; d = pos 0 }

-- ---- the rows of a round, in the order of their key

abbrev Numbered : Type 0
Numbered = ℕ × Match

sorted : (n : ℕ) (ms : List Match) → AreTables ms → (filter (λ (k : Numbered). is_bye k.1) (enumerate_from n ms) ≡ [])
    × (filter (λ (k : Numbered). not (is_bye k.1)) (enumerate_from n ms) ≡ enumerate_from n ms)
sorted n [] h = (refl, refl)
sorted n (m ∷ ms) h =
    let here = h 0 m (omega arith) in
    let rest = sorted (n + 1) ms (All-tail (λ (k : Match). IsFalse (is_bye k)) m ms h) in
    (rw here rest.0, rw here (ap (λ l. (n, m) ∷ l) rest.1))

pub keyed-tables : (r : ℕ) (ms : List Match) → AreTables ms → keyed_round_rows r ms ≡ table_rows r 1 ms
keyed-tables r ms h = let both = sorted 1 ms h in ap (map (pairing_row r)) (ap₂ ◌++◌ both.0 both.1)

-- a bye's row is the same at each place
bye_row : (r n k : ℕ) (b : Match) → IsTrue (is_bye b) → pairing_row r (n, b) ≡ pairing_row r (k, b)
bye_row r n k b is = rw is

pub keyed-bye : (r : ℕ) (ms : List Match) (b : Match) → AreTables ms → IsTrue (is_bye b)
    → keyed_round_rows r (ms ++ b ∷ []) ≡ pairing_row r (0, b) ∷ table_rows r 1 ms
keyed-bye r ms b h is =
    let numbered = numbered-push 1 ms b in
    let both = sorted 1 ms h in
    grind (arith, common_steps, bye_row r (1 + length ms) 0 b is)

pub record WithBye (ms : List Match) : Type 0 where
  pub tables : List Match
  pub bye : Match
  pub are : ms ≡ tables ++ bye ∷ []
  pub shown : All FitsRow tables
  pub no_byes : AreTables tables
  pub bye_shown : FitsRow bye
  pub is_bye : IsTrue (is_bye bye)

split_last : (ms : List Match) → 0 < length ms → ms ≡ take (length ms - 1) ms ++ get_or ms (length ms - 1) (open_match 0 0) ∷ []
split_last ms some = grind (arith, common_steps, take_more)

-- only the last may be a bye
pub bye_or_tables : (ms : List Match) → FitRows ms → AreTables ms ⊎ WithBye ms
bye_or_tables ms h = by_last (is_bye last) refl
  where
    last : Match
    last = get_or ms (length ms - 1) (open_match 0 0)

    split : ms ≡ take (length ms - 1) ms ++ last ∷ []
    split = split_last ms h.some

    by_last : (b : Bool) → is_bye last ≡ b → AreTables ms ⊎ WithBye ms
    by_last false seated = inl (subst AreTables (sym split)
        (All-push (λ (k : Match). IsFalse (is_bye k)) (take (length ms - 1) ms) last h.bye_last seated))
    by_last true alone = inr (record {
      tables = take (length ms - 1) ms;
      bye = last;
      are = split;
      shown = All-take FitsRow (length ms - 1) ms h.each;
      no_byes = h.bye_last;
      bye_shown = All-get_or FitsRow ms (length ms - 1) (open_match 0 0) (let some = h.some in omega arith) h.each;
      is_bye = alone;
    })

-- the rows of a round with a bye
pub with_bye_rows : (r : ℕ) (rows : List PairingRow) (ms : List Match) (w : WithBye ms) → rows ≡ keyed_round_rows r ms
    → rows ≡ pairing_row r (0, w.bye) ∷ table_rows r 1 w.tables
with_bye_rows r rows ms w are = are ∙ (ap (keyed_round_rows r) w.are ∙ keyed-bye r w.tables w.bye w.no_byes w.is_bye)

pub first_is_bye : (r : ℕ) (rows : List PairingRow) (ms : List Match) (w : WithBye ms) → rows ≡ keyed_round_rows r ms
    → get_or rows 0 nothing ≡ pairing_row r (0 + 1, w.bye)
first_is_bye r rows ms w are = ap (λ (rs : List PairingRow). get_or rs 0 nothing) (with_bye_rows r rows ms w are)
    ∙ bye_row r 0 (0 + 1) w.bye w.is_bye

pub first_is_table : (r : ℕ) (rows : List PairingRow) (ms : List Match) → AreTables ms → rows ≡ keyed_round_rows r ms → 1 ≤ length rows
    → (m : Match) × IsFalse (is_bye m) × (get_or rows 0 nothing ≡ pairing_row r (0 + 1, m))
first_is_table r rows [] tables are some = absurd (let none = ap length are in omega arith)
first_is_table r rows (m ∷ ms) tables are some = (m, tables 0 m (omega arith), rw (are, keyed-tables r (m ∷ ms) tables) refl)

pub found_as : {ms : List Match} {F : Type 0} (P : F → Type 0) {split : List Match} (r : Result (List Match) F) → ms ≡ split
    → MatchResult r (λ found. found ≡ split) P → MatchResult r (λ found. found ≡ ms) P
found_as P r is h = grind arith

pub none_first : (r : ℕ) (rows : List PairingRow) (ms : List Match) → WithBye ms → rows ≡ keyed_round_rows r ms
    → (length rows == 0) ≡ true → ⊥
none_first r rows ms w are none = grind (arith, common_steps)

pub some_rows : (rows : List PairingRow) → (length rows == 0) ≡ false → 1 ≤ length rows
some_rows rows some = grind (arith, nat_tests)

-- ---- the rounds in turn

length-by_key : (ns : List Numbered) → length (by_key ns) ≡ length ns
length-by_key [] = refl
length-by_key (n ∷ ns) = grind (arith, common_steps, length-by_key ns)

-- the rows of another round
other_row : (r : ℕ) (n : Numbered) → is_of r (pairing_row (r + 1) n) ≡ false
other_row r n = grind (arith, common_steps)

pub rounds_in_turn : AreInTurn (λ (r : Round). FitRows r.matches) (λ (r : Round). by_key (enumerate_from 1 r.matches)) pairing_row is_of
    keyed_rows_from
rounds_in_turn = record {
  none = λ n. refl;
  more = λ n g gs. refl;
  some = λ g shown. omega (arith, length-by_key (enumerate_from 1 g.matches), length-enumerate_from 1 g.matches, shown.some);
  own = λ n x. (Decides-int_eq (pos n) (pos n)).1 refl;
  other = other_row;
}
