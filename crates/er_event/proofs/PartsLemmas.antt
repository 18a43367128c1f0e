-- Rows, and the event that they are of.
use Rattle.er_event.proofs.Prelude.{has_name, EventValue, is_lawful_name, IsEventRow, phase_code, player_row, ArePlayers, names, numbers}
use Rattle.er_event.proofs.Prelude.{MAX_SERIAL, Phase, Player, MAX_PLAYERS, EventRow, Setup, IsSetUpAs, All, AllPairs, IsTrue, List, [], ap}
use Rattle.er_event.proofs.Prelude.{arith, drop, false, get_or, length, map, pos, refl, take, true, ℕ, ◌+◌, ◌<◌, ◌==◌, ◌∷◌, ◌≡◌, ◌≢◌, ◌≤◌}
use Rattle.er_event.proofs.Prelude.{common_steps, get_or-range_with_len, all_pairs_push, get_or_default, map-append, take_more}
use Rattle.er_event.proofs.Prelude.{bytes_eq-Decides, range_with_len, bytes_eq}
use Rattle.std.proofs.{Common.length-take, Math.ListN.get_or-map, lemmas.List.Elements.All-map, lemmas.List.Folds.Any-from_list_any}
use Rattle.er_event.specs.Version.{IsVersion, KeepsRounds}
use Rattle.er_event.proofs.PlayerLemmas.{has_name-none, range-push}
use Rattle.er_event.specs.{Sound.IsSetUp, declared.rows.player.PlayerRow.PlayerRow, inside.Reading.{IsLawfulPlayer, Suits}}

set_up_as : (s : Setup) (e : EventValue) → IsSetUp s.name s.rounds s.cut → IsSetUpAs s e → IsSetUp e.name e.rounds e.cut
set_up_as s e h so = grind (arith, common_steps)

pub read_is : (row : EventRow) (s : Setup) (version serial : ℕ) → row.id ≡ pos 1 → row.version ≡ pos version → IsVersion version
    → KeepsRounds version s.rounds → row.serial ≡ pos serial → row.name ≡ s.name
    → row.rounds ≡ pos s.rounds → row.cut ≡ pos s.cut
    → row.phase ≡ pos (phase_code s.phase) → serial ≤ MAX_SERIAL → IsSetUp s.name s.rounds s.cut → (e : EventValue) → IsSetUpAs s e
    → IsEventRow (row ∷ []) e
read_is row s version serial id is known keeps counted name rounds cut phase low set_up e so = record {
  version = version;
  known = known;
  keeps = λ first. rw so.rounds (keeps first);
  serial = serial;
  low = low;
  set_up = set_up_as s e set_up so;
  row = grind (arith, common_steps);
}

pub one_row : {A : Type 0} (rows : List A) (x : A) → 1 ≤ length rows → length rows < 2 → x ≡ get_or rows 0 x → rows ≡ x ∷ []
one_row rows x some few is = grind (arith, common_steps)

abbrev nobody : Player
nobody = record { no = 0; name = []; dropped = false; joined = 0 }

-- the players that a list of rows has stand at its places
pub row_at : (rows : List PlayerRow) (players : List Player) (i : ℕ) (row : PlayerRow) → i < length rows → row ≡ get_or rows i row
    → All IsLawfulPlayer players → rows ≡ map player_row players
    → ((p : Player) → IsLawfulPlayer p → row ≢ player_row p) → ⊥
row_at rows players i row below is lawful are never =
    grind (arith, common_steps, never (get_or players i nobody), lawful i nobody, get_or-map player_row players i nobody)

-- ---- numbers in their order

pub number_at : (ps : List Player) (i : ℕ) (p : Player) → i < length ps → p ≡ get_or ps i p → numbers ps ≡ range_with_len 1 (length ps)
    → p.no ≡ i + 1
number_at ps i p below is numbered =
    grind (arith, common_steps, get_or-range_with_len 1 (length ps) i p.no below, get_or-map (λ (q : Player). q.no) ps i p)

pub numbers-more : (ps : List Player) (i : ℕ) (p : Player) → i < length ps → p ≡ get_or ps i p → p.no ≡ i + 1
    → numbers (take i ps) ≡ range_with_len 1 i → numbers (take (i + 1) ps) ≡ range_with_len 1 (i + 1)
numbers-more ps i p below is next before = grind (arith, common_steps, take_more, map-append, range-push)

-- ---- names apart

pub names-more : (ps : List Player) (i : ℕ) (p : Player) → i < length ps → p ≡ get_or ps i p → has_name (take i ps) p.name ≡ false
    → AllPairs (λ a b. a ≢ b) (names (take i ps)) → AllPairs (λ a b. a ≢ b) (names (take (i + 1) ps))
names-more ps i p below is new before =
    let pushed = all_pairs_push (λ a b. a ≢ b) (names (take i ps)) p.name before (has_name-none (take i ps) p.name new) in
    grind (arith, common_steps, take_more, map-append, pushed)

pub names-new : (ps : List Player) (i : ℕ) (p : Player) → i < length ps → p ≡ get_or ps i p → AllPairs (λ a b. a ≢ b) (names ps)
    → has_name (take i ps) p.name ≡ true → ⊥
names-new ps i p below is apart found =
    let any = Any-from_list_any (λ (q : Player). bytes_eq q.name p.name) (take i ps) found in
    let q = any.1 in
    let len = length-take i ps in
    let same : q.name ≡ p.name = (bytes_eq-Decides q.name p.name).0 any.4 in
    apart any.0 i q.name (omega arith) (grind (arith, common_steps)) (grind (arith, common_steps))

-- ---- the players of an event, and of its rows

-- what is left to ask of players who are numbered and have names of their own
pub plays : (phase : Phase) (limit : ℕ) (players : List Player) → length players ≤ MAX_PLAYERS
    → numbers players ≡ range_with_len 1 (length players) → AllPairs (λ a b. a ≢ b) (names players)
    → All (λ (p : Player). IsTrue (is_lawful_name p.name)) players → Suits phase limit players
    → ArePlayers phase limit players
plays phase limit players few numbered apart lawful suits =
    let names_are = All-map (λ n. IsTrue (is_lawful_name n)) (λ (p : Player). p.name) players lawful in grind arith

-- the rows tell the players
pub players-same : (xs ys : List Player) → map player_row xs ≡ map player_row ys → xs ≡ ys
players-same [] [] e = refl
players-same [] (y ∷ ys) e = absurd (cc)
players-same (x ∷ xs) [] e = absurd (cc)
players-same (x ∷ xs) (y ∷ ys) e = grind (arith, common_steps, players-same xs ys (ap (drop 1) e))

pub lawful_players : (phase : Phase) (limit : ℕ) (players : List Player) → limit < 256 → ArePlayers phase limit players
    → All IsLawfulPlayer players
lawful_players phase limit players byte h k d below =
    let joined = h.joined k d below in
    let p = get_or players k d in
    let number = number_at players k p below (get_or_default players k d p below) h.numbered in
    let few = h.few in
    let named = get_or-map (λ (q : Player). q.name) players k d in
    let lawful = h.lawful k d.name (grind (arith, common_steps)) in
    record { low = omega arith; high = omega arith; name = rw named at lawful; joined = omega arith }

pub none-when : {A : Type 0} (xs ys : List A) → xs ≡ ys → (length xs == 0) ≡ true → ys ≡ []
none-when xs ys same none = grind (arith, common_steps)
