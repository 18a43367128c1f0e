-- An event with one more player is sound exactly if there is room and the name is new.
use Rattle.er_event.proofs.Prelude.{has_name, with_player, EventValue, is_lawful_name, ArePlayers, AreRounds, AreStages, IsBracket, IsRound}
use Rattle.er_event.proofs.Prelude.{IsSoundButForSeeds, names, numbers, Phase, Match, Player, Round, AllPairs, Bool, IsFalse, IsTrue, List}
use Rattle.er_event.proofs.Prelude.{[], ap, arith, false, get_or, length, length-append, not, not-suc-le-zero, refl, suc, true, zero, ℕ}
use Rattle.er_event.proofs.Prelude.{◌++◌, ◌+◌, ◌<◌, ◌∷◌, ◌≡◌, ◌≢◌, common_steps, All-push, All-weaker, all_pairs_push, map-append}
use Rattle.er_event.proofs.Prelude.{bytes_eq-Decides, range_with_len, bytes_eq}
use Rattle.std.proofs.lemmas.List.Elements.{Contains-append_left}
use Rattle.er_event.specs.Change.{new_player}
use Rattle.er_event.proofs.{Absent.missed-new, Prelude.{All, Enrolling, HasMissed, subst, ◌≤◌}}

-- more numbers are known
IsRound-known : (known more : List ℕ) (matches : List Match) → IsRound known matches → IsRound (known ++ more) matches
IsRound-known known more matches h = grind (arith, common_steps, All-weaker, Contains-append_left)

IsBracket-known : (known more : List ℕ) (cut : ℕ) (stages : List (List Match)) → IsBracket known cut stages
    → IsBracket (known ++ more) cut stages
IsBracket-known known more cut stages h = grind (arith, common_steps, All-weaker, Contains-append_left)

not_true : (b : Bool) → (b ≡ true → ⊥) → b ≡ false
not_true b h = grind arith

not_true-from : (b : Bool) → IsTrue (not b) → b ≡ false
not_true-from b h = grind arith

pub range-push : (a n : ℕ) → range_with_len a (n + 1) ≡ range_with_len a n ++ (a + n) ∷ []
range-push a zero = let e : a ≡ a + 0 = omega arith in ap (λ k. k ∷ []) e
range-push a (suc n) = grind (arith, common_steps, range-push (a + 1) n)

-- nobody has the name that no player has
pub has_name-none : (players : List Player) (name : List ℕ) → has_name players name ≡ false → (k : ℕ) (d : List ℕ)
    → k < length (names players) → get_or (names players) k d ≢ name
has_name-none [] name none k d below same = absurd (not-suc-le-zero below)
has_name-none (p ∷ ps) name none zero d below same = grind (arith, common_steps, bytes_eq-Decides)
has_name-none (p ∷ ps) name none (suc k) d below same = grind (arith, common_steps, bytes_eq, has_name, has_name-none ps name)

last_name : (players : List Player) (new : Player) (d : List ℕ) → get_or (names (players ++ new ∷ [])) (length players) d ≡ new.name
last_name [] new d = refl
last_name (p ∷ ps) new d = last_name ps new d

length-names : (players : List Player) (new : Player) → length (names (players ++ new ∷ [])) ≡ suc (length players)
length-names [] new = refl
length-names (p ∷ ps) new = ap suc (length-names ps new)

-- if all names differ, the last player's is new
has_name-new : (players : List Player) (new : Player) → AllPairs (λ p q. p ≢ q) (names (players ++ new ∷ []))
    → has_name players new.name ≡ false
has_name-new [] new distinct = refl
has_name-new (p ∷ ps) new distinct =
    let count = length-names ps new in
    let other = distinct 0 (suc (length ps)) [] (omega arith) (omega arith) in
    let others = has_name-new ps new (λ i j d before within. distinct (suc i) (suc j) d (omega arith) (omega arith)) in
    grind (arith, common_steps, bytes_eq-Decides p.name new.name, last_name ps new [])

players-with : (e : EventValue) (name : List ℕ) → ArePlayers e.phase e.rounds e.players → IsTrue (is_lawful_name name)
    → length e.players < 512 → has_name e.players name ≡ false → length e.stored ≤ e.rounds → (e.phase ≡ Enrolling → e.stored ≡ [])
    → ArePlayers e.phase e.rounds (e.players ++ new_player e name ∷ [])
players-with e name h lawful room new stored none =
    let p = new_player e name in
    let Apart : List ℕ → List ℕ → Type 0 = λ a b. a ≢ b in
    let count : length (e.players ++ p ∷ []) ≡ length e.players + 1 = length-append e.players (p ∷ []) in
    let listed : names (e.players ++ p ∷ []) ≡ names e.players ++ name ∷ [] = map-append (λ (q : Player). q.name) e.players (p ∷ []) in
    record {
      few = omega arith;
      numbered = grind (arith, common_steps, range-push 1 (length e.players), h.numbered);
      lawful = rw listed (All-push (λ n. IsTrue (is_lawful_name n)) (names e.players) name h.lawful lawful);
      distinct = rw listed (all_pairs_push Apart (names e.players) name h.distinct (has_name-none e.players name new));
      enrolling = λ phase. All-push (λ (q : Player). IsFalse q.dropped) e.players p (h.enrolling phase) refl;
      early = λ phase. All-push (λ (q : Player). q.joined ≡ 0) e.players p (h.early phase) (ap length (none phase));
      joined = All-push (λ (q : Player). q.joined ≤ e.rounds) e.players p h.joined stored;
      started = λ phase. let enough = h.started phase in omega arith;
    }

rounds-known : (phase : Phase) (limit : ℕ) (known more : List ℕ) (rounds : List Round) → AreRounds phase limit known rounds
    → AreRounds phase limit (known ++ more) rounds
rounds-known phase limit known more rounds h =
    let each = All-weaker (λ (r : Round). IsRound known r.matches) (λ (r : Round). IsRound (known ++ more) r.matches)
    (λ r. IsRound-known known more r.matches) rounds h.each in
    grind arith

stages-known : (phase : Phase) (cut : ℕ) (known more : List ℕ) (stages : List (List Match)) → AreStages phase cut known stages
    → AreStages phase cut (known ++ more) stages
stages-known phase cut known more stages h = grind (arith, common_steps, IsBracket-known)

-- the event with one more player is sound
pub IsSound-with : (e : EventValue) (name : List ℕ) → IsSoundButForSeeds e → IsTrue (is_lawful_name name) → length e.players < 512
    → IsTrue (not (has_name e.players name)) → IsSoundButForSeeds (with_player e name)
IsSound-with e name h lawful room new =
    let p = new_player e name in
    let each = subst (λ (known : List ℕ). All (λ (r : Round). IsRound known r.matches) e.stored) h.players.numbered h.rounds.each in
    let listed : numbers (e.players ++ p ∷ []) ≡ numbers e.players ++ p.no ∷ [] = map-append (λ (q : Player). q.no) e.players (p ∷ []) in
    record {
      set_up = h.set_up;
      players = players-with e name h.players lawful room (not_true-from _ new) h.rounds.few h.rounds.enrolling;
      rounds = rw listed (rounds-known e.phase e.rounds (numbers e.players) (p.no ∷ []) e.stored h.rounds);
      missed = All-push (HasMissed e.stored) e.players p h.missed (missed-new (length e.players) e.stored p each refl refl);
      bracket = rw listed (stages-known e.phase e.cut (numbers e.players) (p.no ∷ []) e.bracket.stages h.bracket);
    }

-- and the name was new, if that is so
pub IsSound-new : (e : EventValue) (name : List ℕ) → IsSoundButForSeeds (with_player e name) → IsTrue (not (has_name e.players name))
IsSound-new e name h = ap not (has_name-new e.players (new_player e name) h.players.distinct)
