-- If nobody sits twice, a player has only one match of a round; the rounds add up.
use Rattle.er_event.proofs.Prelude.{open_match, match_with_score, scored_slot, results_by, results_from, complete_results, results_of_match}
use Rattle.er_event.proofs.Prelude.{IsAbsent, Match, Round, Games, IsSeatedOnce, rounds_with_score, All}
use Rattle.er_event.proofs.Prelude.{AllPairs, List, Option, [], ap, arith, flat_map, get_or, length, refl, subst, suc, sym, take, zero, ℕ}
use Rattle.er_event.proofs.Prelude.{◌++◌, ◌+◌, ◌-◌, ◌<◌, ◌∙◌, ◌∷◌, ◌≡◌, ◌≢◌, ◌⊎◌, common_steps, length-set, take_more}
use Rattle.er_event.proofs.{ScoreLemmas.set-All, SeatLemmas.{AreApart, sit-apart}}

absent_score : (player round : ℕ) (m : Match) (score : Option Games) → m.a ≢ player → m.b ≢ player → results_by player round m score ≡ []
absent_score player round m score first second = grind (arith, common_steps)

pub absent : (player round : ℕ) (m : Match) → m.a ≢ player → m.b ≢ player → results_of_match player round m ≡ []
absent player round m first second = absent_score player round m m.score first second

-- one who is absent has no result
pub absent_results : (player round : ℕ) (ms : List Match) → IsAbsent player ms → flat_map (results_of_match player round) ms ≡ []
absent_results player round [] away = refl
absent_results player round (m ∷ ms) away =
    let here = absent player round m (away 0 m (omega arith)).0 (away 0 m (omega arith)).1 in
    let rest = absent_results player round ms (λ k d below. away (suc k) d (omega arith)) in
    grind (arith, common_steps)

-- the two of a match differ
pub apart_at : (matches : List Match) → IsSeatedOnce matches → (k : ℕ) (m : Match) → k < length matches → m ≡ get_or matches k m → m.a ≢ m.b
apart_at ms once k m below is = subst (λ (n : Match). n.a ≢ n.b) (sym is) ((sit-apart ms once).0 k m below)

-- whoever sits in one of two matches that are apart is absent from the other
away : (m n : Match) (player : ℕ) → AreApart m n → (player ≡ m.a) ⊎ (player ≡ m.b) → (n.a ≢ player) × (n.b ≢ player)
away m n player apart sits = grind arith

one_of : (matches : List Match) → AllPairs AreApart matches → (k : ℕ) (m : Match) (player : ℕ) → k < length matches
    → m ≡ get_or matches k m → (player ≡ m.a) ⊎ (player ≡ m.b)
    → (round : ℕ) → flat_map (results_of_match player round) matches ≡ results_of_match player round m
one_of [] apart k m player below is sits round = absurd (omega arith)
one_of (n ∷ rest) apart zero m player below is sits round =
    let others = absent_results player round rest (λ j d within. away m (get_or rest j d) player
    (subst (λ (x : Match). AreApart x (get_or rest j d)) (sym is) (apart 0 (suc j) d (omega arith) (omega arith))) sits) in
    grind (arith, common_steps, others)
one_of (n ∷ rest) apart (suc k) m player below is sits round =
    let u = apart 0 (suc k) m (omega arith) (omega arith) in
    let gone = away (get_or rest k m) n player (λ e. u.0 (sym e), λ e. u.2 (sym e), λ e. u.1 (sym e), λ e. u.3 (sym e))
    (subst (λ (x : Match). (player ≡ x.a) ⊎ (player ≡ x.b)) is sits) in
    let here = absent player round n gone.0 gone.1 in
    let later = one_of rest (λ i j d before within. apart (suc i) (suc j) d (omega arith) (omega arith)) k m player (omega arith) is sits
    round in
    grind (arith, common_steps, here, later)

-- the player's results of a round are those of the match at which the player sits
pub one_match : (matches : List Match) → IsSeatedOnce matches → (k : ℕ) (m : Match) (player : ℕ) → k < length matches
    → m ≡ get_or matches k m → (player ≡ m.a) ⊎ (player ≡ m.b)
    → (round : ℕ) → flat_map (results_of_match player round) matches ≡ results_of_match player round m
one_match ms once = one_of ms (sit-apart ms once).1

pub slot-length : (matches : List Match) (table : ℕ) (score : Games) → length (scored_slot matches table score) ≡ length matches
slot-length matches table score = length-set matches (table - 1) (match_with_score score (get_or matches (table - 1) (open_match 0 0)))

-- ---- rounds

pub results_from-push : (player n : ℕ) (rs : List Round) (r : Round)
    → results_from player n (rs ++ r ∷ []) ≡ results_from player n rs ++ complete_results player (n + length rs, r)
results_from-push player n [] r = grind (arith, common_steps)
results_from-push player n (first ∷ rs) r = grind (arith, common_steps, results_from-push player (n + 1) rs r)

pub results_from-more : (player : ℕ) (rounds : List Round) (i : ℕ) (r : Round) → i < length rounds → r ≡ get_or rounds i r
    → results_from player 1 (take (i + 1) rounds)
    ≡ results_from player 1 (take i rounds) ++ complete_results player (1 + length (take i rounds), r)
results_from-more player rounds i r below is =
    ap (results_from player 1) (take_more rounds i r below ∙ ap (λ (x : Round). take i rounds ++ x ∷ []) (sym is))
    ∙ results_from-push player 1 (take i rounds) r

-- ---- a score set anew

blank : Round
blank = record { matches = [] }

new_round : List Round → ℕ → ℕ → Games → Round
new_round rounds place table score = record { matches = scored_slot (get_or rounds place blank).matches table score }

pub seated-here : (rounds : List Round) (at place table : ℕ) (score : Games) (r : Round) → at < length rounds → at ≡ place
    → r ≡ get_or rounds at r
    → All (λ (s : Round). IsSeatedOnce s.matches) (rounds_with_score rounds place table score)
    → IsSeatedOnce (scored_slot r.matches table score)
unfolding blank new_round
seated-here rounds at place table score r within same is seated =
    let here : get_or rounds place blank ≡ r = grind (arith, common_steps) in
    rw here at (set-All (λ (s : Round). IsSeatedOnce s.matches) (new_round rounds place table score) place rounds (omega arith) seated)

pub seated-there : (rounds : List Round) (at place table : ℕ) (score : Games) (r : Round) → at < length rounds → at ≢ place
    → r ≡ get_or rounds at r
    → All (λ (s : Round). IsSeatedOnce s.matches) (rounds_with_score rounds place table score) → IsSeatedOnce r.matches
unfolding blank new_round
seated-there rounds at place table score r within other is seated =
    let there : get_or (rounds_with_score rounds place table score) at r ≡ r = grind (arith, common_steps) in
    rw there at (seated at r (omega (arith, length-set rounds place (new_round rounds place table score))))

pub rescored-length : (rounds : List Round) (place table : ℕ) (score : Games)
    → length (rounds_with_score rounds place table score) ≡ length rounds
unfolding blank new_round
rescored-length rounds place table score = length-set rounds place (new_round rounds place table score)
