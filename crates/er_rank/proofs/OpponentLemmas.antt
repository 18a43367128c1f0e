-- Whom each player has met, one encounter after the other.
use Rattle.std.proofs.{lemmas.Grind.common_steps, Common.{◌≡◌, ℕ, ◌+◌, ◌-◌, ◌<◌, ◌==◌, cond, List, [], ◌∷◌, ◌++◌, map, length, take}}
use Rattle.std.proofs.{Common.{get_or, count_by, All, sym, ap, ◌∙◌, arith, append_assoc, zero, suc}, Math.ListN.set}
use Rattle.std.proofs.{lemmas.Bool.Decides.nat_tests, lemmas.List.{map-append, length-map}, lemmas.List.Elements.filter-append}
use Rattle.std.proofs.{lemmas.List.Sums.{length-filter, sum_by-append, sum_by-cons}, lemmas.Slice.Zip.AllZip-long}
use Rattle.er_share.specs.{Fraction.Fraction, Mean.{MeanValue, IsMeanOf}, Share.IsShareOf}
use Rattle.er_event.specs.{declared.tallies.Meeting.Meeting, declared.totals.Totals.Totals}
use Rattle.er_rank.specs.{declared.opponents.Opponents.Opponents, Meeting.{Encounter, encounters, opponents_of, IsRecord, AreEncounters}}
use Rattle.er_rank.specs.{inside.Merit.AreOpponents, inside.Opponents.{AreOpponentsOf, HasRoom}, Tally.IsKnown}

-- as many shares came as there are opponents
pub count-of : (mean : MeanValue) (f : Totals → Fraction) (totals : List Totals) → IsMeanOf mean (map f totals) → mean.count ≡ length totals
count-of mean f totals are = are.count ∙ (sym (AllZip-long IsShareOf are.shares (map f totals) are.each) ∙ length-map totals f)

pub opponents_of-append : (xs ys : List Encounter) (player : ℕ)
    → opponents_of (xs ++ ys) player ≡ opponents_of xs player ++ opponents_of ys player
opponents_of-append xs ys player = simp (filter-append, map-append)

-- the player's own place has one opponent more, and the others stay
pub AreOpponentsOf-met : (before : List Encounter) (e : Encounter) (list : List Opponents) (at : ℕ) (here : Opponents)
    → 1 + at ≡ e.player → at < length list → AreOpponentsOf before list
    → AreOpponents here (opponents_of before (1 + at) ++ e.opponent ∷ []) → AreOpponentsOf (before ++ e ∷ []) (set list at here)
AreOpponentsOf-met before e list at here number within are now = grind (arith, common_steps)

-- ---- room for one more

pub met-count : (all : List Encounter) (player : ℕ)
    → length (opponents_of all player) ≡ count_by (λ (e : Encounter). e.player == player) all
met-count all player = grind (arith, common_steps, length-filter, length-map)

-- before an encounter of the player there is room
HasRoom-here : (players : ℕ) (xs : List Encounter) (e : Encounter) (ys : List Encounter) (list : List Opponents)
    → AreEncounters players (xs ++ e ∷ ys) → length list ≡ players → IsKnown players e.player → AreOpponentsOf xs list
    → HasRoom list e.player
HasRoom-here players xs e ys list all count known are =
    let bit : Encounter → ℕ = λ x. cond (x.player == e.player) 1 0 in
    let own : bit e ≡ 1 = grind (arith, nat_tests) in
    let number : 1 + (e.player - 1) ≡ e.player = omega (arith, known) in
    record {
      before = opponents_of xs e.player;
      few = omega (arith, own, all.few e.player, sum_by-append bit xs (e ∷ ys), sum_by-cons bit e ys, met-count xs e.player);
      are = λ d. rw number at (are (e.player - 1) d (omega (arith, known)));
    }

-- ---- one meeting after the other

abbrev pub first_of : Meeting → Encounter
first_of m = record { player = m.lo; opponent = m.hi_totals }

abbrev pub second_of : Meeting → Encounter
second_of m = record { player = m.hi; opponent = m.lo_totals }

pub encounters-more : (met : List Meeting) (i : ℕ) (m : Meeting) → i < length met → m ≡ get_or met i m
    → encounters (take (i + 1) met) ≡ (encounters (take i met) ++ first_of m ∷ []) ++ second_of m ∷ []
encounters-more met i m below is = grind (arith, common_steps)

-- those before, the two of this meeting, and those after
pub encounters-split : (met : List Meeting) (i : ℕ) (m : Meeting) → i < length met → m ≡ get_or met i m
    → (rest : List Encounter) × (encounters met ≡ encounters (take i met) ++ first_of m ∷ second_of m ∷ rest)
encounters-split [] i m below is = absurd (omega arith)
encounters-split (n ∷ met) zero m below is = (encounters met, ap (λ (x : Meeting). first_of x ∷ second_of x ∷ encounters met) (sym is))
encounters-split (n ∷ met) (suc i) m below is =
    let later = encounters-split met i m (omega arith) is in
    (later.0, ap (λ (es : List Encounter). first_of n ∷ second_of n ∷ es) later.1)

pub All-here : {X : Type 0} (P : X → Type 0) (xs : List X) (x : X) (ys : List X) → All P (xs ++ x ∷ ys) → P x
All-here P [] x ys all = all 0 x (omega arith)
All-here P (z ∷ xs) x ys all = All-here P xs x ys (λ k d below. all (suc k) d (omega arith))

-- both of a meeting are known, and what they came to are records
pub record AreBoth (players : ℕ) (m : Meeting) : Type 0 where
  pub lo : IsKnown players m.lo
  pub hi : IsKnown players m.hi
  pub lo_record : IsRecord m.lo_totals
  pub hi_record : IsRecord m.hi_totals

module _ (players : ℕ) (met : List Meeting) (i : ℕ) (m : Meeting) (all : AreEncounters players (encounters met))
    (below : i < length met) (is : m ≡ get_or met i m) where
  split_first : (rest : List Encounter) × AreEncounters players (encounters (take i met) ++ first_of m ∷ rest)
  split_first = grind (arith, common_steps, encounters-split)

  split_second : (rest : List Encounter) × AreEncounters players ((encounters (take i met) ++ first_of m ∷ []) ++ second_of m ∷ rest)
  split_second = grind (arith, common_steps, append_assoc, encounters-split)

  pub both-here : AreBoth players m
  both-here =
      let xs = encounters (take i met) in
      let one = split_first in
      let two = split_second in
      let known : Encounter → Type 0 = λ e. IsKnown players e.player in
      let recorded : Encounter → Type 0 = λ e. IsRecord e.opponent in
      record {
        lo = All-here known xs (first_of m) one.0 one.1.known;
        hi = All-here known (xs ++ first_of m ∷ []) (second_of m) two.0 two.1.known;
        lo_record = All-here recorded (xs ++ first_of m ∷ []) (second_of m) two.0 two.1.records;
        hi_record = All-here recorded xs (first_of m) one.0 one.1.records;
      }

  pub first-room : (list : List Opponents) → length list ≡ players → AreOpponentsOf (encounters (take i met)) list → HasRoom list m.lo
  first-room list count are =
      HasRoom-here players (encounters (take i met)) (first_of m) split_first.0 list split_first.1 count both-here.lo are

  pub second-room : (list : List Opponents) → length list ≡ players → AreOpponentsOf (encounters (take i met) ++ first_of m ∷ []) list
      → HasRoom list m.hi
  second-room list count are =
      HasRoom-here players (encounters (take i met) ++ first_of m ∷ [])
      (second_of m) split_second.0 list split_second.1 count both-here.hi are
