-- A command that was taken once is refused at every later point: enrolment, start, pairing, drop and cut.
use Rattle.std.proofs.{lemmas.Grind.common_steps, Common.{◌≡◌, inl, inr, ℕ, ◌+◌, ◌≤◌, ◌==◌, Bool, true, false, cond, not, List, [], ◌∷◌}}
use Rattle.std.proofs.Common.{◌++◌, ◌&&◌, ◌||◌, length, map, find, Option, Some, None, Result, Ok, Err, refl, sym, ap, subst, ◌∙◌, arith}
use Rattle.std.proofs.Common.{length-append, true≢false}
use Rattle.std.proofs.{lemmas.Slice.Eq.bytes_eq-Decides, lemmas.Bool.{not-false, eqb-true, ne_eqb, cases_Bool, cond_both, or_left}}
use Rattle.std.proofs.{lemmas.Bool.or_right, lemmas.List.Folds.{find-append, list_any-append}}
use Rattle.std.specs.Str.{bytes_eq}
use Rattle.er_event.specs.{declared.events.Phase.Phase, declared.events.Phase.TheVariants.Finished, declared.players.Player.Player}
use Rattle.er_event.specs.{declared.commands.Command.Command, declared.commands.Command.TheVariants.{Enrol, Start, Pair, Drop, Cut}}
use Rattle.er_event.specs.{declared.refusals.Refusal.Refusal, declared.refusals.Refusal.TheVariants.{NameTaken, NotEnrolling, NotSwiss}}
use Rattle.er_event.specs.{declared.refusals.Refusal.TheVariants.{WrongRound, AlreadyDropped, AllRoundsPaired}, Event.EventValue}
use Rattle.er_event.specs.Name.{is_lawful_name}
use Rattle.er_event.specs.Change.{has_name, dropped_at, new_player}
use Rattle.er_rules.specs.{Commands.{first_refusal, is_enrolling, is_swiss, of_player}, Step.{Steps, Makes, checks}, Fold.Folds}
use Rattle.er_rules.specs.Retry.{IsRetryRefusal, NamesStay}
use Rattle.er_rules.proofs.{Found.{find_mapped, find_passes}, Keeping.{is_taken, same_Ok, AllPass, passes}}
use Rattle.er_event.specs.declared.commands.Command.TheVariants.{Playoff as PlayOff}

-- ---- what a step leaves of an event

abbrev enrols : EventValue → Bool
enrols e = is_enrolling e.phase

abbrev plays_swiss : EventValue → Bool
plays_swiss e = is_swiss e.phase

abbrev count_of_rounds : EventValue → ℕ
count_of_rounds e = length e.stored

abbrev players_in : EventValue → List Player
players_in e = e.players

abbrev named : List ℕ → EventValue → Bool
named name e = has_name e.players name

-- a phase that was over, or is
still_over : (test : Phase → Bool) (p : Phase) (b : Bool) → test Finished ≡ false → test p ≡ false → test (cond b Finished p) ≡ false
still_over test p b last is = cond_both b Finished p (λ (q : Phase). test q ≡ false) (λ _. last) (λ _. is)

-- a fact that each step keeps holds at every later point
pub kept_on : (P : EventValue → Type 0) → ((e next : EventValue) (c : Command) → Steps e c (Ok next) → P e → P next)
    → (first last : EventValue) (cs : List Command) → Folds first cs last → P first → P last
kept_on P keeps first last [] is has = subst P (sym is) has
kept_on P keeps first last (c ∷ cs) (next, steps, rest) has = kept_on P keeps next last cs rest (keeps first next c steps has)

-- if a check fails, the step refuses
pub refused_by : (e : EventValue) (c : Command) (why : Refusal) (result : Result EventValue Refusal)
    → first_refusal (checks e c) ≡ Some why → Steps e c result → result ≡ Err why
refused_by e c why result fails steps = grind (arith, common_steps)

-- nobody enrols again
pub begun_stays : (e next : EventValue) (c : Command) → Steps e c (Ok next) → is_enrolling e.phase ≡ false → is_enrolling next.phase ≡ false
begun_stays e next c steps begun = made c (is_taken e next c steps).1
  where
    made : (c : Command) → Makes e c (Ok next) → is_enrolling next.phase ≡ false
    made Start is = ap enrols (same_Ok next _ is)
    made (Pair round seed) is = ap enrols is.2.2 ∙ begun
    made Cut is = ap enrols (same_Ok next _ is.2)
    made (PlayOff stage slot score) is = ap enrols (same_Ok next _ is) ∙ still_over is_enrolling e.phase _ refl begun
    made c is = ap enrols (same_Ok next _ is) ∙ begun

-- ---- pairing: the rounds that are stored stay

rounds_stay : (n : ℕ) (e next : EventValue) (c : Command) → Steps e c (Ok next) → n ≤ length e.stored → n ≤ length next.stored
rounds_stay n e next c steps few = grind (arith, common_steps)

pub swiss_began : (p : Phase) → is_swiss p ≡ true → is_enrolling p ≡ false
swiss_began h1 is = grind (arith, common_steps)

-- ---- cut: the Swiss rounds are over

abbrev pub IsOver : EventValue → Type 0
IsOver e = (is_enrolling e.phase ≡ false) × (is_swiss e.phase ≡ false)

pub not_again : (b : Bool) → b ≡ false → not b ≡ false → ⊥
not_again h1 is never = grind (arith, common_steps)

pub over_stays : (e next : EventValue) (c : Command) → Steps e c (Ok next) → IsOver e → IsOver next
over_stays e next c steps over = (begun_stays e next c steps over.0, made c (is_taken e next c steps))
  where
    made : (c : Command) → (first_refusal (checks e c) ≡ None) × Makes e c (Ok next) → is_swiss next.phase ≡ false
    made Start is = absurd (not_again (is_enrolling e.phase) over.0 (passes (checks e Start) is.0).0)
    made (Pair round seed) is = ap plays_swiss is.1.2.2 ∙ over.1
    made Cut is = ap plays_swiss (same_Ok next _ is.1.2)
    made (PlayOff stage slot score) is = ap plays_swiss (same_Ok next _ is.1) ∙ still_over is_swiss e.phase _ refl over.1
    made c is = ap plays_swiss (same_Ok next _ is.1) ∙ over.1

-- ---- enrolment: a name that is taken stays so

drop_stays : (k : ℕ) (x : Player) → x.dropped ≡ true → (dropped_at k x).dropped ≡ true
drop_stays k x is = cond_both (x.no == k) (record x { dropped = true }) x (λ (y : Player). y.dropped ≡ true) (λ _. refl) (λ _. is)

names_stay : (k : ℕ) (name : List ℕ) (xs : List Player) → has_name (map (dropped_at k) xs) name ≡ has_name xs name
names_stay k name [] = refl
names_stay k name (x ∷ xs) = grind (arith, common_steps, names_stay k name xs)

name_kept : (name : List ℕ) (e next : EventValue) (c : Command) → Steps e c (Ok next) → named name e ≡ true → named name next ≡ true
name_kept name e next c steps has = made c (is_taken e next c steps).1
  where
    made : (c : Command) → Makes e c (Ok next) → named name next ≡ true
    made (Enrol other) is =
        let more = list_any-append (λ (p : Player). bytes_eq p.name name) e.players (new_player e other ∷ []) in
        ap (named name) (same_Ok next _ is) ∙ (more ∙ or_left _ _ has)
    made (Pair round seed) is = ap (named name) is.2.2 ∙ has
    made (Drop player) is = ap (named name) (same_Ok next _ is) ∙ (names_stay player name e.players ∙ has)
    made Cut is = ap (named name) (same_Ok next _ is.2) ∙ has
    made c is = ap (named name) (same_Ok next _ is) ∙ has

-- and is enrolled no second time
pub enrolled_once : NamesStay
enrolled_once e later next name more has folds steps =
    let now = kept_on (λ (x : EventValue). named name x ≡ true) (name_kept name) e later more folds has in
    let free = (passes (checks later (Enrol name)) (is_taken later next (Enrol name) steps).0).1.1.1.0 in
    true≢false (sym now ∙ free)

-- ---- drop: a player who dropped stays so

abbrev of_number : ℕ → Player → Bool
of_number n q = q.no == n

abbrev Gone : ℕ → List Player → Type 0
Gone n xs = (p : Player) × (find (of_number n) xs ≡ Some p) × (p.dropped ≡ true)

gone_after : (n k : ℕ) (xs : List Player) (p : Player) → find (of_number n) xs ≡ Some p → (dropped_at k p).dropped ≡ true
    → Gone n (map (dropped_at k) xs)
gone_after n k xs p found gone = grind (arith, common_steps, cond_both, find_mapped)

gone_stays : (n k : ℕ) (xs : List Player) → Gone n xs → Gone n (map (dropped_at k) xs)
gone_stays n k xs (p, found, dropped) = gone_after n k xs p found (drop_stays k p dropped)

gone_now : (n : ℕ) (xs : List Player) (p : Player) → find (of_number n) xs ≡ Some p → Gone n (map (dropped_at n) xs)
gone_now n xs p found = gone_after n n xs p found (let is = find_passes (of_number n) xs p found in rw is refl)

-- one more player has another number
gone_among : (n : ℕ) (xs : List Player) (new : Player) → Gone n xs → Gone n (xs ++ new ∷ [])
gone_among n xs new (p, found, dropped) = (p, found_among n xs new p found, dropped)
  where
    found_among : (n : ℕ) (xs : List Player) (new p : Player) → find (of_number n) xs ≡ Some p
        → find (of_number n) (xs ++ new ∷ []) ≡ Some p
    found_among n xs new p found = grind (arith, common_steps, find-append (of_number n) xs (new ∷ []))

abbrev HasGone : ℕ → EventValue → Type 0
HasGone n e = (is_enrolling e.phase ≡ false) × Gone n e.players

gone_kept : (n : ℕ) (e next : EventValue) (c : Command) → Steps e c (Ok next) → HasGone n e → HasGone n next
gone_kept n e next c steps has = (begun_stays e next c steps has.0, made c (is_taken e next c steps))
  where
    as_before : next.players ≡ e.players → Gone n next.players
    as_before same = subst (Gone n) (sym same) has.1

    made : (c : Command) → (first_refusal (checks e c) ≡ None) × Makes e c (Ok next) → Gone n next.players
    made (Enrol name) is =
        subst (Gone n) (sym (ap players_in (same_Ok next _ is.1))) (gone_among n e.players (new_player e name) has.1)
    made (Pair round seed) is = as_before (ap players_in is.1.2.2)
    made (Drop player) is = subst (Gone n) (sym (ap players_in (same_Ok next _ is.1))) (gone_stays n player e.players has.1)
    made Cut is = as_before (ap players_in (same_Ok next _ is.1.2))
    made c is = as_before (ap players_in (same_Ok next _ is.1))

listed_there : (o : Option Player) → AllPass (of_player o) → (p : Player) × (o ≡ Some p)
listed_there h1 is = grind (arith, common_steps)

module _ (e next later : EventValue) (more : List Command) (folds : Folds next more later) (result : Result EventValue Refusal) where
  abbrev Refused : Command → Type 0
  Refused c = (why : Refusal) × (result ≡ Err why) × IsRetryRefusal c why

  pub start_again : Steps e Start (Ok next) → Steps later Start result → Refused Start
  start_again taken again =
      let begun : is_enrolling next.phase ≡ false = ap enrols (same_Ok next _ (is_taken e next Start taken).1) in
      let now = kept_on (λ (x : EventValue). is_enrolling x.phase ≡ false) begun_stays next later more folds begun in
      (NotEnrolling, refused_by later Start NotEnrolling result (rw now refl) again, refl)

  pub pair_again : (round : ℕ) (seed : List ℕ) → Steps e (Pair round seed) (Ok next) → Steps later (Pair round seed) result
      → Refused (Pair round seed)
  pair_again round seed taken again =
      let it = is_taken e next (Pair round seed) taken in
      let long : length next.stored ≡ length e.stored + 1 = ap count_of_rounds it.1.2.2 ∙ length-append e.stored _ in
      let is = eqb-true round (length e.stored + 1) (not-false _ (passes (checks e (Pair round seed)) it.0).1.0) in
      let stored : round ≤ length next.stored = omega (arith, is, long) in
      let now = kept_on (λ (x : EventValue). round ≤ length x.stored) (rounds_stay round) next later more folds stored in
      elim (cases_Bool (is_swiss later.phase)) [
        | inr over ↦ (NotSwiss, refused_by later (Pair round seed) NotSwiss result (rw over refl) again, inr refl)
        | inl swiss ↦
            let newest = length later.stored + 1 in
            let other : (round == newest) ≡ false = ne_eqb round newest (λ same. omega (arith, same, now)) in
            let why = refused_by later (Pair round seed) (WrongRound newest) result (rw (swiss, other) refl) again in
            (WrongRound newest, why, inl (newest, refl))
      ]

  pub cut_again : Steps e Cut (Ok next) → Steps later Cut result → Refused Cut
  cut_again taken again =
      let is = same_Ok next _ (is_taken e next Cut taken).1.2 in
      let over : IsOver next = (ap enrols is, ap plays_swiss is) in
      let now = kept_on IsOver over_stays next later more folds over in
      (NotSwiss, refused_by later Cut NotSwiss result (rw now.1 refl) again, refl)

  pub enrol_again : (name : List ℕ) → Steps e (Enrol name) (Ok next) → Steps later (Enrol name) result → Refused (Enrol name)
  enrol_again name taken again =
      let it = is_taken e next (Enrol name) taken in
      let lawful = not-false (is_lawful_name name) (passes (checks e (Enrol name)) it.0).1.1.0 in
      let own : bytes_eq name name ≡ true = (bytes_eq-Decides name name).1 refl in
      let added = list_any-append (λ (p : Player). bytes_eq p.name name) e.players (new_player e name ∷ []) in
      let has : named name next ≡ true = ap (named name) (same_Ok next _ it.1) ∙ (added ∙ or_right _ _ (or_left _ false own)) in
      let now = kept_on (λ (x : EventValue). named name x ≡ true) (name_kept name) next later more folds has in
      elim (cases_Bool (is_enrolling later.phase || is_swiss later.phase)) [
        | inr closed ↦ (NotEnrolling, refused_by later (Enrol name) NotEnrolling result (rw closed refl) again, inr (inr refl))
        | inl open_yet ↦ elim (cases_Bool (is_swiss later.phase && length later.stored == later.rounds)) [
          | inl paired ↦
              (AllRoundsPaired, refused_by later (Enrol name) AllRoundsPaired result (rw (open_yet, paired) refl) again, inr (inl refl))
          | inr left ↦
              (NameTaken, refused_by later (Enrol name) NameTaken result (rw (open_yet, left, lawful, now) refl) again, inl refl)
        ]
      ]

  pub drop_again : (player : ℕ) → Steps e (Drop player) (Ok next) → Steps later (Drop player) result → Refused (Drop player)
  drop_again player taken again =
      let it = is_taken e next (Drop player) taken in
      let pass = passes (checks e (Drop player)) it.0 in
      let there = listed_there (find (of_number player) e.players) pass.1 in
      let is = same_Ok next _ it.1 in
      let gone : Gone player next.players = subst (Gone player) (sym (ap players_in is)) (gone_now player e.players there.0 there.1) in
      let begun : is_enrolling next.phase ≡ false = ap enrols is ∙ swiss_began e.phase (not-false _ pass.0) in
      let now = kept_on (HasGone player) (gone_kept player) next later more folds (begun, gone) in
      elim (cases_Bool (is_swiss later.phase)) [
        | inr over ↦ (NotSwiss, refused_by later (Drop player) NotSwiss result (rw over refl) again, inr refl)
        | inl swiss ↦
            let why = refused_by later (Drop player) AlreadyDropped result (rw (swiss, now.1.1, now.1.2) refl) again in
            (AlreadyDropped, why, inl refl)
      ]
