-- An event whose playoff has one more score is sound exactly if the changed stage fits what comes after it.
use Rattle.er_event.proofs.Prelude.{FollowOn, IsDecided, SameSlots, stage_after, is_over, last_match, next_stage, open_match, slot_at, Fits}
use Rattle.er_event.proofs.Prelude.{IsEnd, one_more, match_with_score, scored_slot, stage_of, EventValue, is_complete, is_playoff_score}
use Rattle.er_event.proofs.Prelude.{IsBracket}
use Rattle.er_event.proofs.Prelude.{IsPlayoff, IsSoundButForSeeds, numbers, SetBracketScore, Phase, Finished, Match, Games, All, Bool, Bor}
use Rattle.er_event.proofs.Prelude.{IfSome, IsTrue, List, None, Option, Some, [], ap, arith, cond, drop, false, get_or, inr, is_some}
use Rattle.er_event.proofs.Prelude.{length, option_map, refl, subst, suc, sym, true, ℕ, ◌&&◌, ◌++◌, ◌-◌, ◌<◌, ◌==◌, ◌↔◌, ◌∙◌, ◌∷◌, ◌≡◌, ◌≤◌}
use Rattle.er_event.proofs.Prelude.{set, nat_tests, common_steps, All-from_recursion, recursion_from_All, get_or_from_slice_get, gets}
use Rattle.er_event.proofs.Prelude.{slice_get_within, length-append, length-set, true≢false, AllByRecursion, slice_get}
use Rattle.std.proofs.Common.{IsSome, MatchOption, nat_lt}
use Rattle.er_event.proofs.{BracketLemmas.Lawful, PlayoffLemmas.{all-new, all-old, drop-here, drop-new, first-new, follow-drop}}
use Rattle.er_event.proofs.{PlayoffLemmas.{follow-never, follow-new, in_playoff, last-drop, sound-playoff, started}, RoundLemmas.All-of}
use Rattle.er_event.proofs.{ScoreLemmas.{All-set, set-All}, SeatLemmas.seats-set, SlotLemmas.{Stands, follow-split, last-after}}
use Rattle.er_event.proofs.SlotLemmas.{length-same, same-seats, slots-refl}

abbrev AllLawful : List Match → Type 0
AllLawful ms = All Lawful ms

-- ---- one stage anew, and more after the last

module _ (e : EventValue) (k : ℕ) (old new : List Match) (at : slice_get e.bracket.stages k ≡ Some old) (same : SameSlots new old)
    (h : IsSoundButForSeeds e) where
  abbrev later : List (List Match)
  later = drop (suc k) e.bracket.stages

  pub over : IsPlayoff e.phase
  over = started e h (grind (arith, common_steps))

  bracket : IsBracket (numbers e.players) e.cut e.bracket.stages
  bracket = h.bracket.bracket over

  -- what stands from this stage on
  pub follow-old : FollowOn (old ∷ later)
  follow-old = subst FollowOn (drop-here k e.bracket.stages old at) (follow-drop k e.bracket.stages bracket.follows)

  pub decided-old : last_match e.bracket.stages ≡ last_match (old ∷ later)
  decided-old =
      last-drop k e.bracket.stages (slice_get_within e.bracket.stages k old at) ∙ ap last_match (drop-here k e.bracket.stages old at)

  module _ (more : List (List Match)) (p : Phase) (is : IsPlayoff p) where
    abbrev stages : List (List Match)
    stages = set e.bracket.stages k new ++ more

    last-new : last_match stages ≡ last_match (new ∷ (later ++ more))
    last-new =
        let within = slice_get_within e.bracket.stages k old at in
        let count = length-set e.bracket.stages k new in
        last-drop k stages (omega (arith, length-append (set e.bracket.stages k new) more))
        ∙ ap last_match (drop-new new more k e.bracket.stages old at)

    decided-new : IsDecided stages ≡ IsDecided (new ∷ (later ++ more))
    decided-new = ap (λ (o : Option Match). MatchOption o ⊥ (λ (m : Match). IsSome m.score)) last-new

    pub record IsNew : Type 0 where
      pub lawful : AllLawful new
      pub behind : All AllLawful more
      pub follows : FollowOn (new ∷ (later ++ more))
      pub decided : (p ≡ Finished) ↔ IsDecided (new ∷ (later ++ more))

    pub sound-new : IsNew → IsSoundButForSeeds (in_playoff e p stages)
    sound-new n =
        let b = bracket in
        let first = first-new new more k e.bracket.stages old b.first at same b.is_first in
        let sit = sym ((same-seats first.0 b.first).0 first.2) in
        let ended : (p ≡ Finished) ↔ IsDecided stages = rw decided-new n.decided in
        sound-playoff e p stages h is (h.rounds.done over)
        (record {
          cut_is_played = b.cut_is_played;
          first = first.0;
          is_first = first.1;
          slots = length-same first.0 b.first first.2 ∙ b.slots;
          known_players = rw (← sit) b.known_players;
          seated_once = rw (← sit) b.seated_once;
          scores = All-from_recursion AllLawful stages
              (all-new new more AllLawful k e.bracket.stages n.lawful (recursion_from_All AllLawful more n.behind)
              (recursion_from_All AllLawful e.bracket.stages b.scores));
          follows = follow-new new more k e.bracket.stages old at same b.follows n.follows;
        })
        ended.0 (grind arith)

    pub new-sound : IsSoundButForSeeds (in_playoff e p stages) → IsNew
    new-sound s =
        let b = s.bracket.bracket is in
        let each = all-old new more AllLawful k e.bracket.stages old at (recursion_from_All AllLawful stages b.scores) in
        let ended : IsDecided stages → p ≡ Finished = λ over. (let never = s.bracket.undecided in grind arith) in
        record {
          lawful = each.0;
          behind = All-from_recursion AllLawful more each.1;
          follows = rw (drop-new new more k e.bracket.stages old at) at (follow-drop k stages b.follows);
          decided = rw (← decided-new) (s.bracket.decided, ended);
        }

-- ---- the slot that is named

pub record FoundSlot (e : EventValue) (stage slot : ℕ) (m : Match) : Type 0 where
  pub low : (1 ≤ stage) × (1 ≤ slot)
  pub at : slice_get e.bracket.stages (stage - 1) ≡ Some (stage_of e.bracket.stages stage)
  pub here : slice_get (stage_of e.bracket.stages stage) (slot - 1) ≡ Some m

pub found-slot : (e : EventValue) (stage slot : ℕ) (m : Match) → slot_at e stage slot ≡ Some m → FoundSlot e stage slot m
found-slot e stage slot m is = grind (arith, common_steps, gets)

pub all-at : {X : Type 0} (P : X → Type 0) (i : ℕ) (xs : List X) (x : X) → slice_get xs i ≡ Some x → AllByRecursion P xs → P x
all-at P i xs x at h = grind (arith, common_steps, recursion_from_All P, gets)

after-phase : (finished : Bool) (p : Phase) → IsPlayoff p → IsPlayoff (cond finished Finished p)
after-phase true p is = inr refl
after-phase false p is = is

next-lawful : (ms : List Match) → AllByRecursion Lawful (next_stage ms)
next-lawful [] = tt
next-lawful (m ∷ []) = tt
next-lawful (m ∷ n ∷ more) = (tt, next-lawful more)

-- a stage whose last score came in ends the bracket, or the winners go on
module _ (new : List Match) (some : 0 < length new) where
  ends : (c t o : Bool) → is_complete new ≡ c → nat_lt 1 (length new) ≡ t → (length new == 1) ≡ o
      → IsEnd new (cond (c && t) (Some (next_stage new)) None) (c && o)
  ends c t o counted long one = grind (arith, common_steps, last-after, nat_tests, next-lawful, slots-refl)

  ends-with : IsEnd new (stage_after new) (is_over new)
  ends-with = ends (is_complete new) (nat_lt 1 (length new)) (length new == 1) refl refl refl

module _ (e : EventValue) (stage slot : ℕ) (score : Games) (m : Match) (is : slot_at e stage slot ≡ Some m) (h : IsSoundButForSeeds e) where
  abbrev f : FoundSlot e stage slot m
  f = found-slot e stage slot m is

  abbrev old : List Match
  old = stage_of e.bracket.stages stage

  abbrev pub new_stage : List Match
  new_stage = scored_slot old slot score

  abbrev behind : List (List Match)
  behind = drop (suc (stage - 1)) e.bracket.stages

  -- the match as it is read
  read : (d : Match) → get_or old (slot - 1) d ≡ m
  read d = get_or_from_slice_get old (slot - 1) m d f.here

  pub new_stage-is : new_stage ≡ set old (slot - 1) (match_with_score score m)
  new_stage-is = ap (λ (n : Match). set old (slot - 1) (match_with_score score n)) (read (open_match 0 0))

  same-stage : SameSlots new_stage old
  same-stage =
      let n : Match = match_with_score score (get_or old (slot - 1) (open_match 0 0)) in
      let reads : get_or old (slot - 1) n ≡ get_or old (slot - 1) (open_match 0 0) = read n ∙ sym (read (open_match 0 0)) in
      (same-seats new_stage old).1 (sym (seats-set n (slot - 1) old (ap (λ (k : Match). k.a) reads) (ap (λ (k : Match). k.b) reads)))

  over-before : IsPlayoff e.phase
  over-before = over e (stage - 1) old new_stage f.at same-stage h

  behind-follows : FollowOn (old ∷ behind)
  behind-follows = follow-old e (stage - 1) old new_stage f.at same-stage h

  behind-decided : last_match e.bracket.stages ≡ last_match (old ∷ behind)
  behind-decided = decided-old e (stage - 1) old new_stage f.at same-stage h

  lawful-new : is_playoff_score score ≡ true → AllLawful new_stage
  lawful-new playoff = All-set Lawful (match_with_score score (get_or old (slot - 1) (open_match 0 0))) (slot - 1) old (λ _. playoff)
      (all-at AllLawful (stage - 1) e.bracket.stages old f.at (recursion_from_All AllLawful e.bracket.stages
      (h.bracket.bracket over-before).scores))

  new-lawful : AllLawful new_stage → is_playoff_score score ≡ true
  new-lawful all = set-All Lawful (match_with_score score (get_or old (slot - 1) (open_match 0 0))) (slot - 1) old
      (slice_get_within old (slot - 1) m f.here) all

  module _ (next : Option (List Match)) (finished : Bool) where
    abbrev p : Phase
    p = cond finished Finished e.phase

    abbrev New : Type 0
    New = IsNew e (stage - 1) old new_stage f.at same-stage h (one_more next) p (after-phase finished e.phase over-before)

    Fits-new : New → Fits e (SetBracketScore stage slot score next finished)
    Fits-new n = record {
      named = (m, is);
      sound = sound-new e (stage - 1) old new_stage f.at same-stage h (one_more next) p (after-phase finished e.phase over-before) n;
    }

    new-Fits : Fits e (SetBracketScore stage slot score next finished) → New
    new-Fits fits = new-sound e (stage - 1) old new_stage f.at same-stage h (one_more next) p
        (after-phase finished e.phase over-before) fits.sound

    pub fits-playoff : Fits e (SetBracketScore stage slot score next finished) → is_playoff_score score ≡ true
    fits-playoff fits = new-lawful (new-Fits fits).lawful

    -- if it is the last stage
    module _ (last : behind ≡ []) (now_over : Bool) (ended : IsTrue now_over ↔ (p ≡ Finished)) where
      pub Fits-last : is_playoff_score score ≡ true → IsEnd new_stage next now_over
          → Fits e (SetBracketScore stage slot score next finished)
      Fits-last playoff end = Fits-new (record {
        lawful = lawful-new playoff;
        behind = end.scores;
        follows = rw last end.follows;
        decided = rw last (λ fin. end.decided.0 (ended.1 fin), λ dec. ended.0 (end.decided.1 dec));
      })

      pub last-Fits : Fits e (SetBracketScore stage slot score next finished) → IsEnd new_stage next now_over
      last-Fits fits = let n = new-Fits fits in let decided = rw last at n.decided in record {
        follows = rw last at n.follows;
        scores = n.behind;
        decided = (λ yes. decided.0 (ended.0 yes), λ dec. ended.1 (decided.1 dec));
      }

  -- if a stage comes after it
  module _ (l : List Match) (rest : List (List Match)) (there : behind ≡ l ∷ rest) where
    follow-there : FollowOn (old ∷ l ∷ rest)
    follow-there = rw there at behind-follows

    decided-there : IsDecided (new_stage ∷ ((l ∷ rest) ++ [])) ≡ IsDecided e.bracket.stages
    decided-there = let last = rw there at behind-decided in grind (arith, common_steps)

    module _ (finished : Bool) where
      pub Fits-later : is_playoff_score score ≡ true → Stands new_stage (Some l)
          → ((cond finished Finished e.phase ≡ Finished) ↔ IsDecided e.bracket.stages)
          → Fits e (SetBracketScore stage slot score None finished)
      Fits-later playoff stands decided = Fits-new None finished (record {
        lawful = lawful-new playoff;
        behind = λ k d below. absurd (omega arith);
        follows = rw there (grind (arith, common_steps, follow-there));
        decided = rw (there, decided-there) decided;
      })

      pub later-none : (next : Option (List Match)) → Fits e (SetBracketScore stage slot score next finished) → next ≡ None
      later-none None fits = refl
      later-none (Some ns) fits = absurd (follow-never l rest ns follow-there.3
          ((follow-split new_stage ((l ∷ rest) ++ ns ∷ [])).0 (rw there at (new-Fits (Some ns) finished fits).follows)).1)

      module _ (fits : Fits e (SetBracketScore stage slot score None finished)) where
        pub later-stands : Stands new_stage (Some l)
        later-stands = ((follow-split new_stage ((l ∷ rest) ++ [])).0 (rw there at (new-Fits None finished fits).follows)).0

        pub later-decided : (cond finished Finished e.phase ≡ Finished) ↔ IsDecided e.bracket.stages
        later-decided = rw (there, decided-there) at (new-Fits None finished fits).decided

  -- an open match takes its score
  module _ (free : m.score ≡ None) where
    was-open : is_complete old ≡ true → ⊥
    was-open counted = let here = All-of (λ (k : Match). is_some k.score) old counted (slot - 1) m in
        let there = get_or_from_slice_get old (slot - 1) m m f.here in
        let within = slice_get_within old (slot - 1) m f.here in
        true≢false (sym (here within) ∙ (ap (λ (n : Match). is_some n.score) there ∙ ap is_some free))

    is-last : (ss : List (List Match)) → behind ≡ ss → behind ≡ []
    is-last [] eq = eq
    is-last (l ∷ rest) eq = absurd (was-open (rw eq at behind-follows).0)

    not-finished : e.phase ≡ Finished → ⊥
    not-finished fin =
        let dec : IsDecided (old ∷ []) = rw (behind-decided, is-last behind refl) at (h.bracket.decided fin) in was-open (grind arith)

    ended : (b : Bool) → IsTrue b ↔ (cond b Finished e.phase ≡ Finished)
    ended b = grind (arith, not-finished)

    pub Fits-open : is_playoff_score score ≡ true → Fits e (SetBracketScore stage slot score (stage_after new_stage) (is_over new_stage))
    Fits-open playoff =
        let within = slice_get_within old (slot - 1) m f.here in
        let count = length-same new_stage old same-stage in
        Fits-last (stage_after new_stage) (is_over new_stage) (is-last behind refl) (is_over new_stage) (ended (is_over new_stage)) playoff
        (ends-with new_stage (omega arith))

pub open-fits : (e : EventValue) (stage slot : ℕ) (found : Option (Bor Match)) → IsSoundButForSeeds e
    → option_map (λ (m : Bor Match). m.now) found ≡ slot_at e stage slot
    → IfSome found (λ m. m.now.score ≡ None → (score : Games) → IsTrue (is_playoff_score score)
    → Fits e (SetBracketScore stage slot score (stage_after (scored_slot (stage_of e.bracket.stages stage) slot score))
    (is_over (scored_slot (stage_of e.bracket.stages stage) slot score))))
open-fits e stage slot None sound is = tt
open-fits e stage slot (Some m) sound is = λ free score playoff. Fits-open e stage slot score m.now (sym is) sound free playoff
