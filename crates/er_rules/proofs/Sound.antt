-- The step keeps an event sound.
use Rattle.std.proofs.{lemmas.Grind.common_steps, Common.{Result, ◌≡◌, ◌+◌, ◌<◌, ◌≤◌, ◌==◌, nat_le, nat_lt, false, not, List, [], ◌∷◌}}
use Rattle.std.proofs.{Common.{◌++◌, length, Option, Some, None, Ok, refl, sym, subst, ◌∙◌, arith, is_none}, lemmas.Bool.not-false}
use Rattle.std.proofs.lemmas.Bool.Decides.{nat_tests}
use Rattle.er_event.specs.{declared.scores.Games.Games, declared.events.Phase.TheVariants.{Enrolling, Swiss}, declared.matches.Match.Match}
use Rattle.er_event.specs.declared.changes.Change.TheVariants.{AddPlayer, SetDropped, SetPhase, AddRound, SetScore, AddBracket}
use Rattle.er_event.specs.{declared.changes.Change.TheVariants.SetBracketScore, declared.commands.Command.Command}
use Rattle.er_event.specs.declared.commands.Command.TheVariants.{Enrol, Start, Pair, Correct, Drop, Cut}
use Rattle.er_event.specs.{declared.refusals.Refusal.Refusal, declared.refusals.Refusal.TheVariants.{IsBye, BadScore, NotReported}}
use Rattle.er_event.specs.{Event.EventValue, Name.is_lawful_name, Score.{is_swiss_score, is_playoff_score}, Round.{is_bye, match_at}}
use Rattle.er_event.specs.{Bracket.{slot_at, stage_after, is_over}, Sound.IsSoundButForSeeds, Safe.ChangesKeepSound}
use Rattle.er_bracket.specs.Seeds.{first_stage}
use Rattle.er_pair.specs.{Met.have_met, Order.seed_words, Pairing.entries, Laws.{StandOnce, LegalSeats}}
use Rattle.er_rules.specs.{Commands.{Check, active, already_reported, checks_at}, Step.{Steps, Makes, checks, scored_at}, Sound.IsSound}
use Rattle.er_event.specs.Round.{tables_of}
use Rattle.er_rules.proofs.{Rounds.{IsPairing, may_come_next}, Seeding.{top_opens, begins}, Keeping.{is_taken, same_Ok}}
use Rattle.er_rules.proofs.Keeping.{AllPass, passes, enrolling_is, swiss_is, step_keeps}
use Rattle.er_event.specs.declared.commands.Command.TheVariants.{Enrol, Start, Pair, Result as ReportResult, Correct, Drop, Cut}
use Rattle.er_event.specs.declared.commands.Command.TheVariants.{Playoff as PlayOff}

pub asked : (o : Option Match) (more : Match → List Check) → AllPass (checks_at o more) → (m : Match) × (o ≡ Some m) × AllPass (more m)
asked h1 more is = grind (arith, common_steps)

pub open_yet : (o : Option Games) (rest : List Check) → AllPass (already_reported o ++ rest) → (o ≡ None) × AllPass rest
open_yet h1 rest is = grind (arith, common_steps)

module _ (keeps : ChangesKeepSound) (once : StandOnce) (seats : LegalSeats) (e next : EventValue) (h : IsSoundButForSeeds e) where
  is_now : (after : EventValue) → ◌≡◌ {A = Result EventValue Refusal} (Ok next) (Ok after) → IsSoundButForSeeds after
      → IsSoundButForSeeds next
  is_now after is sound = subst IsSoundButForSeeds (sym (same_Ok next after is)) sound

  after : (c : Command) → AllPass (checks e c) → Makes e c (Ok next) → IsSoundButForSeeds next
  after (Enrol name) pass made =
      let full : nat_le 512 (length e.players) ≡ false = pass.1.1.1.1.0 in
      let room : length e.players < 512 = grind (arith, nat_tests) in
      is_now _ made (keeps e (AddPlayer name) h (not-false (is_lawful_name name) pass.1.1.0, room, pass.1.1.1.0))
  after Start pass made =
      let few : nat_lt (length e.players) 2 ≡ false = pass.1.0 in
      let two : 2 ≤ length e.players = grind (arith, nat_tests) in
      is_now _ made (keeps e (SetPhase Swiss) h (enrolling_is e.phase pass.0, refl, two))
  after (Pair round seed) pass (order, ordered, (pairs, earliest, is)) =
      let last : nat_lt e.rounds (length e.stored + 1) ≡ false = pass.1.1.0 in
      let room : length e.stored < e.rounds = grind (arith, nat_tests) in
      let few : nat_lt (length (active e)) 2 ≡ false = pass.1.1.1.1.0 in
      let two : 2 ≤ length (active e) = grind (arith, nat_tests) in
      let ps = entries order pairs in
      let seated = seats (have_met e) order pairs earliest.legal in
      let it : IsPairing (have_met e) order ps = record {
        pairs = pairs;
        earliest = earliest;
        are = refl;
        rising = seated.in_order;
        seated_all = seated.each_once;
        new = seated.new_opponents;
      } in
      let distinct = once e (seed_words seed) order h ordered in
      let may = may_come_next e (seed_words seed) order ps ordered distinct two it h (swiss_is e.phase pass.0) room pass.1.1.1.0 in
      let same = sym is in
      subst IsSoundButForSeeds same (keeps e (AddRound (tables_of ps)) h may)
  after (ReportResult round table score) pass made =
      let m = asked (match_at e round table)
      (λ m. (is_bye m, IsBye) ∷ already_reported m.score ++ (not (is_swiss_score score), BadScore) ∷ []) pass.1 in
      let lawful = open_yet m.0.score ((not (is_swiss_score score), BadScore) ∷ []) m.2.1 in
      is_now _ made (keeps e (SetScore round table score) h ((m.0, m.1, m.2.0), not-false (is_swiss_score score) lawful.1.0))
  after (Correct round table score) pass made =
      let m = asked (match_at e round table)
      (λ m. (is_bye m, IsBye) ∷ (is_none m.score, NotReported) ∷ (not (is_swiss_score score), BadScore) ∷ []) pass.1 in
      is_now _ made (keeps e (SetScore round table score) h ((m.0, m.1, m.2.0), not-false (is_swiss_score score) m.2.1.1.0))
  after (Drop player) pass made =
      is_now _ made (keeps e (SetDropped player) h (λ is. let never : Swiss ≡ Enrolling = sym (swiss_is e.phase pass.0) ∙ is in cc))
  after Cut pass (seeds, top, is) =
      let phase = swiss_is e.phase pass.0 in
      let some : (e.cut == 0) ≡ false = pass.1.0 in
      let played : 0 < e.cut = grind (arith, nat_tests) in
      let few : nat_lt (length (active e)) e.cut ≡ false = pass.1.1.1.0 in
      let enough : e.cut ≤ length (active e) = grind (arith, nat_tests) in
      let opens = top_opens e h seeds top enough phase (not-false _ pass.1.1.0) played in
      is_now _ is (subst IsSoundButForSeeds (begins e h seeds phase) (keeps e (AddBracket (first_stage seeds)) h opens))
  after (PlayOff stage slot score) pass made =
      let m = asked (slot_at e stage slot) (λ m. already_reported m.score ++ (not (is_playoff_score score), BadScore) ∷ []) pass.1 in
      let free = open_yet m.0.score ((not (is_playoff_score score), BadScore) ∷ []) m.2 in
      let now = scored_at e stage slot score in
      is_now _ made (keeps e (SetBracketScore stage slot score (stage_after now) (is_over now)) h
      (m.0, m.1, free.0, not-false (is_playoff_score score) free.1.0, refl, refl))

pub keeps_sound : ChangesKeepSound → StandOnce → LegalSeats → (e next : EventValue) (c : Command) → IsSound e → Steps e c (Ok next)
    → IsSound next
keeps_sound keeps once seats e next c sound steps =
    let taken = is_taken e next c steps in
    step_keeps e c next sound steps (after keeps once seats e next sound.but_for_seeds c (passes (checks e c) taken.0) taken.1)
