-- A history is one fold.
use Rattle.std.proofs.{lemmas.Grind.common_steps, Common.{◌≡◌, ◌⊎◌, inl, inr, ℕ, ◌+◌, List, [], ◌∷◌, ◌++◌, length, take, drop, Option}}
use Rattle.std.proofs.Common.{Some, None, Ok, MatchOption, IfSome, refl, sym, ap, ap₂, subst, ◌∙◌, arith, length-append}
use Rattle.std.proofs.{lemmas.Bool.Decides.nat_tests, lemmas.List.{take-append-drop, take-take, drop-take, take_more}}
use Rattle.std.proofs.{lemmas.List.Elements.All-nil, lemmas.Option.{none-some, slice_get_within, get_or_from_slice_get}}
use Rattle.std.specs.List.{slice_get}
use Rattle.er_event.specs.{declared.commands.Command.Command, Event.EventValue, Change.initial_event, Sound.{IsSetUp, IsInPlayoff}}
use Rattle.er_rules.specs.{Sound.IsSound, Step.Steps, Fold.Folds}
use Rattle.er_desk.specs.{Desk.Point, Run.{Session, MayEnd, EndsAfterAcknowledged, EndsWithDoubt}}
use Rattle.er_desk.specs.History.{Ended, IsHistory, LeadsTo, found_of}
use Rattle.er_desk.specs.{History.{accepted_commands, surely_accepted_commands, list_of_option}, Resuming.{SendsFrom, AllResume}}
use Rattle.er_desk.proofs.Folding.{Folds-append, Folds-one}

pub leads_then : (first mid last : Point) (xs ys : List Command) → LeadsTo first xs mid → LeadsTo mid ys last
    → LeadsTo first (xs ++ ys) last
leads_then first mid last xs ys one two = grind (arith, common_steps, Folds-append, length-append)

kept_leads : (first : Point) (s : Session) (last : Point) → EndsAfterAcknowledged first s last → LeadsTo first s.acknowledged last
kept_leads first s last ends = record { event = ends.event; serial = ends.serial }

doubt_leads : (first : Point) (s : Session) (last : Point) (doubt : Command) → EndsWithDoubt first s last doubt
    → LeadsTo first (s.acknowledged ++ doubt ∷ []) last
doubt_leads first s last doubt ends = grind (arith, common_steps, Folds-one, kept_leads, leads_then)

-- with the doubt, the serial is one higher
-- what the next session found
pub found_leads : (first : Point) (it : Ended) → MayEnd first it.session it.last → LeadsTo first (found_of first.serial it) it.last
found_leads first it (inl kept) = grind (arith, common_steps)
found_leads first it (inr with_doubt) = by_doubt it.session.in_doubt refl with_doubt
  where
    by_doubt : (o : Option Command) → it.session.in_doubt ≡ o → MatchOption o ⊥ (EndsWithDoubt first it.session it.last)
        → LeadsTo first (found_of first.serial it) it.last
    by_doubt None is none = absurd none
    by_doubt (Some doubt) is ends = grind (arith, common_steps, doubt_leads, nat_tests)

-- the last session may have its doubt or not
last_leads : (first : Point) (it : Ended) → MayEnd first it.session it.last
    → LeadsTo first (it.session.acknowledged ++ list_of_option it.session.in_doubt) it.last ⊎ LeadsTo first it.session.acknowledged it.last
last_leads first it (inl kept) = inr (kept_leads first it.session it.last kept)
last_leads first it (inr with_doubt) = by_doubt it.session.in_doubt refl with_doubt
  where
    by_doubt : (o : Option Command) → it.session.in_doubt ≡ o → MatchOption o ⊥ (EndsWithDoubt first it.session it.last)
        → LeadsTo first (it.session.acknowledged ++ list_of_option it.session.in_doubt) it.last
        ⊎ LeadsTo first it.session.acknowledged it.last
    by_doubt None is none = absurd none
    by_doubt (Some doubt) is ends = inl (rw is (doubt_leads first it.session it.last doubt ends))

pub history_leads : (first : Point) (ends : List Ended) (last : Point) → IsHistory first ends last
    → LeadsTo first (accepted_commands first.serial ends) last ⊎ LeadsTo first (surely_accepted_commands first.serial ends) last
history_leads first [] last is = grind (arith, common_steps)
history_leads first (it ∷ []) last (ends, is) = grind (arith, common_steps, last_leads)
history_leads first (it ∷ next ∷ more) last (ends, rest) =
    let before = found_leads first it ends in
    elim (history_leads it.last (next ∷ more) last rest) [
      | inl all ↦ inl (leads_then first it.last last _ _ before all)
      | inr surely ↦ inr (leads_then first it.last last _ _ before surely)
    ]

-- ---- soundness

-- the step keeps an event sound
abbrev pub KeepsSound : Type 0
KeepsSound = (event next : EventValue) (command : Command) → IsSound event → Steps event command (Ok next) → IsSound next

pub fold_sound : KeepsSound → (first last : EventValue) (commands : List Command) → IsSound first → Folds first commands last → IsSound last
fold_sound keeps first last [] sound is = subst IsSound (sym is) sound
fold_sound keeps first last (command ∷ more) sound (next, steps, rest) =
    fold_sound keeps next last more (keeps first next command sound steps) rest

-- ---- a new event

pub new_sound : (name : List ℕ) (rounds cut : ℕ) → IsSetUp name rounds cut → IsSound (initial_event name rounds cut)
new_sound name rounds cut set_up = record {
  but_for_seeds = record {
    set_up = set_up;
    players = record {
      few = omega arith;
      numbered = refl;
      lawful = All-nil _;
      distinct = λ i j d below above. absurd (omega (arith, below, above));
      enrolling = λ _. All-nil _;
      early = λ _. All-nil _;
      joined = All-nil _;
      started = λ other. absurd (other refl);
    };
    rounds = record {
      few = omega arith;
      enrolling = λ _. refl;
      each = All-nil _;
      no_repeats = λ i j d below above. absurd (omega (arith, below, above));
      earlier_done = All-nil _;
      done = λ over. absurd (early over);
    };
    missed = All-nil _;
    bracket = record {
      none = λ _. refl;
      bracket = λ over. absurd (early over);
      decided = λ is. absurd (early (inr is));
      undecided = λ is decided. decided;
    };
  };
  seeds = λ first at. absurd (none-some first at);
}
  where
    early : IsInPlayoff (initial_event name rounds cut) → ⊥
    early h1 = grind (arith, common_steps)

-- ---- one list

take_add : (a b : ℕ) (xs : List Command) → take (a + b) xs ≡ take a xs ++ take b (drop a xs)
take_add a b xs =
    sym (take-append-drop a (take (a + b) xs)) ∙ ap₂ ◌++◌ (take-take a (a + b) xs (omega arith)) (drop-take a b xs)

one_more : (xs : List Command) (n : ℕ) (d : Command) → slice_get xs n ≡ Some d → take (n + 1) xs ≡ take n xs ++ d ∷ []
one_more xs n d at = take_more xs n d (slice_get_within xs n d at) ∙ ap
    (λ (x : Command). take n xs ++ x ∷ []) (get_or_from_slice_get xs n d d at)

sent : (start : EventValue) (commands : List Command) (first : Point) (it : Ended) → Folds start (take first.serial commands) first.event
    → SendsFrom commands first.serial it.session → (mid : Point)
    → EndsAfterAcknowledged first it.session mid → Folds start (take mid.serial commands) mid.event
sent start commands first it so_far sends mid ends = grind (arith, common_steps, Folds-append, take_add)

one_sent : (start : EventValue) (commands : List Command) (first : Point) (it : Ended)
    → Folds start (take first.serial commands) first.event → SendsFrom commands first.serial it.session
    → MayEnd first it.session it.last → Folds start (take it.last.serial commands) it.last.event
one_sent start commands first it so_far sends (inl kept) = sent start commands first it so_far sends it.last kept
one_sent start commands first it so_far sends (inr with_doubt) = by_doubt it.session.in_doubt refl with_doubt sends.doubt
  where
    by_doubt : (o : Option Command) → it.session.in_doubt ≡ o → MatchOption o ⊥ (EndsWithDoubt first it.session it.last)
        → IfSome o (λ d. slice_get commands (first.serial + length it.session.acknowledged) ≡ Some d)
        → Folds start (take it.last.serial commands) it.last.event
    by_doubt None is none at = absurd none
    by_doubt (Some d) is ends at =
        let before = sent start commands first it so_far sends ends.mid ends.kept in
        let place : slice_get commands ends.mid.serial ≡ Some d = ap (slice_get commands) ends.kept.serial ∙ at in
        let more : take it.last.serial commands ≡ take ends.mid.serial commands ++ d ∷ [] = ap (λ (n : ℕ). take n commands) ends.serial
        ∙ one_more commands ends.mid.serial d place in
        subst (λ (xs : List Command). Folds start xs it.last.event) (sym more)
        (Folds-append start ends.mid.event it.last.event (take ends.mid.serial commands) (d ∷ []) before
        (Folds-one ends.mid.event it.last.event d ends.event))

pub all_sent : (start : EventValue) (commands : List Command) (first : Point) (ends : List Ended) (last : Point)
    → Folds start (take first.serial commands) first.event → IsHistory first ends last
    → AllResume commands first.serial ends → Folds start (take last.serial commands) last.event
all_sent start commands first [] last so_far is resume = subst (λ (p : Point). Folds start (take p.serial commands) p.event) (sym is) so_far
all_sent start commands first (it ∷ more) last so_far (ends, rest) (sends, later) =
    all_sent start commands it.last more last (one_sent start commands first it so_far sends ends) rest later
