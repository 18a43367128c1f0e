-- A list of players that is imported again.
use Rattle.std.proofs.{lemmas.Grind.common_steps, Common.{◌≡◌, ◌⊎◌, inl, inr, ℕ, zero, suc, Bool, true, false}}
use Rattle.std.proofs.Common.{List, [], ◌∷◌, ◌++◌, length, map, take, Option, Some, None, Result, Ok, Err, is_ok, not, MatchOption}
use Rattle.std.proofs.Common.{refl, sym, ap, subst, ◌∙◌, arith, true≢false, append-nil}
use Rattle.std.proofs.lemmas.{Slice.Eq.bytes_eq-Decides, Bool.{or_left, or_right, cases_Bool}, List.Folds.list_any-append, List.take_all}
use Rattle.std.specs.{Prelude.{◌==◌, ◌&&◌, ◌||◌, nat_le}, Str.bytes_eq, List.{filter, list_any}}
use Rattle.er_event.specs.{declared.players.Player.Player, declared.commands.Command.Command}
use Rattle.er_event.specs.{declared.commands.Command.TheVariants.Enrol, declared.commands.Receipt.Receipt}
use Rattle.er_event.specs.{declared.refusals.Refusal.Refusal, declared.refusals.Refusal.TheVariants.{NotEnrolling, AllRoundsPaired}}
use Rattle.er_event.specs.{declared.refusals.Refusal.TheVariants.{BadName, NameTaken, PlayersFull}, Event.EventValue}
use Rattle.er_event.specs.Change.{has_name, with_player, new_player}
use Rattle.er_event.specs.{declared.players.TheConstants.MAX_PLAYERS, Name.is_lawful_name}
use Rattle.er_rules.specs.{Commands.{first_refusal, is_enrolling, is_swiss}, Step.{StepsBy, Steps, checks}, Fold.Folds}
use Rattle.er_rules.specs.Retry.{NamesStay}
use Rattle.er_desk.specs.{Desk.{Point, DeskState, Outcome, point_of}, Reply.{Reply, IsDue}, Run.{Runs, Session, MayEnd, EndsWithDoubt}}
use Rattle.er_desk.specs.Run.{acknowledged_commands, last_tried, tried_or, session_of}
use Rattle.er_cli.specs.{declared.importing.Additions.Additions, Again.{AddsNobodyAgain, GivesOneImport}}
use Rattle.er_cli.specs.Importing.{Enrols, is_stop, is_taken, last_reply}
use Rattle.er_cli.proofs.Enrolling.{runs_on}

-- ---- what a step makes of a name

taken_is : (e next : EventValue) (name : List ℕ) → Steps e (Enrol name) (Ok next)
    → (first_refusal (checks e (Enrol name)) ≡ None) × (next ≡ with_player e name)
taken_is e next name steps = by_check (first_refusal (checks e (Enrol name))) refl steps
  where
    same : (a b : EventValue) → ◌≡◌ {A = Result EventValue Refusal} (Ok a) (Ok b) → a ≡ b
    same a b is = cc

    no_refusal : (why : Refusal) → ◌≡◌ {A = Result EventValue Refusal} (Ok next) (Err why) → ⊥
    no_refusal why is = cc

    by_check : (o : Option Refusal) → first_refusal (checks e (Enrol name)) ≡ o
        → StepsBy o e (Enrol name) (Ok next)
        → (first_refusal (checks e (Enrol name)) ≡ None) × (next ≡ with_player e name)
    by_check None is made = (is, same next (with_player e name) made)
    by_check (Some why) is refused = absurd (no_refusal why refused)

refused_is : (e : EventValue) (name : List ℕ) (why : Refusal) → Steps e (Enrol name) (Err why)
    → first_refusal (checks e (Enrol name)) ≡ Some why
refused_is e name why steps = by_check (first_refusal (checks e (Enrol name))) refl steps
  where
    none_taken : ◌≡◌ {A = Result EventValue Refusal} (Err why) (Ok (with_player e name)) → ⊥
    none_taken is = cc

    same : (w : Refusal) → ◌≡◌ {A = Result EventValue Refusal} (Err why) (Err w) → ◌≡◌ {A = Option Refusal} (Some w) (Some why)
    same w is = cc

    by_check : (o : Option Refusal) → first_refusal (checks e (Enrol name)) ≡ o
        → StepsBy o e (Enrol name) (Err why) → first_refusal (checks e (Enrol name)) ≡ Some why
    by_check None is made = absurd (none_taken made)
    by_check (Some w) is refused = is ∙ same w refused

-- the name is there already
abbrev IsThere : EventValue → List ℕ → Type 0
IsThere e name = first_refusal (checks e (Enrol name)) ≡ Some NameTaken

refuses : (e : EventValue) (name : List ℕ) → IsThere e name → Steps e (Enrol name) (Err NameTaken)
refuses e name is = rw is refl

abbrev Passed : Bool → Bool → Bool → Type 0
Passed a b c = (a ≡ false) × (b ≡ false) × (c ≡ false)

fourth : (a b c d f : Bool)
    → first_refusal ((a, NotEnrolling) ∷ (b, AllRoundsPaired) ∷ (c, BadName) ∷ (d, NameTaken) ∷ (f, PlayersFull) ∷ [])
    ≡ Some NameTaken → Passed a b c × (d ≡ true)
fourth true b c d f is = cc
fourth false true c d f is = cc
fourth false false true d f is = cc
fourth false false false true f is = ((refl, refl, refl), refl)
fourth false false false false true is = cc
fourth false false false false false is = cc

no_check : (a b c d f : Bool)
    → first_refusal ((a, NotEnrolling) ∷ (b, AllRoundsPaired) ∷ (c, BadName) ∷ (d, NameTaken) ∷ (f, PlayersFull) ∷ [])
    ≡ None → Passed a b c
no_check true b c d f is = cc
no_check false true c d f is = cc
no_check false false true d f is = cc
no_check false false false d f is = (refl, refl, refl)

abbrev named : List ℕ → List Player → Bool
named name players = has_name players name

abbrev closed : EventValue → Bool
closed e = not (is_enrolling e.phase || is_swiss e.phase)

abbrev over : EventValue → Bool
over e = is_swiss e.phase && length e.stored == e.rounds

abbrev full : EventValue → Bool
full e = nat_le MAX_PLAYERS (length e.players)

there_is : (e : EventValue) (name : List ℕ) → IsThere e name → named name e.players ≡ true
there_is e name is = (fourth (closed e) (over e) (not (is_lawful_name name)) (named name e.players) (full e) is).1

-- a name stays there, and one that is added is there
stays_there : (e : EventValue) (other name : List ℕ) → IsThere e name → IsThere (with_player e other) name
stays_there e other name is =
    let it = fourth (closed e) (over e) (not (is_lawful_name name)) (named name e.players) (full e) is in
    let more = list_any-append (λ (p : Player). bytes_eq p.name name) e.players (new_player e other ∷ []) in
    let has : named name (with_player e other).players ≡ true = more ∙ or_left _ _ it.1 in
    rw (it.0.0, it.0.1, it.0.2, has) refl

is_there : (e : EventValue) (name : List ℕ) → first_refusal (checks e (Enrol name)) ≡ None → IsThere (with_player e name) name
is_there e name is =
    let it = no_check (closed e) (over e) (not (is_lawful_name name)) (named name e.players) (full e) is in
    let own : bytes_eq name name ≡ true = (bytes_eq-Decides name name).1 refl in
    let more = list_any-append (λ (p : Player). bytes_eq p.name name) e.players (new_player e name ∷ []) in
    let has : named name (with_player e name).players ≡ true = more ∙ or_right _ _ (or_left _ false own) in
    rw (it.0, it.1, it.2, has) refl

-- ---- the names of a list, one after the other

-- the name is enrolled, or was there already
abbrev EnrolsOne : EventValue → List ℕ → EventValue → Type 0
EnrolsOne e name next = Steps e (Enrol name) (Ok next) ⊎ (Steps e (Enrol name) (Err NameTaken) × (next ≡ e))

abbrev EnrolsEach : EventValue → List (List ℕ) → EventValue → Type 0
EnrolsEach e [] last = last ≡ e
EnrolsEach e (name ∷ names) last = (next : EventValue) × EnrolsOne e name next × EnrolsEach next names last

one_same : (e a b : EventValue) (name : List ℕ) → EnrolsOne e name a → EnrolsOne e name b → a ≡ b
one_same e a b name (inl p) (inl q) = (taken_is e a name p).1 ∙ sym (taken_is e b name q).1
one_same e a b name (inl p) (inr q) = absurd (none_some (sym (taken_is e a name p).0 ∙ refused_is e name NameTaken q.0))
  where
    none_some : ◌≡◌ {A = Option Refusal} None (Some NameTaken) → ⊥
    none_some is = cc
one_same e a b name (inr p) (inl q) = absurd (none_some (sym (taken_is e b name q).0 ∙ refused_is e name NameTaken p.0))
  where
    none_some : ◌≡◌ {A = Option Refusal} None (Some NameTaken) → ⊥
    none_some is = cc
one_same e a b name (inr p) (inr q) = p.1 ∙ sym q.1

each_same : (names : List (List ℕ)) (e a b : EventValue) → EnrolsEach e names a → EnrolsEach e names b → a ≡ b
each_same [] e a b p q = p ∙ sym q
each_same (name ∷ names) e a b (next, one, more) (other, two, rest) = each_same names next a b more
    (subst (λ (x : EventValue). EnrolsEach x names b) (one_same e other next name two one) rest)

there_after : (e next : EventValue) (name : List ℕ) → EnrolsOne e name next → IsThere next name
there_after e next name (inl steps) = subst (λ (x : EventValue). IsThere x name) (sym (taken_is e next name steps).1)
    (is_there e name (taken_is e next name steps).0)
there_after e next name (inr refused) = subst (λ (x : EventValue). IsThere x name) (sym refused.1) (refused_is e name NameTaken refused.0)

there_kept : (names : List (List ℕ)) (e last : EventValue) (name : List ℕ) → EnrolsEach e names last → IsThere e name → IsThere last name
there_kept [] e last name is there = subst (λ (x : EventValue). IsThere x name) (sym is) there
there_kept (other ∷ names) e last name (next, inl steps, rest) there = there_kept names next last name rest
    (subst (λ (x : EventValue). IsThere x name) (sym (taken_is e next other steps).1) (stays_there e other name there))
there_kept (other ∷ names) e last name (next, inr refused, rest) there =
    there_kept names next last name rest (subst (λ (x : EventValue). IsThere x name) (sym refused.1) there)

-- a list that was broken off, and is taken from its beginning
resumed : (names : List (List ℕ)) (k : ℕ) (e part whole : EventValue) → EnrolsEach e (take k names) part → EnrolsEach e names whole
    → EnrolsEach part names whole
resumed names zero e part whole is all = subst (λ (x : EventValue). EnrolsEach x names whole) (sym is) all
resumed [] (suc k) e part whole is all = subst (λ (x : EventValue). EnrolsEach x [] whole) (sym is) all
resumed (name ∷ names) (suc k) e part whole (next, one, rest) (other, two, more) =
    let there = there_kept (take k names) next part name rest (there_after e next name one) in
    let others = subst (λ (x : EventValue). EnrolsEach x names whole) (one_same e other next name two one) more in
    (part, inr (refuses part name there, refl), resumed names k next part whole rest others)

-- ---- the commands of an import

abbrev commands_of : List (List ℕ) → List Command
commands_of names = map Enrol names

turn_ok : (old new : DeskState) (name : List ℕ) (receipt : Receipt) → Outcome old (Enrol name) (Ok receipt) new
    → Steps old.event (Enrol name) (Ok new.event)
turn_ok old new name receipt h1 = grind (arith, common_steps)

name_taken : (why : Refusal) → is_taken why ≡ true → why ≡ NameTaken
name_taken h1 is = grind (arith, common_steps)

due_taken : (version serial : ℕ) (e : EventValue) (name : List ℕ) → IsDue version e serial (Enrol name) (Err NameTaken)
    → Steps e (Enrol name) (Err NameTaken)
due_taken version serial e name h1 = grind (arith, common_steps)

turn_taken : (old new : DeskState) (name : List ℕ) → Outcome old (Enrol name) (Err NameTaken) new
    → Steps old.event (Enrol name) (Err NameTaken) × (new ≡ old)
turn_taken old new name h1 = grind (arith, common_steps, due_taken)

turn_refused : (old new : DeskState) (command : Command) (why : Refusal) → Outcome old command (Err why) new → point_of new ≡ point_of old
turn_refused old new command why h1 = grind (arith, common_steps)

goes_on : (reply : Reply) (replies : List Reply) → list_any is_stop (reply ∷ replies) ≡ false
    → (is_stop reply ≡ false) × (list_any is_stop replies ≡ false)
goes_on reply replies is = grind (arith, common_steps)

-- a reply that stops nothing
passes : (old new : DeskState) (name : List ℕ) (reply : Reply) → Outcome old (Enrol name) reply new → is_stop reply ≡ false
    → EnrolsOne old.event name new.event
passes old new name (Ok receipt) turn on = inl (turn_ok old new name receipt turn)
passes old new name (Err why) turn on =
    let is = name_taken why (was_taken why on) in
    let it = turn_taken old new name (subst (λ (w : Refusal). Outcome old (Enrol name) (Err w) new) is turn) in
    inr (it.0, ap (λ (s : DeskState). s.event) it.1)
  where
    was_taken : (w : Refusal) → not (is_taken w) ≡ false → is_taken w ≡ true
    was_taken w is = grind (arith, common_steps)

-- all names of a list were handed in
all_passed : (names : List (List ℕ)) (replies : List Reply) (old new : DeskState) → Runs old (commands_of names) replies new
    → list_any is_stop replies ≡ false → EnrolsEach old.event names new.event
all_passed [] [] old new runs on = ap (λ (s : DeskState). s.event) runs
all_passed [] (r ∷ replies) old new runs on = absurd runs
all_passed (name ∷ names) [] old new runs on = absurd runs
all_passed (name ∷ names) (r ∷ replies) old new (mid, turn, rest) on =
    (mid.event, passes old mid name r turn (goes_on r replies on).0, all_passed names replies mid new rest (goes_on r replies on).1)

whole_of : (names : List (List ℕ)) (old new : DeskState) (additions : Additions) (session : Session)
    → Enrols names old additions None session new → EnrolsEach old.event names new.event
whole_of names old new additions session it =
    let long = take_all (length it.replies) names (grind (arith, common_steps, it.all refl)) in
    let ran : Runs old (commands_of names) it.replies new
    = subst (λ (ns : List (List ℕ)). Runs old (commands_of ns) it.replies new) long
    (subst (λ (rs : List Reply). Runs old (commands_of (take (length rs) names)) rs new) (append-nil it.replies) it.ran) in
    all_passed names it.replies old new ran it.goes_on

-- ---- where an import that was stopped may end

-- with these commands, or with the one in doubt too
abbrev EndsSo : EventValue → List Command → Option Command → EventValue → Type 0
EndsSo e kept doubt last =
    Folds e kept last ⊎ MatchOption doubt ⊥ (λ (d : Command). (mid : EventValue) × Folds e kept mid × Steps mid d (Ok last))

may_end : (first last : Point) (session : Session) → MayEnd first session last
    → EndsSo first.event session.acknowledged session.in_doubt last.event
may_end first last session (inl kept) = inl kept.event
may_end first last session (inr doubt) = inr (of_doubt session.in_doubt doubt)
  where
    of_doubt : (o : Option Command) → MatchOption o ⊥ (EndsWithDoubt first session last)
        → MatchOption o ⊥ (λ (d : Command). (mid : EventValue) × Folds first.event session.acknowledged mid × Steps mid d (Ok last.event))
    of_doubt None it = absurd it
    of_doubt (Some d) it = (it.mid.event, it.kept.event, it.event)

pub tried_either : (c : Command) (r : Reply) → (tried_or None c r ≡ None) ⊎ (tried_or None c r ≡ Some c)
tried_either h1 r = grind (arith, common_steps)

stopped_tried : (old new : DeskState) (o : Option Command) (c : Command) (r : Reply) → old.needs_reopen ≡ false → new.needs_reopen ≡ true
    → Outcome old c r new → (d : Command) × (tried_or o c r ≡ Some d)
stopped_tried old new (Some later) c r runs stopped turn = (later, refl)
stopped_tried old new None c r runs stopped turn = (c, grind (arith, common_steps))

-- a run in which the desk was stopped has tried a command
some_tried : (cs : List Command) (rs : List Reply) (old new : DeskState) → Runs old cs rs new → old.needs_reopen ≡ false
    → new.needs_reopen ≡ true → (d : Command) × (last_tried cs rs ≡ Some d)
some_tried [] [] old new is runs stopped = absurd (true≢false (sym stopped ∙ ap (λ (s : DeskState). s.needs_reopen) is ∙ runs))
some_tried [] (r ∷ rs) old new is runs stopped = absurd is
some_tried (c ∷ cs) [] old new is runs stopped = absurd is
some_tried (c ∷ cs) (r ∷ rs) old new (mid, turn, rest) runs stopped = elim (cases_Bool mid.needs_reopen) [
  | inl now ↦ stopped_tried old mid (last_tried cs rs) c r runs now turn
  | inr still ↦
      let it = some_tried cs rs mid new rest still stopped in
      (it.0, ap (λ (o : Option Command). tried_or o c r) it.1)
]

-- the doubt of a run in which one command more went before
doubt_before : (cs : List Command) (rs : List Reply) (old new : DeskState) (c : Command) (r : Reply) → Runs old cs rs new
    → old.needs_reopen ≡ false
    → (session_of (c ∷ cs) (r ∷ rs) new.needs_reopen).in_doubt ≡ (session_of cs rs new.needs_reopen).in_doubt
doubt_before cs rs old new c r is runs = elim (cases_Bool new.needs_reopen) [
  | inr still ↦ rw still refl
  | inl stopped ↦
      let it = some_tried cs rs old new is runs stopped in
      rw (stopped, it.1) refl
]

-- one name more went before
ends_before : (e mid : EventValue) (name : List ℕ) (kept : List Command) (doubt : Option Command) (last : EventValue)
    → Steps e (Enrol name) (Ok mid) → EndsSo e (Enrol name ∷ kept) doubt last → EndsSo mid kept doubt last
ends_before e mid name kept doubt last steps (inl (next, one, folds)) =
    inl (subst (λ (x : EventValue). Folds x kept last) (one_same e next mid name (inl one) (inl steps)) folds)
ends_before e mid name kept None last steps (inr it) = absurd it
ends_before e mid name kept (Some d) last steps (inr (at, (next, one, folds), tried)) =
    inr (at, subst (λ (x : EventValue). Folds x kept at) (one_same e next mid name (inl one) (inl steps)) folds, tried)

abbrev Cut : List (List ℕ) → EventValue → EventValue → Type 0
Cut names e last = (k : ℕ) × EnrolsEach e (take k names) last

one_more : (names : List (List ℕ)) (name : List ℕ) (e mid last : EventValue) → EnrolsOne e name mid → Cut names mid last
    → Cut (name ∷ names) e last
one_more names name e mid last one (k, each) = (suc k, (mid, one, each))

last_of_run : (names : List (List ℕ)) (stop : Option Refusal) (old new : DeskState) (last : EventValue)
    → Runs old (commands_of (take (length (last_reply stop)) names)) (last_reply stop) new
    → EndsSo old.event (session_of (commands_of (take (length (last_reply stop)) names)) (last_reply stop) new.needs_reopen).acknowledged
    (session_of (commands_of (take (length (last_reply stop)) names)) (last_reply stop) new.needs_reopen).in_doubt last
    → Cut names old.event last
last_of_run names None old new last runs (inl is) = (zero, is)
last_of_run names None old new last runs (inr it) = absurd (none new.needs_reopen it)
  where
    none : (b : Bool) → MatchOption (session_of [] [] b).in_doubt ⊥
        (λ (d : Command). (mid : EventValue) × Folds old.event [] mid × Steps mid d (Ok last)) → ⊥
    none true it = it
    none false it = it
last_of_run [] (Some why) old new last runs it = absurd runs
last_of_run (name ∷ names) (Some why) old new last runs (inl is) = (zero, is)
last_of_run (name ∷ names) (Some why) old new last runs (inr it) = tried new.needs_reopen it
  where
    Tried : Option Command → Type 0
    Tried o = MatchOption o ⊥ (λ (d : Command). (mid : EventValue) × Folds old.event [] mid × Steps mid d (Ok last))

    of_it : (o : Option Command) → (o ≡ None) ⊎ (o ≡ Some (Enrol name)) → Tried o → Cut (name ∷ names) old.event last
    of_it o (inl is) it = absurd (subst Tried is it)
    of_it o (inr is) it =
        let (mid, same, steps) = subst Tried is it in
        (suc zero, (last, inl (subst (λ (x : EventValue). Steps x (Enrol name) (Ok last)) same steps), refl))

    tried : (b : Bool) → Tried (session_of (Enrol name ∷ []) (Err why ∷ []) b).in_doubt → Cut (name ∷ names) old.event last
    tried true it = of_it _ (tried_either (Enrol name) (Err why)) it
    tried false it = absurd it

cut_of : (names : List (List ℕ)) (replies : List Reply) (stop : Option Refusal) (old new : DeskState) (last : EventValue)
    → old.needs_reopen ≡ false → list_any is_stop replies ≡ false
    → Runs old (commands_of (take (length (replies ++ last_reply stop)) names)) (replies ++ last_reply stop) new
    → EndsSo old.event
    (session_of (commands_of (take (length (replies ++ last_reply stop)) names)) (replies ++ last_reply stop) new.needs_reopen).acknowledged
    (session_of (commands_of (take (length (replies ++ last_reply stop)) names))
    (replies ++ last_reply stop) new.needs_reopen).in_doubt last
    → Cut names old.event last
cut_of names [] stop old new last runs on ran ends = last_of_run names stop old new last ran ends
cut_of [] (r ∷ replies) stop old new last runs on ran ends = absurd ran
cut_of (name ∷ names) (r ∷ replies) stop old new last runs on (mid, turn, rest) ends =
    let go = goes_on r replies on in
    let still = runs_on old mid (Enrol name) r turn go.0 in
    let more = commands_of (take (length (replies ++ last_reply stop)) names) in
    let later = replies ++ last_reply stop in
    let doubt = doubt_before more later mid new (Enrol name) r rest still in
    let ends : EndsSo old.event (acknowledged_commands (Enrol name ∷ more) (r ∷ later))
    (session_of more later new.needs_reopen).in_doubt last
    = subst (λ (o : Option Command). EndsSo old.event (acknowledged_commands (Enrol name ∷ more) (r ∷ later)) o last) doubt ends in
    one_more names name old.event mid.event last (passes old mid name r turn go.0)
    (cut_of names replies stop mid new last still go.1 rest (after r turn go.0 ends))
  where
    after : (r : Reply) → Outcome old (Enrol name) r mid → is_stop r ≡ false
        → EndsSo old.event (acknowledged_commands (Enrol name ∷ commands_of (take (length (replies ++ last_reply stop)) names))
        (r ∷ replies ++ last_reply stop))
        (session_of (commands_of (take (length (replies ++ last_reply stop)) names))
        (replies ++ last_reply stop) new.needs_reopen).in_doubt last
        → EndsSo mid.event
        (acknowledged_commands (commands_of (take (length (replies ++ last_reply stop)) names)) (replies ++ last_reply stop))
        (session_of (commands_of (take (length (replies ++ last_reply stop)) names))
        (replies ++ last_reply stop) new.needs_reopen).in_doubt last
    after (Ok receipt) turn on ends = ends_before old.event mid.event name _ _ last (turn_ok old mid name receipt turn) ends
    after (Err why) turn on ends =
        let same : mid.event ≡ old.event = ap (λ (p : Point). p.event) (turn_refused old mid (Enrol name) why turn) in
        subst (λ (x : EventValue). EndsSo x (acknowledged_commands (commands_of (take (length (replies ++ last_reply stop)) names))
        (replies ++ last_reply stop))
        (session_of (commands_of (take (length (replies ++ last_reply stop)) names))
        (replies ++ last_reply stop) new.needs_reopen).in_doubt last)
        (sym same) ends

pub gives_one_import : GivesOneImport
gives_one_import names old cut first stop one runs it next last again two may more whole only three all =
    let ends = subst (λ (s : Session). EndsSo old.event s.acknowledged s.in_doubt next.event) it.asked
    (may_end (point_of old) (point_of next) one may) in
    let (k, part) = cut_of names it.replies stop old cut next.event runs it.goes_on it.ran ends in
    let one_import = whole_of names old whole only three all in
    let rest = resumed names k old.event next.event whole.event part one_import in
    each_same names next.event last.event whole.event (whole_of names next last again two more) rest

-- ---- once more

-- it is taken no more
abbrev IsOver : EventValue → List ℕ → Type 0
IsOver e name = (next : EventValue) → Steps e (Enrol name) (Ok next) → ⊥

abbrev AllOver : EventValue → List (List ℕ) → Type 0
AllOver e [] = Unit {0}
AllOver e (name ∷ names) = IsOver e name × AllOver e names

module _ (stay : NamesStay) where
  all_over : (names : List (List ℕ)) (e last later : EventValue) (between : List Command) → EnrolsEach e names last
      → Folds last between later → AllOver later names
  all_over [] e last later between each folds = tt
  all_over (name ∷ names) e last later between (next, one, rest) folds =
      let there = there_is last name (there_kept names next last name rest (there_after e next name one)) in
      (λ new steps. stay last later new name between there folds steps, all_over names next last later between rest folds)

all_taken : (k : ℕ) (names : List (List ℕ)) (e : EventValue) → AllOver e names → AllOver e (take k names)
all_taken zero names e over = tt
all_taken (suc k) [] e over = tt
all_taken (suc k) (name ∷ names) e over = (over.0, all_taken k names e over.1)

-- nobody is enrolled
pub record Nobody (commands : List Command) (replies : List Reply) (old new : DeskState) : Type 0 where
  pub kept : acknowledged_commands commands replies ≡ []
  pub none : filter is_ok replies ≡ []
  pub same : point_of new ≡ point_of old

nobody : (names : List (List ℕ)) (replies : List Reply) (old new : DeskState) → Runs old (commands_of names) replies new
    → AllOver old.event names → Nobody (commands_of names) replies old new
nobody [] [] old new is over = record { kept = refl; none = refl; same = ap point_of is }
nobody [] (r ∷ replies) old new is over = absurd is
nobody (name ∷ names) [] old new is over = absurd is
nobody (name ∷ names) (Ok receipt ∷ replies) old new (mid, turn, rest) over =
    absurd (over.0 mid.event (turn_ok old mid name receipt turn))
nobody (name ∷ names) (Err why ∷ replies) old new (mid, turn, rest) over =
    let same = turn_refused old mid (Enrol name) why turn in
    let events : mid.event ≡ old.event = ap (λ (p : Point). p.event) same in
    let more = nobody names replies mid new rest (subst (λ (x : EventValue). AllOver x names) (sym events) over.1) in
    record { kept = more.kept; none = more.none; same = more.same ∙ same }

none_before : (replies more : List Reply) → filter is_ok (replies ++ more) ≡ [] → length (filter is_ok replies) ≡ 0
none_before [] more is = refl
none_before (Ok receipt ∷ replies) more is = cc
none_before (Err why ∷ replies) more is = none_before replies more is

pub adds_nobody : NamesStay → AddsNobodyAgain
adds_nobody stay names old whole first one is between later new folds again stop two it =
    let over = all_over stay names old.event whole.event later.event between (whole_of names old whole first one is) folds in
    let count = length (it.replies ++ last_reply stop) in
    let none = nobody (take count names) (it.replies ++ last_reply stop) later new it.ran (all_taken count names later.event over) in (
      ap (λ (a : Additions). a.added) it.counted ∙ none_before it.replies (last_reply stop) none.none,
      ap (λ (s : Session). s.acknowledged) it.asked ∙ none.kept,
      none.same,
    )
