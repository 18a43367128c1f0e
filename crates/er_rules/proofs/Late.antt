-- Tables can take what a step makes, if nobody enrols too late for them.
use Rattle.std.proofs.Common.{arith, Bool, false, not, refl, ap, length, length-append, map, List, Ok, ℕ, ◌++◌, ◌==◌, ◌&&◌, ◌∷◌, [], ◌||◌}
use Rattle.std.proofs.Common.{◌≡◌}
use Rattle.std.proofs.{lemmas.Bool.Decides.nat_tests, lemmas.Grind.common_steps, lemmas.List.length-map}
use Rattle.er_event.specs.{declared.changes.Change.TheVariants.AddPlayer, declared.commands.Command.Command}
use Rattle.er_event.specs.declared.commands.Command.TheVariants.{Enrol, Pair, Drop, Cut}
use Rattle.er_event.specs.{declared.events.Phase.Phase, declared.events.Phase.TheVariants.Enrolling, declared.players.Player.Player}
use Rattle.er_event.specs.{Change.{dropped_at, new_player, with_player}, Event.EventValue}
use Rattle.er_rules.specs.{Commands.{is_enrolling, is_swiss}, Late.{is_late, StepsAreTaken}, Step.{Answers, Steps, checks}}
use Rattle.er_rules.proofs.Keeping.{is_taken, passes, same_Ok}

steps_of : (e next : EventValue) (c : Command) → Answers e c (Ok next) → Steps e c (Ok next)
steps_of e next c h1 = grind (arith, common_steps)

abbrev players_in : EventValue → List Player
players_in e = e.players

longer : (ps others : List Player) (p : Player) → length others ≡ length ps → ps ++ p ∷ [] ≡ others → ⊥
longer ps others p long is = let more = length-append ps (p ∷ []) in omega (arith, more, long, ap length is)

before_start : (p : Phase) → not (is_enrolling p || is_swiss p) ≡ false → is_swiss p ≡ false → p ≡ Enrolling
before_start h1 free early = grind (arith, common_steps)

not_swiss : (version : ℕ) (swiss : Bool) → version ≡ 1 → (version == 1) && swiss ≡ false → swiss ≡ false
not_swiss version swiss one late = grind (arith, nat_tests)

-- nothing but an enrolment adds a player
adds : (version : ℕ) (e : EventValue) (c : Command) (name : List ℕ) → Steps e c (Ok (with_player e name)) → is_late version e c ≡ false
    → version ≡ 1 → e.phase ≡ Enrolling
adds version e (Enrol other) name steps late one =
    let it = is_taken e (with_player e name) (Enrol other) steps in
    before_start e.phase (passes (checks e (Enrol other)) it.0).0 (not_swiss version (is_swiss e.phase) one late)
adds version e (Pair round seed) name steps late one =
    let it = is_taken e (with_player e name) (Pair round seed) steps in
    absurd (longer e.players e.players (new_player e name) refl (ap players_in it.1.2.2))
adds version e (Drop player) name steps late one =
    let it = is_taken e (with_player e name) (Drop player) steps in
    absurd (longer e.players (map (dropped_at player) e.players) (new_player e name) (length-map e.players (dropped_at player))
    (ap players_in (same_Ok (with_player e name) _ it.1)))
adds version e Cut name steps late one =
    let it = is_taken e (with_player e name) Cut steps in
    absurd (longer e.players e.players (new_player e name) refl (ap players_in (same_Ok (with_player e name) _ it.1.2)))
adds version e c name steps late one =
    let it = is_taken e (with_player e name) c steps in
    absurd (longer e.players e.players (new_player e name) refl (ap players_in (same_Ok (with_player e name) _ it.1)))

pub steps_are_taken : StepsAreTaken
steps_are_taken version e c (AddPlayer name) answers late = adds version e c name (steps_of e (with_player e name) c answers) late
steps_are_taken version e c _ answers late = tt
