use Rattle.er_event.proofs.Prelude.{EventValue, IsFirstFault, IsOf, IsSoundButForSeeds, [], length, rules, subst, sym, ◌≡◌, Damaged}
use Rattle.er_event.proofs.Prelude.{All, Bool, HasMissed, List, Player, Round, list_all, true, true≢false, ◌∙◌}
use Rattle.er_event.specs.{declared.refusals.Place.TheVariants.PairingTable, inside.Reading.is_absent_from_missed}
use Rattle.er_event.proofs.Absent.{have-missed, missed-have}
use Rattle.er_event.proofs.ReadingLemmas.{event_of, is_whole, missed_fault, players_fault, rounds_fault, row_there, stages_fault}
use Rattle.er_event.proofs.events.Event.read.Goals as goal

pub returns-in_err-setup-clause-damaged : goal.returns-in_err-setup-clause-damaged
returns-in_err-setup-clause-damaged c place bad =
    let why : c.in_err-setup.field-0.0 ≡ Damaged place = search (rules, bad) in
    let never = rw (c.as_slice.ensures) at (c.in_err-setup.ensures.damaged place (cc)) in
    subst (IsFirstFault c.args.parts.now) (sym never.0) never.1

pub read_players-requires : goal.read_players-requires
read_players-requires c =
    let parts = c.args.parts.now in
    let setup = c.in_ok-setup.setup in
    let set = rw (c.as_slice.ensures) at c.in_ok-setup.ensures.value in
    let version = rw (c.as_slice.ensures) at c.in_ok-setup.ensures.version in
    (row_there parts setup set version [] [] []).set_up.rounds.1

pub returns-in_err-players-clause-damaged : goal.returns-in_err-players-clause-damaged
returns-in_err-players-clause-damaged c place bad =
    let why : c.in_err-players.field-0.0 ≡ Damaged place = search (rules, bad) in
    let parts = c.args.parts.now in
    let setup = c.in_ok-setup.setup in
    let set = rw (c.as_slice.ensures) at c.in_ok-setup.ensures.value in
    let version = rw (c.as_slice.ensures) at c.in_ok-setup.ensures.version in
    let never = rw (c.as_slice-2.ensures) at (c.in_err-players.ensures.damaged place (cc)) in
    subst (IsFirstFault parts) (sym never.0) (players_fault parts setup set version never.1)

pub read_stored-requires-clause-limit : goal.read_stored-requires-clause-limit
read_stored-requires-clause-limit c =
    let parts = c.args.parts.now in
    let setup = c.in_ok-setup.setup in
    let set = rw (c.as_slice.ensures) at c.in_ok-setup.ensures.value in
    let version = rw (c.as_slice.ensures) at c.in_ok-setup.ensures.version in
    (row_there parts setup set version [] [] []).set_up.rounds.1

pub returns-in_err-stored-clause-damaged : goal.returns-in_err-stored-clause-damaged
returns-in_err-stored-clause-damaged c place bad =
    let why : c.in_err-stored.field-0.0 ≡ Damaged place = search (rules, bad) in
    let parts = c.args.parts.now in
    let setup = c.in_ok-setup.setup in
    let set = rw (c.as_slice.ensures) at c.in_ok-setup.ensures.value in
    let version = rw (c.as_slice.ensures) at c.in_ok-setup.ensures.version in
    let players = c.in_ok-players.players.items in
    let listed = rw (c.as_slice-2.ensures) at c.in_ok-players.ensures.value in
    let count : c.len-count.result ≡ length players = search (rules, c.len-count.ensures, c.in_ok-players.players.ok) in
    let never = rw (c.as_slice-3.ensures, count) at (c.in_err-stored.ensures.damaged place (cc)) in
    subst (IsFirstFault parts) (sym never.0)
    (rounds_fault parts setup set version players listed.0 listed.1 c.in_ok-players.ensures.kept never.1)

pub returns-then-not-have_missed-clause-damaged : goal.returns-then-not-have_missed-clause-damaged
returns-then-not-have_missed-clause-damaged c place bad =
    let why : PairingTable ≡ place = search (rules, bad) in
    let parts = c.args.parts.now in
    let setup = c.in_ok-setup.setup in
    let set = rw (c.as_slice.ensures) at c.in_ok-setup.ensures.value in
    let version = rw (c.as_slice.ensures) at c.in_ok-setup.ensures.version in
    let players = c.in_ok-players.players.items in
    let listed = rw (c.as_slice-2.ensures) at c.in_ok-players.ensures.value in
    let count : c.len-count.result ≡ length players = search (rules, c.len-count.ensures, c.in_ok-players.players.ok) in
    let rounds = c.in_ok-stored.stored.items in
    let paired = rw (c.as_slice-3.ensures, count) at c.in_ok-stored.ensures.value in
    let only = rw (c.as_slice-3.ensures, count) at c.in_ok-stored.ensures.only in
    let test = rw (c.as_slice-4.ensures.value, c.as_slice-5.ensures.value) at c.have_missed.ensures in
    let kept = c.in_ok-players.ensures.kept in
    subst (IsFirstFault parts) why (missed_fault parts setup set version players listed.0 listed.1 kept rounds paired.0 paired.1 only
    (λ missed. true≢false (sym (missed-have rounds players missed) ∙ (sym test ∙ c.if-not-have_missed.true))))

-- nobody sits in a round that they missed
all_missed : (rounds : List Round) (players : List Player) (test : Bool) → test ≡ list_all (is_absent_from_missed rounds) players
    → test ≡ true
    → All (HasMissed rounds) players
all_missed rounds players test is holds = have-missed rounds players (sym is ∙ holds)

pub read_bracket-requires-clause-cut : goal.read_bracket-requires-clause-cut
read_bracket-requires-clause-cut c =
    let parts = c.args.parts.now in
    let setup = c.in_ok-setup.setup in
    let set = rw (c.as_slice.ensures) at c.in_ok-setup.ensures.value in
    let version = rw (c.as_slice.ensures) at c.in_ok-setup.ensures.version in
    (row_there parts setup set version [] [] []).set_up.cut

pub returns-in_err-stages-clause-damaged : goal.returns-in_err-stages-clause-damaged
returns-in_err-stages-clause-damaged c place bad =
    let why : c.in_err-stages.field-0.0 ≡ Damaged place = search (rules, bad) in
    let parts = c.args.parts.now in
    let setup = c.in_ok-setup.setup in
    let set = rw (c.as_slice.ensures) at c.in_ok-setup.ensures.value in
    let version = rw (c.as_slice.ensures) at c.in_ok-setup.ensures.version in
    let players = c.in_ok-players.players.items in
    let listed = rw (c.as_slice-2.ensures) at c.in_ok-players.ensures.value in
    let count : c.len-count.result ≡ length players = search (rules, c.len-count.ensures, c.in_ok-players.players.ok) in
    let rounds = c.in_ok-stored.stored.items in
    let paired = rw (c.as_slice-3.ensures, count) at c.in_ok-stored.ensures.value in
    let only = rw (c.as_slice-3.ensures, count) at c.in_ok-stored.ensures.only in
    let never = rw (c.as_slice-6.ensures, count) at (c.in_err-stages.ensures.damaged place (cc)) in
    let kept = c.in_ok-players.ensures.kept in
    subst (IsFirstFault parts) (sym never.0)
    (stages_fault parts setup set version players listed.0 listed.1 kept rounds paired.0 paired.1 only
    (all_missed rounds players c.have_missed.result (rw (c.as_slice-4.ensures.value, c.as_slice-5.ensures.value) at c.have_missed.ensures)
    c.if-not-have_missed.false) never.1)

-- the event that is read
whole : (c : goal.After-from) → (let e = event_of c.in_ok-setup.setup c.in_ok-players.players.items c.in_ok-stored.stored.items
    c.in_ok-stages.stages.items in IsOf c.args.parts.now e × IsSoundButForSeeds e
    × ((other : EventValue) → IsOf c.args.parts.now other → IsSoundButForSeeds other → other ≡ e))
whole c =
    let players = c.in_ok-players.players.items in
    let set = rw (c.as_slice.ensures) at c.in_ok-setup.ensures.value in
    let version = rw (c.as_slice.ensures) at c.in_ok-setup.ensures.version in
    let listed = rw (c.as_slice-2.ensures) at c.in_ok-players.ensures.value in
    let count : c.len-count.result ≡ length players = search (rules, c.len-count.ensures, c.in_ok-players.players.ok) in
    let paired = rw (c.as_slice-3.ensures, count) at c.in_ok-stored.ensures.value in
    let only = rw (c.as_slice-3.ensures, count) at c.in_ok-stored.ensures.only in
    let drawn = rw (c.as_slice-6.ensures, count) at c.in_ok-stages.ensures.value in
    let only_these = rw (c.as_slice-6.ensures, count) at c.in_ok-stages.ensures.only in
    is_whole c.args.parts.now c.in_ok-setup.setup set version players listed.0 listed.1 c.in_ok-players.ensures.kept
    c.in_ok-stored.stored.items paired.0 paired.1 only
    (all_missed c.in_ok-stored.stored.items players c.have_missed.result
    (rw (c.as_slice-4.ensures.value, c.as_slice-5.ensures.value) at c.have_missed.ensures) c.if-not-have_missed.false)
    c.in_ok-stages.stages.items drawn.0 drawn.1 only_these

pub invariant_of-result : goal.invariant_of-result
invariant_of-result c = rw (c.from.ensures) (whole c).1

pub returns-clause-value : goal.returns-clause-value
returns-clause-value c = rw (c.from.ensures) (whole c).0

pub returns-clause-sound : goal.returns-clause-sound
returns-clause-sound c = invariant_of-result c

pub returns-clause-only : goal.returns-clause-only
returns-clause-only c other is sound = rw (c.from.ensures) ((whole c).2 other is sound)
