use Rattle.er_event.proofs.Prelude.{phase_code, arith, rules, pos, ap, subst, ◌≡◌, ◌≤◌, ◌∷◌, [], ℕ, EventRow, EventValue}
use Rattle.er_event.proofs.Prelude.{IsEventRow}
use Rattle.er_event.specs.Version.{IsVersion, KeepsRounds}
use Rattle.er_event.proofs.Prelude.{IsTrue, Some, is_lawful_name}
use Rattle.er_event.specs.Rows.{event_row}
use Rattle.std.proofs.lemmas.Int.{ints}
use Rattle.er_event.proofs.PartsLemmas.{read_is}
use Rattle.er_event.proofs.rows.event.read_row.Goals as goal

pub returns-clause-value : goal.returns-clause-value
returns-clause-value c =
    let row = c.args.row.now in
    let counted = c.is_serial.ensures.0 c.if-not-is_serial.false in
    let limits = c.is_setup.ensures.0 c.if-not-is_setup.false in
    let id : row.id ≡ pos 1 = omega (arith, ints) in
    let serial : row.serial ≡ pos counted.0 = omega (arith, ints, counted.2) in
    let version : row.version ≡ pos c.in_ok-version.version = search rules in
    let rounds : row.rounds ≡ pos c.in_ok-rounds.rounds = search rules in
    let cut : row.cut ≡ pos c.in_ok-cut.cut = search rules in
    let phase : row.phase ≡ pos (phase_code c.in_ok-phase.phase) = search rules in
    let name : row.name ≡ c.in_ok-name.name = search rules in
    let lawful : IsTrue (is_lawful_name c.in_ok-name.name) = search rules in
    let known : IsVersion c.in_ok-version.version = search rules in
    let kept : (n : ℕ) → n ≤ c.in_ok-most.most → KeepsRounds c.in_ok-version.version n = search rules in
    read_is row _ c.in_ok-version.version counted.0 id version known (kept _ (omega arith)) serial name rounds cut phase counted.1
    (record { name = lawful; rounds = (limits.0, limits.1); cut = limits.2 })

-- the version that an event's row has
version_of : (row : EventRow) (v : ℕ) → row.version ≡ pos v → (e : EventValue) (is : IsEventRow (row ∷ []) e) → is.version ≡ v
version_of row v read e is =
    let same : row ≡ event_row is.version e is.serial = cc in
    let said : row.version ≡ pos is.version = ap (λ (r : EventRow). r.version) same in
    omega (arith, ints)

pub returns-clause-version : goal.returns-clause-version
returns-clause-version c e is =
    let version : c.args.row.now.version ≡ pos c.in_ok-version.version = search rules in
    version_of c.args.row.now c.in_ok-version.version version e is

-- tables of version 1 keep no more than their rounds
pub returns-then-rounds-most-clause-damaged : goal.returns-then-rounds-most-clause-damaged
returns-then-rounds-most-clause-damaged c place bad = (
  (cc),
  λ e is.
      let row = c.args.row.now in
      let same : row ≡ event_row is.version e is.serial = cc in
      let said : row.version ≡ pos c.in_ok-version.version = search rules in
      let version = version_of row c.in_ok-version.version said e is in
      let rounds : row.rounds ≡ pos e.rounds = ap (λ (r : EventRow). r.rounds) same in
      let read : row.rounds ≡ pos c.in_ok-rounds.rounds = search rules in
      let equal : c.in_ok-rounds.rounds ≡ e.rounds = omega (arith, ints) in
      let found : c.most_rounds.result ≡ Some c.in_ok-most.most = search rules in
      let within : e.rounds ≤ c.in_ok-most.most
      = rw found at (c.most_rounds.ensures.exact e.rounds is.set_up.rounds.1 (subst (λ v. KeepsRounds v e.rounds) version is.keeps)) in
      absurd (omega arith),
)
