use Rattle.std.proofs.Common.{◌≡◌, ◌+◌, ◌≤◌, None, false, arith, refl, sym, ◌∙◌, ap, subst, not, take, []}
use Rattle.std.proofs.lemmas.List.{take_all}
use Rattle.er_desk.specs.{Desk.desk_state, Run.{Session, no_session}}
use Rattle.er_cli.specs.{declared.importing.Additions.Additions, Importing.{Enrols, is_stop}, inside.Importing.names_of}
use Rattle.er_cli.proofs.{Enrolling.{added, ended, found, runs_on, with_name}, importing.enrol_all.Goals.{in-Ok, in-Err}}
use Rattle.er_cli.proofs.importing.enrol_all.Goals as goal

pub loop-line-init : goal.loop-line-init
loop-line-init g c =
    let desk = c.args.desk.now in
    let nobody : Enrols [] (desk_state desk) (record { added = 0; already = 0 }) None no_session (desk_state desk) = record {
      replies = [];
      ran = refl;
      asked = rw c.requires refl;
      counted = refl;
      goes_on = refl;
      all = λ _. refl;
      ends = tt;
    } in
    record { few = omega arith; enrols = (no_session, nobody, c.asks_nothing.ensures); runs = c.requires }

pub loop-line-preserved : goal.loop-line-preserved
loop-line-preserved g c =
    let inv = c.loop-line.invariant in
    let one = c.enrol.ensures in
    let old = desk_state c.args.desk.now in
    let new = desk_state c.enrol.new.desk in
    let names = names_of (take (c.loop-line.line-index + 1) c.args.lines.now) in
    let before = inv.enrols in
    let then : Session = with_name before.0 c.line-item.result.name c.enrol.result new in
    let goes_on : is_stop c.enrol.result ≡ false = elim c.match-enrol.branch [
      | in-Ok w ↦ ap is_stop w.in-Ok.is
      | in-Err w ↦ ap is_stop w.in-Err.is ∙ ap not (sym w.if-is_taken.ensures)
    ] in
    let few : c.match-enrol.additions.added + c.match-enrol.additions.already ≤ c.loop-line.line-index + 1 = elim c.match-enrol.branch [
      | in-Ok w ↦ omega (arith, inv.few, ap (λ (t : Additions). t.added) w.additions-is, ap (λ (t : Additions). t.already) w.additions-is)
      | in-Err w ↦ omega (arith, inv.few, ap (λ (t : Additions). t.added) w.additions-is, ap (λ (t : Additions). t.already) w.additions-is)
    ] in
    let enrols : Enrols names old c.match-enrol.additions None then new = elim c.match-enrol.branch [
      | in-Ok w ↦ subst (λ (t : Additions). Enrols names old t None then new) (sym w.additions-is)
          (added c.lists_grow.ensures c.args.lines.now c.loop-line.line-index c.line-item.result c.loop-line-test.true c.line-item.is _ _ _
          c.loop-line.additions before.0 before.1 c.enrol.result one.turn w.in-Ok._receipt w.in-Ok.is)
      | in-Err w ↦ subst (λ (t : Additions). Enrols names old t None then new) (sym w.additions-is)
          (found c.lists_grow.ensures c.args.lines.now c.loop-line.line-index c.line-item.result c.loop-line-test.true c.line-item.is _ _ _
          c.loop-line.additions before.0 before.1 c.enrol.result one.turn w.in-Err.why w.in-Err.is (sym w.if-is_taken.ensures))
    ] in
    record {
      few = few;
      enrols = (then, enrols, c.asks_then.ensures _ _ _ _ _ before.2 one.asked);
      runs = runs_on _ _ _ _ one.turn goes_on;
    }

-- one is refused otherwise than as taken
pub returns-in-Err-2 : goal.returns-in-Err-2
returns-in-Err-2 g c =
    let before = c.loop-line.invariant.enrols in
    let one = c.enrol.ensures in (
      with_name before.0 c.line-item.result.name c.enrol.result (desk_state c.enrol.new.desk),
      ended c.lists_grow.ensures c.args.lines.now c.loop-line.line-index c.line-item.result c.loop-line-test.true c.line-item.is _ _ _
          c.loop-line.additions before.0 before.1 c.enrol.result one.turn c.in-Err.why c.in-Err.is (sym c.if-is_taken.ensures),
      c.asks_then.ensures _ _ _ _ _ before.2 one.asked,
    )

pub returns : goal.returns
returns g c =
    let all = take_all c.loop-line.line-index c.args.lines.now c.loop-line-test.false in rw all at c.loop-line.invariant.enrols
