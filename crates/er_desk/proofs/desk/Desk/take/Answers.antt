use Rattle.std.proofs.Common.{◌≡◌, ◌<◌, ◌∙◌, inl, inr, refl, sym, ap, subst, arith}
use Rattle.er_desk.specs.{declared.desk.Desk.Desk, Desk.{HoldsOwnEvent, Outcome, placed_of, desk_state, state}, Headline.RecoversJust}
use Rattle.er_desk.proofs.{Asking.refused_submits, Turns.{declined, full, too_late, written, turn_fault, turn_asks}}
use Rattle.er_desk.proofs.Turns.{waits_of, stops_of, stopped_of, same_unless}
use Rattle.er_desk.proofs.desk.Desk.take.Goals as goal

-- the desk was stopped
pub returns-then-needs_reopen : goal.returns-then-needs_reopen
returns-then-needs_reopen g c = refused_submits g.S.Store c.args.self.now c.args.command.now _
    (inr (inr (inr (record { needed_reopen = sym c.needs_reopen.ensures ∙ c.if-needs_reopen.true; same = refl; answered = refl }))))
    (c.shown_is_stored.ensures _ _ _)

-- the step refuses the command
pub returns-in_err-change : goal.returns-in_err-change
returns-in_err-change g c =
    let desk = c.args.self.now in
    refused_submits g.S.Store desk c.args.command.now c.from_residual.result
    (declined (desk_state desk) (sym c.needs_reopen.ensures ∙ c.if-needs_reopen.false) c.args.command.now c.from_residual.result _
    c.from_residual.ensures.1
    c.in_err-change.ensures.refused c.in_err-change.ensures.named)
    (c.shown_is_stored.ensures _ _ _)

-- all serials are given
pub returns-then-self-eq-MAX_SERIAL : goal.returns-then-self-eq-MAX_SERIAL
returns-then-self-eq-MAX_SERIAL g c =
    let desk = c.args.self.now in
    refused_submits g.S.Store desk c.args.command.now _
    (full (desk_state desk) (sym c.needs_reopen.ensures ∙ c.if-needs_reopen.false) c.args.command.now _ c.in_ok-change.ensures.taken.1
    (omega (arith, c.if-self-eq-MAX_SERIAL.true)))
    (c.shown_is_stored.ensures _ _ _)

-- the tables have no place for who comes late
pub returns-then-is_late : goal.returns-then-is_late
returns-then-is_late g c =
    let desk = c.args.self.now in
    let room : desk.serial < 999999 = omega (arith, desk.low, c.if-self-eq-MAX_SERIAL.false) in
    refused_submits g.S.Store desk c.args.command.now _
    (too_late (desk_state desk) (sym c.needs_reopen.ensures ∙ c.if-needs_reopen.false) c.args.command.now _
    c.in_ok-change.ensures.taken.1 room
    (rw c.version.ensures.value at (sym c.is_late.ensures ∙ c.if-is_late.true)))
    (c.shown_is_stored.ensures _ _ _)

-- ---- the change is written, or not

pub write-requires-clause-runs : goal.write-requires-clause-runs
write-requires-clause-runs g c = sym c.needs_reopen.ensures ∙ c.if-needs_reopen.false

pub write-requires-clause-takes : goal.write-requires-clause-takes
write-requires-clause-takes g c = c.steps_are_taken.ensures _ c.args.self.now.event c.args.command.now c.in_ok-change.change
    c.in_ok-change.ensures.taken.1 (rw c.version.ensures.value at (sym c.is_late.ensures ∙ c.if-is_late.false))

pub returns : goal.returns
returns g c =
    let desk = c.args.self.now in
    let new = c.write.new.self in
    let command = c.args.command.now in
    let wrote = c.write.ensures in
    let runs = sym c.needs_reopen.ensures ∙ c.if-needs_reopen.false in
    let room : desk.serial < 999999 = omega (arith, desk.low, c.if-self-eq-MAX_SERIAL.false) in
    let taken = c.in_ok-change.ensures.taken.1 in
    let left : HoldsOwnEvent g.S.Store desk → RecoversJust (state g.S.Store desk) (placed_of (desk_state desk)) =
    c.shown_is_stored.ensures _ _ _ in
    let turn : Outcome (desk_state desk) command c.write.result (desk_state new) =
    written (desk_state desk) runs command (desk_state new) c.write.result _ (new ≡ desk) (λ same. ap desk_state same) taken
    room (rw c.version.ensures.value at (sym c.is_late.ensures ∙ c.if-is_late.false)) wrote.taken wrote.refused in
    record {
      as_call = wrote.as_call;
      turn = turn;
      stops = (stops_of _ _ _ _ turn, stopped_of _ _ _ _ turn);
      fault = turn_fault _ _ _ _ turn;
      asks = (turn_asks _ _ _ _ turn, waits_of _ _ _ _ turn);
      same = same_unless g.S.Store desk new c.write.result wrote.refused;
      kept = wrote.kept;
      acknowledged = wrote.acknowledged;
      in_doubt = λ runs shows clean trees may. elim (wrote.crash shows clean trees may) [
        | inl old ↦ inl old
        | inr new ↦ inr (_, taken, new)
      ];
      refused = λ shows same. subst (λ (d : Desk _ g.S.Store). RecoversJust (state g.S.Store d) (placed_of (desk_state desk))) (sym same)
          (left shows);
    }
