use Rattle.std.proofs.{Common.{◌+◌, ◌∙◌, ℕ, inr, refl, sym, subst, true≢false}, Math.Logic.∥∥₁_map}
use Rattle.er_event.specs.Event.{EventValue}
use Rattle.er_rules.specs.Sound.{IsSound}
use Rattle.er_store.specs.Representing.{IsStoredIn, RepresentsNow}
use Rattle.er_store.specs.Store as tables
use Rattle.er_desk.specs.Desk.{version_in}
use Rattle.er_desk.proofs.Turns.{desk_state_same, stored_either, untaken}
use Rattle.er_desk.proofs.desk.Desk.write.Goals as goal

-- there is no memory for the event after the change, so nothing is touched
pub returns-in_err-next : goal.returns-in_err-next
returns-in_err-next g c = untaken g.S.Store c.args.self.now c.args.change.now c.from_residual.result _ c.from_residual.ensures.1
    c.in_err-next.ensures.refused (c.shown_is_stored.ensures _ _ _)

pub invariant_of-self-clause-sound : goal.invariant_of-self-clause-sound
invariant_of-self-clause-sound g c = subst (λ (e : EventValue). ∥ IsSound e ∥₁) (sym c.in_ok-next.ensures.ok)
    (∥∥₁_map c.args.self.now.sound c.requires.sound)

-- the store has written it
pub returns-in-Ok : goal.returns-in-Ok
returns-in-Ok g c =
    let old = c.args.self.now in
    let wrote = c.write.ensures in
    let same = sym c.in_ok-next.ensures.ok in
    record {
      as_call = record {
        waits = λ stopped. absurd (true≢false (sym stopped ∙ c.requires.runs));
        clean = wrote.as_call.call.clean;
        represents = λ clean shows runs. subst (λ (v : ℕ). RepresentsNow v (tables.store_state g.S.Store c.write.new.self) c.in_ok-next.next
            (old.serial + 1)) (sym wrote.version)
            (subst (λ (e : EventValue). RepresentsNow (version_in old) (tables.store_state g.S.Store c.write.new.self) e
            (old.serial + 1)) same
            (c.in-Ok.ensures.written clean shows));
        others = wrote.others;
        version = wrote.version;
      };
      taken = (
        desk_state_same _ _ _ _ _ _ _ c.in_ok-next.ensures.ok wrote.version
            (c.in-Ok.ensures.as_call.stops c.requires.runs ∙ sym c.requires.runs),
        refl,
      );
      refused = tt;
      kept = λ clean. tt;
      acknowledged = λ shows clean trees may.
          subst (λ (v : ℕ). IsStoredIn v c.in_ok-next.next (old.serial + 1) trees) (sym wrote.version)
          (subst (λ (e : EventValue). IsStoredIn (version_in old) e (old.serial + 1) trees) same
          (c.in-Ok.ensures.acknowledged shows clean trees may).stored);
      crash = λ shows. stored_either (tables.store_state g.S.Store c.write.new.self) shows (wrote.crash c.requires.runs shows);
    }

-- the store has not, and has stopped
pub returns-in-Err : goal.returns-in-Err
returns-in-Err g c =
    let wrote = c.write.ensures in
    let stops = c.in-Err.ensures.as_call.stops c.requires.runs in
    record {
      as_call = record {
        waits = λ stopped. absurd (true≢false (sym stopped ∙ c.requires.runs));
        clean = wrote.as_call.call.clean;
        represents = λ clean shows runs. absurd (true≢false (sym stops.1 ∙ runs));
        others = wrote.others;
        version = wrote.version;
      };
      taken = tt;
      refused = inr (desk_state_same _ _ _ _ _ _ _ refl wrote.version stops.1, stops.0);
      kept = c.in-Err.ensures.as_call.call.kept;
      acknowledged = λ shows. tt;
      crash = λ shows. stored_either (tables.store_state g.S.Store c.write.new.self) shows (wrote.crash c.requires.runs shows);
    }
