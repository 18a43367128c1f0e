use Rattle.std.proofs.Common.{◌≡◌, ◌⊎◌, inl, inr, ℕ, List, refl, sym, subst, ◌∙◌, true≢false}
use Rattle.std.proofs.lemmas.{Option.none-some, Result.err_from_is_err_and}
use Rattle.sqlite.specs.{Held.state, Tree.Trees}
use Rattle.er_event.specs.declared.refusals.Refusal.{Refusal, TheVariants.{BadSetup, EventExists}}
use Rattle.er_event.specs.{Event.EventValue, Change.initial_event, Sound.IsSoundButForSeeds}
use Rattle.er_rules.specs.Sound.{IsSound, HasSeeds}
use Rattle.er_store.specs.{Begins.IsCreated, Beside.IsStoredBeside, Fault.IsFault, Representing.IsStoredIn}
use Rattle.er_desk.proofs.Turns.{same_keeps, desk_state_same}
use Rattle.er_desk.proofs.desk.Desk.create.Goals as goal

setup_exists : BadSetup ≡ EventExists → ⊥
setup_exists is = cc

not_setup : (why : Refusal) → (why ≡ EventExists) ⊎ IsFault why → why ≡ BadSetup → ⊥
not_setup why (inl there) is = cc
not_setup why (inr (inl memory)) is = cc
not_setup why (inr (inr refused)) is = cc

-- a new event has no playoff
new_sound : (name : List ℕ) (rounds cut : ℕ) (event : EventValue) → event ≡ initial_event name rounds cut → IsSoundButForSeeds event
    → IsSound event
new_sound name rounds cut event is sound = record {
  but_for_seeds = sound;
  seeds = subst HasSeeds (sym is) (λ first at. absurd (none-some first at));
}

-- the limits are not met, and the file was not touched: while the connection was open, a crash could leave only its last commit
pub returns-in-Err : goal.returns-in-Err
returns-in-Err g c = record {
  mode = c.requires.mode;
  why = inl c.in-Err.ensures.refused;
  beyond = λ is. (refl, λ limits. true≢false (sym (c.in-Err.ensures.within.1 limits)));
  checked = λ none. c.in-Err.ensures.refused;
  exists = λ is. absurd (setup_exists (sym c.in-Err.ensures.refused ∙ is));
  clean = λ clean. clean;
  left = record {
    kept = λ clean. same_keeps (state g.S.Store c.args.conn);
    spares = λ reads clean trees may. may;
    still = λ reads is_open clean trees may. g.met.S.Store.settled c.args.conn.store trees is_open may;
    crash = λ none clean trees may. inl may;
    left = λ none is_open clean trees may. inl (g.met.S.Store.settled c.args.conn.store trees is_open may);
    beside = λ is_open clean trees may. inl (g.met.S.Store.settled c.args.conn.store trees is_open may);
  };
}

pub returns-in_err-store : goal.returns-in_err-store
returns-in_err-store g c =
    let p = err_from_is_err_and c.from_residual.result c.from_residual.ensures.1 in
    let failed = c.in_err-store.ensures.made in
    let call = c.in_err-store.ensures.call in
    let stored = λ (trees : Trees) (made : IsStoredIn 2 c.in-Ok.event 0 trees). (let new : IsStoredIn 2
    (initial_event c.args.name c.args.rounds c.args.cut) 0 trees =
    subst (λ (e : EventValue). IsStoredIn 2 e 0 trees) c.in-Ok.ensures.value made in new) in
    rw (p.1, p.2) (record {
      mode = failed.mode;
      why = inr failed.why;
      beyond = λ is. absurd (not_setup _ failed.why is);
      checked = λ none. absurd (none (c.in-Ok.ensures.within.0 refl));
      exists = failed.exists;
      clean = call.clean;
      left = record {
        kept = call.kept;
        spares = failed.spares;
        still = λ reads is_open clean trees may. g.met.S.Store.settled c.args.conn.store trees is_open (failed.spares reads clean trees may);
        crash = λ none clean trees may. elim (failed.crash none clean trees may) [
          | inl before ↦ inl before
          | inr made ↦ inr (stored trees made)
        ];
        left = λ none is_open clean trees may. elim (failed.crash none clean trees may) [
          | inl before ↦ inl (g.met.S.Store.settled c.args.conn.store trees is_open before)
          | inr made ↦ inr (stored trees made)
        ];
        beside = λ is_open clean trees may. elim (failed.beside_crash clean trees may) [
          | inl before ↦ inl (g.met.S.Store.settled c.args.conn.store trees is_open before)
          | inr made ↦ inr (subst (λ (e : EventValue). IsStoredBeside 2 e (state g.S.Store c.args.conn).now trees)
              c.in-Ok.ensures.value made)
        ];
      };
    })

pub invariant_of-result-clause-sound : goal.invariant_of-result-clause-sound
invariant_of-result-clause-sound g c = ∣ new_sound _ _ _ _ c.in-Ok.ensures.value c.in-Ok.ensures.sound ∣₁

pub returns : goal.returns
returns g c =
    let made = c.in_ok-store.ensures.made in
    record {
      within = c.in-Ok.ensures.within.0 refl;
      made = desk_state_same _ _ _ _ _ _ _ c.in-Ok.ensures.value made.version made.ready;
      sound = new_sound _ _ _ _ c.in-Ok.ensures.value c.in-Ok.ensures.sound;
      clean = c.in_ok-store.ensures.call.clean;
      tables = subst (λ (e : EventValue). IsCreated g.S.Store 2 e (state g.S.Store c.args.conn) c.in_ok-store.store)
          c.in-Ok.ensures.value made;
    }
