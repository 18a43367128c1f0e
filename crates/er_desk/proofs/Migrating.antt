-- What a migration makes of a desk, by what it does to its store.
use Rattle.std.proofs.Common.{◌≡◌, inl, inr, ℕ, Bool, Result, Ok, Err, IsFalse, refl, sym, subst, ◌∙◌, arith, true≢false}
use Rattle.std.specs.Result.{result_and}
use Rattle.sqlite_trees.specs.declared.store.Store.{Ghosts}
use Rattle.er_event.specs.{Event.EventValue, declared.refusals.Refusal.Refusal}
use Rattle.er_store.specs.{Migrated.{CanMigrate, MovesTables}, Representing.RepresentsNow}
use Rattle.er_desk.specs.declared.desk.Desk.{Desk}
use Rattle.er_desk.specs.Desk.{DeskState, HoldsOwnEvent, state, desk_state, version_in}
use Rattle.er_desk.specs.Migrating.{MayMigrate, MovesDesk}
use Rattle.er_desk.proofs.Turns.{still_stored}

same_desk : (a b : EventValue) (n m v w : ℕ) (s t : Bool) → a ≡ b → n ≡ m → v ≡ w → s ≡ t
    → (let it : DeskState = record { event = a; serial = n; version = v; needs_reopen = s } in it)
    ≡ record { event = b; serial = m; version = w; needs_reopen = t }
same_desk a b n m v w s t events serials versions stops = cc

module _ {S : Type 0} (g : Ghosts S) (old new : Desk S g) (runs : IsFalse (desk_state old).needs_reopen) (first : version_in old ≡ 1)
    (event : new.event ≡ old.event) (serial : new.serial ≡ old.serial) where
  shows_first : HoldsOwnEvent g old → RepresentsNow 1 (state g old) old.event old.serial
  shows_first = subst (λ (v : ℕ). RepresentsNow v (state g old) old.event old.serial) first

  can_migrate : MayMigrate g old → HoldsOwnEvent g old → CanMigrate (state g old) old.event old.serial
  can_migrate (inl second) shows = absurd (omega (arith, first, second))
  can_migrate (inr unawaited) shows = record { shows = shows_first shows; unawaited = unawaited }

  shows_new : RepresentsNow 2 (state g new) old.event old.serial → RepresentsNow 2 (state g new) new.event new.serial
  shows_new shows = subst (λ (e : EventValue). RepresentsNow 2 (state g new) e new.serial) (sym event)
      (subst (λ (n : ℕ). RepresentsNow 2 (state g new) old.event n) (sym serial) shows)

  pub moves_desk : (result : Result (Unit {0}) Refusal) → MovesTables g old.event old.serial old.store result new.store
      → MovesDesk g old (result_and result (Ok old.serial)) new
  moves_desk (Ok done) moved = record {
    turn = (runs, refl, same_desk _ _ _ _ _ _ _ _ event serial moved.version (moved.as_call.stops runs ∙ sym runs));
    waits = elim [
      | inl stopped ↦ absurd (true≢false (sym stopped ∙ runs))
      | inr second ↦ absurd (omega (arith, first, second))
    ];
    clean = moved.as_call.call.clean;
    represents = λ may clean shows still. subst (λ (v : ℕ). RepresentsNow v (state g new) new.event new.serial) (sym moved.version)
        (shows_new (moved.migrated clean first (can_migrate may shows)).shows);
    kept = λ clean. tt;
    taken = λ _ _ clean used. absurd (true≢false (sym (moved.taken runs first clean used).0));
    acknowledged = λ may shows clean trees left. (moved.acknowledged first (can_migrate may shows) clean trees left).stored;
    emptied = λ may clean shows _. (moved.migrated clean first (can_migrate may shows)).emptied;
    beside = λ may clean shows _. moved.beside clean first (can_migrate may shows);
    crash = λ may shows clean trees left. elim (moved.crash runs first (can_migrate may shows) clean trees left) [
      | inl same ↦ inl (still_stored shows same)
      | inr made ↦ inr made.stored
    ];
  }
  moves_desk (Err why) moved =
      let stops = moved.as_call.stops runs in
      record {
        turn = inr (runs, first, stops.0, same_desk _ _ _ _ _ _ _ _ event serial moved.version stops.1);
        waits = elim [
          | inl stopped ↦ absurd (true≢false (sym stopped ∙ runs))
          | inr second ↦ absurd (omega (arith, first, second))
        ];
        clean = moved.as_call.call.clean;
        represents = λ may clean shows still. absurd (true≢false (sym stops.1 ∙ still));
        kept = moved.as_call.call.kept;
        taken = λ _ _ clean used.
            let refused = moved.taken runs first clean used in
            (refused.0, λ shows clean trees left. still_stored shows (refused.1 (shows_first shows) clean trees left));
        acknowledged = λ may shows. tt;
        emptied = λ may clean shows _. tt;
        beside = λ may clean shows _. tt;
        crash = λ may shows clean trees left. elim (moved.crash runs first (can_migrate may shows) clean trees left) [
          | inl same ↦ inl (still_stored shows same)
          | inr made ↦ inr made.stored
        ];
      }
