use Rattle.std.proofs.Common.{◌≡◌, ℕ, IsTrue, false, rules, inl, inr, sym, subst, ◌∙◌, refl, true≢false}
use Rattle.sqlite.specs.{Held.Held, State.{State, HasCleanDisk}, Tree.Trees}
use Rattle.sqlite_trees.specs.declared.store.Store.{Ghosts}
use Rattle.er_event.specs.Event.{EventValue}
use Rattle.er_event.specs.declared.refusals.{Refusal.TheVariants.Damaged, Place.TheVariants.BracketTable}
use Rattle.er_store.specs.{Begins.IsAdopted, Representing.{IsStoredIn, Represents}, declared.Store.Store}
use Rattle.er_desk.specs.Begins.{HasNotAdopted}
use Rattle.std.proofs.lemmas.Result.{err_from_is_err_and}
use Rattle.sqlite.specs.Held.{state}
use Rattle.er_rules.specs.Sound.{HasSeeds}
use Rattle.er_desk.proofs.Adopting.{placed_is, shows_as, read_whole, memory_names, damage_tells, same_place}
use Rattle.er_desk.proofs.Adopting.{back_clean, back_leaves_all, leaves_all, unchanged_leaves_all}
use Rattle.er_store.specs.Store as tables
use Rattle.er_desk.proofs.desk.Desk.adopt.Goals as goal

-- ---- the tables are refused

pub returns-in_err-store : goal.returns-in_err-store
returns-in_err-store g c =
    let p = err_from_is_err_and c.from_residual.result c.from_residual.ensures.1 in
    let failed = c.in_err-store.ensures.found in
    let call = c.in_err-store.ensures.call in
    rw (p.1, p.2) (record {
      mode = failed.mode;
      why = failed.why;
      first = λ clean. record {
        no_event = λ is reads. failed.no_event is clean reads;
        readable = failed.readable clean;
        first = λ place is. inl (failed.first clean place is);
      };
      found = λ point represents sound clean. failed.fails clean point.event point.serial represents sound.but_for_seeds;
      other_seeds = λ point represents sound none clean. inl (failed.fails clean point.event point.serial represents sound);
      left = leaves_all (state g.S.Store c.args.conn) (state g.S.Store c.in_err-store.field-0.0.0)
          (λ db is_open may. g.met.S.Store.settled c.args.conn.store db is_open may) call.clean failed.crash call.kept;
    })

-- ---- the seeds agree

pub invariant_of-result-clause-sound : goal.invariant_of-result-clause-sound
invariant_of-result-clause-sound g c = ∣ record {
  but_for_seeds = c.in_ok-store.ensures.found.sound;
  seeds = c.in-Ok-true.ensures.0 c.in-Ok-true.field-0-test;
} ∣₁

pub returns-in-Ok-true : goal.returns-in-Ok-true
returns-in-Ok-true g c =
    let opened = c.in_ok-store.ensures.found in
    let seeds : HasSeeds c.in_ok-store.event = c.in-Ok-true.ensures.0 c.in-Ok-true.field-0-test in
    record {
      tables = opened;
      sound = record { but_for_seeds = opened.sound; seeds = seeds };
      repeats = opened.sound.rounds.no_repeats;
      found = λ placed represents sound clean.
          let event = placed.point.event in
          let serial = placed.point.serial in
          let either : Represents (state g.S.Store c.args.conn).now event serial = (represents.layout, represents.represents) in
          let found = opened.found clean event serial either sound.but_for_seeds in
          let version = opened.version clean event serial placed.version represents sound.but_for_seeds in
          record {
            found = placed_is placed c.in_ok-store.event c.in_ok-store.serial (tables.store_version c.in_ok-store.store) found.0 found.1
                version;
            shows = shows_as (tables.store_version c.in_ok-store.store)
                (tables.store_state g.S.Store c.in_ok-store.store) event c.in_ok-store.event serial c.in_ok-store.serial
                found.0 found.1 found.2;
            leaves = λ late trees may.
                subst (λ (v : ℕ). IsStoredIn v event serial trees) version
                (opened.leaves event serial either sound.but_for_seeds late trees may);
          };
      left = unchanged_leaves_all (state g.S.Store c.args.conn) (tables.store_state g.S.Store c.in_ok-store.store)
          (λ db is_open may. g.met.S.Store.settled c.args.conn.store db is_open may) c.in_ok-store.ensures.call.clean
          opened.crash opened.same;
    }

-- ---- they do not

-- What is given back then. That it is the store's connection is for `search` to find, so that a body that keeps the store is
-- refused there.
gives_back : {S : Type 0} (g : Ghosts S) (old : State) (it : Store S g × EventValue × ℕ) (back : Held S) → IsAdopted g old it
    → (HasCleanDisk (tables.store_state g it.0) → HasCleanDisk old)
    → ((db : Trees) → IsTrue old.is_open → old.may_leave db → db ≡ old.committed.trees)
    → (HasSeeds it.1 → ⊥)
    → back ≡ tables.connection it.0 → back.in_transaction ≡ false → HasNotAdopted g old (back, Damaged BracketTable)
gives_back g old it back opened clean settled unseeded same mode =
    let late = back_clean g old back it.0 same in
    record {
      mode = mode;
      why = inr (inr (_, refl));
      first = λ clean.
          let reads = opened.reads (late clean) in
          record {
            no_event = λ is. absurd (damage_tells _ is);
            readable = λ place is. read_whole old.now _ reads.0;
            first = λ place is. inr (
              same_place _ _ (sym is),
              (it.1, it.2, tables.store_version it.0, reads.0, reads.1, opened.sound, opened.low, unseeded),
            );
          };
      found = λ point represents sound clean.
          let found = opened.found (late clean) point.event point.serial represents sound.but_for_seeds in
          absurd (unseeded (subst HasSeeds (sym found.0) sound.seeds));
      other_seeds = λ point represents sound none clean. inr refl;
      left = back_leaves_all g old back it.0 same
          (unchanged_leaves_all old (tables.store_state g it.0) settled clean opened.crash opened.same);
    }

pub returns-in-Ok-false : goal.returns-in-Ok-false
returns-in-Ok-false g c =
    gives_back g.S.Store (state g.S.Store c.args.conn) _ _ c.in_ok-store.ensures.found c.in_ok-store.ensures.call.clean
    (λ db is_open may. g.met.S.Store.settled c.args.conn.store db is_open may)
    (λ has. true≢false (sym (c.in-Ok-false.ensures.1 has) ∙ c.in-Ok-false.field-0-test)) (search rules) (search rules)

-- ---- memory ran out

pub returns-in-Err : goal.returns-in-Err
returns-in-Err g c =
    let opened = c.in_ok-store.ensures.found in
    record {
      mode = c.into_connection-in-Err.ensures.mode;
      why = inr (inl (inl refl));
      first = λ clean. memory_names (state g.S.Store c.args.conn).now;
      found = λ point represents sound clean. inl refl;
      other_seeds = λ point represents sound none clean. inl (inl refl);
      left = back_leaves_all g.S.Store (state g.S.Store c.args.conn) c.into_connection-in-Err.result c.in_ok-store.store
          c.into_connection-in-Err.ensures.same
          (unchanged_leaves_all (state g.S.Store c.args.conn) (tables.store_state g.S.Store c.in_ok-store.store)
          (λ db is_open may. g.met.S.Store.settled c.args.conn.store db is_open may) c.in_ok-store.ensures.call.clean
          opened.crash opened.same);
    }
