use Rattle.er_store.proofs.Prelude.{tally_rows, ◌≡◌, inr, refl, sym, ap, ◌∙◌, true≢false, EventValue, IsSoundButForSeeds}
use Rattle.er_event.specs.Parts.{IsOf}
use Rattle.er_store.specs.inside.Lookup.{IsWhole}
use Rattle.er_store.proofs.loading.counted_event_of.Goals as goal

pub returns-then-has_tallies-clause-only : goal.returns-then-has_tallies-clause-only
returns-then-has_tallies-clause-only c v e s whole counted = c.in_ok-event.ensures.only v e s whole

pub returns-else-has_tallies-clause-refused : goal.returns-else-has_tallies-clause-refused
returns-else-has_tallies-clause-refused c =
    let of = c.in_ok-event.ensures.value in
    -- the rows are of no event but the one that was read of them
    let same : (e : EventValue) → IsOf c.args.parts e → IsSoundButForSeeds e → e ≡ c.in_ok-event.event = λ e is sound.
    let whole : IsWhole c.args.parts e is.serial is.version =
    record { known = is.known; keeps = is.keeps; low = is.low; are = is.are; sound = sound } in
    sym (c.in_ok-event.ensures.only is.version e is.serial whole).0 in
    let other : (e : EventValue) → e ≡ c.in_ok-event.event → c.args.tallies.now ≡ tally_rows e → ⊥ =
    λ e same counted. true≢false (sym (c.has_tallies.ensures.1 (counted ∙ ap tally_rows same)) ∙ c.if-has_tallies.false) in
    inr (
      _,
      refl,
      inr (
        refl,
        record {
          some = (
            c.in_ok-event.event,
            record { version = _; known = of.known; keeps = of.keeps; serial = _; low = of.low; are = of.are },
            of.sound,
          );
          other = λ e is sound. other e (same e is sound);
        },
      ),
    )
