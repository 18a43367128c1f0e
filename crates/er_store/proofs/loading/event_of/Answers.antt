use Rattle.er_store.proofs.Prelude.{inr, Err, ap, sym, subst, ℕ, ◌≡◌, ◌∙◌, same_Some, EventValue, Parts, Damaged}
use Rattle.er_store.specs.{Damage.said_version, inside.Lookup.IsWhole}
use Rattle.er_store.proofs.Layouts.{said_is}
use Rattle.er_store.proofs.loading.event_of.Goals as goal

pub returns-in-Err-Damaged-clause-refused : goal.returns-in-Err-Damaged-clause-refused
returns-in-Err-Damaged-clause-refused c =
    inr (
      c.in-Err-Damaged.table,
      ap Damaged c.in-Err-Damaged.table-is,
      c.from_parts.ensures.damaged c.in-Err-Damaged.table (c.in-Err-Damaged.is ∙ ap Err c.in-Err-Damaged.field-0-is),
    )

pub returns : goal.returns
returns c =
    let found = c.in-Ok.ensures.value in
    let told : (v : ℕ) (e : EventValue) (s : ℕ) → IsWhole c.args.parts e s v → c.in-Some.serial ≡ s = λ v e s whole.
    same_Some _ _ (sym c.in-Some.is
    ∙ c.serial_of-serial.ensures v e s whole.low (c.as_slice.ensures ∙ ap (λ (p : Parts). p.event) whole.are)) in
    let says : (v : ℕ) (e : EventValue) (s : ℕ) → IsWhole c.args.parts e s v → c.said_version-version.result ≡ v = λ v e s whole.
    c.said_version-version.ensures ∙ (ap said_version (c.as_slice-2.ensures ∙ ap (λ (p : Parts). p.event) whole.are)
    ∙ said_is v whole.known e s) in
    let whole : IsWhole c.args.parts c.in-Ok.event found.serial found.version = record {
      known = found.known;
      keeps = found.keeps;
      low = found.low;
      are = found.are;
      sound = c.in-Ok.ensures.sound;
    } in
    let serial = sym (told _ _ _ whole) in
    let version = sym (says _ _ _ whole) in
    record {
      value = subst (λ (v : ℕ). IsWhole c.args.parts c.in-Ok.event c.in-Some.serial v) version
          (subst (λ (s : ℕ). IsWhole c.args.parts c.in-Ok.event s found.version) serial whole);
      only = λ v e s it. (
        sym (c.in-Ok.ensures.only e
            (record { version = v; known = it.known; keeps = it.keeps; serial = s; low = it.low; are = it.are }) it.sound),
        told v e s it,
        says v e s it,
      );
      refused = tt;
    }
