use Rattle.er_store.proofs.Prelude.{inr, refl, ◌∙◌, Store, slip_of, Result, Ok, Err, IfErr}
use Rattle.er_event.specs.declared.refusals.Cause.TheVariants.{BadRow}
use Rattle.er_store.proofs.{Joined.{no_slip, one_slip, few_slips, slip_found}}
use Rattle.er_event.specs.declared.refusals.Refusal.TheVariants.{NoSuchMatch}
use Rattle.er_store.proofs.Lending.{looks_as}
use Rattle.er_store.proofs.slips.find_slip.Goals as goal

never : {A E : Type 0} {P : E → Type 0} (r : Result A E) → ((e : E) → P e) → IfErr r P
never (Ok a) p = tt
never (Err e) p = p e

pub returns-in-empty-clause-found : goal.returns-in-empty-clause-found
returns-in-empty-clause-found g c clean e s represents sound =
    let rows = c.as_slice.ensures.value ∙ (rw (c.from.ensures, c.from-2.ensures) at (c.in-Ok.ensures.exact clean e s represents sound)) in
    inr (refl, no_slip (slip_of e c.args.round c.args.table) c.as_slice.result.now rows c.in-empty.len_below)

pub returns-in-len1-clause-found : goal.returns-in-len1-clause-found
returns-in-len1-clause-found g c clean e s represents sound =
    let rows = c.as_slice.ensures.value ∙ (rw (c.from.ensures, c.from-2.ensures) at (c.in-Ok.ensures.exact clean e s represents sound)) in
    let one = one_slip (slip_of e c.args.round c.args.table) c.as_slice.result.now c.row-item.result rows c.in-len1.len_at_least
    c.row-item.is in
    slip_found e c.args.round c.args.table one.0 c.slip_of.result (Store BadRow) c.ok_or.result c.ok_or.ensures.value sound one.1
    (λ lawful round table. c.slip_of.ensures.exact one.0 lawful round table one.2)

pub returns-clause-found : goal.returns-clause-found
returns-clause-found g c clean e s represents sound =
    let rows = c.as_slice.ensures.value ∙ (rw (c.from.ensures, c.from-2.ensures) at (c.in-Ok.ensures.exact clean e s represents sound)) in
    absurd (few_slips (slip_of e c.args.round c.args.table) c.as_slice.result.now rows c.in_default.len_at_least)

pub returns-in-len1-clause-looks : goal.returns-in-len1-clause-looks
returns-in-len1-clause-looks g c = looks_as c.ok_or.result c.in-Ok.ensures.looks

pub returns-in-len1-clause-missed : goal.returns-in-len1-clause-missed
returns-in-len1-clause-missed g c clean = never c.ok_or.result (λ why is. (c.in-Ok.ensures.looks.same clean))

pub returns-in-empty-clause-looks : goal.returns-in-empty-clause-looks
returns-in-empty-clause-looks g c = looks_as (Err NoSuchMatch) c.in-Ok.ensures.looks

pub returns-in-empty-clause-missed : goal.returns-in-empty-clause-missed
returns-in-empty-clause-missed g c clean is = c.in-Ok.ensures.looks.same clean

pub returns-clause-looks : goal.returns-clause-looks
returns-clause-looks g c = looks_as (Err (Store BadRow)) c.in-Ok.ensures.looks
