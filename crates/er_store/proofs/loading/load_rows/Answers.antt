use Rattle.er_store.proofs.Prelude.{reading_refusal, ◌≡◌, sym, ap, ◌∙◌, refl, Ok, Err, Place}
use Rattle.er_store.proofs.Lending.{looks_as, looks_fail}
use Rattle.er_store.proofs.{LoadLemmas.read_fault, Refusals.damaged_place}
use Rattle.er_store.proofs.loading.load_rows.Goals as goal

pub returns-in-Ok : goal.returns-in-Ok
returns-in-Ok g c = rw c.from.ensures (record {
  looks = looks_as (Ok c.in-Ok.rows.items) c.in-Ok.ensures.looks;
  finds = c.in-Ok.ensures.finds;
  misses = λ clean. tt;
  fault = tt;
})

pub returns-in-Err : goal.returns-in-Err
returns-in-Err g c =
    let place = g.T.TableRow.table.place in
    let is : c.reading_refusal.result ≡ reading_refusal place c.in-Err.error = c.reading_refusal.ensures.value
    ∙ ap (λ (at : Place). reading_refusal at c.in-Err.error) c.place.ensures in
    record {
      looks = looks_fail (Err c.reading_refusal.result) c.reading_refusal.result refl c.in-Err.ensures.looks;
      finds = λ clean. tt;
      misses = λ clean.
          record {
            misread = λ at h. (damaged_place place c.in-Err.error at (sym is ∙ h), c.in-Err.ensures.misread clean at (sym is ∙ h));
            refused = λ l serves e s represents sound.
                rw is (read_fault place _ _ c.in-Err.error (c.in-Err.ensures.refused clean l serves e s represents sound));
          };
      fault = c.reading_refusal.ensures.fault;
    }
