use Rattle.er_event.proofs.Prelude.{EventValue, IsEventRow, EventRow, List, subst, sym, [], ℕ, ◌∙◌, ◌∷◌, ◌≡◌}
use Rattle.std.proofs.lemmas.Result.{IfOk-weaker}
use Rattle.er_event.proofs.PartsLemmas.{one_row}
use Rattle.er_event.proofs.rows.event.read_event.Goals as goal

pub returns-in-len1-clause-value : goal.returns-in-len1-clause-value
returns-in-len1-clause-value c =
    let is = one_row c.args.rows.now c.row-item.result c.in-len1.len_at_least c.in-len1.len_below c.row-item.is in
    IfOk-weaker c.read_row.result _ _
    (λ setup reads e so. subst (λ (rows : List EventRow). IsEventRow rows e) (sym is) (reads e so)) c.read_row.ensures.value

-- the rows have one version
same_version : (rows others : List EventRow) (version : ℕ) → rows ≡ others
    → ((e : EventValue) (is : IsEventRow others e) → is.version ≡ version)
    → (e : EventValue) (is : IsEventRow rows e) → is.version ≡ version
same_version rows others version same of_others e is = of_others e (record {
  version = is.version;
  known = is.known;
  keeps = is.keeps;
  serial = is.serial;
  low = is.low;
  set_up = is.set_up;
  row = sym same ∙ is.row;
})

pub returns-in-len1-clause-version : goal.returns-in-len1-clause-version
returns-in-len1-clause-version c =
    let is = one_row c.args.rows.now c.row-item.result c.in-len1.len_at_least c.in-len1.len_below c.row-item.is in
    IfOk-weaker c.read_row.result _ _
    (λ setup of_row. same_version c.args.rows.now (c.row-item.result ∷ []) setup.version is of_row) c.read_row.ensures.version

pub returns-in-len1-clause-damaged : goal.returns-in-len1-clause-damaged
returns-in-len1-clause-damaged c place bad =
    let is = one_row c.args.rows.now c.row-item.result c.in-len1.len_at_least c.in-len1.len_below c.row-item.is in
    let tells = c.read_row.ensures.damaged place bad in
    (tells.0, λ e row. tells.1 e (subst (λ (rows : List EventRow). IsEventRow rows e) is row))
