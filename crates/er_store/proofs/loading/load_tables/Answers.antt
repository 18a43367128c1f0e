use Rattle.er_store.proofs.Prelude.{state, inl, inr, rules, sym, ◌∙◌, IfOk-weaker, IfErr-weaker, IsFault, refl, ap, subst, ◌≡◌, ℕ, List}
use Rattle.er_store.proofs.Prelude.{HasTables, Database, Parts, EventValue, TallyRow, tally_rows}
use Rattle.er_event.specs.Parts.{IsOf}
use Rattle.er_store.specs.{Loading.{HoldsEvent, ListsTallies}, Damage.said_version, inside.Lookup.{IsWhole, FindsParts}}
use Rattle.er_store.proofs.Layouts.{said_is}
use Rattle.std.proofs.lemmas.Result.{MatchResult-from_both}
use Rattle.er_store.proofs.Lending.{looks_as, looks_fail}
use Rattle.er_store.specs.{Damage.{IsAtFault, IfDamaged}, Fault.IsLoadFault}
use Rattle.er_store.proofs.{Refusals.first_of, LoadLemmas.told, Loaded.{no_row_fault, shows_event}}
use Rattle.er_store.proofs.loading.load_tables.Goals as goal

-- what is found, if the tables are of the version that their row says
holds : {db : Database} {parts : Parts} {rows : List TallyRow} {e : EventValue} {s v : ℕ} (has : HasTables v db.schema)
    → IsWhole parts e s v
    → FindsParts db parts → rows ≡ tally_rows e → ListsTallies has.0 db rows → HoldsEvent v db e s
holds {db} {parts} {rows} {e} {s} {v} (l, is, has) whole finds counted totals =
    let here = subst (IsWhole parts e s) (sym is) whole in
    let says : said_version parts.event ≡ l.version =
    ap (λ (p : Parts). said_version p.event) here.are ∙ said_is l.version here.known e s in
    record {
      layout = l;
      is = is;
      tables = has;
      holds = shows_event l db parts e s here.low here.keeps here.sound here.are (finds.lists l says has) rows counted totals;
    }

pub returns-in_err-parts-clause-found : goal.returns-in_err-parts-clause-found
returns-in_err-parts-clause-found g c clean l e s represents sound =
    let why : IsFault c.in_err-parts.field-0.0 = (c.in_err-parts.ensures.misses clean).refused e s (l, represents) sound in
    search (rules, why)

pub returns-in_err-parts-clause-first : goal.returns-in_err-parts-clause-first
returns-in_err-parts-clause-first g c clean =
    let why : IfDamaged (IsAtFault (state g.S.Store c.args.conn.now).now) c.in_err-parts.field-0.0 =
    λ place h. inl ((c.in_err-parts.ensures.misses clean).misread place h) in
    told c.from_residual.result _ _ (search rules) why

pub returns-in_err-parts-clause-fault : goal.returns-in_err-parts-clause-fault
returns-in_err-parts-clause-fault g c =
    let why : IsLoadFault c.in_err-parts.field-0.0 = c.in_err-parts.ensures.fault in
    search (rules, why)

pub returns-in_err-parts-clause-looks : goal.returns-in_err-parts-clause-looks
returns-in_err-parts-clause-looks g c =
    looks_fail c.from_residual.result c.in_err-parts.field-0.0 (search rules) c.in_err-parts.ensures.looks

pub returns : goal.returns
returns g c =
    let db = (state g.S.Store c.args.conn.now).now in
    let parts = c.in_ok-parts.parts in
    let tallies = c.in_ok-parts.tallies in
    let looks = c.in_ok-parts.ensures in
    let made = c.counted_event_of.ensures in
    record {
      looks = looks_as c.counted_event_of.result looks.looks;
      low = IfOk-weaker c.counted_event_of.result _ _ (λ it read. read.0.low) made.value;
      sound = IfOk-weaker c.counted_event_of.result _ _ (λ it read. read.0.sound) made.value;
      known = IfOk-weaker c.counted_event_of.result _ _ (λ it read. read.0.known) made.value;
      shows = λ clean.
          let finds = looks.finds clean in
          IfOk-weaker c.counted_event_of.result _ _ (λ it read has.
          holds has read.0 finds.0 (sym c.as_slice.ensures ∙ read.1) (finds.1.lists has.0 refl has.2)) made.value;
      found = λ clean l e s represents sound.
          let finds = looks.finds clean in
          let counted = c.as_slice.ensures ∙ finds.1.exact l refl e s represents sound in
          let it : IsWhole parts e s l.version = record {
            known = represents.has.tables.known;
            keeps = represents.keeps;
            low = represents.low;
            are = finds.0.exact l e s represents sound;
            sound = sound;
          } in
          let of : IsOf parts e =
          record { version = l.version; known = it.known; keeps = it.keeps; serial = s; low = it.low; are = it.are } in
          MatchResult-from_both c.counted_event_of.result _ _ (made.only l.version e s it counted)
          (IfErr-weaker c.counted_event_of.result _ _ (λ why refused. elim refused [
            | inl memory ↦ inl memory
            | inr damaged ↦ absurd (no_row_fault parts e of sound c.as_slice.result.now counted damaged.0 damaged.2)
          ]) made.refused);
      fault = search rules;
      reads = λ clean.
          let finds = looks.finds clean in
          IfOk-weaker c.counted_event_of.result _ _ (λ it read.
          (rw read.0.are at finds.0.reads, rw (sym c.as_slice.ensures ∙ read.1) at finds.1.reads)) made.value;
      first = λ clean.
          let finds = looks.finds clean in
          IfErr-weaker c.counted_event_of.result _ _ (λ why refused place h.
          let fault = first_of parts tallies c.as_slice.result.now c.as_slice.ensures why refused place h in
          inr (parts, tallies, finds.0.reads, finds.1.reads, fault)) made.refused;
    }
