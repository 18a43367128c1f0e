use Rattle.std.proofs.Common.{arith, Bor, List, ℕ, ◌≡◌, ◌∙◌, sym, ap, refl, rules, inl, inr, true, map, Some, ◌∷◌, []}
use Rattle.std.proofs.{lemmas.Grind.common_steps, lemmas.List.map-append}
use Rattle.std.specs.Result.{is_ok}
use Rattle.csv.specs.{Reading.{Reached, default_config, strip_bom, with_flexible}, Records.fields_of}
use Rattle.csv.proofs.ReadFacts.{rows-more}
use Rattle.csv.specs.declared.parser.State.TheVariants as st
use Rattle.er_paper.proofs.records.records.Goals as goal

pub loop-row-init : goal.loop-row-init
unfolding Reached
loop-row-init c =
    let fr = c.from_reader-rdr.ensures in
    let e = c.flexible.ensures ∙ ap (λ b. with_flexible b true) c.has_headers.ensures in
    let start = c.into_iter-row-iterator.ensures.into_iter_gives ∙ refl in
    let rdr = c.into_byte_records-row-items.ensures.rdr in
    let left = c.into_byte_records-row-items.ensures.left in
    rw (start, rdr, c.new-rows.ensures.items) (
      rw (e) at fr.trim ∙ c.new.ensures.trim,
      inr (inr (rw e at fr.has_headers, fr.headers)),
      left,
      rw e at fr.config ∙ c.new.ensures.config,
      rw e at fr.flexible,
      strip_bom (strip_bom c.args.bytes.now),
      fr.source ∙ ap (λ text. Some (strip_bom text)) c.without_mark.ensures,
      (sym fr.state, refl),
    )

pub loop-row-preserved : goal.loop-row-preserved
loop-row-preserved c =
    let inv = c.loop-row.invariant in
    let step = c.next.ensures.steps inv.2 inv.0 in
    let s = rw (c.in-Some.is, c.in-Ok.is) at (step.0 inv.1) in
    let as_flexible = rw (c.in-Some.is, c.in-Ok.is) at step.3 in
    let good : is_ok c.push.result ≡ true = search rules in
    let items = rw good at c.push.ensures.items in
    let m = rows-more (λ (s : Bor (List ℕ)). Some s.now) c.loop-row.row-iterator.rdr c.next.new.self.rdr
    (fields_of c.in-Ok.row) default_config st.StartRecord (strip_bom (strip_bom c.args.bytes.now)) inv.5
    (map fields_of c.loop-row.rows.items) inv.3 inv.6 inv.7 s.0 in (
      s.0.3 ∙ inv.0,
      inl s.1,
      s.2,
      s.0.2 ∙ inv.3,
      as_flexible ∙ inv.4,
      m.0,
      m.1,
      rw (items, map-append fields_of c.loop-row.rows.items (c.in-Ok.row ∷ [])) m.2,
    )

pub returns : goal.returns
returns c = grind (arith, common_steps)
