use Rattle.std.proofs.{Common.{arith, map, take, sym}, lemmas.Grind.common_steps}
use Rattle.httparse.specs.Spans.{header_bytes}
use Rattle.er_slips.proofs.Named.{whole-more, found-same, found-new, refused-at, second-found, was-none, field-below, field-is}
use Rattle.er_slips.proofs.request.fields.body_length.Goals.{then-is_named-2+else-is_some, else-is_named-2}
use Rattle.er_slips.proofs.request.fields.body_length.Goals as goal

pub returns-then-is_named-clause-value : goal.returns-then-is_named-clause-value
returns-then-is_named-clause-value c = grind (arith, common_steps, field-below, field-is, refused-at)

pub returns-then-is_some-clause-value : goal.returns-then-is_some-clause-value
returns-then-is_some-clause-value c = grind (arith, common_steps, field-below, field-is, second-found)

pub loop-header-preserved : goal.loop-header-preserved
loop-header-preserved c =
    let bytes = c.args.bytes.now in
    let headers = c.args.headers.now in
    let i = c.loop-header.header-index in
    let below = field-below bytes headers i c.loop-header-test.true in
    let is = field-is bytes headers i c.loop-header-test.true in
    let whole = whole-more (map (header_bytes bytes) headers) i _ below is (sym c.if-is_named.ensures) c.loop-header.invariant.whole in
    elim c.if-is_named-2.branch [
      | then-is_named-2+else-is_some w ↦ record {
        whole = whole;
        found = rw w.found-is (found-new (map (header_bytes bytes) headers) i _ w.of.result below is
            (sym w.if-is_named-2.ensures) w.of.ensures
            (was-none (take i (map (header_bytes bytes) headers)) c.loop-header.found
            (sym w.if-is_some.ensures) c.loop-header.invariant.found));
      }
      | else-is_named-2 w ↦ record {
        whole = whole;
        found = rw w.found-is (found-same (map (header_bytes bytes) headers) i _ c.loop-header.found below is
            (sym w.if-is_named-2.ensures) c.loop-header.invariant.found);
      }
    ]
