use Rattle.std.proofs.{lemmas.Grind.common_steps, Common.{arith, subst}, lemmas.List.length-take-le}
use Rattle.std.proofs.KnownBytes.{Consumes-kept, Consumes-trans}
use Rattle.std.specs.Io.KnownBytes.{Consumes}
use Rattle.er_slips.proofs.Bytes.{grown, full, none_came}
use Rattle.er_slips.proofs.request.head.read_head.Goals as goal

pub loop-spans-preserved : goal.loop-spans-preserved
loop-spans-preserved g c = record {
  within = c.in-Ok.ensures.bound;
  read = subst (λ bs. Consumes (g.R.Read.remaining c.args.reader.now) (g.R.Read.remaining c.read_more.new.reader) bs)
      (grown c.loop-spans.buf c.read_more.new.buf c.loop-spans.filled c.in-Ok.count c.in-Ok.ensures.kept)
      (Consumes-trans _ _ _ _ _ c.loop-spans.invariant.read c.in-Ok.ensures.came);
}

pub returns-then-filled-eq-MAX_HEAD-clause-refused : goal.returns-then-filled-eq-MAX_HEAD-clause-refused
returns-then-filled-eq-MAX_HEAD-clause-refused g c = grind (arith, common_steps, full, length-take-le)

pub returns-in-Ok-eq0-clause-read : goal.returns-in-Ok-eq0-clause-read
returns-in-Ok-eq0-clause-read g c =
    none_came _ _ _ c.loop-spans.buf c.read_more.new.buf c.loop-spans.filled c.in-Ok-eq0.field-0 c.in-Ok-eq0.field-0-test
    c.in-Ok-eq0.ensures.kept c.loop-spans.invariant.read c.in-Ok-eq0.ensures.came

pub returns-in-Err-clause-read : goal.returns-in-Err-clause-read
returns-in-Err-clause-read g c =
    rw c.in-Err.ensures.kept (Consumes-kept _ _ _ _ c.loop-spans.invariant.read c.in-Err.ensures.unread)
