use Rattle.std.proofs.{Common.subst, KnownBytes.Consumes-trans}
use Rattle.std.specs.Io.KnownBytes.{Consumes}
use Rattle.er_cli.proofs.Bytes.{grown}
use Rattle.er_cli.proofs.input.fill.Goals as goal

pub loop-filled-preserved : goal.loop-filled-preserved
loop-filled-preserved g c = record {
  within = c.in_ok-count.ensures.bound;
  came = subst (λ bs. Consumes (g.R.Read.remaining c.args.reader.now) (g.R.Read.remaining c.read_after.new.reader) bs)
      (grown c.loop-filled.buf c.read_after.new.buf c.loop-filled.filled c.in_ok-count.count c.in_ok-count.ensures.kept)
      (Consumes-trans _ _ _ _ _ c.loop-filled.invariant.came c.in_ok-count.ensures.came);
}
