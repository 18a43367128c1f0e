use Rattle.std.proofs.{Common.{arith, subst}, KnownBytes.Appends-trans}
use Rattle.std.specs.Io.KnownBytes.{Appends}
use Rattle.er_cli.proofs.Sending.{sent_more}
use Rattle.er_cli.proofs.texts.send.Goals as goal

pub loop-preserved : goal.loop-preserved
loop-preserved g c = record {
  within = omega (arith, c.in-Ok.ensures.bound);
  turns = omega arith;
  out = subst (λ bs. Appends (g.W.Write.contents c.args.writer.now) (g.W.Write.contents c.write.new.self) bs)
      (sent_more c.args.bytes.now c.loop.sent c.in-Ok.count)
      (Appends-trans _ _ _ _ _ c.loop.invariant.out c.in-Ok.ensures.bytes);
}
