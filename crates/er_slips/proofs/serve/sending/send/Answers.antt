use Rattle.std.proofs.{lemmas.Grind.common_steps, Common.arith, KnownBytes.Appends-trans}
use Rattle.er_slips.proofs.Bytes.{sent_more}
use Rattle.er_slips.proofs.serve.sending.send.Goals as goal

pub loop-preserved : goal.loop-preserved
loop-preserved g c = grind (arith, common_steps, Appends-trans, sent_more)
