use Rattle.std.proofs.Common.{refl, sym}
use Rattle.er_cli.proofs.script.Runner.run_action.Goals as goal

pub returns-in-Init-clause-acts : goal.returns-in-Init-clause-acts
returns-in-Init-clause-acts c = rw c.in-Init.is (
  c.reply_told.result,
  rw (c.reply_told.ensures, sym c.as_slice.ensures) c.init.ensures.sets_up,
  refl,
)
