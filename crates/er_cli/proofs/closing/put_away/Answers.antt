use Rattle.std.proofs.Common.{sym, ◌∙◌, true≢false}
use Rattle.er_cli.proofs.Leaving.{same_put_away}
use Rattle.er_cli.proofs.closing.put_away.Goals as goal

pub returns-then-is_over : goal.returns-then-is_over
returns-then-is_over g c = record {
  closes = same_put_away c.into_connection-conn.result _ c.keep_open.result c.into_connection-conn.ensures.same c.keep_open.ensures.taken;
  spared = λ stopped. c.keep_open.ensures.unclosed;
}

pub returns-else-is_over : goal.returns-else-is_over
returns-else-is_over g c = record {
  closes = same_put_away c.into_connection-conn.result _ c.close.result c.into_connection-conn.ensures.same c.close.ensures;
  spared = λ stopped. absurd (true≢false (sym stopped ∙ (sym c.needs_reopen-is_over.ensures ∙ c.if-is_over.false)));
}
