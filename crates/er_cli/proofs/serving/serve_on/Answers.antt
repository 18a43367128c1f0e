use Rattle.std.proofs.Common.{inl, inr, refl, arith, rules}
use Rattle.er_cli.proofs.serving.serve_on.Goals as goal

pub returns-in_default-clause-turns : goal.returns-in_default-clause-turns
returns-in_default-clause-turns g c = (_, inr (refl, (0, omega arith, (_, (refl, refl, refl)))), c.asks_nothing.ensures)

pub returns-clause-printed : goal.returns-clause-printed
returns-clause-printed g c = (c.port.result, search rules, inl refl, c.serve_all.ensures.printed)
