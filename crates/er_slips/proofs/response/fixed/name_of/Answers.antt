use Rattle.std.proofs.Common.{length, ℕ, List, ap, arith}
use Rattle.er_slips.proofs.Refusing.{name_short}
use Rattle.er_slips.proofs.response.fixed.name_of.Goals as goal

pub returns-clause-short : goal.returns-clause-short
returns-clause-short c = let same = ap (λ (t : List ℕ). length t) c.name.ensures in omega (arith, same, name_short c.args.refusal.now)
