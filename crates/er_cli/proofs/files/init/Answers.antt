use Rattle.std.proofs.Common.{inl, inr, refl}
use Rattle.er_cli.proofs.Making.{no_setup}
use Rattle.er_cli.proofs.files.init.Goals as goal

pub returns-in-Ok-clause-replies : goal.returns-in-Ok-clause-replies
returns-in-Ok-clause-replies g c =
    let named = c.in-Ok.ensures.ok in inl (c.in-Ok.ensures.lawful, rw named.0 at c.create.ensures.makes)

pub returns-in-Err-clause-replies : goal.returns-in-Err-clause-replies
returns-in-Err-clause-replies g c = let why = c.in-Err.ensures.refused in inr (no_setup _ _ _ why.1, rw why.0 refl)
