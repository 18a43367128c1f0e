use Rattle.std.proofs.Common.{inl, inr, refl}
use Rattle.er_cli.proofs.importing.import.Goals as goal

pub returns-in-Err-TooLong : goal.returns-in-Err-TooLong
returns-in-Err-TooLong g c = (_, inl ((refl, refl), (c.end_with.ensures, refl)), c.asks_nothing.ensures)

pub returns-in-Err-Memory : goal.returns-in-Err-Memory
returns-in-Err-Memory g c = (_, inr (inl ((refl, refl), c.print.ensures)), c.asks_nothing.ensures)
