use Rattle.er_event.proofs.Prelude.{arith, common_steps}
use Rattle.er_event.proofs.NameLemmas.{is_lawful_name-utf8}
use Rattle.er_event.proofs.names.Name.as_str.Goals as goal

pub unreachable-requires : goal.unreachable-requires
unreachable-requires c = grind (arith, common_steps, is_lawful_name-utf8)
