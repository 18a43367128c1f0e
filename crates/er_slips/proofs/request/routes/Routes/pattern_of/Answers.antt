use Rattle.std.proofs.{Common.arith, lemmas.Grind.common_steps}
use Rattle.er_slips.proofs.Paths.{first_routes, found_pattern, no_pattern, text_from}
use Rattle.er_slips.proofs.request.routes.Routes.pattern_of.Goals as goal

pub returns-in-Ok : goal.returns-in-Ok
returns-in-Ok c = grind (arith, common_steps, first_routes, found_pattern, text_from)

pub returns-in-Err : goal.returns-in-Err
returns-in-Err c = grind (arith, common_steps, first_routes, no_pattern, text_from)
