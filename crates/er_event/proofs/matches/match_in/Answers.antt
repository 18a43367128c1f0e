use Rattle.er_event.proofs.Prelude.{match_in, arith, nat_tests, common_steps}
use Rattle.er_event.proofs.TableLemmas.{match_in-bye, place-bye, place-none, place-seated}
use Rattle.er_event.proofs.matches.match_in.Goals.{in_default-via-in-Some+else-not-is_bye, in_default-via-in_default}
use Rattle.er_event.proofs.matches.match_in.Goals as goal

pub returns-then-table-eq0 : goal.returns-then-table-eq0
returns-then-table-eq0 c = grind (arith, common_steps, match_in, match_in-bye)

pub returns-in-Some : goal.returns-in-Some
returns-in-Some c = grind (arith, common_steps, nat_tests, place-seated)

pub returns-in_default : goal.returns-in_default
returns-in_default c =
    grind (arith, common_steps, in_default-via-in-Some+else-not-is_bye, in_default-via-in_default, nat_tests, place-bye, place-none)
