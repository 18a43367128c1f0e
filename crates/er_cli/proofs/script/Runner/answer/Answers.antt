use Rattle.er_cli.specs.Action.{script_action}
use Rattle.er_cli.specs.inside.Desk.{desk_state_of}
use Rattle.er_cli.proofs.Turns.{memory_answers}
use Rattle.er_cli.proofs.script.Runner.answer.Goals as goal

pub returns-in-Err-Memory-clause-answers : goal.returns-in-Err-Memory-clause-answers
returns-in-Err-Memory-clause-answers c = memory_answers (desk_state_of c.args.self.now.desk) (script_action c.args.line.now)
