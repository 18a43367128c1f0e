use Rattle.std.proofs.Common.{Ok, Err, refl}
use Rattle.er_desk.specs.Desk.{desk_state}
use Rattle.er_answers.proofs.Asked.{migrated}
use Rattle.er_answers.proofs.asking.migrate.Goals as goal

pub returns-in-Ok-clause-answers : goal.returns-in-Ok-clause-answers
returns-in-Ok-clause-answers g c =
    migrated _ (desk_state c.args.desk.now) (desk_state c.migrate.new.self) (Ok c.in-Ok.serial) c.in-Ok.ensures.turn

pub returns-in-Err-clause-answers : goal.returns-in-Err-clause-answers
returns-in-Err-clause-answers g c =
    migrated _ (desk_state c.args.desk.now) (desk_state c.migrate.new.self) (Err c.in-Err.why) c.in-Err.ensures.turn

pub returns-in-Ok-clause-asked : goal.returns-in-Ok-clause-asked
returns-in-Ok-clause-asked g c = record { moved = Ok c.in-Ok.serial; does = c.in-Ok.ensures; tells = refl }

pub returns-in-Err-clause-asked : goal.returns-in-Err-clause-asked
returns-in-Err-clause-asked g c = record { moved = Err c.in-Err.why; does = c.in-Err.ensures; tells = refl }
