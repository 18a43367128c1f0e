use Rattle.std.proofs.Common.{Ok}
use Rattle.er_desk.specs.Run.{no_session}
use Rattle.er_sessions.proofs.Holding.{in_either, ran_clean, ran_holds, refused_holds, represents_again, sees_still, still_begins}
use Rattle.er_sessions.proofs.next_session.Goals as goal

pub returns-in-Ok-adopt_file-clause-holds : goal.returns-in-Ok-adopt_file-clause-holds
returns-in-Ok-adopt_file-clause-holds g c new first ends was may =
    let law = c.next_sessions.ensures in
    let it = c.in-Ok-adopt_file.ensures in
    let conn = c.in-Ok.conn in
    ran_holds g.D.Disk law c.args.files new first ends was c.sessions_join.ensures c.migrations_go_on.ensures.may
    c.migrations_go_on.ensures.lead c.in-Ok-adopt_file.desk it.tables.ready
    (λ clean. it.found first (represents_again g.D.Disk law c.args.files new first ends was conn c.in-Ok.ensures.opened
    c.in-Ok.ensures.found (it.left.clean clean) c.stored_represents.ensures) (law new first.point ends was.begins was.history).sound clean)
    (sees_still g.D.Disk law c.args.files new first ends was conn c.in-Ok-adopt_file.desk it.left.clean c.in-Ok.ensures.opened
    c.in-Ok.ensures.found it.tables.same)
    c.args.questions.items may c.hold.result.answers c.hold.result.files c.hold.ensures

pub returns-in-Err-adopt_file-clause-holds : goal.returns-in-Err-adopt_file-clause-holds
returns-in-Err-adopt_file-clause-holds g c new first ends was may =
    let law = c.next_sessions.ensures in
    let it = c.in-Err-adopt_file.ensures in
    let conn = c.in-Ok.conn in
    refused_holds g.D.Disk law c.args.files new first ends was c.args.questions.items c.in-Err-adopt_file.back c.in-Err-adopt_file.why
    (Ok c.cut.result)
    c.cut.ensures
    (λ clean trees left. still_begins g.D.Disk law c.args.files new first ends was conn c.in-Ok.ensures.opened c.in-Ok.ensures.found
    (it.left.clean clean) trees (it.left.left (c.in-Ok.ensures.opened (it.left.clean clean)).0.is_open clean trees left))
    (λ clean. it.found first.point (in_either (represents_again g.D.Disk law c.args.files new first ends was conn c.in-Ok.ensures.opened
    c.in-Ok.ensures.found (it.left.clean clean) c.stored_represents.ensures)) (law new first.point ends was.begins was.history).sound clean)

pub returns-in-Err-clause-holds : goal.returns-in-Err-clause-holds
returns-in-Err-clause-holds g c new first ends was may = record {
  session = no_session;
  held = λ clean. absurd clean;
  leaves = tt;
  unopened = (
    c.in-Err.error,
    c.refusal_of.ensures.value,
    c.refusal_of.ensures.fault,
    λ clean. (c.in-Err.ensures.cause clean, c.in-Err.ensures.unharmed clean),
  );
}

pub returns-in-Ok-adopt_file-clause-clean : goal.returns-in-Ok-adopt_file-clause-clean
returns-in-Ok-adopt_file-clause-clean g c = ran_clean g.D.Disk c.sessions_join.ensures c.migrations_go_on.ensures.lead
    c.in-Ok-adopt_file.desk c.args.questions.items c.hold.result.answers c.hold.result.files c.hold.ensures
    (λ clean. (c.in-Ok.ensures.found (c.in-Ok-adopt_file.ensures.left.clean clean)).honest)

pub returns-in-Err-adopt_file-clause-clean : goal.returns-in-Err-adopt_file-clause-clean
returns-in-Err-adopt_file-clause-clean g c = λ clean.
    (c.in-Ok.ensures.found (c.in-Err-adopt_file.ensures.left.clean (c.cut.ensures clean).was_clean)).honest

pub returns-in-Err-clause-clean : goal.returns-in-Err-clause-clean
returns-in-Err-clause-clean g c clean = absurd clean
