use Rattle.std.proofs.Common.{◌∷◌, [], length-append, refl, rules, subst, map-id, arith}
use Rattle.std.proofs.lemmas.Iterator.Adapters.{YieldsList-from_vec}
use Rattle.std.proofs.lemmas.Iterator.Consumers.{YieldsList-end, YieldsList-so_far, YieldsList-turn}
use Rattle.sqlite.specs.Files.{image_of}
use Rattle.sqlite_wal.specs.Reads.{AreClean}
use Rattle.er_sessions.specs.Sessions.{HoldsNext, IfCleanFiles}
use Rattle.er_sessions.proofs.Holding.{holds_more, so_far}
use Rattle.er_sessions.proofs.hold_sessions.Goals as goal

pub loop-questions-init : goal.loop-questions-init
loop-questions-init g c = (
  tt,
  tt,
  (c.requires.log, c.requires.db),
  search rules,
  search rules,
  λ new first ends was clean. rw c.in-Ok.ensures.items refl,
)

pub loop-questions-preserved : goal.loop-questions-preserved
loop-questions-preserved g c =
    let inv = c.loop-questions.invariant in
    let it = c.next_session-held in
    let d = g.D.Disk in (
      tt,
      tt,
      c.crash-now.ensures.usable,
      omega (arith, inv.3, c.in-Ok-push.ensures.len, length-append c.loop-questions.yielded (c.in-Some.questions ∷ [])),
      omega (arith, inv.4, c.in-Ok-push.ensures.capacity),
      λ new first ends was clean.
          let last_clean = c.crash-now.ensures.clean clean in
          let was_clean =
          subst (IfCleanFiles (AreClean d c.loop-questions.now.log c.loop-questions.now.db)) c.in-Ok-files.is it.ensures.clean in
          rw c.in-Ok-push.ensures.items
          (holds_more d new c.in-Some.questions it.result.answers c.loop-questions.now it.result.files c.in-Ok-files.last c.crash-now.result
          c.in-Ok-files.is clean last_clean c.crash-now.ensures.left (λ f es. it.ensures.holds new f es) ends first
          (image_of d c.args.files) was c.loop-questions.yielded c.loop-questions.answers.items
          (inv.5 new first ends was (was_clean last_clean))),
    )

pub returns-in-Err-clause-holds : goal.returns-in-Err-clause-holds
returns-in-Err-clause-holds g c new first ends was =
    let inv = c.loop-questions.invariant in
    let it = c.next_session-held in
    let d = g.D.Disk in
    let all = YieldsList-from_vec {s = c.into_iter-questions-iterator.result} c.args.sessions.items (search rules) (search rules) in
    let seen = c.loop-questions.yielded in
    let at = c.loop-questions.questions-iterator in
    let by = c.loop-questions.yielded_by in
    record {
      done = seen;
      questions = c.in-Some.questions;
      later = _;
      are = so_far c.args.sessions.items seen c.in-Some.questions (YieldsList-so_far all seen at by)
          (YieldsList-turn all seen at by c.next.result c.next.new.self c.in-Some.questions c.in-Some.is c.next.ensures.steps);
      before = c.loop-questions.answers.items;
      answered = it.result.answers;
      were = c.in-Ok-push.ensures.items;
      files = c.loop-questions.now;
      held = inv.5 new first ends was;
      clean = subst (IfCleanFiles (AreClean d c.loop-questions.now.log c.loop-questions.now.db)) c.in-Err.is it.ensures.clean;
      goes_on = λ so mid left may. subst
          (HoldsNext d new so mid c.loop-questions.now c.in-Some.questions.items it.result.answers) c.in-Err.is
          (it.ensures.holds new mid so left may);
    }

pub returns-clause-holds : goal.returns-clause-holds
returns-clause-holds g c new first ends was =
    let seen = YieldsList-end
    (YieldsList-from_vec {s = c.into_iter-questions-iterator.result} c.args.sessions.items (search rules) (search rules))
    c.loop-questions.yielded c.loop-questions.questions-iterator c.loop-questions.yielded_by c.next.result c.next.new.self c.in-None.is
    c.next.ensures.steps in
    rw (← seen.0, map-id) (c.loop-questions.invariant.5 new first ends was)
