use Rattle.std.proofs.Common.{◌≡◌, ◌++◌, ◌∷◌, [], ◌+◌, List, Result, Ok, Err, IsErrAnd, MatchResult, take, sym, ap, subst, ◌∙◌, refl, arith}
use Rattle.std.proofs.lemmas.List.{take_all, take_more}
use Rattle.er_event.specs.declared.commands.Command.{Command}
use Rattle.er_desk.specs.{Reply.Reply, Desk.desk_state, Run.{Runs, Session, session_of}, Asking.Asks}
use Rattle.er_desk.proofs.{Plain.runs_plain, Running.runs_push, Asking.{asks_joined, submits_ask, same_asks, session_push, empty_asks}}
use Rattle.er_desk.proofs.desk.Desk.run.Goals as goal

refused : {A E : Type 0} (r : Result A E) (P : A → Type 0) {Q : Type 0} (W : E → Type 0) → IsErrAnd r W → Q → MatchResult r P (λ _. Q)
refused (Ok a) P W is q = absurd is
refused (Err e) P W is q = q

pub loop-command-init : goal.loop-command-init
loop-command-init g c = record {
  ran = subst (λ (rs : List Reply). Runs (desk_state c.args.self.now) [] rs (desk_state c.args.self.now))
      (sym c.in_ok-replies.ensures.items)
      refl;
  count = c.in_ok-replies.ensures.len;
  room = omega (arith, c.in_ok-replies.ensures.capacity, c.len.ensures, c.deref-command-items.ensures.len);
  asked = subst (λ (rs : List Reply). Asks g.S.Store c.args.self.now (session_of [] rs (desk_state c.args.self.now).needs_reopen)
      c.args.self.now)
      (sym c.in_ok-replies.ensures.items) (empty_asks g.S.Store c.args.self.now
      (c.shown_is_stored.ensures _ _ _));
}

pub loop-command-preserved : goal.loop-command-preserved
loop-command-preserved g c =
    let first = c.args.self.now in
    let old = c.loop-command.self in
    let new = c.take-reply.new.self in
    let items = c.deref-command-items.result.now in
    let at = c.loop-command.command-index in
    let rs = c.loop-command.replies.items in
    let cmd = c.command-item.result in
    let reply = c.take-reply.result in
    let inv = c.loop-command.invariant in
    let took = c.take-reply.ensures in
    let more : take (at + 1) items ≡ take at items ++ cmd ∷ [] = take_more items at cmd c.loop-command-test.true ∙ ap
    (λ (x : Command). take at items ++ x ∷ []) (sym c.command-item.is) in
    let pushed : c.push.new.self.items ≡ rs ++ reply ∷ [] = c.in-Ok.ensures.items in
    record {
      ran = rw (more, pushed) (runs_push (desk_state first) (desk_state old) (desk_state new) (take at items) rs cmd reply inv.ran
          took.turn);
      count = omega (arith, inv.count, c.in-Ok.ensures.len);
      room = omega (arith, inv.room, c.in-Ok.ensures.capacity);
      asked = rw (more, pushed) (subst (λ (s : Session). Asks g.S.Store first s new)
          (session_push (desk_state first) (desk_state old) (desk_state new) (take at items) rs cmd reply inv.ran took.turn)
          (asks_joined g.S.Store first old new _ _ inv.asked (submits_ask g.S.Store old new cmd reply took)));
    }

pub returns-in_err-replies-clause-asked : goal.returns-in_err-replies-clause-asked
returns-in_err-replies-clause-asked g c =
    refused c.from_residual.result _ _ c.from_residual.ensures.1 (same_asks g.S.Store c.args.self.now
    (c.shown_is_stored.ensures _ _ _))

pub returns : goal.returns
returns g c =
    let first = c.args.self.now in
    let now = c.loop-command.self in
    let inv = c.loop-command.invariant in
    let rs = c.loop-command.replies.items in
    let all : take c.loop-command.command-index c.deref-command-items.result.now ≡ c.args.commands.items =
    take_all c.loop-command.command-index c.deref-command-items.result.now c.loop-command-test.false
    ∙ c.deref-command-items.ensures.value in
    let ran = subst (λ (cs : List Command). Runs (desk_state first) cs rs (desk_state now)) all inv.ran in
    record {
      ran = ran;
      lawful = runs_plain (desk_state first) (desk_state now) c.args.commands.items rs ran;
      untouched = tt;
      asked = subst (λ (cs : List Command). Asks g.S.Store first (session_of cs rs (desk_state now).needs_reopen) now) all inv.asked;
    }
