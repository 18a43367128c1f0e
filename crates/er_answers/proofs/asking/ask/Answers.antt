use Rattle.std.proofs.Common.{List, [], ◌∷◌, sym, subst}
use Rattle.er_desk.specs.{Asking.Asks, Desk.desk_state, Reply.Reply, Run.session_of}
use Rattle.er_answers.proofs.Asked.{replies_are_told, submitted}
use Rattle.er_answers.proofs.asking.ask.Goals as goal

pub returns-in-Submit-clause-answers : goal.returns-in-Submit-clause-answers
returns-in-Submit-clause-answers g c = rw (c.in-Submit.is, c.reply_told.ensures)
    (submitted _ (desk_state c.args.desk.now) (desk_state c.submit.new.self) c.in-Submit.command c.submit.result
    c.submit.ensures.submits.turn)

pub returns-in-Submit-clause-asked : goal.returns-in-Submit-clause-asked
returns-in-Submit-clause-asked g c = rw (c.in-Submit.is, c.reply_told.ensures)
    (subst (λ (replies : List Reply). Asks g.S.Store c.args.desk.now
    (session_of (c.in-Submit.command ∷ []) replies (desk_state c.submit.new.self).needs_reopen) c.submit.new.self)
    (sym (replies_are_told c.submit.result)) (c.submits_ask.ensures _ _ _ _ c.submit.ensures.submits))
