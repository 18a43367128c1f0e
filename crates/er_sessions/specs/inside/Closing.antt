-- A desk that was asked all of a session, and closed.
use Rattle.std.specs.Global.{Global}
use Rattle.std.specs.Prelude.{◌≡◌, List, Bool, Vec, Result, MatchResult}
use Rattle.std.specs.declared.alloc.AllocError.{AllocError}
use Rattle.sqlite_trees.specs.declared.store.Store.{Ghosts}
use Rattle.sqlite.specs.Held.{Held}
use Rattle.er_store.specs.Store as tables
use Rattle.er_desk.specs.declared.desk.Desk.{Desk}
use Rattle.er_desk.specs.Asking.{Asks}
use Rattle.er_desk.specs.Desk.{desk_state}
use Rattle.er_desk.specs.Run.{no_session}
use Rattle.er_answers.specs.declared.question.Question.{Question}
use Rattle.er_answers.specs.declared.question.Answer.{Answer}
use Rattle.er_sessions.specs.Sessions.{AsksAll}

-- It was asked all of it, or there was no memory for the answers. Then whether the store has had a fault, and its connection.
pub record AsksAndCloses {S : Type 0} (g : Ghosts S) (desk : Desk S g) (questions : List Question)
    (it : Result (Vec Answer Global) AllocError × Bool × Held S) : Type 0 where
  pub last : Desk S g
  pub asked : MatchResult it.0 (λ answers. AsksAll g desk questions answers.items last) (λ _. last ≡ desk)
  pub rests : Asks g last no_session last
  pub is_over : it.1 ≡ (desk_state last).needs_reopen
  pub same : it.2 ≡ tables.connection last.store
