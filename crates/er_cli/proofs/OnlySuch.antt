-- Which commands a list of names and the clients of a port ask of the desk.
use Rattle.std.proofs.Common.{◌≡◌, ◌⊎◌, inl, inr, ℕ, zero, suc, Bool, true, false, List, [], ◌∷◌, ◌++◌, length, map, take, Option, Some, None, Ok, Err}
use Rattle.std.proofs.Common.{IfSome, refl, sym, subst}
use Rattle.std.specs.List.{AllByRecursion}
use Rattle.er_event.specs.declared.commands.{Command.Command, Command.TheVariants.{Enrol, Result as ReportResult}}
use Rattle.er_desk.specs.{Asking.{join_sessions, later_in_doubt}, Desk.DeskState, Reply.Reply}
use Rattle.er_desk.specs.Run.{Session, acknowledged_commands, last_tried, no_session, session_of, tried_or}
use Rattle.er_paper.specs.declared.imports.PlayerLine.{PlayerLine}
use Rattle.er_cli.specs.Clients.{Got}
use Rattle.er_cli.specs.{Help.Printed, Importing.{Imports, last_reply}, Tasks.{AsksOnly, IsEnrolment, IsScore}}
use Rattle.er_cli.specs.Serving.{Connects, ConnectsAll, ServesClients}
use Rattle.er_cli.proofs.Repeating.{tried_either}

module _ (Is : Command → Type 0) where
  -- ---- the session of a list of such commands

  acknowledged_only : (cs : List Command) (rs : List Reply) → AllByRecursion Is cs → AllByRecursion Is (acknowledged_commands cs rs)
  acknowledged_only [] rs all = tt
  acknowledged_only (c ∷ cs) [] all = tt
  acknowledged_only (c ∷ cs) (Ok receipt ∷ rs) all = (all.0, acknowledged_only cs rs all.1)
  acknowledged_only (c ∷ cs) (Err why ∷ rs) all = acknowledged_only cs rs all.1

  either_only : (o : Option Command) (c : Command) → Is c → (o ≡ None) ⊎ (o ≡ Some c) → IfSome o Is
  either_only o c is (inl none) = subst (λ (p : Option Command). IfSome p Is) (sym none) tt
  either_only o c is (inr some) = subst (λ (p : Option Command). IfSome p Is) (sym some) is

  tried_only : (later : Option Command) (c : Command) (r : Reply) → IfSome later Is → Is c → IfSome (tried_or later c r) Is
  tried_only (Some later) c r it is = it
  tried_only None c r it is = either_only (tried_or None c r) c is (tried_either c r)

  last_only : (cs : List Command) (rs : List Reply) → AllByRecursion Is cs → IfSome (last_tried cs rs) Is
  last_only [] rs all = tt
  last_only (c ∷ cs) [] all = tt
  last_only (c ∷ cs) (r ∷ rs) all = tried_only (last_tried cs rs) c r (last_only cs rs all.1) all.0

  session_only : (cs : List Command) (rs : List Reply) (stopped : Bool) → AllByRecursion Is cs → AsksOnly Is (session_of cs rs stopped)
  session_only cs rs true all = (acknowledged_only cs rs all, last_only cs rs all)
  session_only cs rs false all = (acknowledged_only cs rs all, tt)

  nothing_only : (session : Session) → session ≡ no_session → AsksOnly Is session
  nothing_only session none = subst (AsksOnly Is) (sym none) (tt, tt)

  -- ---- two sessions, one after the other

  append_only : (cs ds : List Command) → AllByRecursion Is cs → AllByRecursion Is ds → AllByRecursion Is (cs ++ ds)
  append_only [] ds all more = more
  append_only (c ∷ cs) ds all more = (all.0, append_only cs ds all.1 more)

  later_only : (one two : Option Command) → IfSome one Is → IfSome two Is → IfSome (later_in_doubt one two) Is
  later_only one None first then = first
  later_only one (Some later) first then = then

  joined_only : (one two : Session) → AsksOnly Is one → AsksOnly Is two → AsksOnly Is (join_sessions one two)
  joined_only one two first then = (
    append_only one.acknowledged two.acknowledged first.0 then.0,
    later_only one.in_doubt two.in_doubt first.1 then.1,
  )

-- ---- a list

all_enrol : (names : List (List ℕ)) → AllByRecursion IsEnrolment (map Enrol names)
all_enrol [] = tt
all_enrol (name ∷ names) = ((name, refl), all_enrol names)

pub imports_only : (p : Printed) (known : Option (List ℕ)) (old : DeskState) (session : Session) (new : DeskState)
    → Imports p known old session new → AsksOnly IsEnrolment session
imports_only p known old session new (inl (nobody, said)) = nothing_only IsEnrolment session nobody.1
imports_only p known old session new (inr (inl (nobody, said))) = nothing_only IsEnrolment session nobody.1
imports_only p known old session new (inr (inr (list, few, is, inl (fault, not, reads, nobody, said)))) =
    nothing_only IsEnrolment session nobody.1
imports_only p known old session new (inr (inr (list, few, is, inr (lines, reads, (additions, stop, enrols, printed))))) =
    let replies = enrols.replies ++ last_reply stop in
    let names = take (length replies) (map (λ (line : PlayerLine). line.name) lines) in
    subst (AsksOnly IsEnrolment) (sym enrols.asked)
    (session_only IsEnrolment (map Enrol names) replies new.needs_reopen (all_enrol names))

-- ---- clients

connects_only : (sent : Option (List ℕ)) (old : DeskState) (session : Session) (new : DeskState) → Connects sent old session new
    → AsksOnly IsScore session
connects_only sent old session new (inl (same, none)) = nothing_only IsScore session none
connects_only sent old session new (inr (inl (read, reads, none))) = nothing_only IsScore session none
connects_only sent old session new (inr (inr (inl (read, reads, none)))) = nothing_only IsScore session none
connects_only sent old session new (inr (inr (inr (round, table, score, reply, asked, turn, is)))) =
    subst (AsksOnly IsScore) (sym is)
    (session_only IsScore (ReportResult round table score ∷ []) (reply ∷ []) new.needs_reopen ((round, table, score, refl), tt))

all_only : (count : ℕ) (coming then : Option (List (List ℕ))) (old : DeskState) (session : Session) (new : DeskState)
    → ConnectsAll count coming then old session new → AsksOnly IsScore session
all_only zero coming then old session new (came, still, none) = nothing_only IsScore session none
all_only (suc count) coming then old session new (mid, last, before, one, earlier, (sent, next, connects), is) =
    subst (AsksOnly IsScore) (sym is)
    (joined_only IsScore before one (all_only count coming mid old before last earlier) (connects_only sent last one new connects))

pub serves_only : (Represented : Type 0) (p : Printed) (port count : ℕ) (coming : Option (List (List ℕ))) (got : Option (List Got))
    (old : DeskState) (session : Session) (new : DeskState) → ServesClients Represented p port count coming got old session new
    → AsksOnly IsScore session
serves_only Represented p port count coming got old session new (inl (printed, same, inl (done, (then, all)), due)) =
    all_only count coming then old session new all
serves_only Represented p port count coming got old session new (inl (printed, same, inr (broke, (fewer, few, (then, all))), due)) =
    all_only fewer coming then old session new all
serves_only Represented p port count coming got old session new (inr (still, none, said)) = nothing_only IsScore session none
