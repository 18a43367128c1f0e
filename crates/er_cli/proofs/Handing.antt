-- What clients got, in the session that they made.
use Rattle.std.proofs.Common.{◌≡◌, inl, inr, ℕ, zero, suc, List, [], ◌∷◌, ◌++◌, length, Option, Some, None, IfSome, refl, sym, ap, subst, ◌∙◌, arith}
use Rattle.sqlite_trees.specs.declared.store.Store.{Ghosts}
use Rattle.sqlite.specs.State.{HasCleanDisk}
use Rattle.er_desk.specs.{declared.desk.Desk.Desk, Asking.{Asks, AsksSome, join_sessions}, Desk.{HoldsOwnEvent, DeskState, desk_state, state}}
use Rattle.er_desk.specs.Run.{Session, no_session}
use Rattle.er_cli.specs.{declared.TheConstants.{DONE}, Serving.{ConnectsAll, ConnectsNext, GetDue, ServesAll}}
use Rattle.er_cli.specs.Clients.{Got, GetEach, ServesKnown, ServesSome}
use Rattle.er_cli.proofs.{Connecting.ends_connecting, Visiting.{alone, joined_later, nothing_first, get_by}}

-- one connection, and then the others
connects_first : (n : ℕ) (coming mid then : Option (List (List ℕ))) (old : DeskState) (one : Session) (at : DeskState) (later : Session)
    (new : DeskState) → ConnectsNext coming mid old one at → ConnectsAll n mid then at later new
    → ConnectsAll (suc n) coming then old (join_sessions one later) new
connects_first zero coming mid then old one at later new next (still, same, nothing) = (
  coming,
  old,
  no_session,
  one,
  (refl, refl, refl),
  subst (λ (c : Option (List (List ℕ))). ConnectsNext coming c old one new) (sym still)
      (subst (λ (d : DeskState). ConnectsNext coming mid old one d) (sym same) next),
  ap (λ (s : Session). join_sessions one s) nothing ∙ sym (alone one) ∙ sym (nothing_first one),
)
connects_first (suc n) coming mid then old one at later new next (end, last, before, newest, all, more, joined) = (
  end,
  last,
  join_sessions one before,
  newest,
  connects_first n coming mid end old one at before last next all,
  more,
  ap (λ (s : Session). join_sessions one s) joined ∙ joined_later one before newest,
)

-- those who got this have connected, one after the other
each_connects : (Is : Type 0) (old : DeskState) (xs : List (List ℕ)) (gots : List Got) (session : Session) (new : DeskState)
    (rest : List (List ℕ)) → GetEach Is old xs gots session new → ConnectsAll (length xs) (Some (xs ++ rest)) (Some rest) old session new
each_connects Is old [] [] session new rest it = (refl, it.1, it.0)
each_connects Is old [] (h ∷ gots) session new rest it = absurd it
each_connects Is old (x ∷ xs) [] session new rest it = absurd it
each_connects Is old (x ∷ xs) (h ∷ gots) session new rest (at, one, later, it, more, joined) =
    subst (λ (s : Session). ConnectsAll (length (x ∷ xs)) (Some (x ∷ xs ++ rest)) (Some rest) old s new) (sym joined)
    (connects_first (length xs) (Some (x ∷ xs ++ rest)) (Some (xs ++ rest)) (Some rest) old one at later new
    (Some x, inl (x, xs ++ rest, refl, refl, refl), ends_connecting Is old one at (Some x) (Some []) h.bytes it.served it.ends)
    (each_connects Is at xs gots later new rest more))

module _ {S : Type 0} (g : Ghosts S) (old new : Desk S g) (count status : ℕ) where
  abbrev Represented : Type 0
  Represented = HasCleanDisk (state g new) × HoldsOwnEvent g old

  -- what was asked of the file for those who came, and what they got for it
  abbrev Served : (coming : Option (List (List ℕ))) (got : Option (List Got)) → Type 0
  Served coming got =
      (session : Session) × (ServesAll count status coming (desk_state old) session (desk_state new)
      × (status ≡ DONE → GetDue Represented count coming got (desk_state old) session (desk_state new))) × Asks g old session new

  gets_all : (inputs : List (List ℕ)) (all : List Got) (then : Option (List (List ℕ))) → status ≡ DONE
      → ServesSome g count inputs [] old then all new → Served (Some inputs) (Some all)
  gets_all inputs all then done it =
      let each = get_by _ Represented (λ (sure : Represented). (sure.0, λ _. sure.1)) (desk_state old) (desk_state new) it.session it.came it.gots
      it.each in
      let many = subst (λ (n : ℕ). ConnectsAll n (Some inputs) (Some it.rest) (desk_state old) it.session (desk_state new)) it.many
      (subst (λ (xs : List (List ℕ)). ConnectsAll (length it.came) (Some xs) (Some it.rest) (desk_state old) it.session (desk_state new))
      (sym it.are_first) (each_connects Represented (desk_state old) it.came it.gots it.session (desk_state new) it.rest each)) in (
        it.session,
        (
          inl (done, (Some it.rest, many)),
          λ _. (
            it.came,
            it.rest,
            it.are_first,
            it.many,
            subst (λ (gots : List Got). GetEach Represented (desk_state old) it.came gots it.session (desk_state new)) (sym it.got_then) each,
          ),
        ),
        it.asks,
      )

  served_all : (coming then : Option (List (List ℕ))) (before got : Option (List Got)) → IfSome coming (λ inputs. before ≡ Some [])
      → AsksSome g old (ServesAll count status coming) new
      → (status ≡ DONE → ServesKnown g count coming before old then got new) → Served coming got
  served_all None then before got fresh turns known = (turns.0, (turns.1, λ _. tt), turns.2)
  served_all (Some inputs) then before None fresh turns known = (turns.0, (turns.1, λ _. tt), turns.2)
  served_all (Some inputs) then before (Some all) fresh (session, inr (broke, few), asks) known =
      (session, (inr (broke, few), λ done. absurd (omega (arith, done, broke))), asks)
  served_all (Some inputs) then before (Some all) fresh (session, inl (done, many), asks) known =
      gets_all inputs all then done (subst (λ (b : Option (List Got)). ServesKnown g count (Some inputs) b old then (Some all) new) fresh (known done))

  -- as the world tells who comes, and the host what they got
  pub served_for : (coming known then : Option (List (List ℕ))) (before got told : Option (List Got)) → coming ≡ known → told ≡ got
      → IfSome coming (λ inputs. before ≡ Some []) → AsksSome g old (ServesAll count status coming) new
      → (status ≡ DONE → ServesKnown g count coming before old then got new) → Served known told
  served_for coming known then before got told same is fresh turns served =
      subst (λ (k : Option (List (List ℕ))). Served k told) same
      (subst (λ (h : Option (List Got)). Served coming h) (sym is) (served_all coming then before got fresh turns served))
