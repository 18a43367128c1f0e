-- What clients get, one after the other.
use Rattle.std.proofs.Common.{◌≡◌, ◌⊎◌, inl, inr, ℕ, ◌+◌, Bool, true, false, IsFalse, List, [], ◌∷◌, ◌++◌, length, ◌||◌, Option, Some, None}
use Rattle.std.proofs.Common.{IfSome, Result, Ok, Err, refl, sym, ap, subst, ◌∙◌, true≢false, append-nil, length-append}
use Rattle.std.proofs.lemmas.{Bool.cases_Bool, List.append_assoc}
use Rattle.sqlite_trees.specs.declared.store.Store.{Ghosts}
use Rattle.sqlite.specs.State.{HasCleanDisk}
use Rattle.er_event.specs.declared.commands.Command.{Command}
use Rattle.er_desk.specs.{declared.desk.Desk.Desk, Desk.{DeskState, HoldsOwnEvent, desk_state, state}, Run.{Session, no_session}}
use Rattle.er_desk.specs.Asking.{Asks, AsksThen, join_sessions, later_in_doubt}
use Rattle.er_slips.specs.{declared.serve.ServeEnd.ServeEnd, declared.serve.ServeEnd.TheVariants.{Answered, ReadFault, WriteFault}}
use Rattle.er_slips.specs.{Response.ResponseValue, Serving.{AnswersRequest, EndsServing, IsServed, IsUnserved, Serves}}
use Rattle.er_slips.specs.{declared.request.wanted.Request.Request, declared.request.wanted.Fault.Fault}
use Rattle.er_cli.specs.Clients.{Got, GetEach, GetsLast, IsNextClient, KnewBefore, ServesKnown, ServesSome, tells}

-- ---- what an answer rests on

-- an answer that rests on this rests on what gives it to a desk that runs
module _ (Is Sure : Type 0) (old : DeskState) (gives : Sure → IsFalse old.needs_reopen → Is) (session : Session) (new : DeskState) where
  answers_by : (asked : Result Request Fault) (answer : ResponseValue) → AnswersRequest Is old asked answer session new
      → AnswersRequest Sure old asked answer session new
  answers_by (Err fault) answer it = it
  answers_by (Ok asked) answer (told, it, message, asks) =
      (told, record { does = it.does; due = λ sure runs. it.due (gives sure runs) runs }, message, asks)

  served_by : (input : Option (List ℕ)) (answer : ResponseValue)
      → IsServed Is input old answer session new ⊎ IsUnserved input old answer session new
      → IsServed Sure input old answer session new ⊎ IsUnserved input old answer session new
  served_by input answer (inl (asked, is, answers)) = inl (asked, is, answers_by asked answer answers)
  served_by input answer (inr unserved) = inr unserved

  ends_by : (input before after : Option (List ℕ)) (served : ServeEnd) → EndsServing Is input old session new before after served
      → EndsServing Sure input old session new before after served
  ends_by input before after ReadFault it = it
  ends_by input before after (Answered status) (answer, wrote, due) = (answer, wrote, served_by input answer due)
  ends_by input before after (WriteFault sent) (answer, wrote, due) = (answer, wrote, served_by input answer due)

-- ---- one client

answered_whole : (r w : Bool) (served : ServeEnd) → tells r w served ≡ true → IsFalse (r || w) → (status : ℕ) × (served ≡ Answered status)
answered_whole r w (Answered status) told whole = (status, refl)
answered_whole true w ReadFault told whole = absurd (true≢false whole)
answered_whole false w ReadFault told whole = absurd (true≢false (sym told))
answered_whole true w (WriteFault sent) told whole = absurd (true≢false whole)
answered_whole false true (WriteFault sent) told whole = absurd (true≢false whole)
answered_whole false false (WriteFault sent) told whole = absurd (true≢false (sym told))

none_then_doubt : (doubt : Option Command) → later_in_doubt None doubt ≡ doubt
none_then_doubt None = refl
none_then_doubt (Some command) = refl

-- with no session after it
pub alone : (s : Session) → s ≡ join_sessions s no_session
alone s = ap (λ (cs : List Command). let it : Session = record { acknowledged = cs; in_doubt = s.in_doubt } in it)
    (sym (append-nil s.acknowledged))

module _ {S : Type 0} (g : Ghosts S) (old new : Desk S g) where
  -- the next client was served
  serves_next : (inputs : List (List ℕ)) (before all : List Got) (reads wrote after : Option (List ℕ)) (was r w : Bool) (served : ServeEnd)
      (coming then : Option (List (List ℕ))) → IsNextClient inputs reads wrote was coming
      → Serves g reads old new wrote after served
      → tells r w served ≡ true → then ≡ coming → GetsLast (Some before) after (r || w) (Some all)
      → ServesSome g 1 inputs before old then all new
  serves_next inputs before all reads wrote after was r w served coming then (input, rest, is, sends, nothing, fine, others) serves told
      same gets =
      let Sure = HasCleanDisk (state g new) × (IsFalse (desk_state old).needs_reopen → HoldsOwnEvent g old) in
      let Ends = λ (i b : Option (List ℕ)). EndsServing (HasCleanDisk (state g new) × HoldsOwnEvent g old) i (desk_state old) serves.session
      (desk_state new) b after served in
      let ends = subst (λ (b : Option (List ℕ)). Ends (Some input) b) nothing (subst (λ (i : Option (List ℕ)). Ends i wrote) sends serves.ends) in
      record {
        came = input ∷ [];
        rest = rest;
        gots = record { bytes = after; failed = r || w } ∷ [];
        are_first = is;
        many = refl;
        coming_then = same ∙ others;
        got_then = gets;
        session = serves.session;
        each = (
          desk_state new,
          serves.session,
          no_session,
          record {
            served = served;
            ends = ends_by (HasCleanDisk (state g new) × HoldsOwnEvent g old) Sure (desk_state old) (λ sure runs. (sure.0, sure.1 runs))
                serves.session (desk_state new) (Some input) (Some []) after served ends;
            answered = answered_whole r w served told;
          },
          (refl, refl),
          alone serves.session,
        );
        asks = serves.asks;
      }

  pub known_next : (a : Option (List (List ℕ))) (b : Option (List Got)) (reads wrote after : Option (List ℕ)) (was r w : Bool)
      (served : ServeEnd)
      (coming then : Option (List (List ℕ))) (got : Option (List Got)) → IfSome a (λ inputs. IsNextClient inputs reads wrote was coming)
      → Serves g reads old new wrote after served
      → tells r w served ≡ true → then ≡ coming → GetsLast b after (r || w) got → ServesKnown g 1 a b old then got new
  known_next None b reads wrote after was r w served coming then got comes serves told same gets = tt
  known_next (Some inputs) b reads wrote after was r w served coming then None comes serves told same gets = tt
  known_next (Some inputs) None reads wrote after was r w served coming then (Some all) comes serves told same gets = absurd gets
  known_next (Some inputs) (Some before) reads wrote after was r w served coming then (Some all) comes serves told same gets =
      serves_next inputs before all reads wrote after was r w served coming then comes serves told same gets

pub knew_next : (old : Option (List Got)) (after : Option (List ℕ)) (failed : Bool) (new : Option (List Got))
    → GetsLast old after failed new
    → KnewBefore old new
knew_next old after failed None gets = tt
knew_next None after failed (Some all) gets = absurd gets
knew_next (Some gots) after failed (Some all) gets = tt

pub knew_then : (a b c : Option (List Got)) → KnewBefore a b → KnewBefore b c → KnewBefore a c
knew_then a b None p q = tt
knew_then a None (Some all) p q = absurd q
knew_then None (Some some) (Some all) p q = absurd p
knew_then (Some few) (Some some) (Some all) p q = tt

pub knew_same : (a : Option (List Got)) → KnewBefore a a
knew_same None = tt
knew_same (Some all) = tt

-- ---- one client after the other

later_doubts : (a b c : Option Command) → later_in_doubt a (later_in_doubt b c) ≡ later_in_doubt (later_in_doubt a b) c
later_doubts a b None = refl
later_doubts a b (Some command) = refl

pub joined_later : (s t u : Session) → join_sessions s (join_sessions t u) ≡ join_sessions (join_sessions s t) u
joined_later s t u =
    let first = ap (λ (cs : List Command). let it : Session = record {
      acknowledged = cs;
      in_doubt = later_in_doubt s.in_doubt (later_in_doubt t.in_doubt u.in_doubt);
    } in it)
    (sym (append_assoc s.acknowledged t.acknowledged u.acknowledged)) in
    first ∙ ap (λ (d : Option Command). let it : Session = record {
      acknowledged = (s.acknowledged ++ t.acknowledged) ++ u.acknowledged;
      in_doubt = d;
    } in it) (later_doubts s.in_doubt t.in_doubt u.in_doubt)

pub nothing_first : (s : Session) → join_sessions no_session s ≡ s
nothing_first s =
    ap (λ (d : Option Command). let it : Session = record { acknowledged = s.acknowledged; in_doubt = d } in it) (none_then_doubt s.in_doubt)

-- on what each rests may be said with more
pub get_by : (Is Sure : Type 0) → (Sure → Is) → (old new : DeskState) (session : Session) (xs : List (List ℕ)) (gs : List Got)
    → GetEach Is old xs gs session new → GetEach Sure old xs gs session new
get_by Is Sure gives old new session [] [] it = it
get_by Is Sure gives old new session [] (h ∷ gs) it = absurd it
get_by Is Sure gives old new session (x ∷ xs) [] it = absurd it
get_by Is Sure gives old new session (x ∷ xs) (h ∷ gs) (at, one, later, it, rest, joined) = (
  at,
  one,
  later,
  record {
    served = it.served;
    ends = ends_by Is Sure old (λ sure runs. gives sure) one at (Some x) (Some []) h.bytes it.served it.ends;
    answered = it.answered;
  },
  get_by Is Sure gives at new later xs gs rest,
  joined,
)

get_then : (Sure : Type 0) (old mid new : DeskState) (s t : Session) (xs ys : List (List ℕ)) (gs hs : List Got) → GetEach Sure old xs gs s mid
    → GetEach Sure mid ys hs t new → GetEach Sure old (xs ++ ys) (gs ++ hs) (join_sessions s t) new
get_then Sure old mid new s t [] ys [] hs it more =
    subst (λ (u : Session). GetEach Sure old ys hs u new) (sym (nothing_first t) ∙ ap (λ (u : Session). join_sessions u t) (sym it.0))
    (subst (λ (d : DeskState). GetEach Sure d ys hs t new) it.1 more)
get_then Sure old mid new s t [] ys (h ∷ gs) hs it more = absurd it
get_then Sure old mid new s t (x ∷ xs) ys [] hs it more = absurd it
get_then Sure old mid new s t (x ∷ xs) ys (h ∷ gs) hs (at, one, later, gets, rest, joined) more = (
  at,
  one,
  join_sessions later t,
  gets,
  get_then Sure at mid new later t xs ys gs hs rest more,
  ap (λ (u : Session). join_sessions u t) joined ∙ sym (joined_later one later t),
)

module _ {S : Type 0} (g : Ghosts S) where
  serves_none : (inputs : List (List ℕ)) (before : List Got) (desk : Desk S g) → Asks g desk no_session desk
      → ServesSome g 0 inputs before desk (Some inputs) before desk
  serves_none inputs before desk nothing = record {
    came = [];
    rest = inputs;
    gots = [];
    are_first = refl;
    many = refl;
    coming_then = refl;
    got_then = sym (append-nil before);
    session = no_session;
    each = (refl, refl);
    asks = nothing;
  }

  pub known_none : (desk : Desk S g) (a : Option (List (List ℕ))) (b : Option (List Got)) → Asks g desk no_session desk
      → ServesKnown g 0 a b desk a b desk
  known_none desk None b nothing = tt
  known_none desk (Some inputs) None nothing = tt
  known_none desk (Some inputs) (Some before) nothing = serves_none inputs before desk nothing

  -- a desk that runs ran before
  ran_before : (old mid : Desk S g) (session : Session) → Asks g old session mid → IsFalse (desk_state mid).needs_reopen
      → IsFalse (desk_state old).needs_reopen
  ran_before old mid session asks runs = elim (cases_Bool (desk_state old).needs_reopen) [
    | inr ran ↦ ran
    | inl stopped ↦
        let same = asks.as_call.waits stopped in
        absurd (true≢false (sym stopped ∙ sym (ap (λ (d : Desk S g). (desk_state d).needs_reopen) same) ∙ runs))
  ]

  module _ (joins : AsksThen g) (old mid new : Desk S g) where
    serves_then : (count more : ℕ) (inputs : List (List ℕ)) (before some all : List Got) (coming coming2 : Option (List (List ℕ)))
        (it : ServesSome g count inputs before old coming some mid) → ServesSome g more it.rest some mid coming2 all new
        → ServesSome g (count + more) inputs before old coming2 all new
    serves_then count more inputs before some all coming coming2 it next =
        let Sure = HasCleanDisk (state g new) × (IsFalse (desk_state old).needs_reopen → HoldsOwnEvent g old) in
        let First = HasCleanDisk (state g mid) × (IsFalse (desk_state old).needs_reopen → HoldsOwnEvent g old) in
        let Next = HasCleanDisk (state g new) × (IsFalse (desk_state mid).needs_reopen → HoldsOwnEvent g mid) in
        record {
          came = it.came ++ next.came;
          rest = next.rest;
          gots = it.gots ++ next.gots;
          are_first = it.are_first ∙ ap (λ (xs : List (List ℕ)). it.came ++ xs) next.are_first
              ∙ sym (append_assoc it.came next.came next.rest);
          many = length-append it.came next.came ∙ ap (λ n. n + length next.came) it.many ∙ ap (λ n. count + n) next.many;
          coming_then = next.coming_then;
          got_then = next.got_then ∙ ap (λ (gs : List Got). gs ++ next.gots) it.got_then ∙ append_assoc before it.gots next.gots;
          session = join_sessions it.session next.session;
          each = get_then Sure (desk_state old) (desk_state mid) (desk_state new) it.session next.session it.came next.came it.gots next.gots
              (get_by First Sure (λ sure. (next.asks.as_call.clean sure.0, sure.1)) (desk_state old) (desk_state mid) it.session it.came
              it.gots it.each)
              (get_by Next Sure (λ sure. (
                sure.0,
                λ runs. it.asks.as_call.represents (next.asks.as_call.clean sure.0)
                    (sure.1 (ran_before old mid it.session it.asks runs)) runs,
              )) (desk_state mid) (desk_state new) next.session next.came next.gots
              next.each);
          asks = joins old mid new it.session next.session it.asks next.asks;
        }

    pub known_then : (count : ℕ) (a a1 a2 : Option (List (List ℕ))) (b b1 b2 : Option (List Got)) → ServesKnown g count a b old a1 b1 mid
        → KnewBefore b1 b2 → ServesKnown g 1 a1 b1 mid a2 b2 new → ServesKnown g (count + 1) a b old a2 b2 new
    known_then count None a1 a2 b b1 b2 it knew next = tt
    known_then count (Some inputs) a1 a2 b b1 None it knew next = tt
    known_then count (Some inputs) a1 a2 b None (Some all) it knew next = absurd knew
    known_then count (Some inputs) a1 a2 None (Some some) (Some all) it knew next = absurd it
    known_then count (Some inputs) a1 a2 (Some before) (Some some) (Some all) it knew next =
        serves_then count 1 inputs before some all a1 a2 it
        (subst (λ (a : Option (List (List ℕ))). ServesKnown g 1 a (Some some) mid a2 (Some all) new) it.coming_then next)
