-- A desk that is asked one thing after the other.
use Rattle.std.proofs.Common.{◌≡◌, ◌⊎◌, ◌++◌, inl, inr, ℕ, Bool, true, false, IsTrue, IsFalse, List, [], ◌∷◌, Result, Ok, Err, None}
use Rattle.std.proofs.Common.{Option, refl, sym, ap, subst, ◌∙◌, arith, append-nil, true≢false}
use Rattle.sqlite_trees.specs.declared.store.Store.{Ghosts}
use Rattle.sqlite.specs.{State.HasCleanDisk, Tree.Trees}
use Rattle.er_event.specs.declared.{commands.Command.Command, refusals.Refusal.Refusal}
use Rattle.er_store.specs.{Migrated.NoneAwaitsPlayer2, Representing.AfterCrash}
use Rattle.er_desk.specs.declared.desk.Desk.{Desk}
use Rattle.er_desk.specs.Desk.{DeskState, HoldsOwnEvent, IsStoredAt, Placed, Point, placed_at, point_of, desk_state, state, version_in}
use Rattle.er_desk.specs.{Asking.{Asks, SessionsJoin, join_sessions, later_in_doubt}, History.LeadsTo, Migrating.{MayMigrate, Migrates}}
use Rattle.er_desk.specs.{Run.{Session, IsStoredEnd, no_session}}
use Rattle.er_answers.specs.{Answers.{AnswersDesk, AsksFor, MovesFile, session_at}, Question.moved_told}
use Rattle.er_answers.specs.declared.question.{Question.Question, Answer.Answer}
use Rattle.er_answers.specs.declared.question.Question.TheVariants.{Submit, Standings, Show, Slip as SlipOf, Migrate}
use Rattle.er_cli.specs.GoingOn.{LeadsToVersion, MigrationsLead}
use Rattle.er_sessions.specs.Sessions.{AnswersAll, AsksAll, AsksMigration, LeadToVersion}

-- the version of the tables stays
abbrev pub Stays : (was now : ℕ) → Type 0
Stays was now = now ≡ was

-- the history stays where it is
pub ends_nowhere : (first : Placed) (trees : Trees) → IsStoredAt first trees → IsStoredEnd first no_session trees
ends_nowhere first trees stored = (first.point, inl (record { event = refl; serial = omega arith; taken = tt }), stored)

-- one thing more
pub asks_push : {S : Type 0} (g : Ghosts S) (first old new : Desk S g) (questions : List Question) (answers : List Answer)
    (question : Question) (told : Answer) → AsksAll g first questions answers old → AsksFor g old question told new
    → AnswersDesk (HasCleanDisk (state g new) × HoldsOwnEvent g old) (desk_state old) question told (desk_state new)
    → AsksAll g first (questions ++ question ∷ []) (answers ++ told ∷ []) new
asks_push {S} g first old new [] [] question told is asked answered =
    subst (λ (d : Desk S g). (mid : Desk S g) × AsksFor g d question told mid
    × AnswersDesk (HasCleanDisk (state g mid) × HoldsOwnEvent g d) (desk_state d) question told (desk_state mid) × (new ≡ mid)) is
    (new, asked, answered, refl)
asks_push g first old new [] (a ∷ answers) question told is asked answered = absurd is
asks_push g first old new (q ∷ questions) [] question told is asked answered = absurd is
asks_push g first old new (q ∷ questions) (a ∷ answers) question told is asked answered =
    (is.0, is.1, is.2, asks_push g is.0 old new questions answers question told is.3 asked answered)

-- the tables may be migrated, if a migration is asked
abbrev pub MayIf : {S : Type 0} (g : Ghosts S) → Type 0 → Desk S g → Type 0
MayIf g Asked desk = Asked → HasCleanDisk (state g desk) → MayMigrate g desk

-- What a request does to the file, or a list of them: this session is asked, and the tables are left in such a version.
pub record Went {S : Type 0} (g : Ghosts S) (Asked : Type 0) (old : Desk S g) (session : Session) (In : (was now : ℕ) → Type 0)
    (new : Desk S g) : Type 0 where
  pub clean : HasCleanDisk (state g new) → HasCleanDisk (state g old)
  pub waits : IsTrue (desk_state old).needs_reopen → (new ≡ old) × (session ≡ no_session) × ((v : ℕ) → In v v)
  pub leads : LeadsTo (point_of (desk_state old)) session.acknowledged (point_of (desk_state new))
  pub sure : IsFalse (desk_state new).needs_reopen → session.in_doubt ≡ None
  pub within : IsFalse (desk_state new).needs_reopen → In (version_in old) (version_in new)
  pub represents : MayIf g Asked old → HasCleanDisk (state g new) → HoldsOwnEvent g old → IsFalse (desk_state new).needs_reopen
      → HoldsOwnEvent g new
  pub migrates : HasCleanDisk (state g new) → HoldsOwnEvent g old → MayMigrate g old → IsFalse (desk_state new).needs_reopen
      → MayMigrate g new
  pub crash : MayIf g Asked old → HoldsOwnEvent g old → AfterCrash (state g new)
      (λ trees. (v : ℕ) × In (version_in old) v × IsStoredEnd (placed_at (point_of (desk_state old)) v) session trees)

-- ---- one request

module _ {S : Type 0} (g : Ghosts S) (Asked : Type 0) (old new : Desk S g) where
  still_may : version_in new ≡ version_in old → (state g new).now.schema ≡ (state g old).now.schema → MayMigrate g old → MayMigrate g new
  still_may same schema (inl second) = inl (same ∙ second)
  still_may same schema (inr free) = inr (subst NoneAwaitsPlayer2 (sym schema) free)

  pub went_asking : (session : Session) → Asks g old session new → Went g Asked old session Stays new
  went_asking session it = record {
    clean = it.as_call.clean;
    waits = λ stopped. (it.as_call.waits stopped, it.idle stopped, λ v. refl);
    leads = it.leads;
    sure = it.sure;
    within = λ runs. it.as_call.version;
    represents = λ may. it.as_call.represents;
    migrates = λ clean shows may runs.
        still_may it.as_call.version (it.as_call.others clean shows (it.as_call.represents clean shows runs).is_open).schema may;
    crash = λ may shows clean trees left. (version_in old, refl, it.crash shows clean trees left);
  }

-- a migration: if the desk then runs, its tables are of version 2
moved_second : (old new : DeskState) (moved : Result ℕ Refusal) → Migrates old moved new → IsFalse new.needs_reopen → new.version ≡ 2
moved_second old new (Ok serial) it runs = ap (λ (s : DeskState). s.version) it.2
moved_second old new (Err why) (inl it) runs =
    absurd (true≢false (sym (ap (λ (s : DeskState). s.needs_reopen) it.2 ∙ it.0) ∙ runs))
moved_second old new (Err why) (inr it) runs = absurd (true≢false (sym (ap (λ (s : DeskState). s.needs_reopen) it.3) ∙ runs))

moved_point : (old new : DeskState) (moved : Result ℕ Refusal) → Migrates old moved new → point_of new ≡ point_of old
moved_point old new (Ok serial) it = ap point_of it.2
moved_point old new (Err why) (inl it) = ap point_of it.2
moved_point old new (Err why) (inr it) = ap point_of it.3

leads_second : (moved : Result ℕ Refusal) (was : ℕ) → LeadsToVersion Migrate (moved_told moved) was 2
leads_second (Ok serial) was = refl
leads_second (Err why) was = inr refl

leads_nowhere : (old new : DeskState) (moved : Result ℕ Refusal) → Migrates old moved new → IsTrue old.needs_reopen → (v : ℕ)
    → LeadsToVersion Migrate (moved_told moved) v v
leads_nowhere old new (Ok serial) it stopped v = absurd (true≢false (sym stopped ∙ it.0))
leads_nowhere old new (Err why) it stopped v = inl refl

module _ {S : Type 0} (g : Ghosts S) (lead : MigrationsLead g) (old new : Desk S g) where
  went_moving : (told : Answer) → MovesFile g old told new → Went g (Migrate ≡ Migrate) old no_session (LeadsToVersion Migrate told) new
  went_moving told it =
      let does = it.does in
      let same = moved_point (desk_state old) (desk_state new) it.moved does.turn in
      record {
        clean = does.clean;
        waits = λ stopped. (
          does.waits (inl stopped),
          refl,
          λ v. subst (λ (a : Answer). LeadsToVersion Migrate a v v) (sym it.tells)
              (leads_nowhere (desk_state old) (desk_state new) it.moved does.turn stopped v),
        );
        leads = record { event = ap (λ (p : Point). p.event) same; serial = ap (λ (p : Point). p.serial) same ∙ omega arith };
        sure = λ runs. refl;
        within = λ runs. subst (λ (a : Answer). LeadsToVersion Migrate a (version_in old) (version_in new)) (sym it.tells)
            (subst (λ (v : ℕ). LeadsToVersion Migrate (moved_told it.moved) (version_in old) v)
            (sym (moved_second (desk_state old) (desk_state new) it.moved does.turn runs)) (leads_second it.moved (version_in old)));
        represents = λ may clean. does.represents (may refl (does.clean clean)) clean;
        migrates = λ clean shows may runs. inl (moved_second (desk_state old) (desk_state new) it.moved does.turn runs);
        crash = λ may shows clean trees left.
            let (version, within, stays) = lead old new told it (may refl) shows clean trees left in
            (version, within, ends_nowhere (placed_at (point_of (desk_state old)) version) trees stays);
      }

  went_one : (question : Question) (told : Answer) → AsksFor g old question told new
      → Went g (question ≡ Migrate) old (session_at question told (desk_state new).needs_reopen) (LeadsToVersion question told) new
  went_one (Submit command) told it = went_asking g _ old new _ it
  went_one Standings told it = went_asking g _ old new _ it
  went_one (Show view) told it = went_asking g _ old new _ it
  went_one (SlipOf round table) told it = went_asking g _ old new _ it
  went_one Migrate told it = went_moving told it

-- ---- one after the other

nothing_more : (s : Session) → join_sessions s no_session ≡ s
nothing_more s =
    ap (λ (kept : List Command). let it : Session = record { acknowledged = kept; in_doubt = s.in_doubt } in it) (append-nil s.acknowledged)

module _ (join : SessionsJoin) {S : Type 0} (g : Ghosts S) (A B : Type 0) (old mid new : Desk S g) (s t : Session)
    (In On : (was now : ℕ) → Type 0) (one : Went g A old s In mid) (two : Went g B mid t On new) where
  abbrev Both : (was now : ℕ) → Type 0
  Both was now = (between : ℕ) × In was between × On between now

  -- a desk that runs has run before
  ran : IsFalse (desk_state new).needs_reopen → IsFalse (desk_state mid).needs_reopen
  ran runs = by (desk_state mid).needs_reopen refl
    where
      by : (b : Bool) → (desk_state mid).needs_reopen ≡ b → IsFalse (desk_state mid).needs_reopen
      by true is = absurd (true≢false (sym (ap (λ (d : Desk S g). (desk_state d).needs_reopen) (two.waits is).0 ∙ is) ∙ runs))
      by false is = is

  both_wait : IsTrue (desk_state old).needs_reopen → (new ≡ old) × (join_sessions s t ≡ no_session) × ((v : ℕ) → Both v v)
  both_wait stopped =
      let before = one.waits stopped in
      let after = two.waits (ap (λ (d : Desk S g). (desk_state d).needs_reopen) before.0 ∙ stopped) in (
        after.0 ∙ before.0,
        subst (λ (a : Session). join_sessions a t ≡ no_session) (sym before.1)
            (subst (λ (b : Session). join_sessions no_session b ≡ no_session) (sym after.1) refl),
        λ v. (v, before.2 v, after.2 v),
      )

  may_later : MayIf g (A ⊎ B) old → HoldsOwnEvent g old → IsFalse (desk_state mid).needs_reopen → MayIf g B mid
  may_later may shows runs = λ asked clean. one.migrates clean shows (may (inr asked) (one.clean clean)) runs

  both_crash : MayIf g (A ⊎ B) old → HoldsOwnEvent g old → AfterCrash (state g new)
      (λ trees. (v : ℕ) × Both (version_in old) v × IsStoredEnd (placed_at (point_of (desk_state old)) v) (join_sessions s t) trees)
  both_crash may shows clean trees left = by (desk_state mid).needs_reopen refl
    where
      Left : Type 0
      Left = (v : ℕ) × Both (version_in old) v × IsStoredEnd (placed_at (point_of (desk_state old)) v) (join_sessions s t) trees

      by : (b : Bool) → (desk_state mid).needs_reopen ≡ b → Left
      by true is =
          let after = two.waits is in
          let it = one.crash (λ asked. may (inl asked)) shows (two.clean clean) trees
          (subst (λ (d : Desk S g). (state g d).may_leave trees) after.0 left) in (
            it.0,
            (it.0, it.1, after.2 it.0),
            subst (λ (x : Session). IsStoredEnd (placed_at (point_of (desk_state old)) it.0) x trees)
                (sym (subst (λ (b : Session). join_sessions s b ≡ s) (sym after.1) (nothing_more s))) it.2,
          )
      by false is =
          let here = one.represents (λ asked. may (inl asked)) (two.clean clean) shows is in
          let it = two.crash (may_later may shows is) here clean trees left in (
            it.0,
            (version_in mid, one.within is, it.1),
            (join (point_of (desk_state old)) (point_of (desk_state mid)) s t one.leads).ends (one.sure is) it.0 trees it.2,
          )

  pub went_then : Went g (A ⊎ B) old (join_sessions s t) Both new
  went_then = record {
    clean = λ clean. one.clean (two.clean clean);
    waits = both_wait;
    leads = (join (point_of (desk_state old)) (point_of (desk_state mid)) s t one.leads).leads (point_of (desk_state new)) two.leads;
    sure = λ runs. alone s.in_doubt t.in_doubt (one.sure (ran runs)) (two.sure runs);
    within = λ runs. (version_in mid, one.within (ran runs), two.within runs);
    represents = λ may clean shows runs. two.represents (may_later may shows (ran runs)) clean
        (one.represents (λ asked. may (inl asked)) (two.clean clean) shows (ran runs)) runs;
    migrates = λ clean shows may runs. two.migrates clean
        (one.represents (λ asked _. may) (two.clean clean) shows (ran runs)) (one.migrates (two.clean clean) shows may (ran runs)) runs;
    crash = both_crash;
  }
    where
      alone : (one two : Option Command) → one ≡ None → two ≡ None → later_in_doubt one two ≡ None
      alone one two first then = subst (λ (o : Option Command). later_in_doubt one o ≡ None) (sym then) first

-- ---- all of it

-- a desk that was stopped reads nothing, and one that runs reads tables that represent its event
fully : (R : Type 0) (old new : DeskState) (question : Question) (told : Answer) → (IsFalse old.needs_reopen → R)
    → AnswersDesk R old question told new → AnswersDesk (Unit {0}) old question told new
fully R old new question told given it = record { does = it.does; due = λ _ runs. it.due (given runs) runs }

pub record Over {S : Type 0} (g : Ghosts S) (old : Desk S g) (questions : List Question) (answers : List Answer) (session : Session)
    (new : Desk S g) : Type 0 where
  pub went : Went g (AsksMigration questions) old session (LeadToVersion questions answers) new
  pub answered : HasCleanDisk (state g new) → (IsFalse (desk_state old).needs_reopen → HoldsOwnEvent g old)
      → (IsFalse (desk_state old).needs_reopen → MayIf g (AsksMigration questions) old)
      → AnswersAll (desk_state old) questions answers session (desk_state new)

module _ (join : SessionsJoin) {S : Type 0} (g : Ghosts S) (lead : MigrationsLead g) (new : Desk S g)
    (rests : Asks g new no_session new) where
  pub all_over : (questions : List Question) (answers : List Answer) (old : Desk S g) → AsksAll g old questions answers new
      → (session : Session) × Over g old questions answers session new
  all_over [] [] old is = (
    no_session,
    record {
      went = subst (λ (d : Desk S g). Went g ⊥ d no_session Stays new) is (went_asking g ⊥ new new no_session rests);
      answered = λ clean shows may. (refl, ap desk_state is);
    },
  )
  all_over [] (told ∷ answers) old is = absurd is
  all_over (question ∷ questions) [] old is = absurd is
  all_over (question ∷ questions) (told ∷ answers) old (mid, asked, answered, rest) =
      let one = went_one g lead old mid question told asked in
      let later = all_over questions answers mid rest in
      let s = session_at question told (desk_state mid).needs_reopen in
      let was : IsFalse (desk_state mid).needs_reopen → IsFalse (desk_state old).needs_reopen = λ runs.
      by one (desk_state old).needs_reopen refl runs in (
        join_sessions s later.0,
        record {
          went = went_then join g (question ≡ Migrate) (AsksMigration questions) old mid new s later.0 (LeadsToVersion question told)
              (LeadToVersion questions answers) one later.1.went;
          answered = λ clean shows may.
              let mid_clean = later.1.went.clean clean in (
                desk_state mid,
                later.0,
                fully _ (desk_state old) (desk_state mid) question told (λ runs. (mid_clean, shows runs)) answered,
                later.1.answered clean
                    (λ runs. one.represents (λ a. may (was runs) (inl a)) mid_clean (shows (was runs)) runs)
                    (λ runs a it. one.migrates it (shows (was runs)) (may (was runs) (inr a) (one.clean it)) runs),
                refl,
              );
        },
      )
    where
      by : Went g (question ≡ Migrate) old (session_at question told (desk_state mid).needs_reopen) (LeadsToVersion question told) mid
          → (b : Bool) → (desk_state old).needs_reopen ≡ b → IsFalse (desk_state mid).needs_reopen → IsFalse (desk_state old).needs_reopen
      by one true is runs =
          absurd (true≢false (sym (ap (λ (d : Desk S g). (desk_state d).needs_reopen) (one.waits is).0 ∙ is) ∙ runs))
      by one false is runs = is
