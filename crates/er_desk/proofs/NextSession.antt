-- A session goes on from where a history has ended.
use Rattle.std.proofs.{Common.{◌≡◌, ℕ, List, [], ◌∷◌, ◌++◌, Ok}}
use Rattle.std.proofs.Common.{Option, None, IfSome, inl, refl, sym, subst, arith}
use Rattle.sqlite.specs.{Tree.Trees}
use Rattle.sqlite_wal.specs.Recovery.{Image}
use Rattle.er_event.specs.declared.commands.Command.{Command}
use Rattle.er_event.specs.Event.{EventValue}
use Rattle.er_rules.specs.{Sound.IsSound, Step.Steps}
use Rattle.er_desk.specs.Desk.{Point, Placed, IsStoredAt, placed_at}
use Rattle.er_desk.specs.{Run.{Session, MayEnd, IsStoredEnd, no_session}}
use Rattle.er_desk.specs.{History.{Ended, IsHistory, LeadsTo}, Headline.{Histories, IsEndOf, NextBegins}}
use Rattle.er_desk.specs.Headline.{IsBeginning, Recovers, RecoversHistory, and_then}

history_more : (new first : Point) (ends : List Ended) (it : Ended) → IsHistory new ends first → MayEnd first it.session it.last
    → IsHistory new (ends ++ it ∷ []) it.last
history_more new first [] it is may = (subst (λ (p : Point). MayEnd p it.session it.last) is may, refl)
history_more new first (before ∷ more) it (ended, rest) may = (ended, history_more before.last first more it rest may)

-- nothing was asked, and what is left is what was there
pub quiet_end : (first : Placed) (trees : Trees) → IsStoredAt first trees → IsStoredEnd first no_session trees
quiet_end first trees stored = (first.point, inl (record { event = refl; serial = omega arith; taken = tt }), stored)

-- a session that leaves nothing in doubt ends where its acknowledged commands lead
sure_end : (first : Point) (session : Session) (last : Point) → LeadsTo first session.acknowledged last → session.in_doubt ≡ None
    → MayEnd first session last
sure_end first session last leads sure = inl (record {
  event = leads.event;
  serial = leads.serial;
  taken = subst (λ (o : Option Command). IfSome o (λ (c : Command). (n : EventValue) × Steps last.event c (Ok n))) (sym sure) tt;
})

module _ (law : Histories) (new first : Point) (ends : List Ended) (begins : IsBeginning new) (was : IsHistory new ends first) where
  ends_so : (all : List Ended) (last : Point) → IsHistory new all last → IsEndOf new all last
  ends_so all last history =
      subst (λ (p : Point). IsEndOf p all last) (sym begins.is_new)
      (law begins.name begins.limits.0 begins.limits.1 begins.set_up all last
      (subst (λ (p : Point). IsHistory p all last) begins.is_new history))

  pub first_sound : IsSound first.event
  first_sound = (ends_so ends first was).sound

  pub next_begins : (version : ℕ) (session : Session) (trees : Trees) → IsStoredEnd (placed_at first version) session trees
      → NextBegins new ends session version trees
  next_begins version session trees (last, may, stored) =
      record { last = last; history = history_more new first ends (record { session = session; last = last }) was may; stored = stored }

  -- files that represent the sure end of the session were left by the history with it
  pub next_leaves : (session : Session) (last : Placed) (left : Image) → LeadsTo first session.acknowledged last.point
      → session.in_doubt ≡ None
      → Recovers left last → RecoversHistory left new (and_then ends session last.point) last
  next_leaves session last left leads sure stored = record {
    begins = begins;
    history = history_more new first ends (record { session = session; last = last.point }) was
        (sure_end first session last.point leads sure);
    left = stored;
  }
