-- What a desk that runs over its own tables answers is what is due at its point, or a fault of memory or of the device.
use Rattle.std.proofs.lemmas.Grind.{common_steps}
use Rattle.std.proofs.Common.{◌≡◌, ◌⊎◌, inl, inr, ℕ, IsFalse, List, [], ◌∷◌, Vec, Global, Result, Ok, Err}
use Rattle.std.proofs.Common.{refl, sym, ap, subst, ◌∙◌, arith, true≢false, is_ok}
use Rattle.er_event.specs.{declared.commands.Command.Command, declared.refusals.Refusal.Refusal, declared.slips.SlipRow.SlipRow}
use Rattle.er_event.specs.{declared.refusals.Refusal.TheVariants.{Memory}}
use Rattle.er_paper.specs.Texts.{rows_text}
use Rattle.er_rank.specs.declared.rows.Row.{Row}
use Rattle.er_store.specs.{Calls.OrFails, Slip.FindsSlipOrFails}
use Rattle.er_desk.specs.{Desk.{DeskState, Outcome, ReadsRows, ShowsEvent, point_of}, Headline.AreTheStandings, Migrating.Migrates}
use Rattle.er_desk.specs.Reply.{Reply, IsLawfulReply, receipt}
use Rattle.er_answers.specs.declared.question.{View.View, Answer.Answer}
use Rattle.er_answers.specs.declared.question.Question.TheVariants.{Submit, Standings, Show, Slip as SlipOf, Migrate}
use Rattle.er_answers.specs.declared.question.Answer.TheVariants.{Accepted, Text, Refused}
use Rattle.er_answers.specs.Question.{IsRowsTold, IsSlipTold, ShowsView, moved_told, reply_told, slip_told}
use Rattle.er_answers.specs.{Due.{IsDueAt, OrFault}, Answers.{AnswersDesk, DoesAsked, replies_of}}

pub replies_are_told : (reply : Reply) → replies_of (reply_told reply) ≡ reply ∷ []
replies_are_told (Ok receipt) = refl
replies_are_told (Err why) = refl

-- ---- a command

lawful_turn : (old new : DeskState) (c : Command) (r : Reply) → Outcome old c r new → IsFalse old.needs_reopen
    → IsLawfulReply old.version old.event old.serial c r
lawful_turn old new c r h1 runs = grind (arith, common_steps)

pub submitted : (Represented : Type 0) (old new : DeskState) (command : Command) (reply : Reply) → Outcome old command reply new
    → AnswersDesk Represented old (Submit command) (reply_told reply) new
submitted Represented old new command reply turn = record {
  does = (reply, turn, refl);
  due = λ represented runs. (reply, lawful_turn old new command reply turn runs, refl);
}

-- ---- a text of the event

shown_at : (desk : DeskState) (view : View) (told : Answer) → IsFalse desk.needs_reopen → ShowsEvent Refused desk (ShowsView view) told
    → OrFault (ShowsView view desk.event told) told
shown_at desk view told runs (inl (going, inl shows)) = inl shows
shown_at desk view told runs (inl (going, inr full)) = inr (Memory, inl refl, full)
shown_at desk view told runs (inr (stopped, asks)) = absurd (true≢false (sym stopped ∙ runs))

pub shown : (Represented : Type 0) (desk : DeskState) (view : View) (told : Answer) → ShowsEvent Refused desk (ShowsView view) told
    → AnswersDesk Represented desk (Show view) told desk
shown Represented desk view told shows = record { does = (shows, refl); due = λ represented runs. shown_at desk view told runs shows }

-- ---- the standings

-- rows that were read were read by a desk that runs, and leave it at its event
rows_read : (old new : DeskState) (rows : Vec Row Global) (shown : List Row) (told : Answer) → ReadsRows old (Ok rows) new
    → shown ≡ rows.items
    → (IsFalse new.needs_reopen → (told ≡ Text (rows_text new.event shown)) ⊎ (told ≡ Refused Memory))
    → IsRowsTold old.event (Ok rows) told
rows_read old new rows shown told (inl (runs, same, ok)) is tells =
    subst (λ (s : DeskState). (told ≡ Text (rows_text s.event rows.items)) ⊎ (told ≡ Refused Memory)) same
    (subst (λ (rs : List Row). (told ≡ Text (rows_text new.event rs)) ⊎ (told ≡ Refused Memory)) is
    (tells (subst (λ (s : DeskState). IsFalse s.needs_reopen) (sym same) runs)))
rows_read old new rows shown told (inr (inl (runs, same, why, fault, e))) is tells = absurd (true≢false (ap is_ok e))
rows_read old new rows shown told (inr (inr (stopped, same, e))) is tells = absurd (true≢false (ap is_ok e))

rows_due : (old : DeskState) (read : Result (Vec Row Global) Refusal) (told : Answer)
    → OrFails (λ (rows : Vec Row Global). AreTheStandings old.event rows.items) read → IsRowsTold old.event read told
    → OrFault (IsDueAt old.version (point_of old) Standings told) told
rows_due old (Ok rows) told are (inl is) = inl (rows.items, are, is)
rows_due old (Ok rows) told are (inr full) = inr (Memory, inl refl, full)
rows_due old (Err why) told fault is = inr (why, fault, is)

-- of standings that were read, or why not
pub ranked : (Represented : Type 0) (old new : DeskState) (read : Result (Vec Row Global) Refusal) (told : Answer) → ReadsRows old read new
    → (Represented → IsFalse old.needs_reopen → OrFails (λ (rows : Vec Row Global). AreTheStandings old.event rows.items) read)
    → IsRowsTold old.event read told → AnswersDesk Represented old Standings told new
ranked Represented old new read told reads found is = record {
  does = (read, reads, is);
  due = λ represented runs. rows_due old read told (found represented runs) is;
}

pub ranked_rows : (Represented : Type 0) (old new : DeskState) (rows : Vec Row Global) (shown : List Row) (told : Answer)
    → ReadsRows old (Ok rows) new
    → (Represented → IsFalse old.needs_reopen → OrFails (λ (rows : Vec Row Global). AreTheStandings old.event rows.items) (Ok rows))
    → shown ≡ rows.items
    → (IsFalse new.needs_reopen → (told ≡ Text (rows_text new.event shown)) ⊎ (told ≡ Refused Memory))
    → AnswersDesk Represented old Standings told new
ranked_rows Represented old new rows shown told reads found is tells =
    ranked Represented old new (Ok rows) told reads found (rows_read old new rows shown told reads is tells)

-- ---- a slip

slip_due : (old : DeskState) (round table : ℕ) (read : Result SlipRow Refusal) (told : Answer)
    → FindsSlipOrFails old.event round table read → IsSlipTold read told
    → OrFault (IsDueAt old.version (point_of old) (SlipOf round table) told) told
slip_due old round table (Ok row) told found (inl is) = inl (is ∙ ap slip_told (sym found))
slip_due old round table (Ok row) told found (inr full) = inr (Memory, inl refl, full)
slip_due old round table (Err why) told (inl fault) is = inr (why, fault, is)
slip_due old round table (Err why) told (inr none) is = inl (is ∙ ap (λ (w : Refusal). Refused w) none.0 ∙ ap slip_told (sym none.1))

pub found_slip : (Represented : Type 0) (old new : DeskState) (round table : ℕ) (told : Answer)
    (reads : DoesAsked old (SlipOf round table) told new)
    → (Represented → IsFalse old.needs_reopen → FindsSlipOrFails old.event round table reads.0)
    → AnswersDesk Represented old (SlipOf round table) told new
found_slip Represented old new round table told reads found = record {
  does = reads;
  due = λ represented runs. slip_due old round table reads.0 told (found represented runs) reads.2;
}

-- ---- a migration

moved_due : (old new : DeskState) (moved : Result ℕ Refusal) → IsFalse old.needs_reopen → Migrates old moved new
    → OrFault (moved_told moved ≡ Accepted (receipt old.serial)) (moved_told moved)
moved_due old new (Ok serial) runs it = inl (ap (λ (n : ℕ). Accepted (receipt n)) it.1)
moved_due old new (Err why) runs (inl it) = absurd (true≢false (sym it.0 ∙ runs))
moved_due old new (Err why) runs (inr it) = inr (why, it.2, refl)

pub migrated : (Represented : Type 0) (old new : DeskState) (moved : Result ℕ Refusal) → Migrates old moved new
    → AnswersDesk Represented old Migrate (moved_told moved) new
migrated Represented old new moved it =
    record { does = (moved, it, refl); due = λ represented runs. moved_due old new moved runs it }
