-- The turns of a script's lines.
use Rattle.std.proofs.Common.{ℕ, IsFalse, Option, Some, None, Result, Ok, Err, refl, subst, inl, inr}
use Rattle.std.specs.Prelude.{⊤}
use Rattle.er_event.specs.{declared.refusals.Refusal.Refusal, declared.refusals.Refusal.TheVariants.{Memory, NoSuchMatch}}
use Rattle.er_event.specs.declared.commands.Command.{Command}
use Rattle.er_desk.specs.{Desk.{DeskState, Outcome, Reads}, Migrating.Migrates, Reply.Reply}
use Rattle.er_answers.specs.{Answers.{AnswersDesk, DoesAsked}, declared.question.{Question.Question, Answer.Answer}}
use Rattle.er_answers.specs.declared.question.Question.TheVariants.{Submit, Standings, Show, Slip as SlipOf, Migrate}
use Rattle.er_answers.specs.declared.question.Answer.TheVariants.{Refused}
use Rattle.er_cli.specs.{declared.action.Action.Action, declared.texts.LineAnswer.TheVariants.Asked, Script.LineAnswers}

-- memory may run out for any line, and then all stays as it is
pub memory_answers : (old : Option DeskState) (action : Option Action) → LineAnswers old action (Asked (Refused Memory)) old
memory_answers old None = (inr refl, refl)
memory_answers old (Some action) = inr (refl, refl)

ran_on : (old new : DeskState) (command : Command) (reply : Reply) → Outcome old command reply new → IsFalse new.needs_reopen
    → IsFalse old.needs_reopen
ran_on old new command reply (inl it) runs = it.was_running
ran_on old new command reply (inr (inl it)) runs = it.was_running
ran_on old new command reply (inr (inr (inl it))) runs = it.was_running
ran_on old new command reply (inr (inr (inr it))) runs = subst (λ (s : DeskState). IsFalse s.needs_reopen) it.same runs

ran_reading : {A : Type 0} (passing : Refusal) (old new : DeskState) (read : Result A Refusal) → Reads passing old read new
    → IsFalse new.needs_reopen → IsFalse old.needs_reopen
ran_reading passing old new read (inl it) runs = it.0
ran_reading passing old new read (inr (inl it)) runs = it.0
ran_reading passing old new read (inr (inr it)) runs = subst (λ (s : DeskState). IsFalse s.needs_reopen) it.1 runs

ran_moving : (old new : DeskState) (moved : Result ℕ Refusal) → Migrates old moved new → IsFalse new.needs_reopen → IsFalse old.needs_reopen
ran_moving old new (Ok serial) it runs = it.0
ran_moving old new (Err why) (inl it) runs = subst (λ (s : DeskState). IsFalse s.needs_reopen) it.2 runs
ran_moving old new (Err why) (inr it) runs = it.0

-- a desk that no fault has stopped had none before
pub ran_before : (old new : DeskState) (question : Question) (told : Answer) → DoesAsked old question told new
    → IsFalse new.needs_reopen → IsFalse old.needs_reopen
ran_before old new (Submit command) told it runs = ran_on old new command it.0 it.1 runs
ran_before old new Standings told it runs = ran_reading Memory old new it.0 it.1 runs
ran_before old new (Show view) told it runs = subst (λ (s : DeskState). IsFalse s.needs_reopen) it.1 runs
ran_before old new (SlipOf round table) told it runs = ran_reading NoSuchMatch old new it.0 it.1 runs
ran_before old new Migrate told (moved, it, is) runs = ran_moving old new moved it runs

-- over tables that stand, the answers rest on nothing else
pub represented_answers : (Represented : Type 0) (old new : DeskState) (question : Question) (told : Answer)
    → (IsFalse old.needs_reopen → Represented)
    → AnswersDesk Represented old question told new
    → AnswersDesk ⊤ old question told new
represented_answers Represented old new question told represented it =
    record { does = it.does; due = λ _ runs. it.due (represented runs) runs }
