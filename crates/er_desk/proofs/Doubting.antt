-- What a stop left in doubt is found stored or new.
use Rattle.std.proofs.Common.{◌≡◌, ◌⊎◌, inl, inr, List, [], ◌∷◌, ◌++◌, Option, Some, None, Ok, IfSome, MatchOption, subst}
use Rattle.std.proofs.Common.{refl}
use Rattle.er_event.specs.declared.commands.Command.{Command}
use Rattle.er_event.specs.Event.{EventValue}
use Rattle.er_rules.specs.{Retry.{IsCorrection, NoDoubleEffect}, Step.Steps}
use Rattle.er_desk.specs.Desk.{Point}
use Rattle.er_desk.specs.Run.{Session, MayEnd, EndsWithDoubt}
use Rattle.er_desk.specs.{History.{Ended, IsHistory}, Doubt.{IsFoundNew, IsFoundStored}}

-- the last session of a history may end where the history does
pub ended_last : (new : Point) (ends : List Ended) (it : Ended) (last : Point) → IsHistory new (ends ++ it ∷ []) last
    → (first : Point) × MayEnd first it.session it.last
ended_last new [] it last (may, is) = (new, may)
ended_last new (before ∷ more) it last (ended, rest) = ended_last before.last more it last rest

some_same : (a b : Command) → ◌≡◌ {A = Option Command} (Some a) (Some b) → a ≡ b
some_same a b is = cc

module _ (law : NoDoubleEffect) (doubt : Command) (other : IsCorrection doubt → ⊥) where
  stored : (first last : Point) (session : Session) (o : Option Command) → o ≡ Some doubt
      → MatchOption o ⊥ (EndsWithDoubt first session last)
      → IsFoundStored last.event doubt
  stored first last session None is none = absurd none
  stored first last session (Some d) is ends = λ result steps.
      law.0 ends.mid.event last.event last.event doubt []
      (subst (λ (c : Command). Steps ends.mid.event c (Ok last.event)) (some_same d doubt is) ends.event) other refl result steps

  new_still : (event : EventValue) (o : Option Command) → o ≡ Some doubt
      → IfSome o (λ (d : Command). (n : EventValue) × Steps event d (Ok n)) → IsFoundNew event doubt
  new_still event o is taken = subst (λ (c : Option Command). IfSome c (λ (d : Command). (n : EventValue) × Steps event d (Ok n))) is taken

  pub found : (first last : Point) (session : Session) → session.in_doubt ≡ Some doubt → MayEnd first session last
      → IsFoundStored last.event doubt ⊎ IsFoundNew last.event doubt
  found first last session is (inl kept) = inr (new_still last.event session.in_doubt is kept.taken)
  found first last session is (inr ended) = inl (stored first last session session.in_doubt is ended)
