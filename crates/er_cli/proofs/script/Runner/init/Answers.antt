use Rattle.std.proofs.Common.{◌≡◌, inl, ℕ, Bool, true, false, not, List, [], ◌∷◌, Option, Some, None, MatchOption, is_some}
use Rattle.std.proofs.Common.{refl, sym, ap, ◌∙◌}
use Rattle.sqlite_trees.specs.declared.memory.MemStore.{MemStore}
use Rattle.sqlite.specs.Steps.{over_memory}
use Rattle.er_event.specs.{declared.refusals.Refusal.{Refusal, TheVariants.{BadSetup, EventExists}}}
use Rattle.er_rules.specs.Commands.{first_refusal}
use Rattle.er_desk.specs.{declared.desk.Desk.Desk, Desk.{DeskState, running_at}, History.new_point}
use Rattle.er_cli.specs.inside.Desk.{desk_state_of}
use Rattle.er_cli.proofs.script.Runner.init.Goals as goal

abbrev started : List ℕ → ℕ → ℕ → DeskState
started name rounds cut = running_at (new_point name rounds cut) 2

represents : (desk : Option (Desk MemStore over_memory)) → is_some (desk_state_of desk) ≡ is_some desk
represents None = refl
represents (Some desk) = refl

-- an event may be set up so, and there is none
not_yet : (setup exists : Bool) (P : Type 0) (Q : Refusal → Type 0) → setup ≡ true → exists ≡ false → P
    → MatchOption (first_refusal ((not setup, BadSetup) ∷ (exists, EventExists) ∷ [])) P Q
not_yet setup exists P Q lawful none p = rw (lawful, none) p

-- or there is one
already : (setup exists : Bool) (P : Type 0) (Q : Refusal → Type 0) → setup ≡ true → exists ≡ true → Q EventExists
    → MatchOption (first_refusal ((not setup, BadSetup) ∷ (exists, EventExists) ∷ [])) P Q
already setup exists P Q lawful there q = rw (lawful, there) q

pub returns-clause-sets_up : goal.returns-clause-sets_up
returns-clause-sets_up c =
    let named = c.in_ok-name.ensures.ok in
    not_yet _ _ _ _ named.1 (represents c.args.self.now.desk ∙ (sym c.is_some.ensures ∙ c.if-is_some.false)) (inl (
      refl,
      ap Some
          (c.in_ok-desk.ensures.made ∙ ap (λ (name : List ℕ). started name c.args.rounds c.args.cut) named.0),
    ))

pub returns-then-is_some-clause-sets_up : goal.returns-then-is_some-clause-sets_up
returns-then-is_some-clause-sets_up c =
    already _ _ _ _ c.in_ok-name.ensures.ok.1 (represents c.args.self.now.desk ∙ (sym c.is_some.ensures ∙ c.if-is_some.true))
    (inl refl, refl)
