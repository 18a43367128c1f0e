-- How a script ends: what was printed is what is due, or a beginning of it.
use Rattle.std.proofs.Common.{◌≡◌, inl, inr, ℕ, List, Option, refl, sym, subst, arith}
use Rattle.std.proofs.KnownBytes.{Keeps-refl}
use Rattle.std.specs.Io.KnownBytes.{Keeps}
use Rattle.er_cli.specs.declared.TheConstants.{DONE, DEVICE}
use Rattle.er_cli.specs.Status.{Breaks, EndsScript, IsTooLong, RunsScript}
use Rattle.er_cli.specs.inside.Unread.{EndsUnread, UnreadPart}
use Rattle.er_cli.specs.{declared.input.InputFault.InputFault, declared.input.InputFault.TheVariants.{TooLong, Read}}
use Rattle.er_cli.specs.declared.input.InputFault.TheVariants as fault

-- a script that was run to its end
pub Ends-done : (input before after : Option (List ℕ)) → RunsScript input before after → EndsScript input before after DONE
Ends-done input before after served = record {
  done = λ _. served;
  too_long = λ is. absurd (omega (arith, is));
  device = λ is. absurd (omega (arith, is));
  memory = λ is. absurd (omega (arith, is));
  one_of = inl refl;
}

-- the status of a fault says no more than what was printed
pub Ends-device : (input before after : Option (List ℕ)) → Breaks input before after → EndsScript input before after DEVICE
Ends-device input before after breaks = record {
  done = λ is. absurd (omega (arith, is));
  too_long = λ is. absurd (omega (arith, is));
  device = λ _. breaks;
  memory = λ is. absurd (omega (arith, is));
  one_of = inr (inr (inl refl));
}

-- ---- a script that is not run

module _ (input before after : Option (List ℕ)) where
  pub Ends-unread : (fault : InputFault) (status : ℕ) → (fault ≡ TooLong → IsTooLong input) → EndsUnread fault before after status
      → EndsScript input before after status
  Ends-unread TooLong status long (is, printed) = record {
    done = λ other. absurd (omega (arith, is, other));
    too_long = λ _. (long refl, printed);
    device = λ other. absurd (omega (arith, is, other));
    memory = λ other. absurd (omega (arith, is, other));
    one_of = inr (inl is);
  }
  Ends-unread Read status long (is, same) =
      let kept : Keeps before after = rw same (Keeps-refl before) in
      subst (λ (s : ℕ). EndsScript input before after s) (sym is) (Ends-device input before after (inl kept))
  Ends-unread fault.Memory status long (is, printed) = record {
    done = λ other. absurd (omega (arith, is, other));
    too_long = λ other. absurd (omega (arith, is, other));
    device = λ other. absurd (omega (arith, is, other));
    memory = λ _. printed;
    one_of = inr (inr (inr is));
  }

  pub Breaks-unread : (fault : InputFault) → (fault ≡ TooLong → IsTooLong input) → UnreadPart fault before after
      → Breaks input before after
  Breaks-unread TooLong long part = inr (inr (inl (long refl, part)))
  Breaks-unread Read long same = inl same
  Breaks-unread fault.Memory long part = inr (inr (inr part))
