-- What an event is set up with.
use Rattle.std.specs.Prelude.{ℕ, nat_le, Bool, not, ◌&&◌, List, [], ◌∷◌}
use Rattle.er_share.specs.declared.TheConstants.{MAX_ROUNDS}
use Rattle.er_event.specs.declared.refusals.Refusal.TheVariants.{EventExists, BadSetup}
use Rattle.er_event.specs.Name.{is_lawful_name}
use Rattle.er_event.specs.Sound.{is_lawful_cut}
use Rattle.er_rules.specs.Commands.{Check}

abbrev pub is_setup : List ℕ → ℕ → ℕ → Bool
is_setup name rounds cut = is_lawful_name name && (nat_le 1 rounds && nat_le rounds MAX_ROUNDS) && is_lawful_cut cut

-- the checks of an event that is to be made, in order
abbrev pub init_checks : Bool → List ℕ → ℕ → ℕ → List Check
init_checks exists name rounds cut = (not (is_setup name rounds cut), BadSetup) ∷ (exists, EventExists) ∷ []
