use Rattle.er_event.proofs.Prelude.{Enrolling, IsPlayoff, IsSoundButForSeeds, IsTrue, List, arith, inl, inr, is_lawful_name}
use Rattle.er_event.proofs.Prelude.{not-suc-le-zero, refl, rules, ℕ}
use Rattle.er_event.specs.{Change.initial_event, Sound.AreLimits}
use Rattle.er_event.proofs.events.Event.create.Goals as goal

not_playoff : IsPlayoff Enrolling → ⊥
not_playoff (inl is) = cc
not_playoff (inr is) = cc

created-sound : (name : List ℕ) (rounds cut : ℕ) → IsTrue (is_lawful_name name) → AreLimits rounds cut
    → IsSoundButForSeeds (initial_event name rounds cut)
created-sound name rounds cut lawful limits = record {
  set_up = record { name = lawful; rounds = (limits.0, limits.1); cut = limits.2 };
  players = record {
    few = omega arith;
    numbered = refl;
    lawful = λ k d below. absurd (not-suc-le-zero below);
    distinct = λ i j d before within. absurd (not-suc-le-zero within);
    enrolling = λ is k d below. absurd (not-suc-le-zero below);
    early = λ is k d below. absurd (not-suc-le-zero below);
    joined = λ k d below. absurd (not-suc-le-zero below);
    started = λ other. absurd (other refl);
  };
  rounds = record {
    few = omega arith;
    enrolling = λ is. refl;
    each = λ k d below. absurd (not-suc-le-zero below);
    no_repeats = λ i j d before within. absurd (not-suc-le-zero within);
    earlier_done = λ k d below. absurd (not-suc-le-zero below);
    done = λ is. absurd (not_playoff is);
  };
  missed = λ k d below. absurd (not-suc-le-zero below);
  bracket = record {
    none = λ is. refl;
    bracket = λ is. absurd (not_playoff is);
    decided = λ is. absurd (not_playoff (inr is));
    undecided = λ is. absurd (not_playoff (inl is));
  };
}

pub invariant_of-result : goal.invariant_of-result
invariant_of-result c =
    let lawful : IsTrue (is_lawful_name c.args.name) = search rules in
    rw (c.new.ensures.items, c.new-2.ensures.items, c.new-3.ensures)
    (created-sound _ _ _ lawful (c.is_setup.ensures.0 c.if-not-is_setup.false))

pub returns-clause-sound : goal.returns-clause-sound
returns-clause-sound c = invariant_of-result c
