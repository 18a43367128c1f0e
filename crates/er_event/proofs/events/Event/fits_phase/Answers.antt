use Rattle.er_event.proofs.Prelude.{EventValue, IsPlayoff, IsSoundButForSeeds, Round, List, [], arith, length, sym, ◌∙◌, ◌≡◌, ◌≤◌}
use Rattle.er_event.proofs.Prelude.{Enrolling, Player, Swiss, ap, inl, inr, list_all, nat_tests, nil_from_length, not, refl, true≢false}
use Rattle.er_event.proofs.Prelude.{true, with_phase, ◌==◌}
use Rattle.er_event.proofs.DropLemmas.{All-undropped, IsSound-enrolling, undropped-All}
use Rattle.er_event.proofs.events.Event.fits_phase.Goals as goal

none-when : (rounds : List Round) → (length rounds == 0) ≡ true → rounds ≡ []
none-when rounds test = nil_from_length rounds (grind (arith, nat_tests))

not_playoff : IsPlayoff Swiss → ⊥
not_playoff (inl is) = cc
not_playoff (inr is) = cc

not_enrolling : Swiss ≡ Enrolling → ⊥
not_enrolling is = cc

IsSound-started : (e : EventValue) → IsSoundButForSeeds e → e.phase ≡ Enrolling → 2 ≤ length e.players
    → IsSoundButForSeeds (with_phase e Swiss)
IsSound-started e h was enough = record {
  set_up = h.set_up;
  players = record {
    few = h.players.few;
    numbered = h.players.numbered;
    lawful = h.players.lawful;
    distinct = h.players.distinct;
    enrolling = λ is. absurd (not_enrolling is);
    early = λ is. absurd (not_enrolling is);
    joined = h.players.joined;
    started = λ other. enough;
  };
  rounds = record {
    few = h.rounds.few;
    enrolling = λ is. absurd (not_enrolling is);
    each = h.rounds.each;
    no_repeats = h.rounds.no_repeats;
    earlier_done = h.rounds.earlier_done;
    done = λ is. absurd (not_playoff is);
  };
  missed = h.missed;
  bracket = record {
    none = λ is. h.bracket.none (inl was);
    bracket = λ is. absurd (not_playoff is);
    decided = λ is. absurd (not_playoff (inr is));
    undecided = λ is. absurd (not_playoff (inl is));
  };
}

pub returns-in-Enrolling-Swiss : goal.returns-in-Enrolling-Swiss
returns-in-Enrolling-Swiss c =
    let e = c.args.self.now in
    let is = c.in-Enrolling-Swiss in
    let list = c.players.ensures.value in
    rw (is.is-1, list) (
      λ enough. IsSound-started e c.players.ensures.sound (sym c.phase-now.ensures.value ∙ is.is-0) (grind (arith, nat_tests, enough)),
      λ sound. let enough = sound.players.started not_enrolling in grind (arith, nat_tests, enough),
    )

pub returns-then-is_empty : goal.returns-then-is_empty
returns-then-is_empty c =
    let e = c.args.self.now in
    let was = sym c.phase-now.ensures.value ∙ c.in-Swiss-Enrolling.is-0 in
    let none = none-when e.stored
    (sym (c.is_empty.ensures ∙ ap (λ (rs : List Round). length rs == 0) c.stored.ensures.value) ∙ c.if-is_empty.true) in
    let same = c.is_nobody_dropped.ensures ∙ ap (list_all (λ (p : Player). not p.dropped)) c.players-then-is_empty.ensures.value in
    rw c.in-Swiss-Enrolling.is-1 (
      λ test. IsSound-enrolling e c.phase-now.ensures.sound was none (All-undropped e.players (sym same ∙ test)),
      λ sound. same ∙ undropped-All e.players (sound.players.enrolling refl),
    )

pub returns-else-is_empty : goal.returns-else-is_empty
returns-else-is_empty c = (
  λ yes. absurd (true≢false (sym yes ∙ c.if-is_empty.false)),
  λ sound. c.is_empty.ensures
      ∙ ap (λ (rs : List Round). length rs == 0) (c.stored.ensures.value ∙ sound.rounds.enrolling c.in-Swiss-Enrolling.is-1),
)
