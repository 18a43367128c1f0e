-- The stored matches: their players have numbers in the table, and one more is met.
use Rattle.std.proofs.Common.{◌≡◌, inl, inr, ℕ, ◌+◌, ◌<◌, ◌||◌, Bool, IsFalse, List, length, take, get_or, Contains, arith}
use Rattle.std.proofs.{lemmas.Bool.{cases_eq, ne_eqb}, lemmas.List.Elements.All-contains, lemmas.List.Folds.list_any_more}
use Rattle.std.specs.List.{list_any}
use Rattle.er_event.specs.{declared.matches.Match.Match, declared.rounds.Round.Round, Event.EventValue, Round.is_bye}
use Rattle.er_event.specs.Sound.{IsSoundButForSeeds, IsRound, numbers}
use Rattle.er_pair.proofs.Picking.{In-from_Contains, In-range}

pub seats_small : (event : EventValue) → IsSoundButForSeeds event → (rounds : List Round) → rounds ≡ event.stored → (r : Round)
    → Contains rounds r → (matches : List Match) → matches ≡ r.matches → (m : Match) → Contains matches m → (m.a < 513) × (m.b < 513)
seats_small event sound rounds stored r among matches own m table =
    let ns = numbers event.players in
    let round = All-contains (λ (q : Round). IsRound ns q.matches) event.stored r sound.rounds.each (rw stored at among) in
    let at = rw own at table in (
      known m.a (All-contains (λ (n : Match). Contains ns n.a) r.matches m round.first_known at),
      elim (cases_eq m.b 0) [
        | inl bye ↦ omega arith
        | inr seated ↦
            let second = All-contains (λ (n : Match). IsFalse (is_bye n) → Contains ns n.b) r.matches m round.second_known at in
            known m.b (second (ne_eqb m.b 0 seated))
      ],
    )
  where
    known : (x : ℕ) → Contains (numbers event.players) x → x < 513
    known x found =
        let ns = rw sound.players.numbered at found in
        let few = sound.players.few in
        omega (arith, In-range x 1 (length event.players) (In-from_Contains _ x ns))

-- one more match
pub met_more : (same : Match → Bool) (a before after : Bool) (matches : List Match) (k : ℕ) (m : Match) → k < length matches
    → m ≡ get_or matches k m → before ≡ (a || list_any same (take k matches)) → after ≡ (before || same m)
    → after ≡ (a || list_any same (take (k + 1) matches))
met_more same a before after matches k m within is old new = grind (arith, list_any_more same matches k m within)
