-- Each player of a sound event's bracket is one of the event's, and so is its champion.
use Rattle.std.proofs.{lemmas.Grind.common_steps, Common.{◌≡◌, ℕ, ◌≤◌, ◌&&◌, inr, Bool, true, List, [], ◌∷◌, length, flat_map, Contains}}
use Rattle.std.proofs.Common.{IsSome, IfSome, Option, Some, None, is_some, sym, subst, true≢false, arith}
use Rattle.std.proofs.{lemmas.List.Elements.recursion_from_All, lemmas.List.FromFn.{get_or-range_with_len, length-range_with_len}}
use Rattle.std.proofs.lemmas.Option.{none-some, same_Some, MatchOption-at_some}
use Rattle.std.specs.List.{slice_get, range_with_len, AllByRecursion}
use Rattle.er_event.specs.{declared.events.Phase.TheVariants.Finished, declared.matches.Match.Match, declared.scores.Games.Games}
use Rattle.er_event.specs.{declared.players.TheConstants.MAX_PLAYERS, Event.EventValue, Round.{is_complete, seats}, Bracket.winner}
use Rattle.er_event.specs.{Bracket.{winner_with, next_stage, SameSlots, FollowOn, last_match}, Sound.{numbers, IsSoundButForSeeds}}
use Rattle.er_bracket.proofs.LastLemmas.{last-after}

and-first : (a b : Bool) → (a && b) ≡ true → a ≡ true
and-first h1 b h = grind (arith, common_steps)

and-second : (a b : Bool) → (a && b) ≡ true → b ≡ true
and-second h1 b h = grind (arith, common_steps)

played-true : (score : Option Games) → IsSome score → is_some score ≡ true
played-true h1 h = grind (arith, common_steps)

-- ---- what both players of each match have, the winner has

module _ (P : ℕ → Type 0) where
  abbrev Both : Match → Type 0
  Both m = P m.a × P m.b

  abbrev Each : List Match → Type 0
  Each [] = Unit {0}
  Each (m ∷ ms) = Both m × Each ms

  each-seated : (ms : List Match) → AllByRecursion P (flat_map seats ms) → Each ms
  each-seated [] h = tt
  each-seated (m ∷ ms) h = ((h.0, h.1.0), each-seated ms h.1.1)

  won-with : (m : Match) (score : Option Games) → is_some score ≡ true → Both m → P (winner_with m score)
  won-with m None played h = absurd (true≢false (sym played))
  won-with m (Some s) played h = grind (arith, common_steps)

  won : (m : Match) → is_some m.score ≡ true → Both m → P (winner m)
  won m played h = won-with m m.score played h

  -- those who go on from a complete stage
  next-each : (ms : List Match) → is_complete ms ≡ true → Each ms → Each (next_stage ms)
  next-each [] done h = tt
  next-each (m ∷ []) done h = tt
  next-each (m ∷ n ∷ more) done h =
      let later = and-second _ _ done in
      ((won m (and-first _ _ done) h.0, won n (and-first _ _ later) h.1.0), next-each more (and-second _ _ later) h.1.1)

  same-each : (ms ns : List Match) → SameSlots ms ns → Each ns → Each ms
  same-each [] [] same h = tt
  same-each [] (n ∷ ns) same h = absurd same
  same-each (m ∷ ms) [] same h = absurd same
  same-each (m ∷ ms) (n ∷ ns) same h = ((subst P (sym same.0.0) h.0.0, subst P (sym same.0.1) h.0.1), same-each ms ns same.1 h.1)

  last-both : (stage : List Match) (later : List (List Match)) (m : Match) → FollowOn (stage ∷ later) → Each stage
      → last_match (stage ∷ later) ≡ Some m → Both m
  last-both [] [] m follow h is = absurd (none-some m is)
  last-both (n ∷ []) [] m follow h is = subst Both (same_Some n m is) h.0
  last-both (n ∷ k ∷ more) [] m follow h is = absurd (none-some m is)
  last-both stage (next ∷ more) m follow h is =
      grind (arith, common_steps, last-after, next-each, next_stage, same-each, last-both next more m follow.3)

  from-first : (stages : List (List Match)) (first : List Match) (m : Match) → slice_get stages 0 ≡ Some first → FollowOn stages
      → Each first → last_match stages ≡ Some m → Both m
  from-first [] first m at follow h is = absurd (none-some first at)
  from-first (stage ∷ later) first m at follow h is = last-both stage later m follow (subst Each (sym (same_Some stage first at)) h) is

-- ---- the last match of an event whose playoff is over

known-number : (players k : ℕ) → Contains (range_with_len 1 players) k → (1 ≤ k) × (k ≤ players)
known-number players k has = grind (arith, common_steps, get_or-range_with_len, length-range_with_len)

module _ (e : EventValue) (sound : IsSoundButForSeeds e) (over : e.phase ≡ Finished) (m : Match)
    (is : last_match e.bracket.stages ≡ Some m) where
  last-played : IsSome m.score
  last-played = MatchOption-at_some ⊥ (λ (k : Match). IsSome k.score) m is (sound.bracket.decided over)

  pub winner-known : (1 ≤ winner m) × (winner m ≤ MAX_PLAYERS)
  winner-known =
      let known : ℕ → Type 0 = λ k. Contains (numbers e.players) k in
      let b = sound.bracket.bracket (inr over) in
      let seated = each-seated known b.first (recursion_from_All known (flat_map seats b.first) b.known_players) in
      let has = won known m (played-true m.score last-played) (from-first known e.bracket.stages b.first m b.is_first b.follows seated is)
      in
      let within = known-number (length e.players) (winner m) (subst (λ (ns : List ℕ). Contains ns (winner m)) sound.players.numbered has)
      in
      let few = sound.players.few in
      (within.0, omega arith)

pub some-number : (number : Option ℕ) (k : ℕ) → IsSome number → IfSome number (λ n. n ≡ k) → number ≡ Some k
some-number h1 k some is = grind (arith, common_steps)
