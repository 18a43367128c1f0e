use Rattle.er_event.proofs.Prelude.{IsEnd, match_with_score, EventValue, IsSoundButForSeeds, Match, Bor, IsTrue, List, Some, ap, arith}
use Rattle.er_event.proofs.Prelude.{length, none-some, option_map, refl, subst, sym, true≢false, ◌-◌, ◌↔◌, ◌∙◌, set}
use Rattle.er_event.proofs.EndLemmas.{behind-none, behind-some, beq-same, later-read, none-map, same-beq, same-bools, slot-set}
use Rattle.er_event.proofs.{EndLemmas.{slot-within, stage-few, stage-within}, SlotLemmas.Stands}
use Rattle.er_event.proofs.SlotScoreLemmas.{Fits-last, Fits-later, fits-playoff}
use Rattle.er_event.proofs.SlotScoreLemmas.{last-Fits, later-decided, later-none, later-stands}
use Rattle.er_event.proofs.events.Event.fits_bracket_score.Goals.{then-is_some-via-else-is_some+then-not-follows}
use Rattle.er_event.proofs.events.Event.fits_bracket_score.Goals.{then-is_some-via-then-is_some}
use Rattle.er_event.proofs.events.Event.fits_bracket_score.Goals as goal

pub returns-in_default : goal.returns-in_default
returns-in_default c = (
  λ never. absurd (true≢false (sym never)),
  λ fits. absurd (none-some fits.named.0 (c.in_default.ensures.value ∙ fits.named.1)),
)

pub bounds-stages-from : goal.bounds-stages-from
bounds-stages-from c =
    let h = subst IsSoundButForSeeds c.self.view_is c.self.invariant in
    let list = c.as_slice-stages.ensures ∙ ap (λ (v : EventValue). v.bracket.stages) c.self.view_is in
    stage-within c.args.self.now c.args.stage c.args.slot c.in-Some.played.now (sym c.in-Some.ensures.value) h c.as_slice-stages.result.now
    list c.from.result c.args.slot c.from.ensures refl

pub with_match-slots-requires-clause-few : goal.with_match-slots-requires-clause-few
with_match-slots-requires-clause-few c =
    let h = subst IsSoundButForSeeds c.self.view_is c.self.invariant in
    let list = c.as_slice-stages.ensures ∙ ap (λ (v : EventValue). v.bracket.stages) c.self.view_is in
    rw (c.as_slice-matches.ensures) (stage-few c.args.self.now c.args.stage c.args.slot c.in-Some.played.now (sym c.in-Some.ensures.value) h
    c.as_slice-stages.result.now list c.from.result c.from-2.result c.from.ensures c.from-2.ensures c.index-stages-from.result
    c.index-stages-from.is)

pub with_match-slots-requires-clause-within : goal.with_match-slots-requires-clause-within
with_match-slots-requires-clause-within c =
    let h = subst IsSoundButForSeeds c.self.view_is c.self.invariant in
    let list = c.as_slice-stages.ensures ∙ ap (λ (v : EventValue). v.bracket.stages) c.self.view_is in
    rw (c.as_slice-matches.ensures)
    (slot-within c.args.self.now c.args.stage c.args.slot c.in-Some.played.now (sym c.in-Some.ensures.value) h
    c.as_slice-stages.result.now list c.from.result c.from-2.result c.from.ensures c.from-2.ensures c.index-stages-from.result
    c.index-stages-from.is)

pub returns-then-not-is_playoff : goal.returns-then-not-is_playoff
returns-then-not-is_playoff c =
    let h = subst IsSoundButForSeeds c.self.view_is c.self.invariant in
    grind (arith, fits-playoff c.args.self.now c.args.stage c.args.slot c.args.score c.in-Some.played.now (sym c.in-Some.ensures.value) h)

pub returns-in_default-get : goal.returns-in_default-get
returns-in_default-get c =
    let e = c.args.self.now in
    let h = subst IsSoundButForSeeds c.self.view_is c.self.invariant in
    let m = c.in-Some.played.now in
    let is = sym c.in-Some.ensures.value in
    let list = c.as_slice-stages.ensures ∙ ap (λ (v : EventValue). v.bracket.stages) c.self.view_is in
    let made = slot-set e c.args.stage c.args.slot m is h c.as_slice-stages.result.now list c.from.result c.from-2.result c.from.ensures
    c.from-2.ensures c.index-stages-from.result c.index-stages-from.is c.args.score _
    (c.with_match-slots.ensures
    ∙ ap (λ (t : List Match). set t (c.from-2.result - 1) (match_with_score c.args.score m)) c.as_slice-matches.ensures) in
    let next = option_map (λ (n : Bor (List Match)). n.now) c.args.next in
    let past = c.in_default-get.ensures.lookup.3 in
    let count = ap length list in
    let last = behind-none e c.args.stage c.args.slot m is h (omega (arith, c.from-3.ensures)) in
    let over = c.is_over_after-over.ensures in
    let end = subst (λ (t : List Match). IsTrue c.is_end.result ↔ IsEnd t next c.is_over_after-over.result) made c.is_end.ensures in
    let yes = Fits-last e c.args.stage c.args.slot c.args.score m is h next c.args.finished last c.is_over_after-over.result over in
    let fits = last-Fits e c.args.stage c.args.slot c.args.score m is h next c.args.finished last c.is_over_after-over.result over in
    (λ is_end. yes (sym c.is_playoff.ensures ∙ c.if-not-is_playoff.false) (end.0 is_end), λ change. end.1 (fits change))

pub returns-then-is_some : goal.returns-then-is_some
returns-then-is_some c = (
  λ never. absurd (true≢false (sym never)),
  λ fits.
      let e = c.args.self.now in
      let h = subst IsSoundButForSeeds c.self.view_is c.self.invariant in
      let m = c.in-Some.played.now in
      let is = sym c.in-Some.ensures.value in
      let list = c.as_slice-stages.ensures ∙ ap (λ (v : EventValue). v.bracket.stages) c.self.view_is in
      let made = slot-set e c.args.stage c.args.slot m is h c.as_slice-stages.result.now list c.from.result c.from-2.result c.from.ensures
      c.from-2.ensures c.index-stages-from.result c.index-stages-from.is c.args.score _
      (rw (c.as_slice-matches.ensures) at c.with_match-slots.ensures) in
      let look = c.in-Some-get.ensures.lookup in
      let at = later-read e c.args.stage c.as_slice-stages.result.now list c.from-3.result c.from-3.ensures c.in-Some-get.later.now look.3.0
      look.1 in
      let there = behind-some e c.args.stage c.args.slot m is h c.in-Some-get.later.now at in
      let none = later-none e c.args.stage c.args.slot c.args.score m is h c.in-Some-get.later.now _ there c.args.finished _ fits in
      let stands = later-stands e c.args.stage c.args.slot c.args.score m is h c.in-Some-get.later.now _ there c.args.finished
      (rw none at fits) in
      grind (arith, made, none, stands, then-is_some-via-then-is_some, then-is_some-via-else-is_some+then-not-follows),
)

pub returns : goal.returns
returns c =
    let e = c.args.self.now in
    let h = subst IsSoundButForSeeds c.self.view_is c.self.invariant in
    let m = c.in-Some.played.now in
    let is = sym c.in-Some.ensures.value in
    let list = c.as_slice-stages.ensures ∙ ap (λ (v : EventValue). v.bracket.stages) c.self.view_is in
    let made = slot-set e c.args.stage c.args.slot m is h c.as_slice-stages.result.now list c.from.result c.from-2.result c.from.ensures
    c.from-2.ensures c.index-stages-from.result c.index-stages-from.is c.args.score _
    (c.with_match-slots.ensures
    ∙ ap (λ (t : List Match). set t (c.from-2.result - 1) (match_with_score c.args.score m)) c.as_slice-matches.ensures) in
    let l = c.in-Some-get.later.now in
    let look = c.in-Some-get.ensures.lookup in
    let at = later-read e c.args.stage c.as_slice-stages.result.now list c.from-3.result c.from-3.ensures l look.3.0 look.1 in
    let there = behind-some e c.args.stage c.args.slot m is h l at in
    let none = none-map c.args.next (sym c.is_some.ensures ∙ c.if-is_some.false) in
    let playoff = sym c.is_playoff.ensures ∙ c.if-not-is_playoff.false in
    let stands = rw (c.as_slice.ensures) at (subst (λ (t : List Match). Stands t (Some c.as_slice.result.now)) made
    (c.follows.ensures.0 c.if-not-follows.false)) in
    let over = c.is_over_after-over.ensures in
    let decided = rw list at c.is_decided.ensures in
    rw none (
      λ yes. (let same = beq-same c.is_over_after-over.result c.is_decided.result yes in
          Fits-later e c.args.stage c.args.slot c.args.score m is h l _ there c.args.finished playoff stands
          (λ fin. decided.0 (sym same ∙ over.1 fin), λ dec. over.0 (same ∙ decided.1 dec))),
      λ fits. (let ended = later-decided e c.args.stage c.args.slot c.args.score m is h l _ there c.args.finished fits in
          same-beq _ _ (same-bools _ _ (λ yes. decided.1 (ended.0 (over.0 yes)), λ dec. over.1 (ended.1 (decided.0 dec))))),
    )
