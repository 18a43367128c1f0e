use Rattle.er_event.proofs.Prelude.{IsDecided, EventValue, numbers, [], ap, arith, length, subst, sym, ◌∙◌, ◌∷◌, common_steps}
use Rattle.er_event.proofs.Prelude.{range_with_len}
use Rattle.er_event.proofs.{BracketLemmas.bracket-same, PlayoffLemmas.{no-stage, not-true, opening-first, opening-undecided, sound-opening}}
use Rattle.er_event.proofs.PlayoffLemmas.{true-empty, true-not}
use Rattle.er_event.proofs.events.Event.fits_bracket.Goals as goal

pub returns-then-not-is_empty : goal.returns-then-not-is_empty
returns-then-not-is_empty c = grind (arith, common_steps, opening-first)

pub returns-then-not-is_bracket : goal.returns-then-not-is_bracket
returns-then-not-is_bracket c = grind (arith, common_steps, bracket-same, no-stage, range_with_len, true-empty)

pub returns : goal.returns
returns c =
    let e = c.args.self.now in
    let ms = c.args.matches.now in
    let h = c.players.ensures.sound in
    let list = c.as_slice.ensures ∙ ap (λ (v : EventValue). v.bracket.stages) c.self.view_is in
    let none = no-stage e.bracket.stages (ap length (sym list)
    ∙ true-empty _ c.is_empty.result c.is_empty.ensures c.if-not-is_empty.false) in
    let known = h.players.numbered ∙ ap (range_with_len 1) (sym (ap length c.players.ensures.value)) in
    let cut = sym (ap (λ (v : EventValue). v.cut) c.self.view_is) in
    let one = c.from_ref-stages.ensures.value in
    let bracket = bracket-same _ (numbers e.players) _ e.cut _ (ms ∷ []) (sym known) (sym cut) one
    (c.is_bracket.ensures.0 c.if-not-is_bracket.false) in (
      λ undecided. sound-opening e ms h none (c.has_all_rounds.ensures.0 c.if-not-has_all_rounds.false) bracket
          (λ over. true-not c.is_decided.result undecided (c.is_decided.ensures.1 (subst IsDecided (sym one) over))),
      λ sound. not-true c.is_decided.result (λ over. opening-undecided e ms h none sound
          (subst IsDecided one (c.is_decided.ensures.0 over))),
    )
