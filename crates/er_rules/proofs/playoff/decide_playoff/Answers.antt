use Rattle.std.proofs.{lemmas.Grind.common_steps, Common.{◌≡◌, ◌≤◌, ℕ, ◌-◌, List, All, IfSome, IsTrue, length, get_or, sym, ap, subst, ◌∙◌}}
use Rattle.std.proofs.{Common.arith, lemmas.List.length-set}
use Rattle.er_event.specs.{declared.changes.Change.TheVariants.SetBracketScore, declared.matches.Match.Match, declared.scores.Games.Games}
use Rattle.er_event.specs.{Score.is_playoff_score, Bracket.{stage_after, is_over}, Change.{stage_of, scored_slot}}
use Rattle.er_rules.specs.Step.{scored_at}
use Rattle.er_rules.proofs.{Playing.{IsSlots, low_stage, high_stage, slots, lawful}, playoff.decide_playoff.Goals.In_ok-scored}
use Rattle.er_rules.proofs.playoff.decide_playoff.Goals as goal

abbrev IsLawful : Match → Type 0
IsLawful m = IfSome m.score (λ s. IsTrue (is_playoff_score s))

-- the stage that is read, with the score
made : (stages read : List (List Match)) (k i t : ℕ) (s games : Games) (x new : List Match) → 1 ≤ k → k ≤ length stages
    → read ≡ stages → i ≡ k → x ≡ get_or read (i - 1) x → s ≡ games → new ≡ scored_slot x t s
    → new ≡ scored_slot (stage_of stages k) t games
made stages read k i t s games x new low high same at is score scored = grind (arith, common_steps)

scored_is : (c : In_ok-scored) → c.in_ok-scored.scored ≡ scored_at c.args.event.now c.args.stage c.args.slot c.args.games
scored_is c =
    let e = c.args.event.now in
    let ok = c.in_ok-score.ensures in
    let sound = c.bracket.ensures.sound in
    let stages = c.as_slice.ensures ∙ ap (λ b. b.stages) c.bracket.ensures.value in
    made e.bracket.stages c.as_slice.result.now c.args.stage c.from.result c.args.slot c.in_ok-score.score c.args.games
    c.index-as_slice-from.result c.in_ok-scored.scored (low_stage e sound ok.playing c.args.stage c.args.slot ok.found.0 ok.found.1)
    (high_stage e sound ok.playing c.args.stage c.args.slot ok.found.0 ok.found.1) stages c.from.ensures c.index-as_slice-from.is
    ok.score.0 c.in_ok-scored.ensures

pub stage_after-requires : goal.stage_after-requires
stage_after-requires c =
    let e = c.args.event.now in
    let ok = c.in_ok-score.ensures in
    let sound = c.bracket.ensures.sound in
    let is = c.as_slice-2.ensures ∙ scored_is (goal.at.stage_after-requires c).In_ok-scored in
    let long = length-set (stage_of e.bracket.stages c.args.stage) (c.args.slot - 1) _ in
    record {
      slots = subst IsSlots (sym (ap length is ∙ long)) (slots e sound ok.playing c.args.stage c.args.slot ok.found.0 ok.found.1);
      scores = subst (All IsLawful) (sym is)
          (lawful e sound ok.playing c.args.stage c.args.slot ok.found.0 ok.found.1 c.args.games ok.score.1);
    }

-- the change of the score
change : (c : goal.After-drop-scored-inside-2) → c.in_ok-scored.scored ≡ scored_at c.args.event.now c.args.stage c.args.slot c.args.games
    → SetBracketScore c.args.stage c.args.slot c.in_ok-score.score c.in_ok-next.next c.is_over-finished.result
    ≡ SetBracketScore c.args.stage c.args.slot c.args.games
    (stage_after (scored_at c.args.event.now c.args.stage c.args.slot c.args.games))
    (is_over (scored_at c.args.event.now c.args.stage c.args.slot c.args.games))
change c scored = grind (arith, common_steps)

pub returns-clause-change : goal.returns-clause-change
returns-clause-change c = change c (scored_is (goal.at.returns-clause-change c).In_ok-scored)

pub returns-clause-fits : goal.returns-clause-fits
returns-clause-fits c = grind (arith, common_steps, In_ok-scored, change, scored_is)
