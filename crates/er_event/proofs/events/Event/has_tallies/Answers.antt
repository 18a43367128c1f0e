use Rattle.er_event.proofs.Prelude.{tally_row, totals, Player, List, [], ap, ap₂, arith, get_or, length, map, refl, sym, ℕ}
use Rattle.er_event.proofs.Prelude.{◌++◌, ◌<◌, ◌∙◌, ◌∷◌, ◌≡◌, get_or_default, take_all, take_more, TallyRow}
use Rattle.std.proofs.lemmas.List.{map_more}
use Rattle.er_event.proofs.PlayedLemmas.{totals-at}
use Rattle.er_event.specs.Totals.{AreTotals}
use Rattle.er_event.proofs.events.Event.has_tallies.Goals as goal

moved : (rows : List TallyRow) (at : ℕ) (d row : TallyRow) → at < length rows → get_or rows at d ≡ row → row ≡ get_or rows at row
moved rows at d row below is = sym is ∙ get_or_default rows at d row below

pub loop-at-preserved : goal.loop-at-preserved
loop-at-preserved c =
    let event = c.args.self.now in
    let rows = c.args.rows.now in
    let players = c.players-players.result.now in
    let at = c.loop-at.at in
    let below = c.loop-at-test.true in
    let player = c.index-players-at.result in
    let due : Player → TallyRow = λ p. tally_row p.no (totals event p.no) in
    let listed : AreTotals event players c.all_totals-all.result = rw c.players-players.ensures.value c.all_totals-all.ensures in
    let here = c.is_row_of.ensures.0 c.if-not-is_row_of.false
    ∙ (ap (tally_row player.no) (c.of.ensures ∙ totals-at event players c.all_totals-all.result listed at player below
    c.index-players-at.is)
    ∙ ap due c.index-players-at.is) in
    let is = moved rows at _ (due (get_or players at player)) (omega (arith, below, c.if-rows-players.false)) here in
    take_more rows at (due (get_or players at player)) (omega (arith, below, c.if-rows-players.false))
    ∙ (ap₂ (λ (xs : List TallyRow) (r : TallyRow). xs ++ r ∷ []) c.loop-at.invariant (sym is)
    ∙ sym (map_more due players at player below))

pub returns : goal.returns
returns c =
    let event = c.args.self.now in
    let due : Player → TallyRow = λ p. tally_row p.no (totals event p.no) in
    let all : c.args.rows.now ≡ map due event.players =
    sym (take_all c.loop-at.at c.args.rows.now (omega (arith, c.loop-at-test.false, c.if-rows-players.false)))
    ∙ (c.loop-at.invariant ∙ (ap (map due) (take_all c.loop-at.at c.players-players.result.now c.loop-at-test.false)
    ∙ ap (map due) c.players-players.ensures.value)) in
    (λ _. all, λ _. refl)
