use Rattle.er_event.proofs.Prelude.{arith, sym, ◌∙◌}
use Rattle.er_event.proofs.MissedLemmas.{joined-new, joined-others}
use Rattle.er_event.proofs.totals.joined_with.Goals as goal

pub returns-then-from-players : goal.returns-then-from-players
returns-then-from-players c new number joined =
    let ps = c.args.players.now in
    sym (joined-new 1 c.args.player ps new c.requires number (omega (arith, c.from.ensures, c.if-from-players.true)) ∙ joined)

pub returns-else-from-players : goal.returns-else-from-players
returns-else-from-players c new number joined =
    c.joined_of.ensures ∙ sym (joined-others c.args.player c.args.players.now new (λ same.
    c.if-from-players.false (omega (arith, c.from.ensures, number, same))))
