use Rattle.er_store.proofs.Prelude.{◌≡◌, ◌∙◌, rules}
use Rattle.er_store.proofs.Tallying.{rows_agree, set_same}
use Rattle.er_store.proofs.transactions.recount_one.Goals as goal

pub returns-in_ok-set_totals-clause-makes : goal.returns-in_ok-set_totals-clause-makes
returns-in_ok-set_totals-clause-makes g c l e before numbered kept leaves s represents clean =
    c.in_ok-set_totals.ensures.makes l e before numbered s represents clean

pub returns-else-corrects-clause-makes : goal.returns-else-corrects-clause-makes
returns-else-corrects-clause-makes g c l e before numbered kept leaves s represents clean =
    let same : c.args.was ≡ c.args.now = search rules in
    rw (← rows_agree before _ e.players numbered.0
    (λ q low high. set_same (λ _. c.args.now) before c.args.player.now.no q (kept ∙ same)))
    (record { leaves = leaves; represents = represents })
