use Rattle.er_event.proofs.Prelude.{complete_results, totals_of, Round, arith, ap, length, ◌+◌, ◌∙◌}
use Rattle.er_event.proofs.PlayedLemmas.{results-push}
use Rattle.er_event.specs.{Totals.plus, declared.totals.Totals.Totals}
use Rattle.er_event.proofs.totals.all.played_with_round.Goals as goal

pub returns-clause-played : goal.returns-clause-played
returns-clause-played c = λ player low within.
    let rounds = c.args.rounds.now in
    let r : Round = record { matches = c.args.matches.now } in
    let n = 1 + length rounds in
    c.count_round.ensures.value n player low (omega arith)
    ∙ (ap (λ (t : Totals). plus t (totals_of (complete_results player (n, r))))
    (c.played_in-played.ensures.played player low (omega arith))
    ∙ results-push player rounds r)

pub returns-clause-over : goal.returns-clause-over
returns-clause-over c = c.count_round.ensures.over (length c.args.rounds.now) c.played_in-played.ensures.over
