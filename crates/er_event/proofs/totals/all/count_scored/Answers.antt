use Rattle.er_event.proofs.Prelude.{scored_slot, sym, ◌∙◌}
use Rattle.er_event.proofs.PlayedLemmas.{slot-apart, slot-rescores}
use Rattle.er_event.proofs.totals.all.count_scored.Goals as goal

pub add_round-requires-clause-apart : goal.add_round-requires-clause-apart
add_round-requires-clause-apart c =
    slot-apart c.args.matches.now c.args.table c.args.score c.match_with-scored.result c.requires.table.0 c.requires.table.1
    c.match_with-scored.ensures c.requires.seated

pub returns-clause-value : goal.returns-clause-value
returns-clause-value c = λ number.
    let ms = c.args.matches.now in
    let after = scored_slot ms c.args.table c.args.score in
    let new = slot-rescores ms c.args.table c.args.score c.match_with-scored.result c.requires.table.0 c.requires.table.1
    c.match_with-scored.ensures in
    let more = rw c.in-Some.ensures.value at c.add_round.ensures.value in
    rw (sym c.is_complete_with.ensures ∙ c.if-not-is_complete_with.false) (more after new number)
