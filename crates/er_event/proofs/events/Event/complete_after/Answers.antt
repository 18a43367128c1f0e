use Rattle.er_event.proofs.Prelude.{Fits, SetScore, subst, ap, sym, ◌∙◌}
use Rattle.er_event.proofs.{MissedLemmas.{complete, complete-after}, RescoredLemmas.{as-scored, has-table}}
use Rattle.er_event.proofs.events.Event.complete_after.Goals as goal

pub complete_with-requires-clause-table : goal.complete_with-requires-clause-table
complete_with-requires-clause-table c =
    let score = c.in-SetScore in
    let fits : Fits c.args.self.now (SetScore score.round score.table score.score) =
    subst (Fits c.args.self.now) score.is c.requires.fits in
    rw (c.stored-stored.ensures.value, c.from.ensures, c.from-in-SetScore.ensures)
    (has-table c.args.self.now score.round score.table score.score fits)

pub returns-in-SetScore : goal.returns-in-SetScore
returns-in-SetScore c =
    let score = c.in-SetScore in
    let fits : Fits c.args.self.now (SetScore score.round score.table score.score) =
    subst (Fits c.args.self.now) score.is c.requires.fits in
    let rounds = as-scored c.args.self.now score.round score.table score.score fits in
    rw (score.is, ← rounds) (rw (c.stored-stored.ensures.value, c.from.ensures, c.from-in-SetScore.ensures) at c.complete_with.ensures)

pub returns-in_default : goal.returns-in_default
returns-in_default c =
    let e = c.args.self.now in
    c.complete_of.ensures ∙ (ap (complete c.args.first) c.stored-stored.ensures.value
    ∙ sym (complete-after e c.args.change.now c.args.first c.requires.few c.in_default.not-SetScore))
