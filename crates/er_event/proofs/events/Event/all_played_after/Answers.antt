use Rattle.er_event.proofs.Prelude.{AddRound, Fits, IsRound, Round, numbers, SetScore, subst}
use Rattle.er_event.proofs.{Pairs.All-last, RescoredLemmas.{as-scored, has-table}}
use Rattle.er_event.proofs.events.Event.all_played_after.Goals as goal

pub played_with_round-requires-clause-seated_now : goal.played_with_round-requires-clause-seated_now
played_with_round-requires-clause-seated_now c =
    let e = c.args.self.now in
    let ms = c.in-AddRound.matches in
    let fits : Fits e (AddRound ms) = subst (Fits e) c.in-AddRound.is c.requires in
    rw c.as_slice.ensures
    (All-last (λ (r : Round). IsRound (numbers e.players) r.matches) e.stored (record { matches = ms }) fits.sound.rounds.each).seated_once

pub played_with-requires-clause-table : goal.played_with-requires-clause-table
played_with-requires-clause-table c =
    let score = c.in-SetScore in
    let fits : Fits c.args.self.now (SetScore score.round score.table score.score) = subst (Fits c.args.self.now) score.is c.requires in
    rw (c.stored-stored.ensures.value, c.from.ensures, c.from-in-SetScore.ensures)
    (has-table c.args.self.now score.round score.table score.score fits)

pub returns-in-SetScore-clause-played : goal.returns-in-SetScore-clause-played
returns-in-SetScore-clause-played c =
    let score = c.in-SetScore in
    let fits : Fits c.args.self.now (SetScore score.round score.table score.score) = subst (Fits c.args.self.now) score.is c.requires in
    let rounds = as-scored c.args.self.now score.round score.table score.score fits in
    rw (score.is, ← rounds) (rw (c.stored-stored.ensures.value, c.from.ensures, c.from-in-SetScore.ensures) at c.played_with.ensures.played)
