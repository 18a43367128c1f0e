use Rattle.er_event.proofs.Prelude.{Player, ap, find, ◌==◌, ◌∙◌}
use Rattle.er_event.proofs.DropLemmas.{found-drops, found-has}
use Rattle.er_event.proofs.events.Event.player.Goals as goal

pub returns-clause-fits : goal.returns-clause-fits
returns-clause-fits c =
    found-drops c.args.self.now c.args.number c.player_of.result c.players.ensures.sound
    (c.player_of.ensures ∙ ap (find (λ (q : Player). q.no == c.args.number)) c.players.ensures.value)

pub returns-clause-found : goal.returns-clause-found
returns-clause-found c =
    found-has c.args.number c.args.self.now.players c.player_of.result
    (c.player_of.ensures ∙ ap (find (λ (q : Player). q.no == c.args.number)) c.players.ensures.value)
