use Rattle.er_event.proofs.Prelude.{EventValue, numbers, Contains, subst, sym}
use Rattle.er_event.proofs.DropLemmas.{numbered-within}
use Rattle.er_event.proofs.events.Event.drop_player.Goals as goal

pub drop_listed-requires-clause-listed : goal.drop_listed-requires-clause-listed
drop_listed-requires-clause-listed c =
    (numbered-within c.self.inside.players.items c.args.player c.self.invariant.players.numbered
    (subst (λ (e : EventValue). Contains (numbers e.players) c.args.player) (sym c.self.view_is) c.requires.0)).1
