use Rattle.er_event.proofs.Prelude.{has_name, ap, not, sym, ◌∙◌, ◌≡◌}
use Rattle.er_event.proofs.PlayerLemmas.{IsSound-with}
use Rattle.er_event.proofs.events.Event.has_name.Goals as goal

pub returns-clause-fits : goal.returns-clause-fits
returns-clause-fits c new room =
    let e = c.args.self.now in
    let name = c.args.name.now in
    let test : c.has_name.result ≡ has_name e.players name =
    c.has_name.ensures.value ∙ ap (λ ps. has_name ps name) c.players.ensures.value in
    record {
      named = tt;
      sound = IsSound-with e name c.players.ensures.sound c.has_name.ensures.lawful room
          (ap not (sym test) ∙ ap not new);
    }
