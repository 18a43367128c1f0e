use Rattle.er_event.proofs.Prelude.{has_name, ap, arith, length, not, sym, ◌<◌, ◌∙◌, ◌≡◌}
use Rattle.er_event.proofs.PlayerLemmas.{IsSound-new, IsSound-with}
use Rattle.er_event.proofs.events.Event.fits_player.Goals as goal

pub returns-then-players-from : goal.returns-then-players-from
returns-then-players-from c =
    let e = c.args.self.now in
    let name = c.args.name.now in
    let lawful = c.has_name.ensures.lawful in
    let same = ap length c.players-players.ensures.value in
    let room : length e.players < 512 = omega arith in
    let test : c.has_name.result ≡ has_name e.players name =
    c.has_name.ensures.value ∙ ap (λ ps. has_name ps name) c.players-players.ensures.value in (
      λ new. IsSound-with e name c.players-players.ensures.sound lawful room (ap not (sym test) ∙ new),
      λ sound. ap not test ∙ IsSound-new e name sound,
    )
