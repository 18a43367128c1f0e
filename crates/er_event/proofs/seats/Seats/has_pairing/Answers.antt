use Rattle.er_event.proofs.Prelude.{None, Some, arith, sym, ◌∙◌, ◌≡◌}
use Rattle.er_event.proofs.SeatTables.{pairing-at}
use Rattle.er_event.specs.inside.Seats.{seat_of}
use Rattle.er_event.proofs.seats.Seats.has_pairing.Goals as goal

pub returns-in-Some : goal.returns-in-Some
returns-in-Some c =
    let n = c.args.played.now in
    let ms = c.self.inside.matches.now in
    let is : seat_of ms n.a ≡ Some c.in-Some.seat = sym c.seat_in.ensures ∙ c.in-Some.is in
    let met = rw is at (pairing-at n ms c.self.invariant.seated_once) in
    first_of (cc, grind arith)

pub returns-in-None : goal.returns-in-None
returns-in-None c =
    let n = c.args.played.now in
    let ms = c.self.inside.matches.now in
    let is : seat_of ms n.a ≡ None = sym c.seat_in.ensures ∙ c.in-None.is in
    let met = rw is at (pairing-at n ms c.self.invariant.seated_once) in
    first_of (cc, grind arith)
