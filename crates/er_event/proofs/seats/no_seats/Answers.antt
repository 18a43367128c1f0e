use Rattle.er_event.proofs.Prelude.{None}
use Rattle.std.proofs.lemmas.List.{get_or-replicate}
use Rattle.er_event.proofs.seats.no_seats.Goals as goal

pub returns : goal.returns
returns c = λ number within. get_or-replicate 513 number None None within
