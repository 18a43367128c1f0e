use Rattle.er_desk.proofs.Doubting.{ended_last, found}
use Rattle.er_desk.proofs.laws.doubts.Goals as goal

pub returns : goal.returns
returns c new ends session version trees next doubt is other =
    let ended = ended_last new ends (record { session = session; last = next.last }) next.last next.history in
    found c.no_double_effect.ensures doubt other ended.0 next.last session is ended.1
