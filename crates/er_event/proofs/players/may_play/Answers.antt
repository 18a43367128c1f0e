use Rattle.er_event.proofs.Prelude.{arith}
use Rattle.er_event.proofs.PartsLemmas.{plays}
use Rattle.er_event.proofs.players.may_play.Goals as goal

pub returns : goal.returns
returns c =
    let few = c.if-players-from.false in (
      λ yes. plays c.args.phase c.args.rounds c.args.players.now (omega arith) (c.are_numbered.ensures.0 c.if-not-are_numbered.false)
          (c.are_distinct.ensures.0 c.if-not-are_distinct.false) c.requires (c.suits.ensures.0 yes),
      λ are. c.suits.ensures.1 (record { enrolling = are.enrolling; early = are.early; joined = are.joined; started = are.started }),
    )
