use Rattle.std.proofs.Common.{arith}
use Rattle.er_rank.specs.Tally.{match_win_of, game_win_of}
use Rattle.er_rank.proofs.OpponentLemmas.{count-of}
use Rattle.er_rank.proofs.opponents.Opponents.with.Goals as goal

pub with-requires-clause-room : goal.with-requires-clause-room
with-requires-clause-room c =
    let room = c.requires.room in
    omega (arith, count-of c.args.self.match_win match_win_of room.0 room.1.match_win, room.2)

pub with-requires-2-clause-room : goal.with-requires-2-clause-room
with-requires-2-clause-room c =
    let room = c.requires.room in
    omega (arith, count-of c.args.self.game_win game_win_of room.0 room.1.game_win, room.2)
