use Rattle.er_event.proofs.Prelude.{AreOver, All, length, take, ◌≡◌}
use Rattle.er_event.specs.inside.Played.{ArePlayed}
use Rattle.er_event.proofs.totals.all.played_in.Given as goal

abbrev pub invariant-loop-round : goal.invariant-loop-round
invariant-loop-round l = record {
  played : ArePlayed (take l.round-index l.rounds) l.played;
  over : All (AreOver l.round-index) l.played;
  long : length l.played ≡ 513;
}
