use Rattle.er_event.proofs.Prelude.{AreOver, All, length, rounds_with_score, take, ◌≡◌}
use Rattle.er_event.specs.inside.Played.{ArePlayed}
use Rattle.er_event.proofs.totals.all.played_with.Given as goal

abbrev pub invariant-loop-at : goal.invariant-loop-at
invariant-loop-at l = record {
  played : ArePlayed (take l.at (rounds_with_score l.rounds l.new.place l.new.table l.new.score)) l.played;
  over : All (AreOver l.at) l.played;
  long : length l.played ≡ 513;
}
