use Rattle.std.proofs.Common.{◌≡◌, ◌∷◌, map, take}
use Rattle.er_paper.specs.Csv.{csv_text}
use Rattle.er_paper.specs.{inside.Writer.{IsPlainWriter, written_bytes}, Tables.{players_heading, player_fields}}
use Rattle.er_paper.proofs.exports.players_csv.Given as goal

abbrev pub invariant-loop-player : goal.invariant-loop-player
invariant-loop-player l = record {
  plain : IsPlainWriter l.table;
  text : written_bytes l.table ≡ csv_text (players_heading ∷ map player_fields (take l.player-index l.player-items));
}
