use Rattle.std.specs.List.{enumerate_from}
use Rattle.std.proofs.Common.{◌≡◌, ◌++◌, flat_map, take}
use Rattle.er_paper.specs.inside.Writer.{IsPlainWriter, written_bytes}
use Rattle.er_paper.proofs.Rows.{result_row}
use Rattle.er_paper.proofs.exports.push_round.Given as goal

abbrev pub invariant-loop-place : goal.invariant-loop-place
invariant-loop-place l = record {
  plain : IsPlainWriter l.table;
  text : written_bytes l.table ≡ written_bytes l.fn.table ++ flat_map (result_row l.round) (enumerate_from 1 (take l.place l.matches));
}
