use Rattle.std.proofs.Common.{◌≡◌, ◌++◌, take}
use Rattle.er_paper.specs.Csv.{csv_text}
use Rattle.er_paper.specs.{inside.Writer.{IsPlainWriter, written_bytes}, Tables.rounds_table}
use Rattle.er_paper.proofs.exports.push_rounds.Given as goal

abbrev pub invariant-loop-place : goal.invariant-loop-place
invariant-loop-place l = record {
  plain : IsPlainWriter l.table;
  text : written_bytes l.table ≡ written_bytes l.fn.table ++ csv_text (rounds_table 1 (take l.place l.rounds));
}
