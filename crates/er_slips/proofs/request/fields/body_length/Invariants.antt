use Rattle.std.proofs.Common.{◌≡◌, false, map, take}
use Rattle.std.specs.List.{list_any}
use Rattle.httparse.specs.Spans.{header_bytes}
use Rattle.er_slips.proofs.Named.{HasFound, refused}
use Rattle.er_slips.proofs.request.fields.body_length.Given as goal

abbrev pub invariant-loop-header : goal.invariant-loop-header
invariant-loop-header l = record {
  whole : list_any refused (take l.header-index (map (header_bytes l.bytes) l.headers)) ≡ false;
  found : HasFound (take l.header-index (map (header_bytes l.bytes) l.headers)) l.found;
}
