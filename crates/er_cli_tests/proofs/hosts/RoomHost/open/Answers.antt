use Rattle.std.proofs.Common.{Option, Some, sym, subst, ◌∙◌}
use Rattle.sqlite.specs.Start.{FindsIn}
use Rattle.sqlite.specs.Files.{file_state}
use Rattle.sqlite_disk.specs.declared.Files.{Files}
use Rattle.sqlite_wal.specs.Recovery.{Image}
use Rattle.sqlite_disk.specs.declared.memory.Memory.{Memory}
use Rattle.er_desk.specs.Opening.{SparesAt}
use Rattle.er_cli_tests.specs.Room.{room_image}
use Rattle.er_cli_tests.proofs.hosts.RoomHost.open.Goals as goal

pub returns-in-Ok-clause-opens : goal.returns-in-Ok-clause-opens
returns-in-Ok-clause-opens c = record {
  new = c.in-Ok.ensures.fresh;
  live = c.in-Ok.ensures.opened;
  found = λ clean.
      let it = c.in-Ok.ensures.found clean in
      let just = c.settle.ensures.just c.if-not-settle.false in
      let there : FindsIn (room_image (Some c.in-Some.files)) (file_state c.in-Ok.conn) =
      subst (λ (image : Image). FindsIn image (file_state c.in-Ok.conn)) just.0 (record { holds = it.holds; reads = it.reads }) in
      subst (λ (files : Option (Files Memory)). FindsIn (room_image files) (file_state c.in-Ok.conn))
      (sym c.in-Some.is ∙ c.take.ensures.value) there;
  spared = tt;
}

pub returns-in-Err-clause-opens : goal.returns-in-Err-clause-opens
returns-in-Err-clause-opens c = record {
  new = tt;
  live = tt;
  found = tt;
  spared = subst (λ (files : Option (Files Memory)). SparesAt (room_image files) c.in-Err.error (Some c.in-Err.left))
      (sym c.in-Some.is ∙ c.take.ensures.value) (
        c.settle.new.files,
        c.settle.ensures.just c.if-not-settle.false,
        λ clean.
            (c.in-Err.ensures.cause clean, c.in-Err.ensures.unharmed clean),
      );
}

pub open_files-requires-clause-log : goal.open_files-requires-clause-log
open_files-requires-clause-log c = c.settle.ensures.log c.if-not-settle.false

pub open_files-requires-clause-db : goal.open_files-requires-clause-db
open_files-requires-clause-db c = c.settle.ensures.db c.if-not-settle.false
