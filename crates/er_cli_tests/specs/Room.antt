-- What a host in memory has.
use Rattle.std.specs.Prelude.{[], Option, Some, None}
use Rattle.sqlite_disk.specs.declared.Files.{Files}
use Rattle.sqlite_disk.specs.declared.memory.Memory.{Memory}
use Rattle.sqlite_disk.specs.Memory.{memory_bytes}
use Rattle.sqlite_wal.specs.Recovery.{Image}

-- what its two files hold, until they are opened
abbrev pub room_image : Option (Files Memory) → Image
room_image None = record { log = []; db = [] }
room_image (Some files) = record { log = memory_bytes files.log; db = memory_bytes files.db }
