-- An event that is made in a file.
use Rattle.std.specs.Prelude.{◌≡◌, ◌⊎◌, ℕ, List, Result, Err, MatchResult}
use Rattle.sqlite_disk.specs.declared.Disk.{Ghosts}
use Rattle.sqlite_store.specs.declared.store.FileStore.{FileStore}
use Rattle.sqlite.specs.Files.{over_files}
use Rattle.sqlite_wal.specs.Recovery.{Image}
use Rattle.er_event.specs.declared.refusals.Refusal.TheVariants.{BadSetup}
use Rattle.er_event.specs.Sound.{IsSetUp}
use Rattle.er_desk.specs.declared.desk.Desk.{Desk}
use Rattle.er_desk.specs.Files.{HasMade}
use Rattle.er_desk.specs.History.{new_point}
use Rattle.er_cli.specs.Files.{HasMadeNone}
use Rattle.er_cli.specs.declared.remains.Remains.TheVariants.{Nothing}
use Rattle.er_cli.specs.declared.remains.OpenError.{OpenError}

-- there is a desk over it, or why there is none, and what is left then
abbrev pub InitReplies : {D : Type 0} (g : Ghosts D) → Image → List ℕ → ℕ → ℕ
    → Result (Desk (FileStore D g) over_files) (OpenError D g) → Type 0
InitReplies g image name rounds cut made =
    (IsSetUp name rounds cut × MatchResult made (HasMade image name rounds cut)
    (λ it. HasMadeNone image (new_point name rounds cut) it.why it.left))
    ⊎ ((IsSetUp name rounds cut → ⊥) × (made ≡ Err (record { why = BadSetup; left = Nothing })))
