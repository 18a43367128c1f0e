use Rattle.sqlite_wal.specs.Files.{image_at}
use Rattle.er_desk.proofs.opening.open.Goals as goal

pub returns : goal.returns
returns g c = c.adopt_opened.ensures.opens (image_at g.S.Start) c.open_files.ensures
