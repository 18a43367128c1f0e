use Rattle.sqlite.specs.Files.{over_files}
use Rattle.er_cli.proofs.GoingOn.{may_migrate, migration_leads}
use Rattle.er_cli.proofs.laws.migrations_go_on.Goals as goal

pub returns-clause-may : goal.returns-clause-may
returns-clause-may g c image first desk clean again sees =
    may_migrate g.D.Disk image first desk (record { finds = λ _. again; sees = sees }) clean

pub returns-clause-lead : goal.returns-clause-lead
returns-clause-lead g c = migration_leads over_files
