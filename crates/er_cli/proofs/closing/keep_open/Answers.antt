use Rattle.er_cli.proofs.Leaving.{keeps_taken}
use Rattle.er_cli.proofs.closing.keep_open.Goals as goal

pub returns-clause-taken : goal.returns-clause-taken
returns-clause-taken g c = keeps_taken c.args.conn c.into_store.result c.into_store.ensures.quiet c.into_store.ensures.sound
    c.into_store.ensures.numbered
