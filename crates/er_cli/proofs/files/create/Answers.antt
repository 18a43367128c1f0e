use Rattle.er_cli.proofs.{Leaving.cleared_held, Making.not_made}
use Rattle.er_cli.proofs.files.create.Goals as goal

pub returns-clause-makes : goal.returns-clause-makes
returns-clause-makes g c = not_made c.next_sessions.ensures _ _ c.in-Err.fault c.clear_fault.result.why c.clear_fault.result.left
    c.clear_fault.ensures.why c.clear_fault.ensures.left
    c.in-Err.ensures.makes.why c.in-Err.ensures.makes.unopened c.in-Err.ensures.makes.exists c.in-Err.ensures.makes.spares
    c.in-Err.ensures.makes.crash c.in-Err.ensures.makes.beside_crash
    c.in-Err.ensures.makes.spared c.in-Err.ensures.makes.again

pub returns-clause-held : goal.returns-clause-held
returns-clause-held g c = cleared_held c.in-Err.fault c.clear_fault.result.left _ _ _ c.clear_fault.ensures.left
    c.in-Err.ensures.held c.clear_fault.ensures.held
