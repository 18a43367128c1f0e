use Rattle.er_cli.proofs.opening.open_desk.Goals as goal

pub returns-clause-opens : goal.returns-clause-opens
returns-clause-opens g c = c.adopt_opened.ensures.opens ((g.H.Host.world c.args.host.now).image c.args.path.now) c.open.ensures.opens
