use Rattle.er_cli.proofs.opening.create_desk.Goals as goal

pub returns-clause-makes : goal.returns-clause-makes
returns-clause-makes g c = c.create_in_opened.ensures.makes ((g.H.Host.world c.args.host.now).image c.args.path.now) c.open.ensures.opens
