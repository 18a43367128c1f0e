use Rattle.std.proofs.Common.{inl, inr, refl, ◌∙◌, arith}
use Rattle.er_cli.proofs.Connecting.{count_in_part, port_alone, port_in_part}
use Rattle.er_cli.proofs.serving.serve_all.Goals as goal

pub returns-in_default-clause-printed : goal.returns-in_default-clause-printed
returns-in_default-clause-printed g c =
    port_in_part c.args.port c.args.count _ _ _ (c.as_slice.ensures ∙ c.listening_line.ensures) c.in_default.ensures.part

pub returns-in_default-serve_clients-clause-printed : goal.returns-in_default-serve_clients-clause-printed
returns-in_default-serve_clients-clause-printed g c =
    port_alone c.args.port c.args.count _ _ _ (c.as_slice.ensures ∙ c.listening_line.ensures) c.in-Ok.ensures.sent

pub returns-in-Err-clause-printed : goal.returns-in-Err-clause-printed
returns-in-Err-clause-printed g c = count_in_part c.args.port c.args.count _ _ _ (c.as_slice.ensures ∙ c.listening_line.ensures) _ _
    (c.as_slice-2.ensures ∙ c.served_line.ensures) c.in-Ok.ensures.sent c.in-Err.ensures.part

-- ---- the clients

pub returns-in_default-clause-turns : goal.returns-in_default-clause-turns
returns-in_default-clause-turns g c = (_, inr (refl, (0, omega arith, (_, (refl, refl, refl)))), c.asks_nothing.ensures)

pub returns-in_default-serve_clients-clause-turns : goal.returns-in_default-serve_clients-clause-turns
returns-in_default-serve_clients-clause-turns g c = let it = c.in_default-serve_clients.ensures.turns in (it.0, inr (refl, it.1), it.2)

pub returns-in-Ok-print-clause-turns : goal.returns-in-Ok-print-clause-turns
returns-in-Ok-print-clause-turns g c = let it = c.in-Ok-serve_clients.ensures.turns in (it.0, inl (refl, it.1), it.2)

pub returns-in-Err-clause-turns : goal.returns-in-Err-clause-turns
returns-in-Err-clause-turns g c =
    let it = c.in-Ok-serve_clients.ensures.turns in (it.0, inr (refl, (c.args.count, omega arith, it.1)), it.2)
