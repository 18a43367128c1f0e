use Rattle.er_cli.proofs.Sending.{whole_part, part_kept, err_is}
use Rattle.er_cli.proofs.texts.AnyPrint.print.Goals as goal

pub returns-clause-part : goal.returns-clause-part
returns-clause-part g c =
    let all = whole_part _ _ _ c.in_ok-send.ensures.sent in
    err_is c.flush.result (part_kept _ _ _ _ all c.flush.ensures)
