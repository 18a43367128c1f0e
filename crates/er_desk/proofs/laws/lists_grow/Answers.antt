use Rattle.er_desk.proofs.Asking.{session_push}
use Rattle.er_desk.proofs.laws.lists_grow.Goals as goal

pub returns : goal.returns
returns c = session_push
