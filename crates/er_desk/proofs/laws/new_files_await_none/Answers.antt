use Rattle.er_desk.proofs.Adopting.{new_awaits}
use Rattle.er_desk.proofs.laws.new_files_await_none.Goals as goal

pub returns : goal.returns
returns c = new_awaits
