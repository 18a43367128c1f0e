use Rattle.er_paper.proofs.ReadBack.{results_read_back}
use Rattle.er_paper.proofs.laws.results_read_back.Goals as goal

pub returns : goal.returns
returns c = results_read_back
