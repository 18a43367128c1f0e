use Rattle.er_paper.proofs.ReadBack.{players_read_back}
use Rattle.er_paper.proofs.laws.players_read_back.Goals as goal

pub returns : goal.returns
returns c = players_read_back
