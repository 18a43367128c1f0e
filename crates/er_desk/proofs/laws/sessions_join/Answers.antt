use Rattle.er_desk.proofs.{Asking.joined_end, Histories.leads_then}
use Rattle.er_desk.proofs.laws.sessions_join.Goals as goal

pub returns : goal.returns
returns c first mid one two leads = record {
  leads = λ last later. leads_then first mid last one.acknowledged two.acknowledged leads later;
  ends = λ sure. joined_end first mid one two leads sure;
}
