use Rattle.er_desk.proofs.NextSession.{first_sound, next_begins, next_leaves}
use Rattle.er_desk.proofs.laws.next_sessions.Goals as goal

pub returns : goal.returns
returns c new first ends begins was = record {
  sound = first_sound c.histories.ensures new first ends begins was;
  begins = next_begins c.histories.ensures new first ends begins was;
  leaves = next_leaves c.histories.ensures new first ends begins was;
}
