use Rattle.er_event.proofs.Prelude.{ap, not, sym, ◌∙◌}
use Rattle.er_event.proofs.Swapped.{new-swapped}
use Rattle.er_event.proofs.rounds.are_new.Goals as goal

pub returns : goal.returns
returns c = ap not c.have_repeat.ensures ∙ sym (new-swapped c.args.stored.now c.args.new.now)
