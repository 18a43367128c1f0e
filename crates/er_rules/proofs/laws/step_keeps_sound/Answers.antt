use Rattle.er_rules.proofs.Sound.{keeps_sound}
use Rattle.er_rules.proofs.laws.step_keeps_sound.Goals as goal

pub returns : goal.returns
returns c = keeps_sound c.changes_keep_sound.ensures c.stand_once.ensures c.legal_seats.ensures
