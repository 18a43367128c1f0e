use Rattle.er_event.proofs.Prelude.{refl}
use Rattle.er_event.specs.declared.changes.Change.TheVariants.{AddPlayer}
use Rattle.er_event.proofs.{AlteredLemmas.totals-same}
use Rattle.er_event.proofs.laws.others_keep_totals.Goals as goal

pub returns : goal.returns
returns c = λ e name player sound fits known. totals-same e (AddPlayer name) player sound fits known refl
