use Rattle.er_event.proofs.Prelude.{totals_of, AreOver, [], sym, subst, ◌∙◌}
use Rattle.er_event.proofs.PlayedLemmas.{over-none}
use Rattle.std.proofs.lemmas.List.{get_or-replicate}
use Rattle.er_event.proofs.totals.all.none_played.Goals as goal

pub returns-clause-played : goal.returns-clause-played
returns-clause-played c = λ player low within. get_or-replicate 513 player c.none.result (totals_of []) within ∙ c.none.ensures

pub returns-clause-over : goal.returns-clause-over
returns-clause-over c = λ k d below. subst (AreOver 0) (sym (get_or-replicate 513 k c.none.result d below ∙ c.none.ensures)) over-none
