use Rattle.er_event.proofs.Prelude.{AddBracket, AddRound, EventValue, Fits, IsSoundButForSeeds, List, Match, rules, subst}
use Rattle.er_event.proofs.Prelude.{with_round, ◌∙◌, ◌≡◌}
use Rattle.er_event.specs.{Change.with_bracket, declared.changes.Change.Change}
use Rattle.er_event.proofs.events.Event.apply.Goals as goal

module _ (e : EventValue) (change : Change) (ms copy : List Match) (fits : Fits e change) where
  round-sound : change ≡ AddRound ms → copy ≡ ms → IsSoundButForSeeds (with_round e copy)
  round-sound is same = rw same (subst (Fits e) is fits).sound

  bracket-sound : change ≡ AddBracket ms → copy ≡ ms → IsSoundButForSeeds (with_bracket e copy)
  bracket-sound is same = rw same (subst (Fits e) is fits).sound

pub add_player-requires : goal.add_player-requires
add_player-requires c = (subst (Fits c.args.self) c.in-AddPlayer.is c.requires).sound

pub drop_player-requires : goal.drop_player-requires
drop_player-requires c = let fits = subst (Fits c.args.self) c.in-SetDropped.is c.requires in (fits.named, fits.sound)

pub enter-requires : goal.enter-requires
enter-requires c = (subst (Fits c.args.self) c.in-SetPhase.is c.requires).sound

pub add_round-requires : goal.add_round-requires
add_round-requires c = round-sound c.args.self c.args.change.now c.in-AddRound.matches _ c.requires c.in-AddRound.is (search rules)

pub set_score-requires : goal.set_score-requires
set_score-requires c = subst (Fits c.args.self) c.in-SetScore.is c.requires

pub add_bracket-requires : goal.add_bracket-requires
add_bracket-requires c = bracket-sound c.args.self c.args.change.now c.in-AddBracket.matches _ c.requires c.in-AddBracket.is (search rules)

pub set_bracket_score-requires : goal.set_bracket_score-requires
set_bracket_score-requires c =
    rw (c.in-Ok-copy_next.ensures ∙ c.as_ref.ensures.value) (subst (Fits c.args.self) c.in-SetBracketScore.is c.requires)

pub returns-in-AddPlayer-clause-ok : goal.returns-in-AddPlayer-clause-ok
returns-in-AddPlayer-clause-ok c = rw c.in-AddPlayer.is c.add_player.ensures.ok

pub returns-in-AddPlayer-clause-memory : goal.returns-in-AddPlayer-clause-memory
returns-in-AddPlayer-clause-memory c = λ err. rw c.in-AddPlayer.is tt

pub returns-in-Ok-copy_next-clause-ok : goal.returns-in-Ok-copy_next-clause-ok
returns-in-Ok-copy_next-clause-ok c =
    rw (c.in-SetBracketScore.is, ← (c.in-Ok-copy_next.ensures ∙ c.as_ref.ensures.value)) c.set_bracket_score.ensures.ok

pub returns-in-Ok-copy_next-clause-err : goal.returns-in-Ok-copy_next-clause-err
returns-in-Ok-copy_next-clause-err c = c.set_bracket_score.ensures.err

pub returns-in-Ok-copy_next-clause-memory : goal.returns-in-Ok-copy_next-clause-memory
returns-in-Ok-copy_next-clause-memory c = λ err. rw c.in-SetBracketScore.is tt
