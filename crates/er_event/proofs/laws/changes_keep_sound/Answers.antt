use Rattle.er_event.proofs.Prelude.{stage_after, scored_slot, stage_of, with_bracket_score, with_phase, EventValue, IsSoundButForSeeds}
use Rattle.er_event.proofs.Prelude.{AddBracket, AddRound, SetBracketScore, SetDropped, SetScore, Phase, Enrolling, Swiss, Match, Bool, List}
use Rattle.er_event.proofs.Prelude.{Option, ap, arith, length, not, subst, sym, ◌≡◌, ◌≤◌}
use Rattle.er_event.proofs.{AddLemmas.IsSound-round, DropLemmas.IsSound-dropped, PlayerLemmas.IsSound-with, PlayoffLemmas.opening-fits}
use Rattle.er_event.proofs.{ScoreLemmas.Fits-score, SlotScoreLemmas.Fits-open}
use Rattle.er_event.specs.{Safe.ChangesKeepSound, declared.changes.Change.TheVariants.{AddPlayer, SetPhase}}
use Rattle.er_event.proofs.laws.changes_keep_sound.Goals as goal

started : (e : EventValue) → IsSoundButForSeeds e → e.phase ≡ Enrolling → 2 ≤ length e.players
    → IsSoundButForSeeds (with_phase e Swiss)
started e h phase two =
    record {
      set_up = h.set_up;
      players = grind (arith, h.players);
      rounds = grind (arith, h.rounds);
      missed = h.missed;
      bracket = grind (arith, h.bracket);
    }

keeps : ChangesKeepSound
keeps e (AddPlayer name) h (lawful, room, new) = IsSound-with e name h lawful room (ap not new)
keeps e (SetDropped player) h begun = IsSound-dropped e player h begun
keeps e (SetPhase phase) h (enrolling, swiss, two) =
    subst (λ (p : Phase). IsSoundButForSeeds (with_phase e p)) (sym swiss) (started e h enrolling two)
keeps e (AddRound matches) h next =
    IsSound-round e matches h next.swiss next.room (record { done = next.done; round = next.round; new = next.new })
keeps e (SetScore round table score) h ((m, at, two), lawful) = (Fits-score e round table score m at two lawful h).sound
keeps e (AddBracket matches) h opens = (opening-fits e matches h opens).sound
keeps e (SetBracketScore stage slot score next finished) h (m, at, free, lawful, follows, over) =
    let played = scored_slot (stage_of e.bracket.stages stage) slot score in
    subst (λ (o : Option (List Match)). IsSoundButForSeeds (with_bracket_score e stage slot score o finished)) (sym follows)
    (subst (λ (b : Bool). IsSoundButForSeeds (with_bracket_score e stage slot score (stage_after played) b)) (sym over)
    (Fits-open e stage slot score m at h free lawful).sound)

pub returns : goal.returns
returns c = keeps
