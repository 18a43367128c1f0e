use Rattle.std.proofs.Common.{◌≡◌, ℕ, ◌-◌, ◌<◌}
use Rattle.er_pair.specs.{inside.Places.is_ahead, declared.places.TheConstants.WORDS}
use Rattle.er_pair.proofs.places.Cursor.next.Given as goal

abbrev pub invariant-loop-self : goal.invariant-loop-self
invariant-loop-self l = record {
  word : l.self.index < WORDS;
  same : (p : ℕ) → is_ahead l.one l.other l.self.index l.self.left p ≡ is_ahead l.one l.other l.fn.self.index l.fn.self.left p;
}

abbrev pub decreases-loop-self : goal.decreases-loop-self
decreases-loop-self l = WORDS - l.self.index
