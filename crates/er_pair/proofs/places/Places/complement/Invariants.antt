use Rattle.std.proofs.Common.{◌≡◌, ℕ, ◌^◌, ◌<◌, length, get_or, w64}
use Rattle.std.specs.Int.{bit_not}
use Rattle.er_pair.specs.declared.places.TheConstants.{WORDS}
use Rattle.er_pair.proofs.places.Places.complement.Given as goal

abbrev pub invariant-loop-index : goal.invariant-loop-index
invariant-loop-index l = record {
  size : length l.words ≡ WORDS;
  fits : (i : ℕ) → i < l.index → get_or l.self.words i 0 < 2 ^ 64;
  done : (i : ℕ) → i < l.index → get_or l.words i 0 ≡ bit_not w64 (get_or l.self.words i 0);
}
