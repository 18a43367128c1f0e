use Rattle.std.proofs.Common.{◌≡◌, ℕ, ◌<◌, length, slice_index}
use Rattle.rand_chacha.specs.ChaCha.{word_at, key_of}
use Rattle.er_pair.proofs.words.keys.Given as goal

abbrev pub invariant-loop-place : goal.invariant-loop-place
invariant-loop-place l = record {
  key : l.rng.key ≡ key_of l.seed;
  stream : l.rng.stream ≡ 0;
  place : l.rng.word_pos ≡ l._place;
  count : length l.words.items ≡ l._place;
  words : (i : ℕ) → i < l._place → slice_index l.words.items i ≡ word_at 10 (key_of l.seed) 0 i;
}
