use Rattle.std.proofs.{Common.{ℕ, ◌==◌, ◌/◌, ◌%◌, get_or, ap}, lemmas.Nat.Bits.shr_and_one}
use Rattle.er_pair.specs.inside.Places.{has_place}
use Rattle.er_pair.proofs.places.Places.has.Goals as goal

pub returns : goal.returns
unfolding has_place
returns c = ap (λ (n : ℕ). n == 1) (shr_and_one (get_or c.args.self.now.words (c.args.place / 64) 0) (c.args.place % 64))
