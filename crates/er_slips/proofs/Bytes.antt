-- The bytes that were read, against the whole input.
use Rattle.std.proofs.{lemmas.Grind.common_steps, KnownBytes.Consumes-trans, Common.{◌≡◌, ℕ, ◌+◌, ◌-◌, ◌≤◌, List, ◌++◌, take, drop, length}}
use Rattle.std.proofs.{Common.{take-take, sym, ap, ◌∙◌, arith, Option, Some, None, IfSome, slice_range, length-drop}, lemmas.List.take_all}
use Rattle.std.proofs.Math.Seq.{take-add, take-append_seam, take-append-add}
use Rattle.std.specs.Io.KnownBytes.{Consumes}
use Rattle.httparse.specs.Grammar.{HasNoRequest, print_request}
use Rattle.er_slips.specs.{declared.request.head.TheConstants.MAX_HEAD, Head.HasNoHead}

pub grown : (old new : List ℕ) (f n : ℕ) → take f new ≡ take f old → take f old ++ slice_range new f (f + n) ≡ take (f + n) new
grown old new f n kept = grind (arith, common_steps, take-add)

-- bytes and then others are a head that fits in them, so they are one
cut : (bytes more p rest : List ℕ) → bytes ++ more ≡ p ++ rest → length p ≤ length bytes → bytes ≡ p ++ take (length bytes - length p) rest
cut bytes more p rest e fits =
    let k : ℕ = length bytes - length p in
    let n : length p + k ≡ length bytes = omega arith in
    sym (take-append_seam bytes more) ∙ ap (take (length bytes)) e ∙ ap (λ m. take m (p ++ rest)) (sym n) ∙ take-append-add p rest k

-- a full buffer that holds no head begins no input with one
pub full : (a b : Option (List ℕ)) (bytes : List ℕ) → Consumes a b bytes → HasNoRequest bytes → length bytes ≡ MAX_HEAD → IfSome a HasNoHead
full None b bytes e none len = tt
full (Some xs) None bytes e none len = absurd e
full (Some xs) (Some ys) bytes e none len = λ h rest is.
    none h (take (length bytes - length (print_request h)) rest)
    (is.0.0, cut bytes ys (print_request h) rest (sym e ∙ is.0.1) (omega (arith, is.1)))

pub sent_more : (bytes : List ℕ) (sent n : ℕ) → take sent bytes ++ take n (take (length bytes - sent) (drop sent bytes)) ≡ take
    (sent + n) bytes
sent_more bytes sent n = grind (arith, common_steps, length-drop, take-add, take_all)

-- the same front, and so the same shorter front
pub shorter : (old new : List ℕ) (m n : ℕ) → m ≤ n → take n new ≡ take n old → take m new ≡ take m old
shorter old new m n le same = sym (take-take m n new le) ∙ ap (take m) same ∙ take-take m n old le

pub came_more : (start a b : Option (List ℕ)) (old new : List ℕ) (f n : ℕ) → take f new ≡ take f old → Consumes start a (take f old)
    → Consumes a b (slice_range new f (f + n)) → Consumes start b (take (f + n) new)
came_more start a b old new f n kept before came = grind (arith, common_steps, Consumes-trans, grown)

-- or none came
pub none_came : (start a b : Option (List ℕ)) (old new : List ℕ) (f n : ℕ) → n ≡ 0 → take f new ≡ take f old
    → Consumes start a (take f old) → Consumes a b (slice_range new f (f + n)) → Consumes start b (take f new)
none_came start a b old new f n zero kept before came =
    let same : f + n ≡ f = omega (arith, zero) in rw same at (came_more start a b old new f n kept before came)
