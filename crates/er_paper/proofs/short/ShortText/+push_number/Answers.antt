use Rattle.std.proofs.{lemmas.Grind.common_steps, Common.{◌≡◌, ◌+◌, ◌/◌, ℕ, List, length, length-append, ap, ◌∙◌, arith}}
use Rattle.std.proofs.lemmas.Fmt.{decimal_digit}
use Rattle.std.specs.Fmt.{decimal}
use Rattle.er_paper.proofs.Numerals.{front-shorter, one-more, decimal_short}
use Rattle.er_paper.proofs.short.ShortText.+push_number.Goals as goal

pub push_number-requires : goal.push_number-requires
push_number-requires t c = (omega (arith, c.decreases), c.requires)

pub returns-then-number-lt10-clause-value : goal.returns-then-number-lt10-clause-value
returns-then-number-lt10-clause-value t c = rw (decimal_digit c.args.number c.if-number-lt10.true) c.push.ensures.value

pub push-requires-2 : goal.push-requires-2
push-requires-2 t c =
    let size : length c.push_number.new.self ≡ length c.args.self.now + length (decimal (c.args.number / 10)) =
    ap (λ (xs : List ℕ). length xs) c.push_number.ensures.value ∙ length-append c.args.self.now (decimal (c.args.number / 10)) in
    omega (
      arith,
      c.requires,
      size,
      front-shorter c.args.number c.if-number-lt10.false c.ranges.number.fits,
      decimal_short c.args.number c.ranges.number.fits,
    )

pub returns-clause-value : goal.returns-clause-value
returns-clause-value t c = grind (arith, common_steps, one-more)

pub returns-clause-size : goal.returns-clause-size
returns-clause-size t c =
    let size : length c.push_number.new.self ≡ length c.args.self.now + length (decimal (c.args.number / 10)) =
    ap (λ (xs : List ℕ). length xs) c.push_number.ensures.value ∙ length-append c.args.self.now (decimal (c.args.number / 10)) in
    omega (
      arith,
      c.push-2.ensures.size,
      size,
      front-shorter c.args.number c.if-number-lt10.false c.ranges.number.fits,
      decimal_short c.args.number c.ranges.number.fits,
    )
