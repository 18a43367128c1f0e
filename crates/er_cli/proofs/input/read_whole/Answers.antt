use Rattle.std.proofs.Common.{◌≡◌, ◌<◌, List, ℕ, IfSome, length, take, subst, sym, ap, ◌∙◌, arith, length-take-le}
use Rattle.std.proofs.Math.Seq.{take-append_seam}
use Rattle.er_cli.proofs.Bytes.{all_read, long_read}
use Rattle.er_cli.proofs.input.read_whole.Goals as goal

pub returns-clause-whole : goal.returns-clause-whole
returns-clause-whole g c =
    let buf = c.fill.new.buf in
    let room : length buf ≡ c.in-Ok.input.len = c.fill.auto.buf ∙ c.deref_mut.ensures.len in
    let short : c.in-Ok-fill.filled < length buf = omega (arith, room, c.in-Ok.ensures, c.if-filled-most.false) in
    let cut = c.truncate.ensures.items ∙ (ap (take c.in-Ok-fill.filled) (rw (← room) (take-append_seam buf _))) in
    subst (λ (bytes : List ℕ). IfSome (g.R.Read.remaining c.args.reader.now) (λ all. bytes ≡ all)) (sym cut)
    (all_read _ _ _ c.in-Ok-fill.ensures.came (c.in-Ok-fill.ensures.ended short))

pub returns-then-filled-most-clause-too_long : goal.returns-then-filled-most-clause-too_long
returns-then-filled-most-clause-too_long g c is =
    let buf = c.fill.new.buf in
    let came = length-take-le c.in-Ok-fill.filled buf c.in-Ok-fill.ensures.within in
    long_read _ _ (take c.in-Ok-fill.filled buf) c.args.most c.in-Ok-fill.ensures.came (omega (arith, came, c.if-filled-most.true))
