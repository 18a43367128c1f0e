use Rattle.std.proofs.Common.{◌≡◌, inl, inr, ℕ, List, Bor, Err, map, ap, subst, ◌∙◌, arith}
use Rattle.std.proofs.lemmas.Result.{IfOk-weaker, on_err_weaker}
use Rattle.er_cli.specs.declared.input.InputFault.TheVariants.{Memory, TooLong}
use Rattle.er_cli.specs.{Input.lines_of, Script.{Prints, PrintsPart}}
use Rattle.er_cli.proofs.{Ending.{Breaks-unread, Ends-done, Ends-unread}, Sending.err_is}
use Rattle.er_cli.proofs.answer_script.Goals as goal

memory : Memory ≡ TooLong → ⊥
memory is = cc

pub returns-in-Err-clause-ends : goal.returns-in-Err-clause-ends
returns-in-Err-clause-ends g c =
    IfOk-weaker c.print_fault.result _ _
    (λ status. Ends-unread _ _ _ c.in-Err.fault status (λ is. c.in-Err.ensures.too_long (ap Err is))) c.print_fault.ensures.ends

pub returns-in-Err-clause-part : goal.returns-in-Err-clause-part
returns-in-Err-clause-part g c =
    on_err_weaker c.print_fault.result
    (Breaks-unread _ _ _ c.in-Err.fault (λ is. c.in-Err.ensures.too_long (ap Err is))) c.print_fault.ensures.part

pub returns-in_default-clause-ends : goal.returns-in_default-clause-ends
returns-in_default-clause-ends g c =
    IfOk-weaker c.print_fault-in_default.result _ _
    (λ status. Ends-unread _ _ _ Memory status (λ is. absurd (memory is))) c.print_fault-in_default.ensures.ends

pub returns-in_default-clause-part : goal.returns-in_default-clause-part
returns-in_default-clause-part g c =
    on_err_weaker c.print_fault-in_default.result
    (Breaks-unread _ _ _ Memory (λ is. absurd (memory is))) c.print_fault-in_default.ensures.part

-- the lines that are run are the script's
pub returns-clause-ends : goal.returns-clause-ends
returns-clause-ends g c =
    let lines = ap (map (λ (line : Bor (List ℕ)). line.now)) c.deref-2.ensures.value
    ∙ (c.in-Ok-lines_of.ensures ∙ ap lines_of c.deref.ensures.value) in
    Ends-done _ _ _ (record {
      script = c.in-Ok.script.items;
      whole = c.in-Ok.ensures.whole;
      small = omega (arith, c.in-Ok.script.ok.0, c.in-Ok.ensures.small);
      prints = subst
          (λ (ls : List (List ℕ)). Prints ls (g.W.Print.printed c.args.writer.now) (g.W.Print.printed c.run_lines.new.writer))
          lines c.in_ok-run_lines.ensures.whole;
    })

pub returns-in_err-run_lines-clause-part : goal.returns-in_err-run_lines-clause-part
returns-in_err-run_lines-clause-part g c =
    let lines = ap (map (λ (line : Bor (List ℕ)). line.now)) c.deref-2.ensures.value
    ∙ (c.in-Ok-lines_of.ensures ∙ ap lines_of c.deref.ensures.value) in
    err_is c.from_residual.result (inr (inl (record {
      script = c.in-Ok.script.items;
      whole = c.in-Ok.ensures.whole;
      small = omega (arith, c.in-Ok.script.ok.0, c.in-Ok.ensures.small);
      prints = subst
          (λ (ls : List (List ℕ)). PrintsPart ls (g.W.Print.printed c.args.writer.now) (g.W.Print.printed c.run_lines.new.writer))
          lines c.in_err-run_lines.ensures.part;
    })))
