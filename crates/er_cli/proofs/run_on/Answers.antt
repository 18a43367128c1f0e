use Rattle.std.proofs.Common.{inr, refl, map, Option, Some, None, IfSome, string_bytes, rules}
use Rattle.er_words.specs.Line.{line_of}
use Rattle.er_cli.specs.Action.{action_of, file_of}
use Rattle.er_cli.proofs.GoingOn.{unread_goes_on}
use Rattle.er_cli.proofs.run_on.Goals as goal

always : {A : Type 0} (found : Option A) {P : A → Type 0} → ((x : A) → P x) → IfSome found P
always None it = tt
always (Some x) it = it x

-- memory may run out for any words
pub returns-in-Err-Memory-clause-ends : goal.returns-in-Err-Memory-clause-ends
returns-in-Err-Memory-clause-ends g c =
    let printed = c.print in
    record {
      asked = search rules;
      unread = search rules;
      answered = always (line_of (map string_bytes c.args.words.now)) (λ line. inr (refl, printed.ensures));
    }

pub returns-in-Err-Memory-clause-goes_on : goal.returns-in-Err-Memory-clause-goes_on
returns-in-Err-Memory-clause-goes_on g c =
    always (line_of (map string_bytes c.args.words.now))
    (λ line. unread_goes_on _ (g.H.Host.world c.args.host.now) (file_of line) _ _ refl c.print.ensures (action_of line))

pub returns-in-Ok-clause-goes_on : goal.returns-in-Ok-clause-goes_on
returns-in-Ok-clause-goes_on g c = rw c.in-Ok.ensures.0 c.run_line.ensures.goes_on
