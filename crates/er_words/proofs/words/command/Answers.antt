use Rattle.std.proofs.{Common.{rules, ◌≡◌, ap, ap₂, ◌∙◌, Option, Some, arith}, lemmas.Grind.common_steps, lemmas.Result.IfOk-weaker}
use Rattle.std.specs.Option.{IsSomeAnd}
use Rattle.clap.specs.{Words.{App, Rule, app_of, new_app, rule_of, with_rule, with_subcommand}, Lexer.usize_max}
use Rattle.clap.specs.declared.builder.ValueRange.{ValueRange}
use Rattle.er_words.specs.inside.Words.{bare, words_rule}
use Rattle.er_words.proofs.words.command.Goals as goal

some_is : {X : Type 0} (o : Option X) (x : X) → IsSomeAnd o (λ y. y ≡ x) → o ≡ Some x
some_is h1 x h = grind (arith, common_steps)

pub returns : goal.returns
returns c =
    let range = some_is c.num_args-words.result.num_vals (record { start_inclusive = 0; end_inclusive = usize_max })
    c.num_args-words.ensures.1 in
    let words_is : rule_of c.num_args-words.result ≡ words_rule =
    ap rule_of c.num_args-words.ensures.0 ∙ ap₂ (λ (r : Rule) (v : Option ValueRange). record r { range = v }) c.new.ensures.rule range in
    let leaf_is : app_of c.in_ok-leaf.leaf ≡ with_rule (new_app c.args.name.now) words_rule =
    c.in_ok-leaf.ensures.shape (search rules) ∙ ap₂ with_rule c.new-2.ensures.app words_is in
    let bare_is : app_of c.disable_help_subcommand.result ≡ bare = search rules in
    IfOk-weaker c.subcommand.result _ _ (λ r h. h.shape (search rules)
    ∙ ap₂ (λ (a b : App). with_subcommand a b.top) bare_is leaf_is) c.subcommand.ensures
