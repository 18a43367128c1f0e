use Rattle.er_event.proofs.Prelude.{AreStages, rules, subst, sym, true≢false, ◌∙◌, ◌≡◌, range_with_len, Damaged}
use Rattle.er_event.proofs.StagesShown.{stages_shown}
use Rattle.er_event.proofs.rows.bracket.read_bracket.Goals as goal

pub returns-in_err-stages-clause-damaged : goal.returns-in_err-stages-clause-damaged
returns-in_err-stages-clause-damaged c place bad =
    let why : c.in_err-stages.field-0.0 ≡ Damaged place = search (rules, bad) in
    let over = c.is_playoff.ensures.0 c.if-not-is_playoff.false in (
      c.in_err-stages.ensures.damaged place (cc),
      λ stages are listed.
          let shown = stages_shown c.args.count c.args.setup.now.cut c.requires.players c.requires.cut stages (are.bracket over) in
          let memory = c.in_err-stages.ensures.exact stages shown.0 shown.1 listed in
          cc,
    )

pub returns-then-not-suits-clause-damaged : goal.returns-then-not-suits-clause-damaged
returns-then-not-suits-clause-damaged c place bad =
    let s = c.args.setup.now in
    let over = c.is_playoff.ensures.0 c.if-not-is_playoff.false in (
      (cc),
      λ stages are listed.
          let shown = stages_shown c.args.count s.cut c.requires.players c.requires.cut stages (are.bracket over) in
          let same = c.in_ok-stages.ensures.exact stages shown.0 shown.1 listed in
          true≢false (sym (c.suits.ensures.1 (subst (AreStages s.phase s.cut (range_with_len 1 c.args.count))
          (sym same ∙ sym c.as_slice.ensures.value) are)) ∙ c.if-not-suits.true),
    )

pub returns-clause-only : goal.returns-clause-only
returns-clause-only c others are listed =
    let over = c.is_playoff.ensures.0 c.if-not-is_playoff.false in
    let shown = stages_shown c.args.count c.args.setup.now.cut c.requires.players c.requires.cut others (are.bracket over) in
    sym (c.in_ok-stages.ensures.exact others shown.0 shown.1 listed)
