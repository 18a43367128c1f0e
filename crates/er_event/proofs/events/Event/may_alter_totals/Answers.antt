use Rattle.er_event.proofs.Prelude.{arith, ap, common_steps, get_or, get_or_default, sym, ◌∙◌}
use Rattle.er_event.specs.Altered.{may_alter_totals}
use Rattle.er_event.proofs.{AlteredLemmas.{totals-same, no-round}, RescoredLemmas.{round-within, table-within}}
use Rattle.er_event.proofs.events.Event.may_alter_totals.Goals as goal

pub is_complete_with-requires : goal.is_complete_with-requires
is_complete_with-requires c = grind (arith, common_steps, get_or, table-within)

pub returns-in-AddRound-clause-others : goal.returns-in-AddRound-clause-others
returns-in-AddRound-clause-others c = λ undone player known.
    let value = ap (may_alter_totals c.args.self.now) c.in-AddRound.is in
    totals-same c.args.self.now c.args.change.now player c.stored-stored.ensures.sound c.requires known
    (grind (arith, common_steps, value, undone))

-- what the code gives
given : goal.returns-in-SetScore-clause-value
given c = grind (arith, common_steps, get_or, get_or_default, round-within)

pub returns-in-SetScore-clause-value : goal.returns-in-SetScore-clause-value
returns-in-SetScore-clause-value = given

pub returns-in-SetScore-clause-others : goal.returns-in-SetScore-clause-others
returns-in-SetScore-clause-others c = λ undone player known.
    totals-same c.args.self.now c.args.change.now player c.stored-stored.ensures.sound c.requires known (sym (given c) ∙ undone)

pub returns-in_default : goal.returns-in_default
returns-in_default c =
    let none = no-round c.args.self.now c.args.change.now c.in_default.not-AddRound c.in_default.not-SetScore in
    record {
      value = sym none;
      others = λ undone player known. totals-same c.args.self.now c.args.change.now player c.stored-stored.ensures.sound c.requires
          known none;
    }
