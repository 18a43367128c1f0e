use Rattle.er_desk.proofs.Turns.{turn_budget, turn_searched}
use Rattle.er_desk.proofs.desk.Desk.submit.Goals as goal

pub returns-clause-submits : goal.returns-clause-submits
returns-clause-submits g c = c.take.ensures

pub returns-clause-budget : goal.returns-clause-budget
returns-clause-budget g c steps is = c.budget_searches.ensures _ _ steps (turn_budget _ _ _ _ c.take.ensures.turn steps is)

pub returns-clause-searched : goal.returns-clause-searched
returns-clause-searched g c = turn_searched _ _ _ _ c.take.ensures.turn
