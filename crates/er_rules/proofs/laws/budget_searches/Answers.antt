use Rattle.er_rules.proofs.Searching.{budget_searches}
use Rattle.er_rules.proofs.laws.budget_searches.Goals as goal

pub returns : goal.returns
returns c = budget_searches
