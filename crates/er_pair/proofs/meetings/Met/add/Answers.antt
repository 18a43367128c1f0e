use Rattle.std.proofs.{lemmas.Grind.common_steps, lemmas.Bool.Decides.nat_tests, Common.{arith, set}}
use Rattle.er_pair.proofs.Opponents.{met_by_place}
use Rattle.er_pair.proofs.meetings.Met.add.Goals as goal

pub returns-clause-added : goal.returns-clause-added
returns-clause-added c = λ p q.
    let rows = c.self.inside.rows.items in
    let old = met_by_place rows p q in
    let new = met_by_place (set (set rows c.from-row.result c.insert.new.self) c.from-column.result c.insert-2.new.self) p q in
    grind (arith, common_steps, nat_tests)
