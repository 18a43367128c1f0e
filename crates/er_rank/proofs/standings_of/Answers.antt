use Rattle.std.proofs.{Common.{length, sym, ap, subst, ◌∙◌, arith}, lemmas.Result.IfOk-weaker}
use Rattle.er_rank.specs.{Meeting.encounters, inside.Placing.{ranked_rows, ArePlacingsInOrder}, Standings.AreStandings}
use Rattle.er_rank.proofs.{ListLemmas.{AreStandings-placings, length-placings, OneStandings-sound}, standings_of.Goals.In_ok-placings}
use Rattle.er_rank.proofs.standings_of.Goals as goal

placed : (c : In_ok-placings) → ArePlacingsInOrder (encounters c.args.meetings.now) c.args.tallies.now c.in_ok-placings.placings.items
placed c = c.in_ok-placings.ensures (encounters c.args.meetings.now) (rw c.as_slice.ensures.value c.in_ok-opponents.ensures.value)

pub opponents_of-requires : goal.opponents_of-requires
opponents_of-requires c = c.requires.encounters

pub placings_of-requires-clause-tallies : goal.placings_of-requires-clause-tallies
placings_of-requires-clause-tallies c = c.requires.tallies

pub rows_of-requires : goal.rows_of-requires
rows_of-requires c =
    let here = placed (goal.at.rows_of-requires c).In_ok-placings in
    let count = length-placings (encounters c.args.meetings.now) c.args.tallies.now c.in_ok-placings.placings.items here in
    record {
      few = omega (arith, ap length c.as_slice-2.ensures.value, count, c.requires.tallies.few);
      sorted = rw c.as_slice-2.ensures.value here.sorted;
    }

pub returns-clause-value : goal.returns-clause-value
returns-clause-value c = λ event are.
    let here = rw (are.tallies, are.meetings) at (placed (goal.at.returns-clause-value c).In_ok-placings) in
    let standings = AreStandings-placings event c.in_ok-placings.placings.items are.sound here in
    let value = ap ranked_rows c.as_slice-2.ensures.value in
    IfOk-weaker c.rows_of.result _ _ (λ rows is. subst (AreStandings event) (sym (is ∙ value)) standings) c.rows_of.ensures

pub returns-clause-only : goal.returns-clause-only
returns-clause-only c = λ event are.
    IfOk-weaker c.rows_of.result _ _ (λ rows is. OneStandings-sound event rows.items are.sound is) (returns-clause-value c event are)
