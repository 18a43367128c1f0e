use Rattle.er_store.proofs.Prelude.{tally_by, totals, rules, ◌≡◌, ◌∙◌, ◌++◌, ◌∷◌, [], map, List, sym, ap, ap₂, arith, none-some, same_Some}
use Rattle.er_store.proofs.Prelude.{tally_row, Tally, tallies, player_row, take_all, length, length-map}
use Rattle.er_store.proofs.Tallying.{player-at, rows-more}
use Rattle.er_store.proofs.tallies.tallies_of.Goals as goal

pub returns-in_default-clause-event : goal.returns-in_default-clause-event
returns-in_default-clause-event c e sound players rows =
    let it = player-at e sound c.args.players.now c.args.rows.now c.loop-at.at c.index-players-at.result _ players rows
    c.loop-at-test.true in
    absurd (none-some _ (sym c.in_default.is
    ∙ (c.tally_of.ensures.event e it.it sound it.low it.high (c.index-players-at.is ∙ it.player_is) it.row_is)))

pub loop-at-preserved : goal.loop-at-preserved
loop-at-preserved c =
    let inv = c.loop-at.invariant in
    let pushed : c.push.new.self.items ≡ c.loop-at.tallies.items ++ c.in-Some.tally ∷ [] = search rules in
    record {
      many = inv.many;
      rows = ap (map (λ (t : Tally). tally_row t.no t.totals)) pushed
          ∙ rows-more c.loop-at.tallies.items c.args.rows.now c.loop-at.at _ c.in-Some.tally
          (omega (arith, inv.many, c.loop-at-test.true)) c.in-Some.ensures.value.0 inv.rows;
      event = λ e sound players rows.
          let it = player-at e sound c.args.players.now c.args.rows.now c.loop-at.at c.index-players-at.result _ players rows
          c.loop-at-test.true in
          let found = c.tally_of.ensures.event e it.it sound it.low it.high (c.index-players-at.is ∙ it.player_is) it.row_is in
          let same : c.in-Some.tally ≡ tally_by (totals e) it.it = same_Some _ _ (sym c.in-Some.is ∙ found) in
          pushed ∙ (ap₂ (λ (xs : List Tally) (x : Tally). xs ++ x ∷ []) (inv.event e sound players rows) same ∙ sym it.more);
    }

pub returns : goal.returns
returns c =
    let inv = c.loop-at.invariant in
    let last = c.loop-at-test.false in
    record {
      rows = inv.rows ∙ take_all c.loop-at.at c.args.rows.now (omega (arith, inv.many, last));
      event = λ e sound players rows.
          let many = ap length players in
          inv.event e sound players rows ∙ take_all c.loop-at.at (tallies e)
          (omega (arith, many, length-map e.players player_row, length-map e.players (tally_by (totals e)), last));
      fault = tt;
    }
