use Rattle.std.proofs.Common.{◌≡◌, ℕ, ◌+◌, ◌++◌, take, sym, ap, ◌∙◌, arith, append_assoc}
use Rattle.er_paper.specs.Csv.{csv_text}
use Rattle.er_paper.specs.{inside.Writer.written_bytes, Tables.{round_table, rounds_table}}
use Rattle.er_paper.proofs.Rows.{no-rows, rounds-more}
use Rattle.er_paper.proofs.exports.push_rounds.Goals as goal

pub loop-place-init : goal.loop-place-init
loop-place-init c = record { plain = c.requires; text = no-rows (written_bytes c.args.table.now) }

pub loop-place-preserved : goal.loop-place-preserved
loop-place-preserved c =
    let place = c.loop-place.place in
    let rounds = c.args.rounds.now in
    let round = c.index-rounds-place.result in
    let before = written_bytes c.args.table.now in
    let rows = csv_text (rounds_table 1 (take place rounds)) in
    let number : place + 1 ≡ 1 + place = omega arith in
    record {
      plain = c.in_ok-push_round.ensures.plain;
      text = c.in_ok-push_round.ensures.text
          ∙ (ap (λ t. t ++ csv_text (round_table (place + 1) c.as_slice.result.now)) c.loop-place.invariant.text
          ∙ (ap (λ matches. (before ++ rows) ++ csv_text (round_table (place + 1) matches)) c.as_slice.ensures
          ∙ (ap (λ (k : ℕ). (before ++ rows) ++ csv_text (round_table k round.matches)) number
          ∙ (append_assoc before rows (csv_text (round_table (1 + place) round.matches))
          ∙ ap (λ t. before ++ t) (sym (rounds-more rounds place round c.loop-place-test.true c.index-rounds-place.is))))));
    }
