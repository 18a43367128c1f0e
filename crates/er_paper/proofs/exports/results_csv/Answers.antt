use Rattle.std.proofs.Common.{◌≡◌, List, [], ◌++◌, ap, ap₂, ◌∙◌, Vec, Global, ℕ}
use Rattle.er_paper.specs.Csv.{csv_text}
use Rattle.csv.specs.Writing.{default_writer, row_text}
use Rattle.er_paper.specs.{inside.Writer.written_bytes, Tables.{results_heading, rounds_table, results_csv}}
use Rattle.er_paper.proofs.Rows.{rows-under}
use Rattle.er_paper.proofs.exports.results_csv.Goals as goal

pub returns : goal.returns
returns c =
    let from = c.from_writer-table.ensures in
    let start : written_bytes c.from_writer-table.result ≡ [] = ap₂ (λ (v : Vec ℕ Global) (p : List ℕ). v.items ++ p) from.wtr from.empty
    ∙ ap
    (λ (xs : List ℕ). xs ++ []) c.new-2.ensures.items in
    let heading = c.in_ok-push_fields.ensures.text ∙ ap (λ (t : List ℕ). t ++ row_text default_writer results_heading) start in
    let rounds = ap (λ rs. csv_text (rounds_table 1 rs)) c.stored.ensures.value in
    let done : written_bytes c.push_rounds.new.table ≡ results_csv c.args.event.now =
    c.in_ok-push_rounds.ensures.text ∙ ap₂ (λ (t u : List ℕ). t ++ u) heading rounds
    ∙ rows-under results_heading (rounds_table 1 c.args.event.now.stored) in
    rw done at c.finish.ensures
