use Rattle.std.proofs.Common.{◌≡◌, List, [], ◌++◌, ap, ap₂, ◌∙◌, Vec, Global, ℕ}
use Rattle.csv.specs.Writing.{default_writer, row_text}
use Rattle.er_event.specs.declared.players.Player.{Player}
use Rattle.er_paper.specs.{inside.Writer.written_bytes, Tables.{players_heading, player_fields}}
use Rattle.er_paper.proofs.Rows.{rows-first, lines_more}
use Rattle.er_paper.proofs.exports.players_csv.Goals as goal

pub loop-player-init : goal.loop-player-init
loop-player-init c =
    let from = c.from_writer-table.ensures in
    let start : written_bytes c.from_writer-table.result ≡ [] = ap₂ (λ (v : Vec ℕ Global) (p : List ℕ). v.items ++ p) from.wtr from.empty
    ∙ ap
    (λ (xs : List ℕ). xs ++ []) c.new-2.ensures.items in
    record {
      plain = c.in_ok-push_fields.ensures.plain;
      text = c.in_ok-push_fields.ensures.text ∙ ap (λ (t : List ℕ). t ++ row_text default_writer players_heading) start
          ∙ rows-first players_heading;
    }

pub loop-player-preserved : goal.loop-player-preserved
loop-player-preserved c =
    let old = written_bytes c.loop-player.table in
    record {
      plain = c.in_ok-push_player.ensures.plain;
      text = lines_more _ c.loop-player.player-index c.player-item.result old _ c.loop-player-test.true c.loop-player.invariant.text
          (c.in_ok-push_player.ensures.text ∙ ap (λ (p : Player). old ++ row_text default_writer (player_fields p)) c.player-item.is);
    }
