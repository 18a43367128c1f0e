use Rattle.er_event.proofs.Prelude.{is_lawful_name, player_row, rules, Player, IsTrue, [], arith, ◌++◌, ◌∷◌, ◌≡◌}
use Rattle.er_event.proofs.Prelude.{common_steps, All-push, take_more}
use Rattle.er_event.proofs.PartsLemmas.{row_at}
use Rattle.er_event.proofs.rows.player.read_rows.Goals as goal

pub returns-in_err-player-clause-damaged : goal.returns-in_err-player-clause-damaged
returns-in_err-player-clause-damaged c place bad = grind (arith, common_steps, row_at)

pub loop-row-preserved : goal.loop-row-preserved
loop-row-preserved c =
    let player = c.in_ok-player.player in
    let items : c.push.new.self.items ≡ c.loop-row.players.items ++ player ∷ [] = grind (arith, common_steps) in
    let shown : c.row-item.result ≡ player_row player = search rules in
    let lawful : IsTrue (is_lawful_name player.name) = search rules in (
      grind (arith, common_steps, shown, take_more),
      rw items (All-push (λ (p : Player). IsTrue (is_lawful_name p.name)) c.loop-row.players.items player c.loop-row.invariant.1 lawful),
    )
