use Rattle.er_event.proofs.Prelude.{is_lawful_name, player_row, Player, All, IsTrue, map, take, ◌≡◌}
use Rattle.er_event.proofs.rows.player.read_rows.Given as goal

abbrev pub invariant-loop-row : goal.invariant-loop-row
invariant-loop-row l = (take l.row-index l.rows ≡ map player_row l.players.items) × All
    (λ (p : Player). IsTrue (is_lawful_name p.name)) l.players.items
