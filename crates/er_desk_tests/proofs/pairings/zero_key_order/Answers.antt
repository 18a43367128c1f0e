use Rattle.std.proofs.{Common.{◌∙◌, not, filter, length, sym, ap}, lemmas.List.length-map, lemmas.List.Sums.length-filter}
use Rattle.er_event.specs.declared.players.Player.{Player}
use Rattle.er_desk_tests.proofs.pairings.zero_key_order.Goals as goal

pub order-requires : goal.order-requires
order-requires c =
    let players = c.args.event.now.players in
    let counted = length-map (filter (λ (p : Player). not p.dropped) players) (λ (p : Player). p.no)
    ∙ length-filter (λ (p : Player). not p.dropped) players in
    ap length c.as_slice.ensures.value ∙ (c.in_ok-words.ensures.count ∙ (c.active_count.ensures ∙ sym counted))
