use Rattle.er_event.proofs.Prelude.{EventValue, IsSoundButForSeeds, List, Player, [], ap, arith, length, length-append, rules, subst, sym}
use Rattle.er_event.proofs.Prelude.{with_player, true≢false, ℕ, ◌+◌, ◌++◌, ◌∙◌, ◌∷◌, ◌≡◌, ◌≤◌}
use Rattle.er_event.proofs.events.Event.add_player.Goals as goal

room : (ps : List Player) (p : Player) (n : ℕ) → n ≡ length ps → length (ps ++ p ∷ []) ≤ 512 → (1 ≤ n + 1) × (n + 1 ≤ 512)
room ps p n count few = let more = length-append ps (p ∷ []) in (omega arith, omega arith)

pub unreachable-requires : goal.unreachable-requires
unreachable-requires c =
    let count : c.len.result ≡ length c.self.inside.players.items = search rules in
    true≢false (sym (c.in_default.ensures.within.1 (room c.args.self.players _ _
    (count ∙ ap (λ (v : EventValue). length v.players) c.self.view_is) c.requires.players.few)))

pub invariant_of-self : goal.invariant_of-self
invariant_of-self c =
    let count : c.len.result ≡ length c.self.inside.players.items = search rules in
    let number = c.in-Some.ensures.value ∙ ap (λ n. n + 1) count in
    let stored : c.len-2.result ≡ length c.self.inside.stored.items = search rules in
    rw (c.in-Ok.ensures.items, number, stored)
    (subst (λ (v : EventValue). IsSoundButForSeeds (with_player v c.args.name)) (sym c.self.view_is) c.requires)

pub invariant_of-self-in-Err : goal.invariant_of-self-in-Err
invariant_of-self-in-Err c = rw c.in-Err.ensures.items c.self.invariant
