use Rattle.std.proofs.{Common.{◌≡◌, ◌==◌, ◌&&◌, length, true, sym, ap, ◌∙◌, arith}, lemmas.Bool.Decides.nat_tests}
use Rattle.std.specs.List.{list_all}
use Rattle.er_event.specs.{declared.rounds.Round.Round, Round.is_complete}
use Rattle.er_rules.proofs.playoff.are_rounds_done.Goals as goal

pub returns : goal.returns
returns c =
    let e = c.args.event.now in
    let each = list_all (λ (r : Round). is_complete r.matches) in
    let count : length e.stored ≡ e.rounds = sym (ap length c.stored.ensures.value)
    ∙ (c.if-stored-from.false ∙ (c.from.ensures ∙ c.rounds.ensures.value)) in
    let all : (length e.stored == e.rounds) ≡ true = grind (arith, nat_tests) in
    c.are_complete.ensures ∙ (ap each c.stored-2.ensures.value ∙ ap (λ b. b && each e.stored) (sym all))
