use Rattle.er_store.proofs.Prelude.{◌+◌, ◌-◌, sym, ap, ◌∙◌, append-nil, on_ok_weaker, with_slot_score}
use Rattle.std.proofs.lemmas.List.{length-set}
use Rattle.er_store.proofs.{Together.makes_then, Lending.lends_then, Crash.was_clean}
use Rattle.er_store.proofs.transactions.score_stages.Goals as goal

pub returns-in-Some-clause-makes : goal.returns-in-Some-clause-makes
returns-in-Some-clause-makes g c l s rows represents clean =
    let e = c.args.event.now in
    let scored = with_slot_score e c.args.stage c.args.slot c.args.score in
    let set = rw (c.from.ensures, c.from-2.ensures) at c.in_ok-set_slot_score.ensures.makes in
    let one = set l e c.requires.found.0 c.requires.found.1 s rows represents
    (was_clean c.insert_stage.ensures.lends.stays.survives clean) in
    let number = c.next_number.ensures ∙ ap (λ n. n + 1) (sym (length-set e.bracket.stages (c.args.stage - 1) _)) in
    rw (c.in-Some.is, ← c.as_slice.ensures)
    (on_ok_weaker c.insert_stage.result (λ two. makes_then one two) (c.insert_stage.ensures.makes l scored number s rows one.represents
    clean))

pub returns-in-None-clause-makes : goal.returns-in-None-clause-makes
returns-in-None-clause-makes g c l s rows represents clean =
    let set = rw (c.from.ensures, c.from-2.ensures) at c.in_ok-set_slot_score.ensures.makes in
    rw (c.in-None.is, append-nil) (set l c.args.event.now c.requires.found.0 c.requires.found.1 s rows represents clean)

pub returns-in-Some-clause-lends : goal.returns-in-Some-clause-lends
returns-in-Some-clause-lends g c = lends_then c.set_slot_score.ensures.lends c.insert_stage.ensures.lends
