use Rattle.er_store.proofs.Prelude.{with_stage, on_ok_weaker}
use Rattle.er_store.proofs.{Together.makes_then, Lending.lends_then, Crash.was_clean, Sizes.first_is}
use Rattle.er_store.proofs.transactions.begin_playoff.Goals as goal

pub insert_stage-requires : goal.insert_stage-requires
insert_stage-requires g c = first_is c.args.event.now c.args.matches.now c.requires.fits.sound

pub returns-clause-makes : goal.returns-clause-makes
returns-clause-makes g c l s rows represents clean =
    let e = c.args.event.now in
    let one = c.in_ok-insert_stage.ensures.makes l e c.next_number.ensures s rows represents
    (was_clean c.set_phase.ensures.lends.stays.survives clean) in
    on_ok_weaker c.set_phase.result (λ two. makes_then one two)
    (c.set_phase.ensures.makes l (with_stage e c.args.matches.now) s rows one.represents clean)

pub returns-clause-lends : goal.returns-clause-lends
returns-clause-lends g c = lends_then c.insert_stage.ensures.lends c.set_phase.ensures.lends
