use Rattle.er_store.proofs.Prelude.{after, with_player, ◌≡◌, List, Option, Some, None, IfSome, option_map, sym, ap, subst, ◌∙◌}
use Rattle.er_store.proofs.Prelude.{rules, SetDropped, Match, Round, IsStage, length, ◌+◌}
use Rattle.std.proofs.Common.{Bor}
use Rattle.er_event.specs.{Change.Fits, declared.changes.Change.TheVariants.SetScore}
use Rattle.er_store.proofs.{Picking.numbered_before, Together.makes_then, Lending.lends_then, Crash.was_clean, Sizes.next_is}
use Rattle.er_store.proofs.{Tallying.none_stored}
use Rattle.er_store.proofs.transactions.change_rows.Goals as goal

pub returns-in-AddPlayer-clause-makes : goal.returns-in-AddPlayer-clause-makes
returns-in-AddPlayer-clause-makes g c l version s rows represents clean =
    let e = c.args.event.now in
    let is : with_player e c.as_str.result.now ≡ after e c.args.change.now = ap (with_player e) c.as_str.ensures.value
    ∙ sym (ap (after e) c.in-AddPlayer.is) in
    let fits = rw c.in-AddPlayer.is at c.requires.fits in
    let takes = rw c.in-AddPlayer.is at c.requires.takes in
    let joined = ap (λ (rs : List Round). length rs) c.stored.ensures.value in
    rw (← is) (c.add_player.ensures.makes l e version (ap (λ ps. length ps + 1) c.players.ensures.value) joined
    (λ first. joined ∙ none_stored _ fits.sound (takes first)) s rows represents clean)

pub returns-in-SetDropped-clause-makes : goal.returns-in-SetDropped-clause-makes
returns-in-SetDropped-clause-makes g c l version s rows represents clean =
    let e = c.args.event.now in
    let number = c.from.result in
    let is : SetDropped number ≡ c.args.change.now = ap SetDropped (c.from.ensures ∙ c.get.ensures.value) ∙ sym c.in-SetDropped.is in
    let fits : Fits e (SetDropped number) = rw (← is) at c.requires.fits in
    let numbered = numbered_before number e.players fits.sound.players.numbered in
    rw (← is) (c.drop_player.ensures.makes l e version (numbered, fits.named) s rows represents clean)

pub returns-in-SetScore-clause-makes : goal.returns-in-SetScore-clause-makes
returns-in-SetScore-clause-makes g c l version s rows represents clean =
    let e = c.args.event.now in
    let is : SetScore c.from-in-SetScore.result c.from-in-SetScore-2.result c.in-SetScore.score ≡ c.args.change.now = search rules in
    let fits : Fits e (SetScore c.from-in-SetScore.result c.from-in-SetScore-2.result c.in-SetScore.score) = rw (← is) at c.requires.fits in
    rw (← is) (c.set_score.ensures.makes l e fits.named.0 fits.named.1 fits.named.2 s rows represents clean)

-- what holds of the stage that a reference leads to
led : (o : Option (Bor (List Match))) (next : Option (List Match)) → option_map (λ (m : Bor (List Match)). m.now) o ≡ next
    → IfSome next IsStage → IfSome o (λ (m : Bor (List Match)). IsStage m.now)
led None next is h = tt
led (Some m) next is h = subst (λ (n : Option (List Match)). IfSome n IsStage) (sym is) h

pub score_stages-requires-clause-few : goal.score_stages-requires-clause-few
score_stages-requires-clause-few g c =
    let e = c.args.event.now in
    let it = c.in-SetBracketScore in
    let fits = subst (Fits e) it.is c.requires.fits in
    led c.as_ref.result it.next c.as_ref.ensures.value (next_is e it.stage it.slot it.score it.next it.finished fits.sound)

pub returns-in_ok-set_phase-in-SetBracketScore-clause-makes : goal.returns-in_ok-set_phase-in-SetBracketScore-clause-makes
returns-in_ok-set_phase-in-SetBracketScore-clause-makes g c l version s rows represents clean =
    let e = c.args.event.now in
    let it = c.in-SetBracketScore in
    let one = c.in_ok-score_stages-in-SetBracketScore.ensures.makes l s rows represents
    (was_clean c.set_phase-then-finished.ensures.lends.stays.survives clean) in
    let two = c.in_ok-set_phase-in-SetBracketScore.ensures.makes l _ s rows one.represents clean in
    rw (it.is, c.if-finished.true, ← c.as_ref.ensures.value) (makes_then one two)

pub returns-else-finished-clause-makes : goal.returns-else-finished-clause-makes
returns-else-finished-clause-makes g c l version s rows represents clean =
    rw (c.in-SetBracketScore.is, c.if-finished.false, ← c.as_ref.ensures.value)
    (c.in_ok-score_stages-in-SetBracketScore.ensures.makes l s rows represents clean)

pub returns-in_ok-set_phase-in-SetBracketScore-clause-lends : goal.returns-in_ok-set_phase-in-SetBracketScore-clause-lends
returns-in_ok-set_phase-in-SetBracketScore-clause-lends g c =
    lends_then c.score_stages.ensures.lends c.set_phase-then-finished.ensures.lends

pub returns-in_err-set_phase-in-SetBracketScore-clause-lends : goal.returns-in_err-set_phase-in-SetBracketScore-clause-lends
returns-in_err-set_phase-in-SetBracketScore-clause-lends g c =
    lends_then c.score_stages.ensures.lends c.set_phase-then-finished.ensures.lends
