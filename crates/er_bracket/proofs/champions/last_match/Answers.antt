use Rattle.std.proofs.{lemmas.Grind.common_steps, Common.{◌≢◌, length, sym, ap, ◌∙◌, arith}, lemmas.Bool.Decides.nat_tests}
use Rattle.er_event.specs.Bracket.{last_match}
use Rattle.er_bracket.proofs.LastLemmas.{only_match, last-read, only-one, only-else}
use Rattle.er_bracket.proofs.champions.last_match.Goals.{in_default-as_slice-via-then-as_slice-lt1-2}
use Rattle.er_bracket.proofs.champions.last_match.Goals.{in_default-as_slice-via-else-as_slice-lt1-2+else-this-lt2}
use Rattle.er_bracket.proofs.champions.last_match.Goals as goal

pub returns-in_default-as_slice : goal.returns-in_default-as_slice
returns-in_default-as_slice c =
    let other : length c.as_slice-2.result.now ≢ 1 = elim c.in_default-as_slice.branch [
      | in_default-as_slice-via-then-as_slice-lt1-2 w ↦ grind (arith, nat_tests)
      | in_default-as_slice-via-else-as_slice-lt1-2+else-this-lt2 w ↦ grind (arith, nat_tests)
    ] in
    let last = last-read c.as_slice.result.now c.last-item.result c.in-len1-up.len_at_least c.last-item.is in
    sym (ap last_match (sym c.as_slice.ensures) ∙ (last
    ∙ (ap only_match (sym c.as_slice-2.ensures) ∙ only-else c.as_slice-2.result.now other)))

pub returns : goal.returns
returns c = grind (arith, common_steps, last-read, only-one, only_match)
