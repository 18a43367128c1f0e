use Rattle.std.proofs.Common.{◌≡◌, ◌⊎◌, ℕ, List, subst}
use Rattle.er_event.specs.declared.refusals.Refusal.TheVariants.{Memory}
use Rattle.er_slips.specs.Response.{response_value, refusal_response, slip_response}
use Rattle.er_slips.proofs.Answering.{made_is}
use Rattle.er_slips.proofs.serve.response.Goals as goal

pub returns-in-Slip : goal.returns-in-Slip
returns-in-Slip c =
    let answer = response_value c.response_or_memory-in-Slip.result in
    rw c.in-Slip.is (
    subst (λ (slip : List ℕ). (answer ≡ slip_response slip) ⊎ (answer ≡ refusal_response Memory)) c.as_slice-in-Slip.ensures
    (made_is c.slip_response.result answer _ c.slip_response.ensures c.response_or_memory-in-Slip.ensures))
