use Rattle.std.proofs.Common.{refl, ap, ◌∙◌}
use Rattle.er_slips.specs.Response.{fault_response}
use Rattle.er_slips.proofs.Answering.{ends-asked, ends-refused, ends-unserved, keeps}
use Rattle.er_slips.proofs.serve.serve_one.Goals as goal

pub returns-in-Ok : goal.returns-in-Ok
returns-in-Ok g c =
    let it = c.answer.ensures in
    record {
      serves = record {
        session = it.session;
        ends = ends-asked _ _ _ _ _ _ _ _ _ _ c.in-Ok.ensures it.answers c.deliver.ensures;
        asks = it.asks;
      };
    }

pub returns-in-Err-Refused : goal.returns-in-Err-Refused
returns-in-Err-Refused g c = record {
  serves = record {
    session = _;
    ends = ends-refused _ _ _ _ _ _ _ _ _ _ _ c.in-Err-Refused.field-0-is c.in-Err-Refused.ensures
        (c.fault_response.ensures ∙ ap fault_response c.in-Err-Refused.fault-is) refl refl c.deliver-in-Err-Refused.ensures;
    asks = c.asks_nothing.ensures;
  };
}

pub returns-in-Err-Memory : goal.returns-in-Err-Memory
returns-in-Err-Memory g c = record {
  serves = record {
    session = _;
    ends = ends-unserved _ _ _ _ _ _ _ _ c.in-Err-Memory.field-0-is c.in-Err-Memory.ensures c.refusal_response.ensures
        c.deliver-in-Err-Memory.ensures;
    asks = c.asks_nothing.ensures;
  };
}

pub returns-in-Err-Unread : goal.returns-in-Err-Unread
returns-in-Err-Unread g c = record { serves = record { session = _; ends = (keeps _, refl, refl); asks = c.asks_nothing.ensures } }
