use Rattle.std.proofs.Common.{◌≤◌, Ok, take, ap, sym, ◌∙◌, refl, arith}
use Rattle.er_slips.specs.inside.Scan.{ShowsHead}
use Rattle.er_slips.proofs.Asking.{asks-get, asks-fault, asks-body, asks-short, few-bytes, shows-of, head-fits}
use Rattle.er_slips.proofs.request.read_request.Goals as goal

pub returns-in-Err : goal.returns-in-Err
returns-in-Err g c =
    let filled = c.read_head-head.result.1 in
    let bytes = take filled c.read_head-head.new.buf in
    let shows = shows-of _ c.in-Found.spans (ShowsHead bytes c.read_head-head.new.headers) c.in-Found.is c.read_head-head.ensures.found in
    asks-fault _ _ bytes c.read_head-head.new.headers c.in-Found.spans c.read_head-head.ensures.read
    (few-bytes filled c.read_head-head.new.buf c.read_head-head.ensures.within) shows
    c.in-Err.fault (sym (c.next_of.ensures.value shows.head shows.at) ∙ c.in-Err.is)

pub returns-in-Ok-Get : goal.returns-in-Ok-Get
returns-in-Ok-Get g c =
    let filled = c.read_head-head.result.1 in
    let bytes = take filled c.read_head-head.new.buf in
    let shows = shows-of _ c.in-Found.spans (ShowsHead bytes c.read_head-head.new.headers) c.in-Found.is c.read_head-head.ensures.found in
    asks-get _ _ bytes c.read_head-head.new.headers c.in-Found.spans c.read_head-head.ensures.read
    (few-bytes filled c.read_head-head.new.buf c.read_head-head.ensures.within) shows
    c.in-Ok-Get.asked (sym (c.next_of.ensures.value shows.head shows.at) ∙ c.in-Ok-Get.is ∙ ap Ok c.in-Ok-Get.field-0-is)

pub returns-then-count-end : goal.returns-then-count-end
returns-then-count-end g c =
    let filled = c.read_head-head.result.1 in
    let bytes = take filled c.read_head-head.new.buf in
    let shows = shows-of _ c.in-Found.spans (ShowsHead bytes c.read_head-head.new.headers) c.in-Found.is c.read_head-head.ensures.found in
    let past : c.in-Found.spans.len ≤ c.in-Ok.count =
    omega (
      arith,
      head-fits bytes c.read_head-head.new.headers c.in-Found.spans filled c.read_head-head.new.buf refl shows,
      c.in-Ok.ensures.more,
    ) in
    asks-short _ _ bytes c.read_head-head.new.headers c.in-Found.spans c.read_head-head.ensures.read
    (few-bytes filled c.read_head-head.new.buf c.read_head-head.ensures.within) shows
    c.in-Ok-Body.round c.in-Ok-Body.table c.in-Ok-Body.length
    (sym (c.next_of.ensures.value shows.head shows.at) ∙ c.in-Ok-Body.is ∙ ap Ok c.in-Ok-Body.field-0-is)
    _ c.read_on.new.buf c.in-Ok.count (c.in-Ok.ensures.read _ c.read_head-head.ensures.read) c.in-Ok.ensures.within
    past c.if-count-end.true (c.in-Ok.ensures.ended c.if-count-end.true)

pub returns-else-count-end : goal.returns-else-count-end
returns-else-count-end g c =
    let filled = c.read_head-head.result.1 in
    let bytes = take filled c.read_head-head.new.buf in
    let shows = shows-of _ c.in-Found.spans (ShowsHead bytes c.read_head-head.new.headers) c.in-Found.is c.read_head-head.ensures.found in
    asks-body _ _ bytes c.read_head-head.new.headers c.in-Found.spans c.read_head-head.ensures.read
    (few-bytes filled c.read_head-head.new.buf c.read_head-head.ensures.within) shows
    c.in-Ok-Body.round c.in-Ok-Body.table c.in-Ok-Body.length
    (sym (c.next_of.ensures.value shows.head shows.at) ∙ c.in-Ok-Body.is ∙ ap Ok c.in-Ok-Body.field-0-is)
    _ c.read_on.new.buf c.in-Ok.count (c.in-Ok.ensures.read _ c.read_head-head.ensures.read) c.in-Ok.ensures.within
    _ refl c.if-count-end.false c.report.result c.report.ensures
