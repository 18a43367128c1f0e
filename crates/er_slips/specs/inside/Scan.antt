-- A head while it is read.
use Rattle.std.specs.Prelude.{◌≤◌, ◌<◌, ℕ, List, length, ◌++◌}
use Rattle.httparse.specs.Grammar.{HasNoRequest, ReadsRequest, RequestHead}
use Rattle.httparse.specs.Spans.{IsRequestAt, IsRequestWithin}
use Rattle.httparse.specs.declared.spans.HeaderSpan.{HeaderSpan}
use Rattle.httparse.specs.declared.spans.RequestSpans.{RequestSpans}
use Rattle.er_slips.specs.declared.request.head.TheConstants.{MAX_FIELDS}
use Rattle.er_slips.specs.declared.request.head.Head.{Head}
use Rattle.er_slips.specs.declared.request.head.Head.TheVariants.{Found, Refused, Faulty}
use Rattle.er_slips.specs.declared.request.head.Scan.{Scan}
use Rattle.er_slips.specs.declared.request.head.Scan.TheVariants.{Whole, Never, NotYet}

-- the spans are those of a head at the front of the bytes
pub record ShowsHead (bytes : List ℕ) (headers : List HeaderSpan) (spans : RequestSpans) : Type 0 where
  pub within : IsRequestWithin bytes headers spans
  pub head : RequestHead
  pub at : IsRequestAt bytes headers spans head
  pub few : length head.fields ≤ MAX_FIELDS

-- what is known of each input that begins with these bytes
abbrev pub TellsScan : List ℕ → List HeaderSpan → Scan → Type 0
TellsScan bytes headers (Whole spans) = ShowsHead bytes headers spans
TellsScan bytes headers Never =
    (more : List ℕ) (head : RequestHead) (rest : List ℕ) → ReadsRequest (bytes ++ more) head rest
    → MAX_FIELDS < length head.fields
TellsScan bytes headers NotYet = HasNoRequest bytes

-- P of the spans, if a head was found
abbrev pub IfFound : Head → (RequestSpans → Type 0) → Type 0
IfFound (Found spans) P = P spans
IfFound Refused P = Unit {0}
IfFound Faulty P = Unit {0}
