-- The head of a request, by the grammar of RFC 9112 as `httparse` takes it with its default settings.
use Rattle.std.specs.Prelude.{◌≤◌, ℕ, List, length}
use Rattle.httparse.specs.Grammar.{ReadsRequest, RequestHead, print_request}
use Rattle.er_slips.specs.declared.request.head.TheConstants.{MAX_HEAD, MAX_FIELDS}

-- the input begins with this head, of at most 8192 bytes and 32 fields, and goes on with the rest
abbrev pub IsHead : List ℕ → RequestHead → List ℕ → Type 0
IsHead input head rest = ReadsRequest input head rest × (length (print_request head) ≤ MAX_HEAD) × (length head.fields ≤ MAX_FIELDS)

abbrev pub HasNoHead : List ℕ → Type 0
HasNoHead input = (head : RequestHead) (rest : List ℕ) → ¬ (IsHead input head rest)
