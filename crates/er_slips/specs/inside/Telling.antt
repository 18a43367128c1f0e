-- What reading an input tells of it.
use Rattle.std.specs.Prelude.{◌≡◌, ◌≤◌, ℕ, List, Result, Ok, Err}
use Rattle.er_slips.specs.declared.request.fields.TheConstants.{MAX_BODY}
use Rattle.er_slips.specs.declared.request.wanted.Request.{Request}
use Rattle.er_slips.specs.declared.request.Next.{Next}
use Rattle.er_slips.specs.declared.request.Next.TheVariants.{Get, Body}
use Rattle.er_slips.specs.declared.request.wanted.Fault.{Fault}
use Rattle.er_slips.specs.declared.request.wanted.NoRequest.{NoRequest}
use Rattle.er_slips.specs.declared.request.wanted.NoRequest.TheVariants as no_request
use Rattle.er_slips.specs.Request.{IsRequest, IsWholeRequest}

-- memory runs out only for a body, once it is whole
abbrev pub TellsRequest : List ℕ → Result Request NoRequest → Type 0
TellsRequest input (Ok asked) = IsRequest input (Ok asked)
TellsRequest input (Err (no_request.Refused fault)) = IsRequest input (Err fault)
TellsRequest input (Err no_request.Memory) = (round table n : ℕ) × IsWholeRequest input (Body round table n)
TellsRequest input (Err no_request.Unread) = Unit {0}

-- what is due, or out of memory
abbrev pub IsDueUnlessMemory : {A : Type 0} → Result A Fault → Result A NoRequest → Type 0
IsDueUnlessMemory due (Ok told) = due ≡ Ok told
IsDueUnlessMemory due (Err (no_request.Refused fault)) = due ≡ Err fault
IsDueUnlessMemory due (Err no_request.Memory) = Unit {0}
IsDueUnlessMemory due (Err no_request.Unread) = ⊥

-- a body has at most 4096 bytes
abbrev pub IsShort : Next → Type 0
IsShort (Get asked) = Unit {0}
IsShort (Body round table n) = n ≤ MAX_BODY
