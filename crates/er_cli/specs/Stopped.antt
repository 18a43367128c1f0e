-- A stop at any instant, as calls that fail from there on: what a crash could leave of a file before them, or in the first of them, it may leave
-- after them. So what is said of what a disk may leave at an exit, whatever its calls answered, is said of every instant.
use Rattle.std.specs.Prelude.{◌≡◌, ◌⊎◌, ℕ, Bool, false, List, ◌∷◌, ◌++◌}
use Rattle.std.specs.List.{AllByRecursion}
use Rattle.sqlite_disk.specs.Events.{Event, replay}
use Rattle.sqlite_disk.specs.History.{MayLeave}

-- the call failed, whichever it was
abbrev pub HasFailed : Event → Type 0
HasFailed call = call.3 ≡ false

-- the same call, as one that failed, with the count that comes with that
abbrev pub failing : ℕ → Event → Event
failing count call = (call.0, call.1, count, false, call.4)

-- what a crash may leave of a file that held `start` after these calls, of which the newest comes first
abbrev pub LeavesAfter : (mixes : Bool) (start : List ℕ) (calls : List Event) → List ℕ → Type 0
LeavesAfter mixes start calls left =
    let file = replay start calls in MayLeave mixes file.seen file.synced file.steps left

-- One run did this call on a file. In another that call and all later ones failed, and the earlier ones answered the same. What a crash
-- could leave in the first run, before that call or after it, it may leave at the end of the second.
abbrev pub StopsAreExits : Type 0
StopsAreExits = (mixes : Bool) (start : List ℕ) (before : List Event) (call : Event) (count : ℕ) (failed : List Event)
    → AllByRecursion HasFailed failed → (left : List ℕ)
    → LeavesAfter mixes start before left ⊎ LeavesAfter mixes start (call ∷ before) left
    → LeavesAfter mixes start (failed ++ failing count call ∷ before) left
