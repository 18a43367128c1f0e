-- Clients that are served one after the other: what they send, and what they get.
use Rattle.std.specs.Prelude.{◌≡◌, ℕ, Bool, true, false, IsFalse, List, [], ◌∷◌, ◌++◌, length, Option, Some, None}
use Rattle.sqlite_trees.specs.declared.store.Store.{Ghosts}
use Rattle.sqlite.specs.State.{HasCleanDisk}
use Rattle.er_desk.specs.declared.desk.Desk.{Desk}
use Rattle.er_desk.specs.Asking.{Asks, join_sessions}
use Rattle.er_desk.specs.Desk.{DeskState, HoldsOwnEvent, desk_state, state}
use Rattle.er_desk.specs.Run.{Session, no_session}
use Rattle.er_slips.specs.declared.serve.ServeEnd.{ServeEnd}
use Rattle.er_slips.specs.declared.serve.ServeEnd.TheVariants.{Answered, ReadFault, WriteFault}
use Rattle.er_slips.specs.Serving.{EndsServing}

-- what a client got, if that is known, and whether a call of its connection has failed
pub record Got : Type 0 where
  pub bytes : Option (List ℕ)
  pub failed : Bool

-- The next client came: it sends the first of these inputs, has got nothing, and its connection is whole.
abbrev pub IsNextClient : List (List ℕ) → (reads wrote : Option (List ℕ)) → (failed : Bool) → (coming : Option (List (List ℕ))) → Type 0
IsNextClient inputs reads wrote failed coming =
    (input : List ℕ) × (rest : List (List ℕ)) × (inputs ≡ input ∷ rest) × (reads ≡ Some input) × (wrote ≡ Some []) × (failed ≡ false)
    × (coming ≡ Some rest)

-- It went away with this, unless that is known no more.
abbrev pub GetsLast : Option (List Got) → Option (List ℕ) → Bool → Option (List Got) → Type 0
GetsLast old bytes failed None = Unit {0}
GetsLast None bytes failed (Some all) = ⊥
GetsLast (Some gots) bytes failed (Some all) = all ≡ gots ++ record { bytes = bytes; failed = failed } ∷ []

-- serving broke off only if a call of the one side or the other has failed
abbrev pub tells : (read_failed write_failed : Bool) → ServeEnd → Bool
tells read_failed write_failed (Answered status) = true
tells read_failed write_failed ReadFault = read_failed
tells read_failed write_failed (WriteFault sent) = write_failed

-- How one client was served, whatever state the desk is in: what it sent, what it got, and what was asked of the file for it belong together.
-- If no call of its connection has failed, it was answered.
pub record IsServedTo (Represented : Type 0) (old : DeskState) (input : List ℕ) (got : Got) (session : Session) (new : DeskState)
    : Type 0 where
  pub served : ServeEnd
  pub ends : EndsServing Represented (Some input) old session new (Some []) got.bytes served
  pub answered : IsFalse got.failed → (status : ℕ) × (served ≡ Answered status)

-- each of them, on the event that those before it left
abbrev pub GetEach : Type 0 → DeskState → List (List ℕ) → List Got → Session → DeskState → Type 0
GetEach Represented old [] [] session new = (session ≡ no_session) × (new ≡ old)
GetEach Represented old (input ∷ inputs) (got ∷ gots) session new =
    (mid : DeskState) × (one later : Session) × IsServedTo Represented old input got one mid × GetEach Represented mid inputs gots later new
    × (session ≡ join_sessions one later)
GetEach Represented old [] (got ∷ gots) session new = ⊥
GetEach Represented old (input ∷ inputs) [] session new = ⊥

-- `count` of those who were to come were served by the desk, one after the other, and the file took what they asked for and nothing else.
-- That each answer is the one of the event rests on tables that represented it, on a clean disk.
pub record ServesSome {S : Type 0} (g : Ghosts S) (count : ℕ) (inputs : List (List ℕ)) (before : List Got) (old : Desk S g)
    (coming : Option (List (List ℕ))) (all : List Got) (new : Desk S g) : Type 0 where
  pub came : List (List ℕ)
  pub rest : List (List ℕ)
  pub gots : List Got
  pub are_first : inputs ≡ came ++ rest
  pub many : length came ≡ count
  pub coming_then : coming ≡ Some rest
  pub got_then : all ≡ before ++ gots
  pub session : Session
  pub each : GetEach (HasCleanDisk (state g new) × (IsFalse (desk_state old).needs_reopen → HoldsOwnEvent g old)) (desk_state old) came
      gots session (desk_state new)
  pub asks : Asks g old session new

-- The same of clients of whom it is known what they will send, and then what they got.
abbrev pub ServesKnown : {S : Type 0} (g : Ghosts S) (count : ℕ) (inputs : Option (List (List ℕ))) (before : Option (List Got))
    (old : Desk S g)
    (coming : Option (List (List ℕ))) (got : Option (List Got)) (new : Desk S g) → Type 0
ServesKnown g count None before old coming got new = Unit {0}
ServesKnown g count (Some inputs) before old coming None new = Unit {0}
ServesKnown g count (Some inputs) None old coming (Some all) new = ⊥
ServesKnown g count (Some inputs) (Some gots) old coming (Some all) new = ServesSome g count inputs gots old coming all new

-- what is known of what they got was known before
abbrev pub KnewBefore : (old new : Option (List Got)) → Type 0
KnewBefore old None = Unit {0}
KnewBefore None (Some all) = ⊥
KnewBefore (Some gots) (Some all) = Unit {0}
