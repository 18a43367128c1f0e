-- The headline. If the program is stopped before or within any write, an opening of the file finds the event that a prefix of the accepted
-- commands makes, one that holds every acknowledged command. The standings are those that the rules define on it, and no stored round of it
-- repeats an opponent or a bye.
--
-- What it supposes: the creation of the event was acknowledged, in a file in which no foreign key names one of its tables (`NoneAwaitsIn`
-- of Opening); nobody else writes the file, and the device returns what was written and keeps the storage crate's model of crashes
-- (`HasCleanDisk`, in each `AfterCrash`); an opening begins on what a crash may leave.
use Rattle.std.specs.Prelude.{◌≡◌, ◌⊎◌, ℕ, List, [], ◌∷◌, ◌++◌, AllPairs, IsFalse}
use Rattle.sqlite_trees.specs.declared.store.Store.{Ghosts}
use Rattle.sqlite.specs.Tree.{Trees}
use Rattle.sqlite.specs.State.{State}
use Rattle.sqlite.specs.Files.{HoldsDatabase}
use Rattle.sqlite.specs.Opening.{HoldsAt}
use Rattle.sqlite_pool.specs.Stored.{stored_size}
use Rattle.sqlite_wal.specs.PageSize.{IsPageSize}
use Rattle.sqlite_wal.specs.Recovery.{Image}
use Rattle.er_event.specs.declared.commands.Command.{Command}
use Rattle.er_event.specs.Event.{EventValue}
use Rattle.er_event.specs.Round.{is_same_pairing, matches_of}
use Rattle.er_event.specs.Sound.{IsSetUp}
use Rattle.er_rank.specs.declared.rows.Row.{Row}
use Rattle.er_rank.specs.Standings.{AreStandings, OneStandings}
use Rattle.er_rules.specs.Sound.{IsSound}
use Rattle.er_store.specs.Representing.{AfterCrash, Either}
use Rattle.er_store.specs.Tables.{no_schema}
use Rattle.er_desk.specs.Desk.{Point, Placed, HoldsOwnEvent, IsStoredAt, IsStoredAfter, placed_at, placed_of, state, desk_state}
use Rattle.er_desk.specs.declared.desk.Desk.{Desk}
use Rattle.er_desk.specs.Run.{Session, IsStoredEnd}
use Rattle.er_desk.specs.History.{Ended, IsHistory, LeadsTo, accepted_commands, surely_accepted_commands, new_point}

-- each thing that a crash may leave represents this event and this serial, whole, in tables of this version
abbrev pub RecoversJust : State → Placed → Type 0
RecoversJust s placed = AfterCrash s (IsStoredAt placed)

-- for the event before the command or for the one after it, whole
abbrev pub RecoversEither : State → Placed → Command → Type 0
RecoversEither s placed command = AfterCrash s (Either (IsStoredAt placed) (IsStoredAfter placed command))

-- for the fold of the acknowledged commands, or for that with the one in doubt
abbrev pub RecoversEnd : State → Placed → Session → Type 0
RecoversEnd s first session = AfterCrash s (IsStoredEnd first session)

-- nothing stands in the file before the event is created in it
abbrev pub IsEmptyFile : State → Type 0
IsEmptyFile s = s.now.schema ≡ no_schema

-- what the file holds is a thing that a crash left of this event
abbrev pub Recovers : Image → Placed → Type 0
Recovers image placed = (db : Trees) × ∥ HoldsDatabase image db ∥₁ × IsStoredAt placed db

-- The files recover to a database with these trees at some page size. Each page has its sum, in the log too, if pages of the file end in sums,
-- as none do that this program makes.
abbrev pub HoldsWhole : Image → Trees → Type 0
HoldsWhole image db = (size : ℕ) × IsPageSize (stored_size size) × HoldsAt size image db

-- such a file, which a crash left of this event
abbrev pub RecoversWhole : Image → Placed → Type 0
RecoversWhole image placed = (db : Trees) × ∥ HoldsWhole image db ∥₁ × IsStoredAt placed db

-- an opening finds just this event and this serial, in this version: its tables represent them, and a crash leaves them again
pub record FindsAgain {S : Type 0} (g : Ghosts S) (desk : Desk S g) (placed : Placed) : Type 0 where
  pub found : placed_of (desk_state desk) ≡ placed
  pub shows : HoldsOwnEvent g desk
  pub leaves : RecoversJust (state g desk) placed

-- no stored round repeats an opponent or a bye: no two stored matches have the same two players; the second of a bye is 0
abbrev pub RepeatsNobody : EventValue → Type 0
RepeatsNobody event = AllPairs (λ m n. IsFalse (is_same_pairing m n)) (matches_of event.stored)

-- the rows are the standings that the rules define, and no other list is
abbrev pub AreTheStandings : EventValue → List Row → Type 0
AreTheStandings event rows = AreStandings event rows × OneStandings event rows

-- ---- many sessions

-- The event at the end of a history is sound, repeats no opponent and no bye, and is the fold of all accepted commands, or of
-- all but the one that the last session left in doubt. Its serial is their number.
pub record IsEndOf (new : Point) (ends : List Ended) (last : Point) : Type 0 where
  pub sound : IsSound last.event
  pub repeats : RepeatsNobody last.event
  pub leads : LeadsTo new (accepted_commands new.serial ends) last ⊎ LeadsTo new (surely_accepted_commands new.serial ends) last

-- every history of a new event ends so
abbrev pub Histories : Type 0
Histories = (name : List ℕ) (rounds cut : ℕ) → IsSetUp name rounds cut
    → (ends : List Ended) (last : Point) → IsHistory (new_point name rounds cut) ends last → IsEndOf (new_point name rounds cut) ends last

-- with one session more
abbrev pub and_then : List Ended → Session → Point → List Ended
and_then ends session last = ends ++ record { session = session; last = last } ∷ []

-- What is left is an end of the history with this session after it, whole, in tables of this version, and the next session begins there.
-- `Histories` says what the end of a history is.
pub record NextBegins (new : Point) (ends : List Ended) (session : Session) (version : ℕ) (trees : Trees) : Type 0 where
  pub last : Point
  pub history : IsHistory new (and_then ends session last) last
  pub stored : IsStoredAt (placed_at last version) trees

-- An event may be set up so, and is new.
pub record IsBeginning (new : Point) : Type 0 where
  pub name : List ℕ
  pub limits : ℕ × ℕ
  pub is_new : new ≡ new_point name limits.0 limits.1
  pub set_up : IsSetUp name limits.0 limits.1

-- The file was left by a history of a new event, in tables of this version.
pub record RecoversHistory (image : Image) (new : Point) (ends : List Ended) (first : Placed) : Type 0 where
  pub begins : IsBeginning new
  pub history : IsHistory new ends first.point
  pub left : Recovers image first
