-- The number and the name of each refusal, in one table, and how a refusal is shown.
use Rattle.std.specs.Prelude.{ℕ, List, [], ◌++◌, codes}
use Rattle.std.specs.Fmt.{decimal}
use Rattle.er_event.specs.declared.refusals.Cause.{Cause}
use Rattle.er_event.specs.declared.refusals.Cause.TheVariants.{Refused, BadRow}
use Rattle.er_event.specs.declared.refusals.Place.{Place}
use Rattle.er_event.specs.declared.refusals.Place.TheVariants.{EventTable, PlayerTable, PairingTable, BracketTable, TallyTable}
use Rattle.er_event.specs.declared.refusals.Refusal.{Refusal}
use Rattle.er_event.specs.declared.refusals.Refusal.TheVariants.{BadName, NameTaken, PlayersFull, NotEnrolling, TooFewPlayers, NotSwiss}
use Rattle.er_event.specs.declared.refusals.Refusal.TheVariants.{WrongRound, RoundOpen, AllRoundsPaired, NoPairing, Budget, NoSuchMatch}
use Rattle.er_event.specs.declared.refusals.Refusal.TheVariants.{BadScore, AlreadyReported, NotReported, IsBye, NoSuchPlayer}
use Rattle.er_event.specs.declared.refusals.Refusal.TheVariants.{AlreadyDropped, RoundsNotDone, NoCut, TooFewForCut, NotPlayoff, SerialFull}
use Rattle.er_event.specs.declared.refusals.Refusal.TheVariants.{Memory, Store, NeedsReopen, NoEvent, EventExists, Damaged, BadSetup}
use Rattle.er_event.specs.Score.{games_text}

abbrev pub entry_of : Refusal → ℕ × List ℕ
entry_of BadName = (1, codes "BadName")
entry_of NameTaken = (2, codes "NameTaken")
entry_of PlayersFull = (3, codes "PlayersFull")
entry_of NotEnrolling = (4, codes "NotEnrolling")
entry_of TooFewPlayers = (5, codes "TooFewPlayers")
entry_of NotSwiss = (6, codes "NotSwiss")
entry_of (WrongRound next) = (7, codes "WrongRound")
entry_of (RoundOpen round) = (8, codes "RoundOpen")
entry_of AllRoundsPaired = (9, codes "AllRoundsPaired")
entry_of NoPairing = (10, codes "NoPairing")
entry_of (Budget steps) = (11, codes "Budget")
entry_of NoSuchMatch = (12, codes "NoSuchMatch")
entry_of BadScore = (13, codes "BadScore")
entry_of (AlreadyReported score) = (14, codes "AlreadyReported")
entry_of NotReported = (15, codes "NotReported")
entry_of IsBye = (16, codes "IsBye")
entry_of NoSuchPlayer = (17, codes "NoSuchPlayer")
entry_of AlreadyDropped = (18, codes "AlreadyDropped")
entry_of RoundsNotDone = (19, codes "RoundsNotDone")
entry_of NoCut = (20, codes "NoCut")
entry_of TooFewForCut = (21, codes "TooFewForCut")
entry_of NotPlayoff = (22, codes "NotPlayoff")
entry_of SerialFull = (23, codes "SerialFull")
entry_of Memory = (24, codes "Memory")
entry_of (Store cause) = (25, codes "Store")
entry_of NeedsReopen = (26, codes "NeedsReopen")
entry_of NoEvent = (27, codes "NoEvent")
entry_of EventExists = (28, codes "EventExists")
entry_of (Damaged table) = (29, codes "Damaged")
entry_of BadSetup = (30, codes "BadSetup")

-- ---- what `{}` writes

abbrev pub cause_text : Cause → List ℕ
cause_text Refused = codes "the database declined a call"
cause_text BadRow = codes "a row was read that the format does not allow"

abbrev pub place_text : Place → List ℕ
place_text EventTable = codes "EventTable"
place_text PlayerTable = codes "PlayerTable"
place_text PairingTable = codes "PairingTable"
place_text BracketTable = codes "BracketTable"
place_text TallyTable = codes "TallyTable"

-- what a refusal names, if it names anything
abbrev pub named_of : Refusal → List ℕ
named_of (WrongRound next) = codes " (next " ++ decimal next ++ codes ")"
named_of (RoundOpen round) = codes " (round " ++ decimal round ++ codes ")"
named_of (Budget steps) = codes " (steps " ++ decimal steps ++ codes ")"
named_of (AlreadyReported score) = codes " (score " ++ games_text score ++ codes ")"
named_of (Store cause) = codes " (" ++ cause_text cause ++ codes ")"
named_of (Damaged table) = codes " (table " ++ place_text table ++ codes ")"
named_of why = []

-- `NUMBER NAME`, and what it names
abbrev pub refusal_text : Refusal → List ℕ
refusal_text why = decimal (entry_of why).0 ++ codes " " ++ (entry_of why).1 ++ named_of why
