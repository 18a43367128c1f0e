-- The fields of an event, as the value that contracts see.
use Rattle.er_event.specs.declared.events.Event.TheInside.{Inside}
use Rattle.er_event.specs.Event.{EventValue}
use Rattle.er_event.specs.Sound.{IsSoundButForSeeds}

abbrev pub event_value : Inside → EventValue
event_value e = record {
  name = e.name;
  rounds = e.rounds;
  cut = e.cut;
  phase = e.phase;
  players = e.players.items;
  stored = e.stored.items;
  bracket = e.bracket;
}

abbrev pub IsSoundInside : Inside → Type 0
IsSoundInside e = IsSoundButForSeeds (event_value e)
