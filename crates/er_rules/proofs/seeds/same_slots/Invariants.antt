use Rattle.std.proofs.Common.{◌↔◌, drop}
use Rattle.er_event.specs.Bracket.{SameSlots}
use Rattle.er_rules.proofs.seeds.same_slots.Given as goal

abbrev pub invariant-loop-slot : goal.invariant-loop-slot
invariant-loop-slot l = SameSlots (drop l.slot l.stage) (drop l.slot l.other) ↔ SameSlots l.stage l.other
