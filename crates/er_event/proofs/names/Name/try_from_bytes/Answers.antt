use Rattle.er_event.proofs.NameLemmas.{IsStored-name}
use Rattle.er_event.proofs.names.Name.try_from_bytes.Goals as goal

pub invariant_of-result : goal.invariant_of-result
invariant_of-result c =
    IsStored-name c.args.bytes.now c.copy_from_slice.new.self c.copy_from_slice.ensures.after
    (c.is_lawful.ensures.0 c.if-not-is_lawful.false)
