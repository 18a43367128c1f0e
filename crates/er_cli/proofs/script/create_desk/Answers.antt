use Rattle.std.proofs.Common.{inl, inr, refl, subst, sym}
use Rattle.sqlite_trees.specs.View.{doubt}
use Rattle.sqlite.specs.Steps.{over_memory}
use Rattle.er_store.specs.{Beside.NoneAwaitsFive, Representing.RepresentsNow}
use Rattle.er_desk.specs.Desk.{DeskState, state}
use Rattle.er_cli.proofs.script.create_desk.Goals as goal

-- the store is new and lists no table, so that no foreign key waits for one
pub returns-in-Ok-create-clause-represents : goal.returns-in-Ok-create-clause-represents
unfolding doubt
returns-in-Ok-create-clause-represents c =
    let it = c.in-Ok-create.ensures in
    let shows = it.tables.created refl (subst (NoneAwaitsFive 2) (sym c.in-Ok.ensures.empty.2) (tt, (tt, (tt, (tt, (tt, tt)))))) in
    subst (λ (s : DeskState). RepresentsNow s.version (state over_memory c.in-Ok-create.desk) s.event s.serial) (sym it.made) shows

-- in an empty store with these limits only memory or the store can fail
pub returns-in-Err-clause-refused : goal.returns-in-Err-clause-refused
unfolding doubt
returns-in-Err-clause-refused c = elim c.in-Err.ensures.why [
  | inl setup ↦ absurd ((c.in-Err.ensures.beyond setup).1 c.requires)
  | inr (inl exists) ↦ absurd ((c.in-Err.ensures.exists exists refl).1 c.in-Ok.ensures.empty.2)
  | inr (inr fault) ↦ fault
]
