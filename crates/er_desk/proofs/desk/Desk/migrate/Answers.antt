use Rattle.std.proofs.Common.{◌≡◌, ◌∙◌, inl, inr, refl, sym}
use Rattle.er_desk.specs.Desk.{version_in}
use Rattle.er_desk.proofs.Migrating.{moves_desk}
use Rattle.er_desk.proofs.desk.Desk.migrate.Goals as goal

pub returns : goal.returns
returns g c =
    let runs = sym c.needs_reopen.ensures ∙ c.if-needs_reopen.false in
    let first : version_in c.args.self.now ≡ 1 = elim c.version.ensures.known [
      | inl one ↦ sym c.version.ensures.value ∙ one
      | inr two ↦ absurd (c.if-version-eq2.false two)
    ] in
    rw c.and.ensures (moves_desk g.S.Store c.args.self.now _ runs first refl refl c.migrate.result c.migrate.ensures)
