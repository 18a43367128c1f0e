use Rattle.std.proofs.Common.{refl, sym, ◌∙◌, true≢false}
use Rattle.er_event.specs.declared.refusals.Refusal.TheVariants.{NoSuchMatch}
use Rattle.er_store.specs.Store as tables
use Rattle.er_desk.proofs.Looking.{reads_tables, waits_tables}
use Rattle.er_desk.proofs.desk.Desk.slip.Goals as goal

pub returns-clause-reads : goal.returns-clause-reads
returns-clause-reads g c =
    reads_tables g.S.Store c.args.self.now NoSuchMatch
    (λ db is_open may. g.met.S.Store.settled (tables.connection c.args.self.now.store).store db is_open may)
    (c.shown_is_stored.ensures _ _ _) _ c.slip.result
    (sym c.needs_reopen.ensures ∙ c.if-needs_reopen.false) refl refl c.slip.ensures.reads c.slip.ensures.same

pub returns-clause-found : goal.returns-clause-found
returns-clause-found g c runs clean shows =
    c.slip.ensures.found (sym c.needs_reopen.ensures ∙ c.if-needs_reopen.false) clean c.args.self.now.event c.args.self.now.serial
    shows.represents c.events_are_sound.ensures

-- ---- the desk was stopped

pub returns-then-needs_reopen-clause-reads : goal.returns-then-needs_reopen-clause-reads
returns-then-needs_reopen-clause-reads g c =
    waits_tables g.S.Store c.args.self.now NoSuchMatch
    (λ db is_open may. g.met.S.Store.settled (tables.connection c.args.self.now.store).store db is_open may)
    (c.shown_is_stored.ensures _ _ _)
    (sym c.needs_reopen.ensures ∙ c.if-needs_reopen.true)

pub returns-then-needs_reopen-clause-found : goal.returns-then-needs_reopen-clause-found
returns-then-needs_reopen-clause-found g c runs = absurd (true≢false (sym c.if-needs_reopen.true ∙ (c.needs_reopen.ensures ∙ runs)))
