use Rattle.std.proofs.Common.{IsTrue, sym, subst, ◌∙◌}
use Rattle.sqlite_pool.proofs.StateLemmas.{open_usable}
use Rattle.sqlite_store.specs.Laws.{not_broken}
use Rattle.er_cli.proofs.{Copying.{are_closed, are_kept}, Leaving.keeps_taken}
use Rattle.er_cli.proofs.closing.close.Goals as goal

pub copy_files-files-requires-clause-log : goal.copy_files-files-requires-clause-log
copy_files-files-requires-clause-log g c =
    subst (λ p. IsTrue (g.D.Disk.is_usable p.0)) (sym c.close.ensures)
    (open_usable c.into_store-store.result.pool (not_broken _ _ (sym c.is_broken.ensures.real ∙ c.if-is_broken.false)).1).0

pub copy_files-files-requires-clause-db : goal.copy_files-files-requires-clause-db
copy_files-files-requires-clause-db g c =
    subst (λ p. IsTrue (g.D.Disk.is_usable p.1)) (sym c.close.ensures)
    (open_usable c.into_store-store.result.pool (not_broken _ _ (sym c.is_broken.ensures.real ∙ c.if-is_broken.false)).1).1

pub returns-then-is_broken : goal.returns-then-is_broken
returns-then-is_broken g c = keeps_taken c.args.conn c.into_store-store.result c.into_store-store.ensures.quiet
    c.into_store-store.ensures.sound c.into_store-store.ensures.numbered

pub returns-then-is_copied : goal.returns-then-is_copied
returns-then-is_copied g c clean =
    let taken = c.into_store-store.ensures in
    let copied = c.copy_files-files.ensures in
    are_closed g.met.D.Disk.seen_may_stay c.args.conn c.into_store-store.result c.is_broken.result taken.quiet
    taken.undone taken.numbered taken.sound c.is_broken.ensures.shown c.if-is_broken.false
    c.close.result c.copy_files-files.result.0 c.close.ensures copied.clean copied.keeps clean
    (copied.copied c.if-is_copied.true clean)

pub returns-else-is_copied : goal.returns-else-is_copied
returns-else-is_copied g c clean =
    let taken = c.into_store-store.ensures in
    let copied = c.copy_files-files.ensures in
    are_kept g.met.D.Disk.seen_may_stay c.args.conn c.into_store-store.result c.is_broken.result taken.quiet
    taken.undone taken.numbered taken.sound c.is_broken.ensures.shown c.if-is_broken.false
    c.close.result c.copy_files-files.result.0 c.close.ensures copied.clean copied.keeps clean
