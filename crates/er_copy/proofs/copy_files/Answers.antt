use Rattle.std.proofs.Common.{subst}
use Rattle.std.proofs.lemmas.Bool.{and_from, and_parts}
use Rattle.sqlite_wal.specs.{Files.outcomes, Reads.AreClean}
use Rattle.er_copy.proofs.Copying.{kept_at, longer_alone, longer_kept}
use Rattle.er_copy.proofs.copy_files.Goals as goal

pub returns-then-not-copy-clause-keeps : goal.returns-then-not-copy-clause-keeps
returns-then-not-copy-clause-keeps g c clean size db all =
    let sure = subst (λ p. AreClean g.D.Disk p.0 p.1) c.into_files.ensures clean in
    record {
      allowed = all.allowed;
      each = λ left may. kept_at g.D.Disk g.met.D.Disk.seen_may_stay c.args.files c.page_size.new.files c.page_size.result
          c.in-Some.size c.in-Some.is c.page_size.ensures c.in-Ok.log c.copy.new.log c.in-Ok.ensures.files
          c.in-Ok.ensures.size c.copy.ensures.keeps sure size db all
          left (sure, subst (λ p. outcomes g.D.Disk p.0 p.1 left) c.into_files.ensures may);
    }

pub returns-clause-keeps : goal.returns-clause-keeps
returns-clause-keeps g c clean size db all =
    let both = and_parts _ _ clean in
    let sure = subst (λ p. AreClean g.D.Disk p.0 p.1) c.into_files-copied.ensures (and_from _ _ (c.lengthen.ensures.clean both.0) both.1) in
    record {
      allowed = all.allowed;
      each = λ left may. longer_kept g.D.Disk g.met.D.Disk.seen_may_stay c.args.files c.page_size.new.files c.page_size.result
          c.in-Some.size c.in-Some.is c.page_size.ensures c.in-Ok.log c.copy.new.log c.in-Ok.ensures.files
          c.in-Ok.ensures.size c.copy.ensures.keeps sure size db all
          (c.copy.ensures.copied c.if-not-copy.false) c.into_files-copied.result c.lengthen.new.log
          c.into_files-copied.ensures c.lengthen.ensures.crash left may;
    }

pub returns-clause-copied : goal.returns-clause-copied
returns-clause-copied g c done clean size db all =
    let both = and_parts _ _ clean in
    let sure = subst (λ p. AreClean g.D.Disk p.0 p.1) c.into_files-copied.ensures (and_from _ _ (c.lengthen.ensures.clean both.0) both.1) in
    record {
      each = λ left may. longer_alone g.D.Disk g.met.D.Disk.seen_may_stay c.args.files c.page_size.new.files c.page_size.result
          c.in-Some.size c.in-Some.is c.page_size.ensures c.in-Ok.log c.copy.new.log c.in-Ok.ensures.files
          c.in-Ok.ensures.size c.copy.ensures.keeps sure size db all
          (c.copy.ensures.copied c.if-not-copy.false) c.into_files-copied.result c.lengthen.new.log
          c.into_files-copied.ensures c.lengthen.ensures.crash left may;
    }
