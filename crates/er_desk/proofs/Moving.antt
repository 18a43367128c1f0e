-- A history with migrations is one without them.
use Rattle.std.proofs.Common.{Some, ◌≡◌, ◌⊎◌, inl, inr, List, [], ◌∷◌, ap, ◌∙◌, refl}
use Rattle.er_desk.specs.{History.IsHistory}
use Rattle.er_desk.specs.Desk.{Placed}
use Rattle.er_desk.specs.Migrations.{Request, Submits, Migrates, MovingEnded, MayEndIn, IsMovingHistory, version_after}
use Rattle.er_desk.specs.Migrations.{without_migrations}

pub passes_over : (first : Placed) (ends : List MovingEnded) (last : Placed) → IsMovingHistory first ends last
    → IsHistory first.point (without_migrations ends) last.point
passes_over first [] last is = ap (λ (p : Placed). p.point) is
passes_over first (it ∷ more) last (ends, rest) = (ends.point, passes_over it.last more last rest)

-- version 2 stays
stays_second : (asked : List Request) → version_after 2 asked ≡ 2
stays_second [] = refl
stays_second (Submits command ∷ more) = stays_second more
stays_second (Migrates ∷ more) = stays_second more

ends_second : (first : Placed) (it : MovingEnded) → MayEndIn first it.session it.last → first.version ≡ 2 → it.last.version ≡ 2
ends_second first it ends second = by_version ends.version
  where
    by_version : (it.last.version ≡ version_after first.version it.session.acknowledged)
        ⊎ ((it.session.in_doubt ≡ Some Migrates) × (it.last.version ≡ 2)) → it.last.version ≡ 2
    by_version (inl kept) = kept ∙ ap (λ v. version_after v it.session.acknowledged) second ∙ stays_second it.session.acknowledged
    by_version (inr doubt) = doubt.1

pub no_way_back : (first : Placed) (ends : List MovingEnded) (last : Placed) → IsMovingHistory first ends last → first.version ≡ 2
    → last.version ≡ 2
no_way_back first [] last is second = ap (λ (p : Placed). p.version) is ∙ second
no_way_back first (it ∷ more) last (ends, rest) second = no_way_back it.last more last rest (ends_second first it ends second)
