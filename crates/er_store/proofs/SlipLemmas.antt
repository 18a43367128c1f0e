-- A slip and the row that it is read of.
use Rattle.er_store.proofs.Prelude.{nat_lt, cond, max, min, false, Bool, arith, sym, refl, ℕ, subst, true, ◌≡◌, nat_tests, common_steps}
use Rattle.er_store.proofs.Prelude.{List, Option, Some, IfSome, ◌∙◌, same_Some, Match, SlipRow, pairing_row, NamedPairing, Side}
use Rattle.er_store.proofs.Prelude.{number_of_side}
use Rattle.er_store.proofs.Prelude.{name_of_side, match_of_slip, is_swapped, named_pairing, IsPlayer, IsLawfulSlip}
use Rattle.er_event.specs.Match.{MayStand}

-- ---- what a test chooses of two, as the lesser or the greater of two numbers

pub cond_of : {A B : Type 0} (f : A → B) (b : Bool) (x y : A) → f (cond b x y) ≡ cond b (f x) (f y)
cond_of f true x y = refl
cond_of f false x y = refl

pub either_of : {A : Type 0} (P : A → Type 0) (b : Bool) (x y : A) → P x → P y → P (cond b x y)
either_of P true x y p q = p
either_of P false x y p q = q

pub min_is : (a b : ℕ) → min a b ≡ cond (nat_lt b a) b a
min_is a b = grind (arith, nat_tests)

pub max_is : (a b : ℕ) → max a b ≡ cond (nat_lt b a) a b
max_is a b = grind (arith, nat_tests)

-- what holds of both holds of the lesser and of the greater
pub of_min : (P : ℕ → Type 0) (a b : ℕ) → P a → P b → P (min a b)
of_min P a b p q = subst P (sym (min_is a b)) (either_of P (nat_lt b a) b a q p)

pub of_max : (P : ℕ → Type 0) (a b : ℕ) → P a → P b → P (max a b)
of_max P a b p q = subst P (sym (max_is a b)) (either_of P (nat_lt b a) a b p q)

-- ---- a slip and the row that it is read of

-- the match of the slip stands there
pub match_row : (slip : SlipRow) (round table : ℕ) (row : NamedPairing) → IsLawfulSlip slip → slip.round ≡ round → slip.table ≡ table
    → row ≡ named_pairing slip → MayStand table (match_of_slip slip) × (row.pairing ≡ pairing_row round (table, match_of_slip slip))
match_row slip round table row lawful r t is = grind (arith, common_steps)

-- who has the lower number, and who the higher
abbrev pub low_of : SlipRow → Side
low_of slip = cond (is_swapped slip) slip.second (Some slip.first)

abbrev pub high_of : SlipRow → Side
high_of slip = cond (is_swapped slip) (Some slip.first) slip.second

pub record IsSide (who : Side) (number : ℕ) (name : Option (List ℕ)) : Type 0 where
  pub player : IfSome who IsPlayer
  pub number_is : number ≡ number_of_side who
  pub name_is : name ≡ name_of_side who

pub low_side : (slip : SlipRow) (row : NamedPairing) (m : Match) → IsLawfulSlip slip → row ≡ named_pairing slip → m ≡ match_of_slip slip
    → IsSide (low_of slip) (min m.a m.b) row.lo_name
low_side slip row m lawful is same = grind (arith, common_steps)

pub high_side : (slip : SlipRow) (row : NamedPairing) (m : Match) → IsLawfulSlip slip → row ≡ named_pairing slip → m ≡ match_of_slip slip
    → IsSide (high_of slip) (max m.a m.b) row.hi_name
high_side slip row m lawful is same = grind (arith, common_steps)

-- what is read of the row of a slip
pub record ReadsSlip (slip : SlipRow) (row : NamedPairing) (played : Match) : Type 0 where
  pub is : played ≡ match_of_slip slip
  pub low : IsSide (low_of slip) (min played.a played.b) row.lo_name
  pub high : IsSide (high_of slip) (max played.a played.b) row.hi_name

pub reads_slip : {slip : SlipRow} {round table : ℕ} {row : NamedPairing} {read : Option Match} {played : Match} → IsLawfulSlip slip
    → slip.round ≡ round → slip.table ≡ table → row ≡ named_pairing slip → read ≡ Some played
    → ((m : Match) → MayStand table m → row.pairing ≡ pairing_row round (table, m) → read ≡ Some m) → ReadsSlip slip row played
reads_slip {slip} {round} {table} {row} {read} {played} lawful r t is found exact =
    let it = match_row slip round table row lawful r t is in
    let m = same_Some played (match_of_slip slip) (sym found ∙ exact (match_of_slip slip) it.0 it.1) in
    record { is = m; low = low_side slip row played lawful is m; high = high_side slip row played lawful is m }

-- the first-named player and the second
pub named_first : (slip : SlipRow) (b : Bool) (low high : Side) (pair : Side × Side) → is_swapped slip ≡ b → low ≡ low_of slip
    → high ≡ high_of slip → pair ≡ cond b (high, low) (low, high) → (pair.0 ≡ Some slip.first) × (pair.1 ≡ slip.second)
named_first slip true low high pair swapped l h is = grind (arith, common_steps)
named_first slip false low high pair swapped l h is = grind (arith, common_steps)

pub same_slip : (slip : SlipRow) (round table : ℕ) (pair : Side × Side) (first : ℕ × List ℕ) (m : Match) → slip.round ≡ round
    → slip.table ≡ table → m ≡ match_of_slip slip → pair.0 ≡ Some first → (pair.0 ≡ Some slip.first) × (pair.1 ≡ slip.second)
    → ◌≡◌ {A = SlipRow} (record { round = round; table = table; first = first; second = pair.1; score = m.score }) slip
same_slip slip round table pair first m r t same got is = grind (arith, common_steps)
