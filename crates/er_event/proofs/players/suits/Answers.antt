use Rattle.er_event.proofs.Prelude.{All, AllPass-from_list_all, Bool, List, Player, arith, false, list_all, list_all-from_AllPass}
use Rattle.er_event.proofs.Prelude.{nat_tests}
use Rattle.er_event.proofs.Prelude.{sym, true, true≢false, ℕ, ◌∙◌, ◌≡◌, ◌≤◌}
use Rattle.std.proofs.Common.{nat_le}
use Rattle.er_event.proofs.DropLemmas.{All-early, All-undropped, early-All, undropped-All}
use Rattle.er_event.proofs.players.suits.Goals as goal

within : (limit : ℕ) (ps : List Player) → list_all (λ (p : Player). nat_le p.joined limit) ps ≡ true
    → All (λ (p : Player). p.joined ≤ limit) ps
within limit ps is = λ k d below.
    let here = AllPass-from_list_all (λ (p : Player). nat_le p.joined limit) ps is k d below in grind (arith, nat_tests)

is-within : (limit : ℕ) (ps : List Player) → All (λ (p : Player). p.joined ≤ limit) ps
    → list_all (λ (p : Player). nat_le p.joined limit) ps ≡ true
is-within limit ps h = list_all-from_AllPass (λ (p : Player). nat_le p.joined limit) ps
    (λ k d below. let here = h k d below in grind (arith, nat_tests))

over : (b : Bool) → b ≡ true → b ≡ false → ⊥
over b is turned = true≢false (sym is ∙ turned)

pub returns-then-not-is_nobody_later : goal.returns-then-not-is_nobody_later
returns-then-not-is_nobody_later c = (
  λ yes. absurd (true≢false (sym yes)),
  λ h. absurd (over _ (c.is_nobody_later.ensures ∙ is-within c.args.rounds c.args.players.now h.joined) c.if-not-is_nobody_later.true),
)

-- the limit is kept
kept : (limit : ℕ) (ps : List Player) (test : Bool) → test ≡ list_all (λ (p : Player). nat_le p.joined limit) ps → test ≡ true
    → All (λ (p : Player). p.joined ≤ limit) ps
kept limit ps test is holds = within limit ps (sym is ∙ holds)

pub returns-then-is_nobody_dropped : goal.returns-then-is_nobody_dropped
returns-then-is_nobody_dropped c =
    let ps = c.args.players.now in
    let joined = kept c.args.rounds ps c.is_nobody_later.result c.is_nobody_later.ensures c.if-not-is_nobody_later.false in
    let undropped = All-undropped ps (sym c.is_nobody_dropped.ensures ∙ c.if-is_nobody_dropped.true) in (
      λ yes. record {
        enrolling = λ _. undropped;
        early = λ _. All-early ps (sym c.is_nobody_late.ensures ∙ yes);
        joined = joined;
        started = λ other. absurd (other c.in-Enrolling.is);
      },
      λ h. c.is_nobody_late.ensures ∙ early-All ps (h.early c.in-Enrolling.is),
    )

pub returns-else-is_nobody_dropped : goal.returns-else-is_nobody_dropped
returns-else-is_nobody_dropped c =
    let ps = c.args.players.now in (
      λ yes. absurd (over _ yes c.if-is_nobody_dropped.false),
      λ h. absurd (over _ (c.is_nobody_dropped.ensures ∙ undropped-All ps (h.enrolling c.in-Enrolling.is)) c.if-is_nobody_dropped.false),
    )

pub returns-in_default : goal.returns-in_default
returns-in_default c =
    let ps = c.args.players.now in
    let joined = kept c.args.rounds ps c.is_nobody_later.result c.is_nobody_later.ensures c.if-not-is_nobody_later.false in (
      λ enough. record {
        enrolling = λ is. absurd (c.in_default.not-Enrolling is);
        early = λ is. absurd (c.in_default.not-Enrolling is);
        joined = joined;
        started = λ other. grind (arith, nat_tests, enough);
      },
      λ h. let enough = h.started c.in_default.not-Enrolling in grind (arith, nat_tests),
    )
