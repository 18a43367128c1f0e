use Rattle.er_event.proofs.Prelude.{Damaged, All, Bool, List, Player, arith, common_steps, false, list_all, rules, subst, sym, true≢false}
use Rattle.er_event.proofs.Prelude.{◌<◌, ◌==◌, ◌∙◌, ◌≡◌}
use Rattle.er_event.proofs.DropLemmas.{early-All}
use Rattle.er_event.proofs.PartsLemmas.{lawful_players, players-same}
use Rattle.er_event.proofs.rows.player.read_players.Goals as goal

pub returns-in_err-players-clause-damaged : goal.returns-in_err-players-clause-damaged
returns-in_err-players-clause-damaged c place bad =
    let why : c.in_err-players.field-0.0 ≡ Damaged place = search (rules, bad) in
    let never = c.in_err-players.ensures.damaged place (cc) in
    let setup = c.args.setup.now in
    let byte : setup.rounds < 256 = omega (arith, c.requires) in
    (never.0, λ players are kept listed. never.1 players (lawful_players setup.phase setup.rounds players byte are) listed)

pub returns-then-not-may_play-clause-damaged : goal.returns-then-not-may_play-clause-damaged
returns-then-not-may_play-clause-damaged c place bad = (
  (cc),
  λ players are kept listed. (let same = players-same players c.in_ok-players.players.items in grind (arith, common_steps)),
)

-- tables of version 1 keep nobody who is late
late_in : (players : List Player) (test : Bool) → test ≡ list_all (λ (p : Player). p.joined == 0) players → test ≡ false
    → All (λ (p : Player). p.joined ≡ 0) players → ⊥
late_in players test is late early = true≢false (sym (is ∙ early-All players early) ∙ late)

pub returns-then-not-is_nobody_late-clause-damaged : goal.returns-then-not-is_nobody_late-clause-damaged
returns-then-not-is_nobody_late-clause-damaged c place bad = (
  (cc),
  λ others are kept listed.
      let players = c.in_ok-players.players.items in
      let same : others ≡ players = (let told = players-same others players in grind (arith, common_steps)) in
      let test = rw (c.as_slice-then-setup-eq1.ensures.value) at c.is_nobody_late.ensures in
      late_in players c.is_nobody_late.result test c.if-not-is_nobody_late.true
      (subst (λ (ps : List Player). All (λ (p : Player). p.joined ≡ 0) ps) same (kept c.if-setup-eq1.true)),
)
