use Rattle.std.proofs.{Math.Bool.Bool-set, Math.Logic.∥∥₁_elim}
use Rattle.er_desk.proofs.desk.Desk.event.Goals as goal

pub returns-clause-repeats : goal.returns-clause-repeats
returns-clause-repeats g c i j d before low = ∥∥₁_elim c.args.self.now.sound (Bool-set _ _)
    (λ sound. sound.but_for_seeds.rounds.no_repeats i j d before low)
