use Rattle.er_event.specs.declared.commands.Command.TheVariants.{Enrol, Start, Pair, Result as ReportResult, Correct, Drop, Cut}
use Rattle.er_event.specs.declared.commands.Command.TheVariants.{Playoff as PlayOff}
use Rattle.er_event.specs.declared.commands.Command.TheVariants.{Enrol, Start, Pair, Correct, Drop, Cut}
use Rattle.er_rules.specs.Retry.{IsRefusedLater}
use Rattle.er_rules.proofs.{Retrying.{start_again, pair_again, cut_again, enrol_again, drop_again}, Rescoring.report_again}
use Rattle.er_rules.proofs.{Replaying.play_again, Correcting.correct_again}
use Rattle.er_rules.proofs.laws.no_double_effect.Goals as goal

all : IsRefusedLater
all e next later (Enrol name) more taken new folds result again = enrol_again e next later more folds result name taken again
all e next later Start more taken new folds result again = start_again e next later more folds result taken again
all e next later (Pair round seed) more taken new folds result again = pair_again e next later more folds result round seed taken again
all e next later Cut more taken new folds result again = cut_again e next later more folds result taken again
all e next later (ReportResult round table score) more taken new folds result again =
    report_again e next later more folds result round table score taken again
all e next later (Correct round table score) more taken new folds result again = absurd (new tt)
all e next later (Drop player) more taken new folds result again = drop_again e next later more folds result player taken again
all e next later (PlayOff stage slot score) more taken new folds result again =
    play_again e next later more folds result stage slot score taken again

pub returns : goal.returns
returns c = (all, correct_again)
