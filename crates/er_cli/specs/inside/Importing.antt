-- A list of players that was read, and what is printed of it.
use Rattle.std.specs.Prelude.{ℕ, ◌⊎◌, List, [], ◌∷◌, ◌++◌, map, codes}
use Rattle.std.specs.Fmt.{decimal}
use Rattle.er_event.specs.declared.refusals.Refusal.TheVariants.{Memory}
use Rattle.er_desk.specs.Desk.{DeskState}
use Rattle.er_desk.specs.Run.{Session}
use Rattle.er_paper.specs.declared.imports.PlayerLine.{PlayerLine}
use Rattle.er_answers.specs.declared.question.Answer.TheVariants.{Refused}
use Rattle.er_cli.specs.declared.importing.Additions.{Additions}
use Rattle.er_cli.specs.Help.{Printed, Tells}
use Rattle.er_cli.specs.Importing.{EnrolsNobody, TakesList}

abbrev pub names_of : List PlayerLine → List (List ℕ)
names_of = map (λ line. line.name)

abbrev pub additions_text : Additions → List ℕ
additions_text additions = codes "added " ++ (decimal additions.added ++ (codes " already " ++ (decimal additions.already ++ (10 ∷ []))))

-- Memory runs out for a list, or it is taken.
abbrev pub ImportsList : Printed → List ℕ → DeskState → Session → DeskState → Type 0
ImportsList p list old session new = (EnrolsNobody old session new × Tells (Refused Memory) p) ⊎ TakesList p list old session new
