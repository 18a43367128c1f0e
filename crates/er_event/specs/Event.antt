-- An event, as every contract sees it.
use Rattle.std.specs.Prelude.{ℕ, List}
use Rattle.er_event.specs.declared.events.Phase.{Phase}
use Rattle.er_event.specs.declared.players.Player.{Player}
use Rattle.er_event.specs.declared.rounds.Round.{Round}
use Rattle.er_event.specs.declared.brackets.Bracket.{Bracket}

pub record EventValue : Type 0 where
  pub name : List ℕ
  -- how many Swiss rounds are played
  pub rounds : ℕ
  -- how many players go to the playoff
  pub cut : ℕ
  pub phase : Phase
  -- by number, from 1
  pub players : List Player
  -- round by round; in each tables 1, 2, .. and then the bye
  pub stored : List Round
  -- the playoff, stage by stage, its first round first; in each stage the matches by slot
  pub bracket : Bracket
