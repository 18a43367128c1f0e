-- What decides where a player stands: what the player's own matches come to, and those of each opponent.
use Rattle.std.specs.Prelude.{◌≡◌, List, map}
use Rattle.er_share.specs.Fraction.{average}
use Rattle.er_share.specs.Mean.{IsMeanOf}
use Rattle.er_share.specs.Share.{IsShareOf}
use Rattle.er_event.specs.declared.totals.Totals.{Totals}
use Rattle.er_rank.specs.declared.merits.Merit.{Merit}
use Rattle.er_rank.specs.declared.opponents.Opponents.{Opponents}
use Rattle.er_rank.specs.Tally.{match_win_of, game_win_of}

-- these opponents came to these totals
pub record AreOpponents (opponents : Opponents) (totals : List Totals) : Type 0 where
  pub match_win : IsMeanOf opponents.match_win (map match_win_of totals)
  pub game_win : IsMeanOf opponents.game_win (map game_win_of totals)

pub record IsMerit (own : Totals) (opponents : List Totals) (merit : Merit) : Type 0 where
  pub points : merit.points.0 ≡ own.points
  pub omw : IsShareOf merit.omw.0 (average (map match_win_of opponents))
  pub gwp : IsShareOf merit.gwp.0 (game_win_of own)
  pub ogw : IsShareOf merit.ogw.0 (average (map game_win_of opponents))
