use Rattle.std.proofs.Common.{inl, inr}
use Rattle.er_rules.specs.Sound.{IsSound}
use Rattle.er_desk.specs.History.{new_point}
use Rattle.er_desk.proofs.Histories.{history_leads, fold_sound, new_sound}
use Rattle.er_desk.proofs.laws.histories.Goals as goal

pub returns : goal.returns
returns c name rounds cut set_up ends last history =
    let first = new_point name rounds cut in
    let new = new_sound name rounds cut set_up in
    let leads = history_leads first ends last history in
    let sound : IsSound last.event
    = elim leads [
      | inl all ↦ fold_sound c.step_keeps_sound.ensures first.event last.event _ new all.event
      | inr surely ↦ fold_sound c.step_keeps_sound.ensures first.event last.event _ new surely.event
    ] in
    record { sound = sound; repeats = sound.but_for_seeds.rounds.no_repeats; leads = leads }
