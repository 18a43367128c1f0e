-- The names of the crates below, and of what this one promises, that several proofs cite.
pub use Rattle.std.proofs.Common.{arith, ◌≡◌, sym, ◌∙◌, List, length, ap, false, [], subst, true, take, ℕ, ◌<◌, ◌∷◌, get_or, refl, All, ◌≤◌}
pub use Rattle.std.proofs.Common.{◌+◌, ◌-◌, ◌++◌, ◌≢◌, Bool, Some, IsTrue, drop, AllPairs, flat_map, suc, Option, None, map, IsFalse, ◌==◌}
pub use Rattle.std.proofs.Common.{not, true≢false, zero, Contains, IfSome, option_map, rules, ap₂, ◌↔◌, Bor, length-append, cond, inr, pos}
pub use Rattle.std.proofs.Common.{ℤ, find, inl, ◌&&◌, ◌/◌, is_some, not-suc-le-zero, ◌⊎◌, MatchResult, Result, ◌*◌, ◌||◌, if◌then◌else◌}
pub use Rattle.std.proofs.Math.ListN.{set, length-map}
pub use Rattle.std.proofs.lemmas.Bool.Decides.{nat_tests, Decides-int_eq}
pub use Rattle.std.proofs.lemmas.Grind.{common_steps}
pub use Rattle.std.proofs.lemmas.List.{take_more, take_all, get_or_default, length-drop, take_rest, map-append, length-set, drop_all}
pub use Rattle.std.proofs.lemmas.List.{drop_more, nil_from_length}
pub use Rattle.std.proofs.lemmas.List.Elements.{All-weaker, All-push, recursion_from_All, All-cons, All-from_recursion, All-nil, All-drop}
pub use Rattle.std.proofs.lemmas.List.Elements.{All-take}
pub use Rattle.std.proofs.lemmas.List.Folds.{list_any_none}
pub use Rattle.std.proofs.lemmas.List.FromFn.{get_or-range_with_len, length-range_with_len}
pub use Rattle.std.proofs.lemmas.List.Quantifiers.{all_pairs_push}
pub use Rattle.std.proofs.lemmas.List.Sums.{AllPass-from_list_all, list_all-from_AllPass}
pub use Rattle.std.proofs.lemmas.Option.{none-some, same_Some, slice_get_read, get_or_from_slice_get, slice_get_within, slice_get_past}
pub use Rattle.std.proofs.lemmas.Option.{gets}
pub use Rattle.std.proofs.lemmas.Slice.Eq.{bytes_eq-Decides}
pub use Rattle.std.specs.Bool.{Decides}
pub use Rattle.std.specs.List.{enumerate_from}
pub use Rattle.std.specs.List.{range_with_len, slice_get, AllByRecursion, list_all, list_any}
pub use Rattle.std.specs.Str.{IsUtf8, bytes_eq}
pub use Rattle.er_event.specs.Bracket.{open_match, FollowOn, is_over, IsDecided, SameSlots, next_stage, slot_at, last_match, slot_in}
pub use Rattle.er_event.specs.Bracket.{stage_after, winner}
pub use Rattle.er_event.specs.Change.{scored_slot, Fits, match_with_score, with_score, has_name, score_table, IsEnd, one_more, stage_of}
pub use Rattle.er_event.specs.Change.{with_bracket_score, with_player, with_dropped, with_round, dropped_at, with_phase}
pub use Rattle.er_event.specs.Event.{EventValue}
pub use Rattle.er_event.specs.Match.{is_known}
pub use Rattle.er_event.specs.Name.{is_lawful_name}
pub use Rattle.er_event.specs.Pairings.{FitRows, AreTables, FitsRow, table_rows, is_of}
pub use Rattle.er_event.specs.Parts.{IsEventRow, IsFirstFault, IsOf}
pub use Rattle.er_event.specs.Results.{RoundResult, results_by, results_in, rounds_missed_of}
pub use Rattle.er_event.specs.Round.{IsAbsent, is_complete, seats, is_bye, match_in, matches_of, match_at, is_same_pairing}
pub use Rattle.er_event.specs.Rows.{bracket_rows_from, keyed_rows_from, player_row, keyed_round_rows, pairing_row, bracket_row, phase_code}
pub use Rattle.er_event.specs.Rows.{tally_row}
pub use Rattle.er_event.specs.Score.{is_playoff_score, is_swiss_score, bye_score}
pub use Rattle.er_event.specs.Sound.{IsSoundButForSeeds, numbers, IsRound, names, AreRounds, IsBracket, ArePlayers, HasMissed, AreStages}
pub use Rattle.er_event.specs.Sound.{IsPlayoff}
pub use Rattle.er_event.specs.Sound.{is_lawful_cut}
pub use Rattle.er_event.specs.Totals.{totals, totals_of}
pub use Rattle.er_event.specs.declared.changes.Change.TheVariants.{SetScore, SetBracketScore, AddRound, SetDropped, AddBracket}
pub use Rattle.er_event.specs.declared.commands.TheConstants.{MAX_SERIAL}
pub use Rattle.er_event.specs.declared.events.Phase.{Phase}
pub use Rattle.er_event.specs.declared.events.Phase.TheVariants.{Swiss, Enrolling, Finished}
pub use Rattle.er_event.specs.declared.events.parts.PartsFault.TheVariants.{Memory, Damaged}
pub use Rattle.er_event.specs.declared.matches.Match.{Match}
pub use Rattle.er_event.specs.declared.players.Player.{Player}
pub use Rattle.er_event.specs.declared.players.TheConstants.{MAX_PLAYERS}
pub use Rattle.er_event.specs.declared.rounds.Round.{Round}
pub use Rattle.er_event.specs.declared.rows.bracket.BracketRow.{BracketRow}
pub use Rattle.er_event.specs.declared.rows.event.EventRow.{EventRow}
pub use Rattle.er_event.specs.declared.rows.event.Setup.{Setup}
pub use Rattle.er_event.specs.declared.rows.pairing.PairingRow.{PairingRow}
pub use Rattle.er_event.specs.declared.rows.tally.TallyRow.{TallyRow}
pub use Rattle.er_event.specs.declared.scores.Games.{Games}
pub use Rattle.er_event.specs.inside.EventFields.{event_value}
pub use Rattle.er_event.specs.inside.Played.{complete_results, results_from, results_of_match}
pub use Rattle.er_event.specs.inside.Reading.{IsSetUpAs, MayFollow}
pub use Rattle.er_event.specs.inside.Seen.{AreOver, IsSeatedOnce, rounds_with_score, totals_of_games}
pub use Rattle.er_event.specs.inside.Stages.{FitStageRows, FitsSlotRow, slot_rows}
