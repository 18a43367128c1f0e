-- The names of the crates below, and of what this one promises, that several proofs cite.
pub use Rattle.std.proofs.Common.{◌≡◌, ◌∙◌, sym, ap, List, ℕ, refl, [], arith, subst, map, ◌∷◌, false, true, length, inr, ◌+◌, ◌++◌, inl}
pub use Rattle.std.proofs.Common.{Bool, take, rules, ◌≤◌, true≢false, Some, ap₂, Result, Err, filter, None, ◌<◌, Ok, ◌≢◌, suc, Option, cond}
pub use Rattle.std.proofs.Common.{All, ◌==◌, get_or, not, Contains, ◌⊎◌, pos, ◌-◌, IsTrue, slice_get, if◌then◌else◌, zero, IfSome, ℤ}
pub use Rattle.std.proofs.Common.{option_map, append-nil, ◌&&◌, flat_map, find, ◌||◌, Less, is_ok, IsErrAnd, min, max, not-suc-le-zero}
pub use Rattle.std.proofs.Common.{nat_lt, IfErr, option_to_list, IsFalse, Equal, Greater, drop, MatchResult, IsOk, Ordering}
pub use Rattle.std.proofs.lemmas.Bool.{ne_eqb}
pub use Rattle.std.proofs.lemmas.Bool.Decides.{nat_tests}
pub use Rattle.std.proofs.lemmas.Grind.{common_steps}
pub use Rattle.std.proofs.lemmas.List.{map-append, length-map, take_more, take_all, length-take-le}
pub use Rattle.std.proofs.lemmas.List.Elements.{recursion_from_All, All-from_recursion, All-nil, All-head, All-tail, filter-append}
pub use Rattle.std.proofs.lemmas.List.Elements.{All-cons, All-weaker}
pub use Rattle.std.proofs.lemmas.List.FromFn.{get_or-range_with_len, length-range_with_len}
pub use Rattle.std.proofs.lemmas.List.Sorted.{IsPermutation-sym, IsPermutation-trans, IsPermutation-map, IsPermutation-filter_both}
pub use Rattle.std.proofs.lemmas.List.Sorted.{IsPermutation-refl}
pub use Rattle.std.proofs.lemmas.Option.{same_Some, none-some}
pub use Rattle.std.proofs.lemmas.Result.{on_ok_weaker, IfErr-weaker, IfOk-weaker}
pub use Rattle.std.specs.List.{AllByRecursion, range_with_len, list_all}
pub use Rattle.std.specs.List.{enumerate_from}
pub use Rattle.std.specs.List.Sorted.{IsPermutation}
pub use Rattle.std.specs.Ordering.{is_eq, ordering_then}
pub use Rattle.std.specs.Prelude.{IsUtf8}
pub use Rattle.er_event.specs.Bracket.{slot_at}
pub use Rattle.er_event.specs.Change.{after, with_round, with_slot_score, with_stage, with_player, with_phase, dropped_at, match_with_score}
pub use Rattle.er_event.specs.Change.{with_score, new_player}
pub use Rattle.er_event.specs.Event.{EventValue}
pub use Rattle.er_event.specs.Name.{is_lawful_name}
pub use Rattle.er_event.specs.Round.{is_bye, match_at, table_of, is_at, seats, match_in}
pub use Rattle.er_event.specs.Rows.{pairing_row, tally_rows, tally_row, pairing_rows_from, pairing_rows, bracket_row, round_rows}
pub use Rattle.er_event.specs.Rows.{player_row, bracket_rows_from, tally_rows_by, bracket_rows, stage_rows, player_rows, flag, event_row}
pub use Rattle.er_event.specs.Score.{bye_score}
pub use Rattle.er_event.specs.Slip.{slip_of}
pub use Rattle.er_event.specs.Sound.{numbers, IsSoundButForSeeds, IsRound, names}
pub use Rattle.er_event.specs.Tallies.{meetings, tallies, tally_by}
pub use Rattle.er_event.specs.Totals.{totals}
pub use Rattle.er_event.specs.declared.changes.Change.TheVariants.{SetDropped}
pub use Rattle.er_event.specs.declared.events.Phase.{Phase}
pub use Rattle.er_event.specs.declared.events.parts.Parts.{Parts}
pub use Rattle.er_event.specs.declared.matches.Match.{Match}
pub use Rattle.er_event.specs.declared.players.Player.{Player}
pub use Rattle.er_event.specs.declared.refusals.Place.{Place}
pub use Rattle.er_event.specs.declared.refusals.Place.TheVariants.{PairingTable, TallyTable, PlayerTable, BracketTable, EventTable}
pub use Rattle.er_event.specs.declared.refusals.Refusal.{Refusal}
pub use Rattle.er_event.specs.declared.refusals.Refusal.TheVariants.{Damaged, Memory, Store}
pub use Rattle.er_event.specs.declared.rounds.Round.{Round}
pub use Rattle.er_event.specs.declared.rows.bracket.BracketRow.{BracketRow}
pub use Rattle.er_event.specs.declared.rows.pairing.PairingRow.{PairingRow}
pub use Rattle.er_event.specs.declared.rows.player.PlayerRow.{PlayerRow}
pub use Rattle.er_event.specs.declared.rows.tally.TallyRow.{TallyRow}
pub use Rattle.er_event.specs.declared.scores.Games.{Games}
pub use Rattle.er_event.specs.declared.slips.SlipRow.{SlipRow}
pub use Rattle.er_event.specs.declared.tallies.Tally.{Tally}
pub use Rattle.er_event.specs.declared.totals.Totals.{Totals}
pub use Rattle.sqlite.proofs.Callers.{one_permutation, IsPlain, command_of, unchanged_then, runs_as}
pub use Rattle.sqlite.proofs.StateLemmas.{survives_then}
pub use Rattle.sqlite.specs.Cast.{cast, cast_row}
pub use Rattle.sqlite.specs.Clock.{timed}
pub use Rattle.sqlite.specs.Collation.TheVariants.{Binary}
pub use Rattle.sqlite.specs.Command.TheVariants.{Update, Insert, Select}
pub use Rattle.sqlite.specs.Edit.{is_taken, next_rowid, numbered}
pub use Rattle.sqlite.specs.Effect.{Database}
pub use Rattle.sqlite.specs.Given.{HasGiven}
pub use Rattle.sqlite.specs.Held.{state, Held}
unfoldable pub use Rattle.sqlite.specs.Listing.{understood, listing_schema}
pub use Rattle.sqlite.specs.Ops.{is_true, from_truth}
unfoldable pub use Rattle.sqlite.specs.Ops.{binary, unary}
pub use Rattle.sqlite.specs.Order.{Row, column}
unfoldable pub use Rattle.sqlite.specs.Order.{value_cmp}
pub use Rattle.sqlite.specs.Program.{overlay}
pub use Rattle.sqlite.specs.Query.{Query, IsAnswer, Output, output, or_nulls}
pub use Rattle.sqlite.specs.Schema.{Schema}
pub use Rattle.sqlite.specs.Source.TheVariants.{Values}
pub use Rattle.sqlite.specs.State.{State, HasCleanDisk, IsUnchanged, Survives, ShowsRows}
unfoldable pub use Rattle.sqlite.specs.State.{Shown, FailsToQuery, IsNotRun, CommitsShowing}
pub use Rattle.sqlite.specs.Table.{Table}
pub use Rattle.sqlite.specs.Term.{eval_all, Term, Env, holds, col}
pub use Rattle.sqlite.specs.Tree.{Trees, put_row, IsAscending, rowid, without_rowid, has_rowid}
pub use Rattle.sqlite.specs.declared.error.Error.{Error}
pub use Rattle.sqlite.specs.declared.error.Error.TheVariants.{SqliteFailure}
pub use Rattle.sqlite.specs.declared.types.Value.{Value}
pub use Rattle.sqlite.specs.declared.types.Value.TheVariants.{Int, Null, Text}
pub use Rattle.sqlite_keyed.proofs.ListLemmas.{IsPermutation-filter, filter_same, all-append, all-map, all_from_test, test_from_all}
pub use Rattle.sqlite_resolve.specs.Compile.{first}
pub use Rattle.sqlite_resolve.specs.declared.compiled.Compiled.{Compiled}
pub use Rattle.sqlite_resolve.specs.declared.error.CompileError.{CompileError}
pub use Rattle.sqlite_schema.specs.declared.command.Command.{Command}
pub use Rattle.sqlite_schema.specs.declared.schema.Index.{Index}
pub use Rattle.sqlite_schema.specs.declared.schema.View.{View}
pub use Rattle.sqlite_sql.specs.declared.ops.BinaryOp.TheVariants.{Compare}
pub use Rattle.sqlite_sql.specs.declared.ops.CompareOp.TheVariants.{Eq, Gt}
pub use Rattle.sqlite_sql.specs.declared.ops.UnaryOp.TheVariants.{ToNumeric}
unfoldable pub use Rattle.sqlite_tied.specs.Compute.{everything}
pub use Rattle.sqlite_trees.proofs.ListLemmas.{map-map, filter-map, all_weaker, filter_all}
pub use Rattle.sqlite_trees.specs.View.{is_int}
pub use Rattle.sqlite_trees.specs.declared.store.Store.{Ghosts}
pub use Rattle.sqlite_value.proofs.OrderLemmas.{value_cmp-Int, value_cmp_total}
pub use Rattle.er_store.specs.Damage.{IsRowFault}
pub use Rattle.er_store.specs.Fault.{IsFault, reading_refusal}
pub use Rattle.er_store.specs.Reading.{first_columns, Lists, IsReadRefused, by_first_two, out_of_memory, KeepsTables, by_first}
pub use Rattle.er_store.specs.Rows.{number_value, at_places, player_shown, pairing_columns, bracket_columns, tally_columns, pairing_places}
pub use Rattle.er_store.specs.Rows.{event_places}
pub use Rattle.er_store.specs.Rows.{player_places, tally_places, stored_player, stored_pairing, stored_slot, stored_tally}
pub use Rattle.er_store.specs.Rows.{player_columns, bracket_places, event_columns, stored_event, named_columns, meeting_columns}
pub use Rattle.er_store.specs.Shape.{Form, Shape}
pub use Rattle.er_store.specs.Slip.{match_of_slip, is_swapped, Side, number_of_side, name_of_side, named_pairing, IsPlayer, IsLawfulSlip}
pub use Rattle.er_store.specs.Slip.{named_pairings}
pub use Rattle.er_store.specs.Layout.{Layout, IsThere, table_at}
pub use Rattle.er_store.specs.Representing.{Represents, RepresentsAt, HasTables, HasTablesAt, RepresentsWith, IsOther, CanRead, IsKeyed}
pub use Rattle.er_store.specs.Representing.{RepresentsNow}
pub use Rattle.er_store.specs.Representing.{RepresentsIn, IsStoredIn, AreTreesOf, IsStoredAmong}
pub use Rattle.er_store.specs.Representing.{rows_in, rows_with, shown_of, KeepsRest, KeepsOthers, HasRows, AreKeyed, AreKeyedAt}
pub use Rattle.er_store.specs.Tables.{player_tree}
pub use Rattle.er_store.specs.Tables.{no_schema, pairing, bracket, read_event, player, tally, set_serial, set_phase, set_dropped, set_score}
pub use Rattle.er_store.specs.Tables.{set_slot_score, set_tally, insert_event, insert_player, insert_pairing, insert_slot, insert_tally}
pub use Rattle.er_store.specs.Tables.{read_players, read_pairings, read_bracket, read_tallies, read_slip, event}
pub use Rattle.er_store.specs.Tables.{player2, tally_schema, insert_player2, set_dropped2, read_players2, read_slip2}
pub use Rattle.er_store.specs.Tables.{read_players_of, read_slip_of}
pub use Rattle.er_store.specs.Rows.{player2_places, stored_player2}
pub use Rattle.er_store.specs.declared.rows.MeetingRow.{MeetingRow}
pub use Rattle.er_store.specs.declared.rows.NamedPairing.{NamedPairing}
pub use Rattle.er_store.specs.inside.Lookup.{begins_select}
pub use Rattle.er_store.specs.inside.Meetings.{is_outside, sides_in, meeting_rows, complete_rows, sides_of}
pub use Rattle.er_store.specs.inside.Queries.{Selects, table_query, SelectsWith, TakesParameters}
pub use Rattle.er_store.specs.inside.Steps.{made_players, Puts, BringsToWith, Ran, LeavesOthers, Stays, Goes, IsReady, IsStage}
pub use Rattle.er_store.specs.inside.Totals.{set_for, set_up_to}
