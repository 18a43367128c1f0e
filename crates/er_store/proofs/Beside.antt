-- What creation leaves beside tables of others.
use Rattle.er_store.proofs.Prelude.{◌≡◌, ◌≢◌, inl, inr, ℕ, false, [], length, arith, refl, sym, ap, subst}
use Rattle.er_store.proofs.Prelude.{◌∙◌, Schema, Table, Database, State, Row, Trees, EventValue, Puts, put_row, event, CanRead}
use Rattle.er_store.proofs.Prelude.{stored_event, everything, HasCleanDisk, Survives}
use Rattle.sqlite_catalog.proofs.StepLemmas.{table_below}
use Rattle.sqlite_catalog.specs.Change.{next_tree}
use Rattle.sqlite_rules.proofs.ListLemmas.{all_has, all_from, has_left}
use Rattle.sqlite_rules.specs.Lists.{Has}
use Rattle.sqlite.specs.State as sqlite
use Rattle.sqlite.specs.Effect.{IsDatabase}
use Rattle.er_store.proofs.Behind.{found_behind, read_behind, players_anywhere}
use Rattle.er_store.proofs.Crash.{Settles, only, was_clean}
use Rattle.er_store.proofs.Made.{IsAnywhere, grown}
use Rattle.er_store.proofs.Named.{event_read}
use Rattle.er_store.specs.Beside.{KeepsFirst, IsMade, MakesBeside, HoldsBeside, IsStoredBeside, NoneAwaitsFive}
use Rattle.er_event.specs.Version.{IsVersion, Keeps}
use Rattle.er_store.proofs.Together.{event_put}
use Rattle.er_store.specs.inside.Making.{IsEmptyAfter, MakesFive, IsFound, IsReadyBeside}
use Rattle.er_store.specs.Representing.{Either, IsNew, IsStoredIn, RepresentsNow}

module _ {version : ℕ} {old mid : State} (made : MakesFive version old mid) where
  abbrev tree : ℕ
  tree = next_tree old.now.schema

  -- `event` is found after the tables that stood
  pub event_found : IsFound mid.now.schema (length old.now.schema.tables) (event tree)
  unfolding everything
  event_found = found_behind made.event made.free refl

  event_readable : CanRead mid.now.schema
  event_readable =
      event_read (length old.now.schema.tables) tree event_found (read_behind made.event (λ n. refl) made.goes.sound)

  module _ {row : Row} {new : State} (put : Puts tree row mid new) where
    -- the other tables stay
    stays : (t : Table) → Has mid.now.schema.tables t → t.tree ≢ tree → new.now.trees t.tree ≡ mid.now.trees t.tree
    stays t listed = all_has (λ t. t.tree ≢ tree → new.now.trees t.tree ≡ mid.now.trees t.tree) mid.now.schema.tables t put.goes.others
        listed

    still : (table : Table) → Has mid.now.schema.tables table → Has new.now.schema.tables table
    still table = subst (λ (s : Schema). Has s.tables table) (sym put.goes.schema)

    all_kept : KeepsFirst old.now new.now
    all_kept =
        let k = made.event.keeps in
        record {
          first = record {
            more = k.first.more;
            tables = ap (λ (s : Schema). s.tables) put.goes.schema ∙ k.first.tables;
            keys = k.first.keys;
            indexes = ap (λ (s : Schema). s.indexes) put.goes.schema ∙ k.first.indexes;
            views = ap (λ (s : Schema). s.views) put.goes.schema ∙ k.first.views;
          };
          rows = all_from _ old.now.schema.tables (λ t h.
              stays t (subst (λ ts. Has ts t) (sym k.first.tables) (has_left old.now.schema.tables k.first.more t h))
              (λ same. let low = table_below old.now.schema t h in omega (arith, same, low))
              ∙ all_has (λ t. mid.now.trees t.tree ≡ old.now.trees t.tree) old.now.schema.tables t k.rows h);
        }

    still_empty : {table : ℕ → Table} → IsAnywhere table → IsEmptyAfter tree table mid.now → IsMade table [] new.now
    still_empty {table} anywhere it =
        let own : (table it.at).tree ≡ it.at = ap (λ (t : Table). t.tree) (sym (anywhere it.at)) in (
          it.at,
          record {
            listed = still (table it.at) it.has.listed;
            holds = stays (table it.at) it.has.listed (λ same. let later = it.later in omega (arith, same, own, later)) ∙ it.has.holds;
          },
        )

pub ready_beside : {version : ℕ} {e : EventValue} {old mid new : State} → IsVersion version → IsNew e → Keeps version e
    → (made : MakesFive version old mid) → Puts (next_tree old.now.schema) (stored_event version e 0) mid new
    → IsReadyBeside version e old new
unfolding all_kept
ready_beside {version} {e} {old} {mid} {new} known fresh keeps made put = record {
  sound = put.goes.continues.sound;
  makes = record {
    keeps = all_kept made put;
    just = made.just;
    readable = subst CanRead (sym put.goes.schema) (event_readable made);
    event = (
      next_tree old.now.schema,
      record {
        listed = still made put (event (next_tree old.now.schema)) (grown made.event);
        holds = put.rows
            ∙ ap (put_row (stored_event version e 0)) made.event.empty;
      },
    );
    players = still_empty made put (players_anywhere version) made.players;
    pairing = still_empty made put (λ n. refl) made.pairing;
    bracket = still_empty made put (λ n. refl) made.bracket;
    tally = still_empty made put (λ n. refl) made.tally;
    represents = λ awaits.
        let it = made.lie known awaits in
        event_put fresh keeps it.2 (subst (λ n. Puts n (stored_event version e 0) mid new) (sym it.1) put);
  };
}

-- ---- and of the commit

module _ {version : ℕ} {e : EventValue} {old last end : State} (ready : IsReadyBeside version e old last) where
  -- once it is committed, the connection sees it, and while that is open, a crash leaves it
  pub written_beside : Settles end → sqlite.Shows last end last.now last.now false → HoldsBeside version e old.now end
  written_beside settles done =
      let sound = subst IsDatabase (sym done.now_is) ready.sound in
      let makes = subst (MakesBeside version e old.now) (sym done.now_is) ready.makes in
      let settled = done.now_is ∙ sym done.committed_is in
      record {
        is_open = done.is_open;
        sound = sound;
        settled = settled;
        makes = makes;
        leaves = λ trees may. (
            let same = settles trees done.is_open may ∙ ap (λ (d : Database). d.trees) (sym settled) in
            record { schema = end.now.schema; sound = rw same sound; makes = rw same makes });
      }

  -- a crash leaves what it could before, or the five beside the others
  pub leaves_beside : {start : State} → Survives start last (λ _. ⊥) → Survives last end (λ db. db ≡ last.now.trees)
      → HasCleanDisk end → (trees : Trees) → end.may_leave trees → Either start.may_leave (IsStoredBeside version e old.now) trees
  leaves_beside {start} quiet commits clean trees may = elim (commits.crash clean trees may) [
    | inl before ↦ inl (only (quiet.crash (was_clean commits clean) trees before))
    | inr same ↦ inr (record { schema = last.now.schema; sound = rw same ready.sound; makes = rw same ready.makes })
  ]

-- and what only read changed nothing
pub shown_beside : {version : ℕ} {e : EventValue} {old mid : Database} {s : State} → mid ≡ old → HoldsBeside version e mid s
    → HoldsBeside version e old s
shown_beside {version} {e} {s = s} = subst (λ d. HoldsBeside version e d s)

pub stored_beside : {version : ℕ} {e : EventValue} {old mid : Database} {trees : Trees} → mid ≡ old → IsStoredBeside version e mid trees
    → IsStoredBeside version e old trees
stored_beside {version} {e} {trees = trees} = subst (λ d. IsStoredBeside version e d trees)

-- ---- if no foreign key waited for one of the five

pub represents_now : {version : ℕ} {e : EventValue} {old : Database} {s : State} → HoldsBeside version e old s
    → NoneAwaitsFive version old.schema → RepresentsNow version s e 0
represents_now it awaits =
    record { is_open = it.is_open; sound = it.sound; settled = it.settled; represents = it.makes.represents awaits }

pub stored_whole : {version : ℕ} {e : EventValue} {old : Database} {trees : Trees} → IsStoredBeside version e old trees
    → NoneAwaitsFive version old.schema → IsStoredIn version e 0 trees
stored_whole it awaits = record { schema = it.schema; sound = it.sound; represents = it.makes.represents awaits }
