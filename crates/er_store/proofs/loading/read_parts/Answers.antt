use Rattle.er_store.proofs.Prelude.{rules, refl, ap, sym, ◌∙◌, ◌≡◌, EventTable, PlayerTable, PairingTable, BracketTable, read_players_of}
use Rattle.er_store.proofs.Prelude.{List, Layout}
use Rattle.er_store.proofs.Prelude.{Database, EventValue, IsSoundButForSeeds, RepresentsAt, ℕ, read_event}
use Rattle.er_event.specs.declared.rows.event.EventRow.{EventRow}
use Rattle.er_store.specs.{Damage.said_version, inside.Lookup.FindsRows, Shape.{event_form, event_table}}
use Rattle.er_store.proofs.{Layouts.said_is, TableLemmas.{event_is_ours, player_is_ours, pairing_is_ours, bracket_is_ours}}
use Rattle.er_store.proofs.TableLemmas.{looks_then, found_as, missed_as, first_misread}
use Rattle.er_store.proofs.loading.read_parts.Goals as goal

pub load_rows-requires : goal.load_rows-requires
load_rows-requires g c = event_is_ours

pub load_rows-requires-2 : goal.load_rows-requires-2
load_rows-requires-2 g c = player_is_ours

pub load_rows-requires-3 : goal.load_rows-requires-3
load_rows-requires-3 g c = pairing_is_ours

pub load_rows-requires-4 : goal.load_rows-requires-4
load_rows-requires-4 g c = bracket_is_ours

-- if the tables stand, the rows of the event say which version they are of
said : {db : Database} {events : List EventRow} → FindsRows event_form event_table read_event db events
    → (l : Layout) (e : EventValue) (s : ℕ)
    → RepresentsAt l db e s → IsSoundButForSeeds e → said_version events ≡ l.version
said {events = events} event l e s represents sound =
    ap said_version (event.exact l refl e s represents sound) ∙ said_is l.version represents.has.tables.known e s

pub returns-in_err-event : goal.returns-in_err-event
returns-in_err-event g c =
    let look = c.in_err-event.ensures in
    missed_as (search rules) (λ db miss. first_misread EventTable db c.in_err-event.field-0.0 (λ bad. bad) miss.misread
    (λ e s represents sound. miss.refused represents.0 refl e s represents.1 sound)) look

pub returns-in_err-players : goal.returns-in_err-players
returns-in_err-players g c =
    let look = looks_then c.in_ok-event.ensures
    (rw (c.said_version-version.ensures, c.as_slice.ensures) at c.in_err-players.ensures) in
    missed_as (search rules) (λ db miss. first_misread PlayerTable db c.in_err-players.field-0.0
    (λ bad. (c.in_ok-event.event, miss.0.reads, tt, bad)) miss.1.misread
    (λ e s represents sound. miss.1.refused represents.0 (ap read_players_of (sym (said miss.0 represents.0 e s represents.1 sound))) e s
    represents.1 sound)) look

pub returns-in_err-pairings : goal.returns-in_err-pairings
returns-in_err-pairings g c =
    let look = looks_then c.in_ok-event.ensures (looks_then
    (rw (c.said_version-version.ensures, c.as_slice.ensures) at c.in_ok-players.ensures) c.in_err-pairings.ensures) in
    missed_as (search rules) (λ db miss. first_misread PairingTable db c.in_err-pairings.field-0.0
    (λ bad. (c.in_ok-event.event, miss.0.reads, (c.in_ok-players.players, miss.1.0.reads), bad)) miss.1.1.misread
    (λ e s represents sound. miss.1.1.refused represents.0 refl e s represents.1 sound)) look

pub returns-in_err-bracket : goal.returns-in_err-bracket
returns-in_err-bracket g c =
    let look = looks_then c.in_ok-event.ensures (looks_then
    (rw (c.said_version-version.ensures, c.as_slice.ensures) at c.in_ok-players.ensures)
    (looks_then c.in_ok-pairings.ensures c.in_err-bracket.ensures)) in
    missed_as (search rules) (λ db miss. first_misread BracketTable db c.in_err-bracket.field-0.0
    (λ bad. (
      c.in_ok-event.event,
      miss.0.reads,
      ((c.in_ok-players.players, miss.1.0.reads), (c.in_ok-pairings.pairings, miss.1.1.0.reads)),
      bad,
    )) miss.1.1.1.misread (λ e s represents sound. miss.1.1.1.refused represents.0 refl e s represents.1 sound)) look

pub returns : goal.returns
returns g c =
    let look = looks_then c.in_ok-event.ensures (looks_then
    (rw (c.said_version-version.ensures, c.as_slice.ensures) at c.in_ok-players.ensures)
    (looks_then c.in_ok-pairings.ensures c.in_ok-bracket.ensures)) in
    found_as (λ db it. record {
      reads = record { event = it.0.reads; players = it.1.0.reads; pairings = it.1.1.0.reads; bracket = it.1.1.1.reads };
      lists = λ l is has. record {
        event = it.0.lists l refl has;
        players = it.1.0.lists l (ap read_players_of (sym is)) has;
        pairings = it.1.1.0.lists l refl has;
        bracket = it.1.1.1.lists l refl has;
      };
      exact = λ l e s represents sound.
          let event = it.0.exact l refl e s represents sound in
          let players = it.1.0.exact l (ap read_players_of (sym (said it.0 l e s represents sound))) e s represents sound in
          let pairings = it.1.1.0.exact l refl e s represents sound in
          let bracket = it.1.1.1.exact l refl e s represents sound in
          cc;
    }) look
