use Rattle.er_store.proofs.Prelude.{rules, refl, TallyTable}
use Rattle.er_store.proofs.TableLemmas.{tally_is_ours, looks_then, found_as, missed_as, first_misread}
use Rattle.er_store.proofs.loading.read_tables.Goals as goal

pub load_rows-requires : goal.load_rows-requires
load_rows-requires g c = tally_is_ours

pub returns-in_err-parts : goal.returns-in_err-parts
returns-in_err-parts g c = missed_as (search rules) (λ db miss. miss) c.in_err-parts.ensures

pub returns-in_err-tallies : goal.returns-in_err-tallies
returns-in_err-tallies g c =
    let parts = c.in_ok-parts.parts in
    let why = c.in_err-tallies.field-0.0 in
    let look = looks_then c.in_ok-parts.ensures c.in_err-tallies.ensures in
    missed_as (search rules) (λ db miss.
    let reads = miss.0.reads in
    first_misread TallyTable db why (λ bad. (
      parts.event,
      reads.event,
      ((parts.players, reads.players), (parts.pairings, reads.pairings), (parts.bracket, reads.bracket)),
      bad,
    )) miss.1.misread (λ e s represents sound. miss.1.refused represents.0 refl e s represents.1 sound)) look

pub returns : goal.returns
returns g c = found_as (λ db it. it) (looks_then c.in_ok-parts.ensures c.in_ok-tallies.ensures)
