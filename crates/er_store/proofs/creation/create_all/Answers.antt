use Rattle.er_store.proofs.Prelude.{on_ok_weaker}
use Rattle.er_store.proofs.{Standing.five_made, Lending.lends_then, Crash.was_clean}
use Rattle.er_store.proofs.creation.create_all.Goals as goal

pub returns-clause-alone : goal.returns-clause-alone
returns-clause-alone g c has clean =
    let clean_f = was_clean c.create_tally.ensures.lends.stays.survives clean in
    let clean_e = was_clean c.create_bracket.ensures.lends.stays.survives clean_f in
    let clean_d = was_clean c.create_pairing.ensures.lends.stays.survives clean_e in
    let clean_b = was_clean c.create_players.ensures.lends.stays.survives clean_d in
    let one = c.in_ok-create_event.ensures.makes.creates has clean_b in
    let two = c.in_ok-create_players.ensures.makes.creates one clean_d in
    let v = c.args.version in
    let three = (c.in_ok-create_pairing.ensures.makes v).creates two clean_e in
    let four = (c.in_ok-create_bracket.ensures.makes v).creates three clean_f in
    (c.create_tally.ensures.makes v).creates four clean

-- whatever stood before
pub returns-clause-beside : goal.returns-clause-beside
returns-clause-beside g c clean =
    let clean_f = was_clean c.create_tally.ensures.lends.stays.survives clean in
    let clean_e = was_clean c.create_bracket.ensures.lends.stays.survives clean_f in
    let clean_d = was_clean c.create_pairing.ensures.lends.stays.survives clean_e in
    let clean_b = was_clean c.create_players.ensures.lends.stays.survives clean_d in
    on_ok_weaker c.create_tally.result
    (five_made c.args.version (c.in_ok-create_event.ensures.makes.beside clean_b) (c.in_ok-create_players.ensures.makes.beside clean_d)
    ((c.in_ok-create_pairing.ensures.makes c.args.version).beside clean_e)
    ((c.in_ok-create_bracket.ensures.makes c.args.version).beside clean_f))
    ((c.create_tally.ensures.makes c.args.version).beside clean)

pub returns-in_err-create_players-clause-lends : goal.returns-in_err-create_players-clause-lends
returns-in_err-create_players-clause-lends g c = lends_then c.create_event.ensures.lends c.create_players.ensures.lends

pub returns-in_err-create_pairing-clause-lends : goal.returns-in_err-create_pairing-clause-lends
returns-in_err-create_pairing-clause-lends g c =
    lends_then c.create_event.ensures.lends (lends_then c.create_players.ensures.lends c.create_pairing.ensures.lends)

pub returns-in_err-create_bracket-clause-lends : goal.returns-in_err-create_bracket-clause-lends
returns-in_err-create_bracket-clause-lends g c =
    lends_then c.create_event.ensures.lends
    (lends_then c.create_players.ensures.lends (lends_then c.create_pairing.ensures.lends c.create_bracket.ensures.lends))

pub returns-clause-lends : goal.returns-clause-lends
returns-clause-lends g c =
    lends_then c.create_event.ensures.lends (lends_then c.create_players.ensures.lends
    (lends_then c.create_pairing.ensures.lends (lends_then c.create_bracket.ensures.lends c.create_tally.ensures.lends)))
