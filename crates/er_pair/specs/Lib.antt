-- What er_pair promises: a round is the earliest legal pairing of the order that the rules define, under the words of a
-- key.
--
-- Order has the words of the key (RFC 8439) and the order of the active players. Pairing says which pairings are legal,
-- and which of them is the earliest. Laws says what is true of every order and every legal pairing, and how many steps a
-- short order needs. Steps counts the candidates that a search for a pairing looks at, and Fault says how each fault of it
-- is refused. Met is who has met whom.
--
-- What only private functions cite lies in `inside`, as the sets of bits that `Met` and the search are made of.
--
-- Which contract carries it:
--   `keys`, `order`: the words of the key, and the order under them. Its caller gives a word for each active player.
--   `first_pairing`: the earliest legal pairing. `NoPairing` comes only if there is none. `Budget` comes exactly if the order needs more
--     than 1,000,000 steps, memory aside; so never for 14 entries or fewer, and never if nobody has met anybody. Its caller gives an even
--     number of entries, at most 512.
--   `laws::one_order`, `stand_once`, `one_earliest`, `legal_seats`: there is one order and one earliest pairing at most, and nobody stands
--     or sits twice. `laws::short_needs`: 14 entries or fewer need at most 325,767 steps.
--
-- Not promised: that a round of more than 14 entries, some of whom have met, is found within the steps.
--
-- Wrong bodies that bear on the theorem: `greedy_pairing`, `any_legal_pairing`, `second_bye`, `early_budget`.
pub mod Order
pub mod Met
pub mod Pairing
pub mod Laws
pub mod Steps
pub mod Fault
pub mod inside
