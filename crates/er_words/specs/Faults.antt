-- What is at fault in words that have to be of kinds: the first thing that is.
use Rattle.std.specs.Prelude.{ℕ, ◌+◌, List, [], ◌∷◌, Option, Some, None}
use Rattle.er_words.specs.declared.usage.UsageFault.{UsageFault}
use Rattle.er_words.specs.declared.usage.UsageFault.TheVariants.{TooFew, TooMany, BadNumber, BadSeed, BadCount, BadKind}
use Rattle.er_words.specs.Kinds.{Kind, Text, SmallNumber, Number, Seed, Count, ListKind, value_of}

-- this fault, if there is no value
abbrev pub unless : {V : Type 0} → Option V → UsageFault → Option UsageFault
unless (Some value) fault = None
unless None fault = Some fault

-- what is wrong with the word at a place, if it is not of its kind
abbrev pub word_fault : Kind → ℕ → List ℕ → Option UsageFault
word_fault Text place word = None
word_fault SmallNumber place word = unless (value_of SmallNumber word) (BadNumber place 255)
word_fault Number place word = unless (value_of Number word) (BadNumber place 65535)
word_fault Seed place word = unless (value_of Seed word) (BadSeed place)
word_fault Count place word = unless (value_of Count word) (BadCount place)
word_fault ListKind place word = unless (value_of ListKind word) (BadKind place)

-- the first of the two, if there is one
abbrev pub or_then : Option UsageFault → Option UsageFault → Option UsageFault
or_then (Some fault) later = Some fault
or_then None later = later

-- what is wrong first with words that have to be of these kinds, one each, from a place on
abbrev pub values_fault : List Kind → ℕ → List (List ℕ) → Option UsageFault
values_fault [] place [] = None
values_fault [] place (word ∷ words) = Some (TooMany place)
values_fault (kind ∷ kinds) place [] = Some (TooFew place)
values_fault (kind ∷ kinds) place (word ∷ words) = or_then (word_fault kind place word) (values_fault kinds (place + 1) words)
