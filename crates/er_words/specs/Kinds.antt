-- What words have to be, and the values that they then are.
use Rattle.std.specs.Prelude.{ℕ, List, [], ◌∷◌, Option, Some, None}
use Rattle.er_event.specs.declared.scores.Games.{Games}
use Rattle.er_words.specs.declared.values.ExportKind.{ExportKind}
use Rattle.er_words.specs.Values.{number_below, count_of, seed_of, kind_of}

-- what a word has to be
pub data Kind : Type 0 where
  Text : Kind
  SmallNumber : Kind
  Number : Kind
  Seed : Kind
  Count : Kind
  ListKind : Kind

-- what such a word stands for
abbrev pub ValueOf : Kind → Type 0
ValueOf Text = List ℕ
ValueOf SmallNumber = ℕ
ValueOf Number = ℕ
ValueOf Seed = List ℕ
ValueOf Count = ℕ
ValueOf ListKind = ExportKind

-- a word as a value, if it is of this kind
abbrev pub value_of : (kind : Kind) → List ℕ → Option (ValueOf kind)
value_of Text word = Some word
value_of SmallNumber word = number_below 256 word
value_of Number word = number_below 65536 word
value_of Seed word = seed_of word
value_of Count word = count_of word
value_of ListKind word = kind_of word

-- a value of each kind
abbrev pub ValuesOf : List Kind → Type 0
ValuesOf [] = Unit {0}
ValuesOf (kind ∷ kinds) = ValueOf kind × ValuesOf kinds

-- two values, if both are there
abbrev pub both : {A B : Type 0} → Option A → Option B → Option (A × B)
both (Some a) (Some b) = Some (a, b)
both (Some a) None = None
both None b = None

-- words as values, if they are of these kinds, one each
abbrev pub values_of : (kinds : List Kind) → List (List ℕ) → Option (ValuesOf kinds)
values_of [] [] = Some tt
values_of [] (word ∷ words) = None
values_of (kind ∷ kinds) [] = None
values_of (kind ∷ kinds) (word ∷ words) = both (value_of kind word) (values_of kinds words)

-- what is made of a value of each kind
abbrev pub MadeOf : Type 0 → List Kind → Type 0
MadeOf X [] = X
MadeOf X (kind ∷ kinds) = ValueOf kind → MadeOf X kinds

abbrev pub made_of : {X : Type 0} (kinds : List Kind) → MadeOf X kinds → ValuesOf kinds → X
made_of [] made values = made
made_of (kind ∷ kinds) made values = made_of kinds (made values.0) values.1

-- games won by the one, by the other, and drawn
abbrev pub score_kinds : List Kind
score_kinds = SmallNumber ∷ SmallNumber ∷ SmallNumber ∷ []

-- the values of a score
abbrev pub score_values : Games → ValuesOf score_kinds
score_values games = (games.x, (games.y, (games.d, tt)))
