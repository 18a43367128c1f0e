-- What stands in the columns of a line. Each text is nested to the right, as a format writes its parts.
use Rattle.std.specs.Prelude.{ℕ, ◌-◌, ◌/◌, ◌%◌, ◌==◌, List, ◌∷◌, ◌++◌, length, replicate, Bool, if◌then◌else◌, Option, Some, None, codes}
use Rattle.std.specs.Fmt.{decimal}
use Rattle.er_share.specs.Fraction.{hundredths}
use Rattle.er_share.specs.Share.{fraction_of}
use Rattle.er_event.specs.declared.scores.Games.{Games}
use Rattle.er_event.specs.Event.{EventValue}
use Rattle.er_event.specs.Slip.{name_of}

-- a number in decimal, with spaces before it up to the width
abbrev pub right_aligned : ℕ → ℕ → List ℕ
right_aligned width n = replicate (width - length (decimal n)) 32 ++ decimal n

-- a text with spaces after it up to the width
abbrev pub left_aligned : ℕ → List ℕ → List ℕ
left_aligned width text = text ++ replicate (width - length text) 32

-- a number below a hundred in two digits
abbrev pub two_digits : ℕ → List ℕ
two_digits n = replicate (2 - length (decimal n)) 48 ++ decimal n

-- whole percents in three places, a point, and two digits
abbrev pub percent_of : ℕ → List ℕ
percent_of n = right_aligned 3 (n / 100) ++ (46 ∷ two_digits (n % 100))

-- a space, and the share as a percentage
abbrev pub percent : ℕ → List ℕ
percent share = 32 ∷ percent_of (hundredths (fraction_of share))

abbrev pub mark : Bool → List ℕ
mark dropped = if dropped then codes "D" else codes " "

-- `bye` stands for the missing opponent
abbrev pub opponent_name : EventValue → ℕ → List ℕ
opponent_name event number = if number == 0 then codes "bye" else name_of event number

-- `-` if no score is reported
abbrev pub score_text : Option Games → List ℕ
score_text None = codes "-"
score_text (Some s) = decimal s.x ++ (45 ∷ (decimal s.y ++ (45 ∷ decimal s.d)))
