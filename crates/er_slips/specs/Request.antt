-- What a request asks for, by the checks in their order.
use Rattle.std.specs.Prelude.{◌≡◌, ◌≤◌, ℕ, ◌==◌, nat_eq, nat_lt, nat_le, Bool, ◌&&◌, if◌then◌else◌, List}
use Rattle.std.specs.Prelude.{[], ◌∷◌, length, take, drop}
use Rattle.std.specs.Prelude.{map, filter, Option, Some, None, option_map, option_and_then, Result, Ok, Err, codes}
use Rattle.std.specs.List.{list_all, list_any, starts_with}
use Rattle.std.specs.Char.{is_ascii_digit, to_ascii_lowercase}
use Rattle.std.specs.Str.{bytes_eq}
use Rattle.std.specs.Str.Parse.{digits_value}
use Rattle.httparse.specs.Grammar.{RequestHead}
use Rattle.httparse.specs.Spans.{name_and_value}
use Rattle.er_event.specs.declared.scores.Games.{Games}
use Rattle.er_paper.specs.Slip.{slip_games}
use Rattle.er_slips.specs.declared.request.fields.TheConstants.{MAX_BODY}
use Rattle.er_slips.specs.declared.request.routes.Pattern.{Pattern}
use Rattle.er_slips.specs.declared.request.routes.Pattern.TheVariants as pattern
use Rattle.er_slips.specs.declared.request.routes.Route.{Route}
use Rattle.er_slips.specs.declared.request.routes.Route.TheVariants as route
use Rattle.er_slips.specs.declared.request.wanted.Request.{Request}
use Rattle.er_slips.specs.declared.request.wanted.Request.TheVariants.{Standings, Pairings, Slip, Report}
use Rattle.er_slips.specs.declared.request.Next.{Next}
use Rattle.er_slips.specs.declared.request.Next.TheVariants.{Get, Body}
use Rattle.er_slips.specs.declared.request.wanted.Methods.TheVariants as methods
use Rattle.er_slips.specs.declared.request.wanted.Fault.{Fault}
use Rattle.er_slips.specs.declared.request.wanted.Fault.TheVariants.{BadRequest, NotFound, NotAllowed, TooLarge}
use Rattle.er_slips.specs.Head.{IsHead, HasNoHead}
use Rattle.er_slips.specs.Routes.{before_slash, after_slash, pattern_of}

-- ---- the route

-- the target up to its first question mark
abbrev pub path_of : List ℕ → List ℕ
path_of [] = []
path_of (b ∷ rest) = if b == 63 then [] else b ∷ path_of rest

-- 1 to 3 digits
abbrev pub path_number : List ℕ → Option ℕ
path_number part =
    if nat_lt 0 (length part) && nat_le (length part) 3 && list_all is_ascii_digit part then Some (digits_value 10 part)
    else None

-- at most 255
abbrev pub path_round : List ℕ → Option ℕ
path_round part = option_and_then (λ n. if nat_lt n 256 then Some n else None) (path_number part)

abbrev pub table_with : Option ℕ → Option ℕ → Option Route
table_with (Some round) (Some table) = Some (route.Table round table)
table_with (Some round) None = None
table_with None table = None

-- what follows this beginning, if the text has it
abbrev pub behind : (beginning text : List ℕ) → Option (List ℕ)
behind beginning text = if starts_with nat_eq text beginning then Some (drop (length beginning) text) else None

-- after `/rounds/`: a round, or a round, `/tables/` and a table
abbrev pub round_route : List ℕ → Option Route
round_route rest = option_map route.Round (path_round (before_slash rest))

abbrev pub table_route : List ℕ → Option Route
table_route rest =
    table_with (path_round (before_slash rest)) (option_and_then path_number (behind (codes "/tables/") (after_slash rest)))

abbrev pub route_by : List ℕ → Option Pattern → Option Route
route_by path None = None
route_by path (Some pattern.Standings) = Some route.Standings
route_by path (Some pattern.Round) = option_and_then round_route (behind (codes "/rounds/") path)
route_by path (Some pattern.Table) = option_and_then table_route (behind (codes "/rounds/") path)

abbrev pub route_of : List ℕ → Option Route
route_of path = route_by path (pattern_of path)

-- ---- the length of a body

-- a field's name and value
abbrev pub HeadField : Type 0
HeadField = List ℕ × List ℕ

-- in whatever case
abbrev pub is_named : List ℕ → HeadField → Bool
is_named name field = bytes_eq (map to_ascii_lowercase field.0) name

abbrev pub length_of : List ℕ → Result ℕ Fault
length_of value =
    if nat_lt 0 (length value) && list_all is_ascii_digit value
    then (if nat_lt MAX_BODY (digits_value 10 value) then Err TooLarge else Ok (digits_value 10 value))
    else Err BadRequest

abbrev pub only_length : List HeadField → Result ℕ Fault
only_length (field ∷ []) = length_of field.1
only_length _ = Err BadRequest

-- one Content-Length of only digits, and no Transfer-Encoding
abbrev pub body_length : List HeadField → Result ℕ Fault
body_length fields =
    if list_any (is_named (codes "transfer-encoding")) fields then Err BadRequest
    else only_length (filter (is_named (codes "content-length")) fields)

-- ---- the head's part

abbrev pub with_length : ℕ → ℕ → Result ℕ Fault → Result Next Fault
with_length round table (Err fault) = Err fault
with_length round table (Ok n) = Ok (Body round table n)

-- a GET serves each route, a POST the last
abbrev pub serves : Route → List ℕ → List HeadField → Result Next Fault
serves route.Standings method fields = if bytes_eq method (codes "GET") then Ok (Get Standings) else Err (NotAllowed methods.Get)
serves (route.Round round) method fields = if bytes_eq method (codes "GET") then Ok (Get (Pairings round)) else Err (NotAllowed methods.Get)
serves (route.Table round table) method fields =
    if bytes_eq method (codes "GET") then Ok (Get (Slip round table))
    else if bytes_eq method (codes "POST") then with_length round table (body_length fields) else Err (NotAllowed methods.GetAndPost)

abbrev pub next_on : Option Route → List ℕ → List HeadField → Result Next Fault
next_on None method fields = Err NotFound
next_on (Some to) method fields = serves to method fields

-- what is left to do once the head is there
abbrev pub next_of : RequestHead → Result Next Fault
next_of head = next_on (route_of (path_of head.target)) head.method (map name_and_value head.fields)

-- ---- the body's part

abbrev pub report_request : ℕ → ℕ → Option Games → Result Request Fault
report_request round table None = Err BadRequest
report_request round table (Some games) = Ok (Report round table games)

abbrev pub asked_with : Result Next Fault → List ℕ → Result Request Fault
asked_with (Err fault) rest = Err fault
asked_with (Ok (Get asked)) rest = Ok asked
asked_with (Ok (Body round table n)) rest =
    if nat_lt (length rest) n then Err BadRequest else report_request round table (slip_games (take n rest))

-- what is asked for, or the first check that fails
abbrev pub asked_of : RequestHead → List ℕ → Result Request Fault
asked_of head rest = asked_with (next_of head) rest

-- ---- the whole input

-- Asked of a whole input. There is one such answer, since a text has at most one head.
pub data IsRequest (input : List ℕ) (result : Result Request Fault) : Type 0 where
  headed : (head : RequestHead) (rest : List ℕ) → IsHead input head rest → result ≡ asked_of head rest → IsRequest input result
  headless : HasNoHead input → result ≡ Err BadRequest → IsRequest input result

-- after a head that asks for this, its body is whole; a GET has none
abbrev pub HasBody : List ℕ → Next → Type 0
HasBody rest (Get asked) = Unit {0}
HasBody rest (Body round table n) = n ≤ length rest

-- a head that passes each check, and asks for this, with the whole of its body
pub record IsWholeRequest (input : List ℕ) (next : Next) : Type 0 where
  pub head : RequestHead
  pub rest : List ℕ
  pub heads : IsHead input head rest
  pub passes : next_of head ≡ Ok next
  pub body : HasBody rest next
