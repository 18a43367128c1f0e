-- Answers, routes and what requests ask for, computed from the definitions.
use Rattle.std.proofs.Common.{inl}
use Rattle.std.specs.{Prelude.{◌≡◌, ℕ, false, List, [], ◌∷◌, map, Some, None, Ok, Err, codes, refl}, Fmt.digits}
use Rattle.httparse.specs.Grammar.{RequestHead, Field, crlf}
use Rattle.httparse.proofs.OnLiterals.{httparse_on_literals}
use Rattle.er_event.specs.{declared.events.Phase.TheVariants.Swiss, declared.players.Player.Player, declared.scores.Games.Games}
use Rattle.er_event.specs.{declared.commands.Command.Command, declared.refusals.Refusal.TheVariants.{AlreadyReported, BadScore, NotSwiss}}
use Rattle.er_event.specs.declared.refusals.Refusal.TheVariants.{NoSuchMatch, IsBye, SerialFull, Memory, Store, NeedsReopen}
use Rattle.er_event.specs.{declared.refusals.Cause.TheVariants.Refused, Change.with_score, Event.EventValue, Slip.slip_of}
use Rattle.er_paper.specs.Slip.{slip_games, slip_text}
use Rattle.er_paper.specs.Texts.{pairings_text}
use Rattle.er_desk.specs.Reply.{IsDue}
use Rattle.er_slips.specs.{declared.request.fields.TheConstants.MAX_BODY, declared.request.head.TheConstants.{MAX_HEAD, MAX_FIELDS}}
use Rattle.er_slips.specs.{declared.request.wanted.Request.TheVariants.Pairings, declared.request.wanted.Fault.TheVariants.BadRequest}
use Rattle.er_slips.specs.{declared.request.wanted.Fault.TheVariants.{NotFound, NotAllowed, TooLarge}}
use Rattle.er_slips.specs.declared.request.wanted.Methods.TheVariants as methods
use Rattle.er_slips.specs.{Request.{route_of, path_of, asked_of}}
use Rattle.er_slips.specs.Request.{report_request}
use Rattle.er_slips.specs.Response.{ResponseValue, fault_response, refusal_response, receipt_response, slip_response, text_response}
use Rattle.er_slips.specs.Response.{response_to, status_of}
use Rattle.er_answers.specs.Question.{slip_told, text_told}
use Rattle.er_event.specs.declared.commands.Command.TheVariants.{Result as ReportResult}
use Rattle.er_slips.specs.declared.request.routes.Route.TheVariants as route

-- ---- each limit as the format has it, so that the code's constant can't move from it

pub bytes_of_a_head : MAX_HEAD ≡ 8192
bytes_of_a_head = refl

pub fields_of_a_head : MAX_FIELDS ≡ 32
fields_of_a_head = refl

pub bytes_of_a_body : MAX_BODY ≡ 4096
bytes_of_a_body = refl

-- ---- whole answers

abbrev answer : ℕ → List ℕ → ResponseValue
answer status bytes = record { status = status; bytes = bytes }

pub accepted : receipt_response 7 ≡ answer 200 (codes "HTTP/1.1 200 OK\r\nContent-Type: application/json\r\nContent-Length: 12\r\nConnection: close\r\n\r\n{\"serial\":7}")
unfolding digits
accepted = refl

pub not_allowed : fault_response (NotAllowed methods.Get) ≡ answer 405
    (codes "HTTP/1.1 405 Method Not Allowed\r\nAllow: GET\r\nContent-Type: application/json\r\nContent-Length: 30\r\nConnection: close\r\n\r\n{\"error\":\"method not allowed\"}")
unfolding digits
not_allowed = refl

pub not_allowed_on_a_table : fault_response (NotAllowed methods.GetAndPost) ≡ answer 405
    (codes "HTTP/1.1 405 Method Not Allowed\r\nAllow: GET, POST\r\nContent-Type: application/json\r\nContent-Length: 30\r\nConnection: close\r\n\r\n{\"error\":\"method not allowed\"}")
unfolding digits
not_allowed_on_a_table = refl

pub bad_request : fault_response BadRequest ≡ answer 400
    (codes "HTTP/1.1 400 Bad Request\r\nContent-Type: application/json\r\nContent-Length: 23\r\nConnection: close\r\n\r\n{\"error\":\"bad request\"}")
unfolding digits
bad_request = refl

pub not_found : fault_response NotFound ≡ answer 404
    (codes "HTTP/1.1 404 Not Found\r\nContent-Type: application/json\r\nContent-Length: 21\r\nConnection: close\r\n\r\n{\"error\":\"not found\"}")
unfolding digits
not_found = refl

pub too_large : fault_response TooLarge ≡ answer 413
    (codes "HTTP/1.1 413 Content Too Large\r\nContent-Type: application/json\r\nContent-Length: 26\r\nConnection: close\r\n\r\n{\"error\":\"body too large\"}")
unfolding digits
too_large = refl

-- with the score that stands, in 67 bytes
pub reported_again : refusal_response (AlreadyReported (record { x = 2; y = 1; d = 0 })) ≡ answer 409
    (codes "HTTP/1.1 409 Conflict\r\nContent-Type: application/json\r\nContent-Length: 67\r\nConnection: close\r\n\r\n{\"name\":\"AlreadyReported\",\"refused\":14,\"score\":{\"a\":2,\"b\":1,\"d\":0}}")
unfolding digits
reported_again = refl

pub no_memory : refusal_response Memory ≡ answer 503
    (codes "HTTP/1.1 503 Service Unavailable\r\nContent-Type: application/json\r\nContent-Length: 30\r\nConnection: close\r\n\r\n{\"name\":\"Memory\",\"refused\":24}")
unfolding digits
no_memory = refl

pub statuses : map status_of (NotSwiss ∷ NoSuchMatch ∷ BadScore ∷ IsBye ∷ SerialFull ∷ Memory ∷ Store Refused ∷ NeedsReopen ∷ [])
    ≡ 409 ∷ 404 ∷ 409 ∷ 409 ∷ 409 ∷ 503 ∷ 503 ∷ 503 ∷ []
statuses = refl

pub a_slip : slip_response (codes "{\"first\":{\"name\":\"Di\",\"no\":4},\"round\":1,\"score\":null,\"second\":{\"name\":\"Bo\",\"no\":2},\"table\":1}")
    ≡ answer 200 (codes "HTTP/1.1 200 OK\r\nContent-Type: application/json\r\nContent-Length: 93\r\nConnection: close\r\n\r\n{\"first\":{\"name\":\"Di\",\"no\":4},\"round\":1,\"score\":null,\"second\":{\"name\":\"Bo\",\"no\":2},\"table\":1}")
unfolding digits
a_slip = refl

pub a_text : text_response (codes "ab") ≡ answer 200
    (codes "HTTP/1.1 200 OK\r\nContent-Type: text/plain; charset=utf-8\r\nContent-Length: 2\r\nConnection: close\r\n\r\nab")
unfolding digits
a_text = refl

-- ---- routes

-- what follows a question mark isn't part of the path
pub of_standings : route_of (path_of (codes "/standings?x=/")) ≡ Some route.Standings
of_standings = refl

pub of_rounds : map route_of (codes "/rounds/0" ∷ codes "/rounds/000" ∷ codes "/rounds/255" ∷ []) ≡ Some (route.Round 0) ∷ Some
    (route.Round 0) ∷ Some (route.Round 255) ∷ []
of_rounds = refl

pub of_tables : map route_of (codes "/rounds/1/tables/999" ∷ codes "/rounds/001/tables/0" ∷ []) ≡ Some (route.Table 1 999) ∷ Some
    (route.Table 1 0) ∷ []
of_tables = refl

-- another path, a round above 255, four digits, a slash at the end, nothing or a sign for a number, an encoded digit
pub no_routes : map route_of (codes "/nope" ∷ codes "/rounds/256" ∷ codes "/rounds/0001" ∷ codes "/rounds/1/" ∷ codes "/rounds/1/tables/"
    ∷ codes "/rounds/+1" ∷ codes "/rounds/%31" ∷ [])
    ≡ None ∷ None ∷ None ∷ None ∷ None ∷ None ∷ None ∷ []
no_routes = refl

-- ---- requests

abbrev head_with : List ℕ → List ℕ → List Field → RequestHead
head_with method target fields = record {
  blank = [];
  method = method;
  target = target;
  minor = 1;
  line_end = crlf;
  fields = fields;
  last = crlf;
}

abbrev field : List ℕ → List ℕ → Field
field name value = record { name = name; raw = 32 ∷ value; end = crlf }

abbrev post : List Field → RequestHead
post fields = head_with (codes "POST") (codes "/rounds/1/tables/1") fields

abbrev of_length : List ℕ → Field
of_length value = field (codes "content-LENGTH") value

pub nowhere : (rest : List ℕ) → asked_of (head_with (codes "GET") (codes "/nope") []) rest ≡ Err NotFound
nowhere rest = refl

-- the route is looked at before the method
pub deleted_nowhere : (rest : List ℕ) → asked_of (head_with (codes "DELETE") (codes "/nope") []) rest ≡ Err NotFound
deleted_nowhere rest = refl

pub deleted : (rest : List ℕ) → asked_of (head_with (codes "DELETE") (codes "/standings") []) rest ≡ Err (NotAllowed methods.Get)
deleted rest = refl

pub put_on_a_table : (rest : List ℕ) → asked_of (head_with (codes "PUT") (codes "/rounds/1/tables/1") []) rest
    ≡ Err (NotAllowed methods.GetAndPost)
put_on_a_table rest = refl

pub not_stored : (rest : List ℕ) → asked_of (head_with (codes "GET") (codes "/rounds/9") []) rest ≡ Ok (Pairings 9)
not_stored rest = refl

pub no_length : (rest : List ℕ) → asked_of (post []) rest ≡ Err BadRequest
no_length rest = refl

pub too_long : (rest : List ℕ) → asked_of (post (of_length (codes "4097") ∷ [])) rest ≡ Err TooLarge
unfolding httparse_on_literals digits
too_long rest = refl

-- two lengths, and a length beside a Transfer-Encoding, whatever they are
pub two_lengths : (rest : List ℕ) → asked_of (post (of_length (codes "4097") ∷ of_length (codes "19") ∷ [])) rest ≡ Err BadRequest
unfolding httparse_on_literals digits
two_lengths rest = refl

pub encoded : (rest : List ℕ) → asked_of (post (of_length (codes "4097") ∷ field (codes "Transfer-Encoding") (codes "chunked") ∷ [])) rest
    ≡ Err BadRequest
unfolding httparse_on_literals digits
encoded rest = refl

pub signed_length : (rest : List ℕ) → asked_of (post (of_length (codes "+19") ∷ [])) rest ≡ Err BadRequest
unfolding httparse_on_literals digits
signed_length rest = refl

-- the body's 19 bytes, and no more, are read as a slip
pub handed_in : asked_of (post (of_length (codes "19") ∷ [])) (codes "{\"a\":2,\"b\":1,\"d\":0} and more") ≡ report_request 1 1
    (slip_games (codes "{\"a\":2,\"b\":1,\"d\":0}"))
unfolding httparse_on_literals digits
handed_in = refl

pub cut_short : asked_of (post (of_length (codes "20") ∷ [])) (codes "{\"a\":2,\"b\":1,\"d\":0}") ≡ Err BadRequest
unfolding httparse_on_literals digits
cut_short = refl

-- ---- an event of four players, whose first round is paired

abbrev player : ℕ → List ℕ → Player
player number name = record { no = number; name = name; dropped = false; joined = 0 }

abbrev games : ℕ → ℕ → ℕ → Games
games x y d = record { x = x; y = y; d = d }

abbrev friday : EventValue
friday = record {
  name = codes "Friday";
  rounds = 3;
  cut = 0;
  phase = Swiss;
  players = player 1 (codes "Ana") ∷ player 2 (codes "Bo") ∷ player 3 (codes "Cy") ∷ player 4 (codes "Di") ∷ [];
  stored = record { matches = record { a = 4; b = 2; score = None } ∷ record { a = 1; b = 3; score = None } ∷ [] } ∷ [];
  bracket = record { stages = [] };
}

pub slip_shown : response_to (slip_told (slip_of friday 1 1)) ≡ slip_response
    (slip_text (record { round = 1; table = 1; first = (4, codes "Di"); second = Some (2, codes "Bo"); score = None }))
slip_shown = refl

pub no_slip : response_to (slip_told (slip_of friday 1 3)) ≡ refusal_response NoSuchMatch
no_slip = refl

pub round_not_stored : response_to (text_told (pairings_text friday 9)) ≡ refusal_response NoSuchMatch
round_not_stored = refl

abbrev hand : Games → Command
hand score = ReportResult 1 1 score

pub due_receipt : IsDue 2 friday 6 (hand (games 2 1 0)) (Ok (record { serial = 7 }))
due_receipt = (Ok (with_score friday 1 1 (games 2 1 0)), inl (refl, λ needs. needs), refl)

pub due_to_a_retry : IsDue 2 (with_score friday 1 1 (games 2 1 0)) 7 (hand (games 2 1 0)) (Err (AlreadyReported (games 2 1 0)))
due_to_a_retry = (Err (AlreadyReported (games 2 1 0)), inl (refl, λ needs. needs), refl)

pub due_to_no_score : IsDue 2 friday 6 (hand (games 2 2 0)) (Err BadScore)
due_to_no_score = (Err BadScore, inl (refl, λ needs. needs), refl)
