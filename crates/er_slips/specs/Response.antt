-- Answers, to the byte. Each text is nested to the right, as the code writes its parts.
use Rattle.std.specs.Prelude.{◌≡◌, ◌⊎◌, ℕ, ◌==◌, Bool, true, false, if◌then◌else◌, List, [], ◌∷◌, ◌++◌, length, Option, Some, None, codes}
use Rattle.std.specs.Fmt.{decimal}
use Rattle.er_event.specs.declared.refusals.Refusal.{Refusal}
use Rattle.er_event.specs.declared.refusals.Refusal.TheVariants.{AlreadyReported, NoSuchMatch, Memory, Store, NeedsReopen}
use Rattle.er_event.specs.declared.scores.Games.{Games}
use Rattle.er_event.specs.Refusal.{entry_of}
use Rattle.er_answers.specs.declared.question.Answer.{Answer}
use Rattle.er_answers.specs.declared.question.Answer.TheVariants.{Accepted, Text, Slip, Refused}
use Rattle.er_slips.specs.declared.response.Response.{Response}
use Rattle.er_slips.specs.declared.response.Response.TheVariants.{Short, Long}
use Rattle.er_slips.specs.declared.request.wanted.Methods.{Methods}
use Rattle.er_slips.specs.declared.request.wanted.Methods.TheVariants.{Get, GetAndPost}
use Rattle.er_slips.specs.declared.request.wanted.Fault.{Fault}
use Rattle.er_slips.specs.declared.request.wanted.Fault.TheVariants.{BadRequest, NotFound, NotAllowed, TooLarge}

-- a status, and the bytes that begin with it
pub record ResponseValue : Type 0 where
  pub status : ℕ
  pub bytes : List ℕ

abbrev pub response_value : Response → ResponseValue
response_value (Short status text) = record { status = status; bytes = text }
response_value (Long text) = record { status = 200; bytes = text.items }

-- ---- the head of an answer

abbrev pub line_end : List ℕ
line_end = 13 ∷ 10 ∷ []

-- number and reason
abbrev pub status_line : ℕ → List ℕ
status_line status =
    if status == 200 then codes "HTTP/1.1 200 OK\r\n"
    else if status == 400 then codes "HTTP/1.1 400 Bad Request\r\n"
    else if status == 404 then codes "HTTP/1.1 404 Not Found\r\n"
    else if status == 405 then codes "HTTP/1.1 405 Method Not Allowed\r\n"
    else if status == 409 then codes "HTTP/1.1 409 Conflict\r\n"
    else if status == 413 then codes "HTTP/1.1 413 Content Too Large\r\n"
    else codes "HTTP/1.1 503 Service Unavailable\r\n"

-- only in a 405: the methods that the route has
abbrev pub allow_line : Option Methods → List ℕ
allow_line None = []
allow_line (Some Get) = codes "Allow: GET\r\n"
allow_line (Some GetAndPost) = codes "Allow: GET, POST\r\n"

abbrev pub type_line : Bool → List ℕ
type_line is_text = if is_text then codes "Content-Type: text/plain; charset=utf-8\r\n" else codes "Content-Type: application/json\r\n"

abbrev pub head_of : ℕ → Option Methods → Bool → ℕ → List ℕ
head_of status allow is_text size =
    status_line status
    ++ (allow_line allow
    ++ (type_line is_text ++ (codes "Content-Length: " ++ (decimal size ++ codes "\r\nConnection: close\r\n\r\n"))))

abbrev pub response_of : ℕ → Option Methods → Bool → List ℕ → ResponseValue
response_of status allow is_text body = record { status = status; bytes = head_of status allow is_text (length body) ++ body }

abbrev pub json_response : ℕ → List ℕ → ResponseValue
json_response status body = response_of status None false body

-- ---- before the desk is asked

abbrev pub fault_response : Fault → ResponseValue
fault_response BadRequest = json_response 400 (codes "{\"error\":\"bad request\"}")
fault_response NotFound = json_response 404 (codes "{\"error\":\"not found\"}")
fault_response (NotAllowed allowed) = response_of 405 (Some allowed) false (codes "{\"error\":\"method not allowed\"}")
fault_response TooLarge = json_response 413 (codes "{\"error\":\"body too large\"}")

-- ---- after it

-- no such match: 404; out of memory, a fault of the store, a store that needs reopening: 503; else 409
abbrev pub status_of : Refusal → ℕ
status_of NoSuchMatch = 404
status_of Memory = 503
status_of (Store cause) = 503
status_of NeedsReopen = 503
status_of why = 409

abbrev pub games_object : Games → List ℕ
games_object g = codes "{\"a\":" ++ (decimal g.x ++ (codes ",\"b\":" ++ (decimal g.y ++ (codes ",\"d\":" ++ (decimal g.d ++ codes "}")))))

-- the stored score, if one is there already
abbrev pub detail : Refusal → List ℕ
detail (AlreadyReported score) = codes ",\"score\":" ++ games_object score
detail _ = []

abbrev pub refusal_body : Refusal → List ℕ
refusal_body why =
    codes "{\"name\":\""
    ++ ((entry_of why).1 ++ (codes "\",\"refused\":" ++ (decimal (entry_of why).0 ++ (detail why ++ codes "}"))))

abbrev pub refusal_response : Refusal → ResponseValue
refusal_response why = json_response (status_of why) (refusal_body why)

abbrev pub receipt_body : ℕ → List ℕ
receipt_body serial = codes "{\"serial\":" ++ (decimal serial ++ codes "}")

abbrev pub receipt_response : ℕ → ResponseValue
receipt_response serial = json_response 200 (receipt_body serial)

abbrev pub text_response : List ℕ → ResponseValue
text_response text = response_of 200 None true text

abbrev pub slip_response : List ℕ → ResponseValue
slip_response slip = json_response 200 slip

-- what the desk has answered, as a response
abbrev pub response_to : Answer → ResponseValue
response_to (Accepted receipt) = receipt_response receipt.serial
response_to (Text text) = text_response text
response_to (Slip slip) = slip_response slip
response_to (Refused why) = refusal_response why

-- this response, or that there is no memory for one of any length
abbrev pub IsResponse : Answer → ResponseValue → Type 0
IsResponse (Text text) answer = (answer ≡ text_response text) ⊎ (answer ≡ refusal_response Memory)
IsResponse (Slip slip) answer = (answer ≡ slip_response slip) ⊎ (answer ≡ refusal_response Memory)
IsResponse told answer = answer ≡ response_to told
