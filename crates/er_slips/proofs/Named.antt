-- The fields of a head, one at a time.
use Rattle.std.proofs.{lemmas.Grind.common_steps, Common.{◌≡◌, ℕ, ◌+◌, ◌<◌, Bool, true, false, Bor, List, [], ◌∷◌, ◌++◌, codes, take, drop}}
use Rattle.std.proofs.Common.{length, map, filter, get_or, Option, Some, None, Err, refl, sym, ap, ◌∙◌, arith, take-append-drop}
use Rattle.std.proofs.{Common.if◌then◌else◌, lemmas.List.get_or-map, lemmas.List.Elements.filter-append}
use Rattle.std.specs.{List.list_any, Option.is_some}
use Rattle.httparse.specs.{Spans.header_bytes, declared.spans.HeaderSpan.HeaderSpan}
use Rattle.er_slips.specs.{declared.request.wanted.Fault.TheVariants.BadRequest, Request.{HeadField, is_named, only_length, body_length}}

abbrev pub refused : HeadField → Bool
refused field = is_named (codes "transfer-encoding") field

abbrev pub counted : HeadField → Bool
counted field = is_named (codes "content-length") field

-- the one value that was found so far, if any
abbrev pub HasFound : List HeadField → Option (Bor (List ℕ)) → Type 0
HasFound fields None = filter counted fields ≡ []
HasFound fields (Some value) = (name : List ℕ) × (filter counted fields ≡ (name, value.now) ∷ [])

filter-at : (fields : List HeadField) (i : ℕ) (field : HeadField) → i < length fields → field ≡ get_or fields i field
    → filter counted (take (i + 1) fields) ≡ filter counted (take i fields) ++ filter counted (field ∷ [])
filter-at fields i field below is = grind (arith, common_steps)

whole : (fields : List HeadField) (i : ℕ) → take i fields ++ drop i fields ≡ fields
whole fields i = take-append-drop i fields

-- the state after one more field
pub whole-more : (fields : List HeadField) (i : ℕ) (field : HeadField) → i < length fields → field ≡ get_or fields i field
    → refused field ≡ false
    → list_any refused (take i fields) ≡ false → list_any refused (take (i + 1) fields) ≡ false
whole-more fields i field below is not so_far = grind (arith, common_steps)

pub found-same : (fields : List HeadField) (i : ℕ) (field : HeadField) (found : Option (Bor (List ℕ))) → i < length fields
    → field ≡ get_or fields i field → counted field ≡ false
    → HasFound (take i fields) found → HasFound (take (i + 1) fields) found
found-same fields i field h1 below is not so_far = grind (arith, common_steps)

pub found-new : (fields : List HeadField) (i : ℕ) (field : HeadField) (value : Bor (List ℕ)) → i < length fields
    → field ≡ get_or fields i field → counted field ≡ true
    → value.now ≡ field.1 → HasFound (take i fields) None → HasFound (take (i + 1) fields) (Some value)
found-new fields i field value below is so same so_far =
    (field.0, filter-at fields i field below is ∙ rw (so_far, so) (ap (λ v. (field.0, v) ∷ []) (sym same)))

-- the answers
pub refused-at : (fields : List HeadField) (i : ℕ) (field : HeadField) → i < length fields → field ≡ get_or fields i field
    → refused field ≡ true → body_length fields ≡ Err BadRequest
refused-at fields i field below is so = grind (arith, common_steps)

second : (b : Bool) (v w : HeadField) (rest : List HeadField) → (if b then Err BadRequest else only_length (v ∷ w ∷ rest)) ≡ Err BadRequest
second h1 v w rest = grind (arith, common_steps)

pub second-at : (fields : List HeadField) (i : ℕ) (field : HeadField) (value : Bor (List ℕ)) → i < length fields
    → field ≡ get_or fields i field → counted field ≡ true
    → HasFound (take i fields) (Some value) → body_length fields ≡ Err BadRequest
second-at fields i field value below is so so_far =
    let counts : filter counted fields ≡ (so_far.0, value.now) ∷ field ∷ filter counted (drop (i + 1) fields) =
    let front : filter counted (take (i + 1) fields) ≡ (so_far.0, value.now) ∷ field ∷ [] = filter-at fields i field below is
    ∙ rw (so_far.1, so) refl in
    ap (filter counted) (sym (whole fields (i + 1))) ∙ filter-append counted (take (i + 1) fields) (drop (i + 1) fields)
    ∙ ap (λ fs. fs ++ filter counted (drop (i + 1) fields)) front in
    ap (λ fs. if list_any refused fields then Err BadRequest else only_length fs) counts
    ∙ second (list_any refused fields) (so_far.0, value.now) field (filter counted (drop (i + 1) fields))

pub second-found : (fields : List HeadField) (i : ℕ) (field : HeadField) (found : Option (Bor (List ℕ))) → i < length fields
    → field ≡ get_or fields i field → counted field ≡ true
    → is_some found ≡ true → HasFound (take i fields) found → body_length fields ≡ Err BadRequest
second-found fields i field None below is so some so_far = absurd (cc)
second-found fields i field (Some value) below is so some so_far = second-at fields i field value below is so so_far

pub was-none : (fields : List HeadField) (found : Option (Bor (List ℕ))) → is_some found ≡ false → HasFound fields found
    → HasFound fields None
was-none fields h1 none so_far = grind (arith, common_steps)

-- ---- over the spans of a head

abbrev pub no_header : HeaderSpan
no_header = record { name = record { start = 0; end = 0 }; value = record { start = 0; end = 0 } }

module _ (bytes : List ℕ) (headers : List HeaderSpan) (i : ℕ) (below : i < length headers) where
  pub field-below : i < length (map (header_bytes bytes) headers)
  field-below = grind (arith, common_steps)

  pub field-is : header_bytes bytes (get_or headers i no_header) ≡ get_or (map (header_bytes bytes) headers) i
      (header_bytes bytes (get_or headers i no_header))
  field-is = sym (get_or-map (header_bytes bytes) headers i no_header (header_bytes bytes (get_or headers i no_header)) below)
