-- What a head asks for, read from its spans, and the body after it.
use Rattle.std.proofs.{lemmas.Grind.common_steps, Common.{◌≡◌, ℕ, ◌+◌, ◌-◌, ◌<◌, ◌≤◌, ◌==◌, Bool, List, [], ◌∷◌, ◌++◌, length, take, drop}}
use Rattle.std.proofs.Common.{get_or, All, slice_range, Option, Some, None, Result, Ok, Err, IfSome, refl, sym, ap, subst, ◌∙◌, arith}
use Rattle.std.proofs.{Common.{length-append, length-drop, append-nil}, lemmas.List.{drop-append-le, drop-take, take-take, take-append-le}}
use Rattle.std.proofs.{lemmas.List.{length-take-le, length-take}, lemmas.Bool.Decides.nat_tests, lemmas.Str.IsUtf8-take}
use Rattle.std.specs.{Str.{IsUtf8, IsCharBoundary}, Io.KnownBytes.{Consumes, IsAtEnd}}
use Rattle.er_paper.specs.Slip.{slip_games}
use Rattle.httparse.specs.{Grammar.{RequestHead, ReadsRequest}, Spans.{span_bytes, IsHeaderWithin, IsRequestAt}}
use Rattle.httparse.specs.{declared.spans.HeaderSpan.HeaderSpan, declared.spans.RequestSpans.RequestSpans}
use Rattle.httparse.proofs.GrammarLemmas.{ReadsRequest-append}
use Rattle.er_slips.specs.{declared.request.head.Head.Head, declared.request.head.Head.TheVariants.Found}
use Rattle.er_slips.specs.{declared.request.wanted.Fault.Fault, declared.request.Next.Next, declared.request.Next.TheVariants.{Get, Body}}
use Rattle.er_slips.specs.{declared.request.wanted.Request.Request, declared.request.wanted.NoRequest.NoRequest}
use Rattle.er_slips.specs.{declared.request.wanted.Fault.TheVariants.BadRequest, declared.request.head.TheConstants.MAX_HEAD}
use Rattle.er_slips.specs.Head.{IsHead}
use Rattle.er_slips.specs.Request.{path_of, next_of, asked_with, asked_of, report_request, IsRequest, headed, IsWholeRequest}
use Rattle.er_slips.specs.inside.{Scan.{IfFound, ShowsHead}, Telling.{IsDueUnlessMemory, TellsRequest}}
use Rattle.er_slips.specs.declared.request.wanted.NoRequest.TheVariants as no_request

-- ---- the path is text

-- how long the path is, and the byte after it
path-cut : (t : List ℕ) → (path_of t ≡ take (length (path_of t)) t) × (length (path_of t) ≤ length t)
    × (length (path_of t) < length t → get_or t (length (path_of t)) 0 ≡ 63)
path-cut [] = (refl, omega arith, λ l. absurd (omega arith))
path-cut (b ∷ t) = by (b == 63) refl (path-cut t)
  where
    by : (v : Bool) → (b == 63) ≡ v → (path_of t ≡ take (length (path_of t)) t) × (length (path_of t) ≤ length t)
        × (length (path_of t) < length t → get_or t (length (path_of t)) 0 ≡ 63)
        → (path_of (b ∷ t) ≡ take (length (path_of (b ∷ t))) (b ∷ t)) × (length (path_of (b ∷ t)) ≤ length (b ∷ t))
        × (length (path_of (b ∷ t)) < length (b ∷ t) → get_or (b ∷ t) (length (path_of (b ∷ t))) 0 ≡ 63)
    by h1 e later = grind (arith, common_steps)

pub path-text : (t : List ℕ) → IsUtf8 t → IsUtf8 (path_of t)
path-text t is = by (path-cut t)
  where
    by : (path_of t ≡ take (length (path_of t)) t) × (length (path_of t) ≤ length t)
        × (length (path_of t) < length t → get_or t (length (path_of t)) 0 ≡ 63) → IsUtf8 (path_of t)
    by cut =
        let edge : IsCharBoundary t (length (path_of t)) = (omega (arith, cut.1), λ l large. absurd (omega (arith, cut.2 l, large))) in
        subst IsUtf8 (sym cut.0) (IsUtf8-take t (length (path_of t)) is edge)

-- ---- the head

module _ (bytes : List ℕ) (headers : List HeaderSpan) (spans : RequestSpans) (head : RequestHead)
    (at : IsRequestAt bytes headers spans head) where
  pub path-is-text : IsUtf8 (path_of (span_bytes bytes spans.path))
  path-is-text = subst (λ t. IsUtf8 (path_of t)) (sym at.path) (path-text head.target at.reads.0.target_text)

pub wide : (n m : ℕ) (hs : List HeaderSpan) → n ≤ m → All (IsHeaderWithin n) hs → All (IsHeaderWithin m) hs
wide n m hs le all = λ k d below. let h = all k d below in ((h.0.0, omega (arith, h.0.1)), (h.1.0, omega (arith, h.1.1)))

-- ---- the whole input

module _ (input after : Option (List ℕ)) (bytes : List ℕ) (headers : List HeaderSpan) (spans : RequestSpans)
    (came : Consumes input after bytes) (few : length bytes ≤ MAX_HEAD) (shows : ShowsHead bytes headers spans) where
  -- of a whole input, by its head
  of-head : (P : List ℕ → Type 0) → ((xs : List ℕ) → input ≡ Some xs → IsHead xs shows.head (drop spans.len xs) → P xs)
      → IfSome input P
  of-head P is = by input after refl came
    where
      by : (i a : Option (List ℕ)) → i ≡ input → Consumes i a bytes → IfSome i P
      by None a e c = tt
      by (Some xs) None e c = absurd c
      by (Some xs) (Some ys) e c =
          let size : spans.len ≤ length bytes = shows.within.section.len_fits in
          let rest : drop spans.len xs ≡ drop spans.len bytes ++ ys = ap (drop spans.len) c ∙ drop-append-le spans.len bytes ys size in
          let reads : ReadsRequest xs shows.head (drop spans.len xs) =
          rw (rest, c) (ReadsRequest-append bytes shows.head (drop spans.len bytes) ys shows.at.reads) in
          is xs (sym e) (reads, omega (arith, shows.at.len, size, few), shows.few)

  -- what it asks for, by what its head says
  pub asks-by : (result : Result Request Fault) → ((xs : List ℕ) → input ≡ Some xs → result ≡ asked_of shows.head (drop spans.len xs))
      → IfSome input (λ xs. IsRequest xs result)
  asks-by result is = of-head (λ xs. IsRequest xs result) (λ xs e head. headed shows.head (drop spans.len xs) head (is xs e))

  pub asks-get : (asked : Request) → next_of shows.head ≡ Ok (Get asked) → IfSome input (λ xs. IsRequest xs (Ok asked))
  asks-get asked e = asks-by (Ok asked) (λ xs is. ap (λ n. asked_with n (drop spans.len xs)) (sym e))

  pub asks-fault : (fault : Fault) → next_of shows.head ≡ Err fault → IfSome input (λ xs. IsRequest xs (Err fault))
  asks-fault fault e = asks-by (Err fault) (λ xs is. ap (λ n. asked_with n (drop spans.len xs)) (sym e))

  -- ---- with a body

  tells-asked : (xs : List ℕ) (due : Result Request Fault) (r : Result Request NoRequest) → IsDueUnlessMemory due r
      → (round table n : ℕ) × IsWholeRequest xs (Body round table n) → IsRequest xs due → TellsRequest xs r
  tells-asked xs due (Ok asked) t body is = subst (IsRequest xs) t is
  tells-asked xs due (Err (no_request.Refused fault)) t body is = subst (IsRequest xs) t is
  tells-asked xs due (Err no_request.Memory) t body is = body
  tells-asked xs due (Err no_request.Unread) t body is = absurd t

  behind : (xs : List ℕ) (a : Option (List ℕ)) (front : List ℕ) → Consumes (Some xs) a front
      → (ys : List ℕ) × (xs ≡ front ++ ys) × (IsAtEnd a → ys ≡ [])
  behind xs h1 front c = grind (arith, common_steps)

  long-enough : (round table n : ℕ) (rest : List ℕ) → n ≤ length rest
      → asked_with (Ok (Body round table n)) rest ≡ report_request round table (slip_games (take n rest))
  long-enough round table n rest le = grind (arith, nat_tests)

  too-short : (round table n : ℕ) (rest : List ℕ) → length rest < n → asked_with (Ok (Body round table n)) rest ≡ Err BadRequest
  too-short round table n rest lt = grind (arith, nat_tests)

  module _ (round table n : ℕ) (is-next : next_of shows.head ≡ Ok (Body round table n)) (later : Option (List ℕ)) (buf : List ℕ) (count : ℕ)
      (came-on : Consumes input later (take count buf)) (fits : count ≤ length buf) where
    size : length (take count buf) ≡ count
    size = length-take-le count buf fits

    pub asks-body : (end : ℕ) → spans.len + n ≡ end → end ≤ count → (r : Result Request NoRequest)
        → IsDueUnlessMemory (report_request round table (slip_games (slice_range buf spans.len end))) r
        → IfSome input (λ xs. TellsRequest xs r)
    asks-body end sum enough r t =
        let due = report_request round table (slip_games (slice_range buf spans.len end)) in
        of-head (λ xs. TellsRequest xs r) (λ xs is head.
        let more = behind xs later (take count buf) (subst (λ i. Consumes i later (take count buf)) is came-on) in
        let left : end - spans.len ≡ n = omega arith in
        let rest : drop spans.len xs ≡ drop spans.len (take count buf) ++ more.0 =
        ap (drop spans.len) more.1 ∙ drop-append-le spans.len (take count buf) more.0 (omega (arith, size)) in
        let long : n ≤ length (drop spans.len (take count buf)) = omega (arith, size, length-drop spans.len (take count buf)) in
        let whole : n ≤ length (drop spans.len xs) =
        rw rest (omega (arith, long, length-append (drop spans.len (take count buf)) more.0)) in
        let part : take n (drop spans.len (take count buf)) ≡ take n (drop spans.len buf) =
        sym (drop-take spans.len n (take count buf)) ∙ ap (drop spans.len) (take-take (spans.len + n) count buf (omega arith))
        ∙ drop-take spans.len n buf in
        let body : slice_range buf spans.len end ≡ take n (drop spans.len xs) =
        ap (λ k. take k (drop spans.len buf)) left ∙ sym part ∙ sym (take-append-le n (drop spans.len (take count buf)) more.0 long)
        ∙ ap (take n) (sym rest) in
        let asked = ap (λ b. report_request round table (slip_games b)) body ∙ sym (long-enough round table n (drop spans.len xs) whole)
        ∙ ap
        (λ (k : Result Next Fault). asked_with k (drop spans.len xs)) (sym is-next) in
        tells-asked xs due r t
        (round, table, n, record { head = shows.head; rest = drop spans.len xs; heads = head; passes = is-next; body = whole })
        (headed shows.head (drop spans.len xs) head asked))

    pub asks-short : spans.len ≤ count → count < spans.len + n → IsAtEnd later → IfSome input (λ xs. IsRequest xs (Err BadRequest))
    asks-short past few-came ended = asks-by (Err BadRequest) (λ xs is.
        let more = behind xs later (take count buf) (subst (λ i. Consumes i later (take count buf)) is came-on) in
        let all : xs ≡ take count buf = more.1 ∙ ap (λ ys. take count buf ++ ys) (more.2 ended) ∙ append-nil (take count buf) in
        let short : length (drop spans.len xs) < n = rw all (omega (arith, size, length-drop spans.len (take count buf))) in
        sym (too-short round table n (drop spans.len xs) short) ∙ ap (λ (k : Result Next Fault). asked_with k (drop spans.len xs))
        (sym is-next))

pub few-bytes : (n : ℕ) (xs : List ℕ) → n ≤ MAX_HEAD → length (take n xs) ≤ MAX_HEAD
few-bytes n xs le = omega (arith, length-take n xs)

pub head-fits : (bytes : List ℕ) (headers : List HeaderSpan) (spans : RequestSpans) (n : ℕ) (xs : List ℕ) → bytes ≡ take n xs
    → ShowsHead bytes headers spans → spans.len ≤ n
head-fits bytes headers spans n xs e shows = grind (arith, common_steps)

pub shows-of : (h : Head) (spans : RequestSpans) (P : RequestSpans → Type 0) → h ≡ Found spans → IfFound h P → P spans
shows-of h spans P e p = subst (λ k. IfFound k P) e p
