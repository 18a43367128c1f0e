-- Which route a path has, in plain words.
use Rattle.std.proofs.{lemmas.Grind.common_steps, Common.{◌≡◌, ◌≢◌, ℕ, zero, suc, ◌-◌, ◌<◌, Bool, true, false, cond, not, ◌&&◌, ◌||◌, List}}
use Rattle.std.proofs.Common.{[], ◌∷◌, ◌++◌, codes, drop, length, get_or, Option, Some, None, option_map, refl, sym, ap, ap₂, ◌∙◌, arith}
use Rattle.std.proofs.Common.{nat_eq}
use Rattle.std.proofs.{Common.{◌==◌, ltb, append-nil, length-append, lit<, Fits, w8}, lemmas.Bool.Decides.nat_tests}
use Rattle.std.specs.{Cmp.Lexicographic.pointwise, List.starts_with}
use Rattle.matchit.specs.{Rows.{Rows, Seen, prepend, ends, param_token, rows, rows_of}, Seek.{step, or_else, seek, first, after_param}}
use Rattle.matchit.specs.{Seek.{segment, has_slash, longest_suffix, cuts}, Level.{IsText, AreSuffixes}, Router.{RouteOf, rename, map_key}}
use Rattle.matchit.proofs.SeekLemmas.{first-prefix, step-append, step-hit, step-miss, prepend-nil, seek-empty, param_step-empty}
use Rattle.matchit.proofs.{SeekLemmas.{or_else-none, own-append}, ParamLemmas.{after_param-end, after_param-stop, after_param-kid}}
use Rattle.matchit.proofs.RenameLemmas.{first-rename}
use Rattle.er_slips.specs.Routes.{routes, before_slash, after_slash, is_empty, ends_in_number, after_round, in_rounds, after_root}
use Rattle.er_slips.specs.Routes.{pattern_of}
use Rattle.er_slips.specs.Routes.{round_pattern, table_pattern}
use Rattle.er_slips.specs.declared.request.routes.Pattern.{Pattern}
use Rattle.er_slips.specs.declared.request.routes.Pattern.TheVariants.{Standings, Round, Table}

-- ---- the key of a pattern among the router's

abbrev key : Pattern → ℕ
key Standings = 0
key Round = 1
key Table = 2

abbrev keyed : Option Pattern → Option ℕ
keyed None = None
keyed (Some pattern) = Some (key pattern)

keyed_if : (b : Bool) (one other : Option Pattern) → cond b (keyed one) (keyed other) ≡ keyed (cond b one other)
keyed_if true one other = refl
keyed_if false one other = refl

-- ---- a text's first part

abbrev IsWhole : List ℕ → Type 0
IsWhole p = (after_slash p ≡ []) × (before_slash p ≡ p) × (segment p ≡ p)

true_false : true ≡ false → ⊥
true_false e = absurd (cc)

no_slash : (p : List ℕ) → has_slash p ≡ false → IsWhole p
no_slash [] e = (refl, refl, refl)
no_slash (b ∷ p) e = grind (arith, common_steps, no_slash p)

abbrev IsCut : List ℕ → Type 0
IsCut p = (segment p ≡ before_slash p ++ 47 ∷ []) × (p ≡ before_slash p ++ after_slash p) × (is_empty (after_slash p) ≡ false)

with_slash : (p : List ℕ) → has_slash p ≡ true → IsCut p
with_slash [] e = absurd (true_false (sym e))
with_slash (b ∷ p) e = grind (arith, common_steps, with_slash p)

-- ---- the suffix `/`

drop_front : (u v : List ℕ) → drop (length u) (u ++ v) ≡ v
drop_front [] v = refl
drop_front (x ∷ u) v = drop_front u v

abbrev last_is_slash : List ℕ → Bool
last_is_slash u = pointwise nat_eq (47 ∷ []) (drop (length u - 1) u)

no_head : (v : Bool) (x : ℕ) (r : List ℕ) → (x == 47) ≡ v → has_slash (x ∷ r) ≡ false → (nat_eq 47 x ≡ false) × (has_slash r ≡ false)
no_head h1 x r q e = grind (arith, common_steps)

last_no : (u : List ℕ) → has_slash u ≡ false → last_is_slash u ≡ false
last_no [] e = refl
last_no (x ∷ []) e = rw (no_head (x == 47) x [] refl e).0 refl
last_no (x ∷ y ∷ r) e =
    let e1 : suc (suc (length r)) - 1 ≡ suc (length r) = omega arith in
    let e2 : suc (length r) - 1 ≡ length r = omega arith in
    let ih = last_no (y ∷ r) (no_head (x == 47) x (y ∷ r) refl e).1 in
    rw e1 (rw e2 at ih)

and_no : (b c : Bool) → c ≡ false → (b && c) ≡ false
and_no h1 c e = grind (arith, common_steps)

cuts_none : (u : List ℕ) → has_slash u ≡ false → cuts u (47 ∷ []) ≡ false
cuts_none u e = and_no (ltb 1 (length u)) (last_is_slash u) (last_no u e)

-- ---- the rows after `/rounds/`

tables : Seen
tables = record { prefix = 47 ∷ []; tails = prepend (codes "tables/") ((param_token ∷ [], 2) ∷ []); height = 0 }

abbrev after_number : Rows
after_number = rows_of (record { prefix = 47 ∷ []; tails = prepend (codes "tables/") ((param_token ∷ [], 2) ∷ []); height = 0 } ∷ [])
    ++ ends (Some 1)

-- a byte isn't a token
param_only : (t : Rows) (c : ℕ) (p : List ℕ) → c < 256
    → first (prepend (param_token ∷ []) t) (c ∷ p) ≡ after_param (step param_token (prepend (param_token ∷ []) t)) (c ∷ p)
unfolding seek
param_only t c p small = grind (arith, common_steps, or_else-none, seek-empty, step-miss)

-- what two lists of rows with other first bytes answer
two_steps : (v0 : Bool) (x y c : ℕ) (w v : List ℕ) (t u : Rows) (p : List ℕ) → (x == c) ≡ v0 → x ≢ y
    → seek 0 (step c (prepend (x ∷ w) t) ++ step c (prepend (y ∷ v) u)) p ≡ or_else (seek 0 (step c (prepend (x ∷ w) t)) p)
    (seek 0 (step c (prepend (y ∷ v) u)) p)
two_steps true x y c w v t u p q n = grind (arith, common_steps, append-nil, nat_tests, or_else-none, seek-empty, step-miss)
two_steps false x y c w v t u p q n = grind (arith, common_steps, nat_tests, seek-empty, step-miss)

two : (x y : ℕ) (w v : List ℕ) (t u : Rows) (path : List ℕ) → x < 256 → y < 256 → x ≢ y
    → first (prepend (x ∷ w) t ++ prepend (y ∷ v) u) path ≡ or_else (first (prepend (x ∷ w) t) path) (first (prepend (y ∷ v) u) path)
unfolding seek
two x y w v t u [] xs ys n = own-append (prepend (x ∷ w) t) (prepend (y ∷ v) u)
two x y w v t u (c ∷ p) xs ys n = grind (arith, common_steps, or_else-none, param_step-empty, seek-empty, step-append, step-miss, two_steps)

-- ---- texts of bytes

text_drop : (k : ℕ) (p : List ℕ) → IsText p → IsText (drop k p)
text_drop zero p h = h
text_drop (suc k) [] h = h
text_drop (suc k) (b ∷ p) h = text_drop k p h.1

text_after : (p : List ℕ) → IsText p → IsText (after_slash p)
text_after [] h = h
text_after (b ∷ p) h = grind (arith, common_steps, text_after p h.1)

or_yes : (b : Bool) → (b || true) ≡ true
or_yes h1 = grind (arith, common_steps)

-- ---- a table's number

last_by : (v : Bool) (c : ℕ) (p : List ℕ) → has_slash (c ∷ p) ≡ v → after_param (ends (Some 2)) (c ∷ p) ≡ keyed (ends_in_number (c ∷ p))
last_by false c p e =
    let whole = no_slash (c ∷ p) e in
    after_param-end [] (Some 2) c p tt refl e
    ∙ sym (ap₂ (λ (b a : List ℕ). keyed (cond (is_empty b || not (is_empty a)) None (Some Table))) whole.1 whole.0)
last_by true c p e =
    let cut = with_slash (c ∷ p) e in
    after_param-stop [] (Some 2) c p refl e
    ∙ sym (ap (λ (b : Bool). keyed (cond (is_empty (before_slash (c ∷ p)) || not b) None (Some Table))) cut.2
    ∙ ap (λ (b : Bool). keyed (cond b None (Some Table))) (or_yes (is_empty (before_slash (c ∷ p)))))

last_number : (text : List ℕ) → IsText text → first (prepend (param_token ∷ []) (ends (Some 2))) text ≡ keyed (ends_in_number text)
unfolding seek
last_number [] h = refl
last_number (c ∷ p) h =
    param_only (ends (Some 2)) c p h.0
    ∙ ap (λ (r : Rows). after_param r (c ∷ p)) (step-hit param_token [] (ends (Some 2)) ∙ prepend-nil (ends (Some 2)))
    ∙ last_by (has_slash (c ∷ p)) c p refl

-- ---- what stands after a round's number

tables_text : IsText (codes "/tables/")
tables_text = (lit< tt, (lit< tt, (lit< tt, (lit< tt, (lit< tt, (lit< tt, (lit< tt, (lit< tt, tt))))))))

round_rest : (text : List ℕ) → IsText text → first (rows tables) text ≡ keyed (after_round text)
unfolding tables
round_rest text h =
    first-prefix (codes "/tables/") (prepend (param_token ∷ []) (ends (Some 2))) text tables_text
    ∙ ap (λ (o : Option ℕ). cond (starts_with nat_eq text (codes "/tables/")) o None) (last_number (drop 8 text) (text_drop 8 text h))
    ∙ keyed_if (starts_with nat_eq text (codes "/tables/")) (ends_in_number (drop 8 text)) None

-- ---- a round's number

suffixed : AreSuffixes (tables ∷ [])
unfolding tables
suffixed = (record { some_prefix = lit< tt; some_rows = lit< tt; all_segment = (refl, tt) }, tt, tt)

abbrev chosen : List ℕ → List ℕ
chosen seg = cond (cuts seg (47 ∷ [])) (47 ∷ []) []

longest_is : (seg : List ℕ) → longest_suffix seg (rows_of (tables ∷ [])) ≡ chosen seg
unfolding tables
longest_is seg = refl

abbrev rounds_from : List ℕ → List ℕ → Option ℕ
rounds_from b a = keyed (cond (is_empty b) None (cond (is_empty a) (Some Round) (after_round a)))

kid_rest : (c : ℕ) (p : List ℕ) → IsCut (c ∷ p) → drop (length (segment (c ∷ p)) - 1) (c ∷ p) ≡ after_slash (c ∷ p)
kid_rest c p cut = grind (arith, common_steps)

longest_slash : (v : Bool) (c : ℕ) (p : List ℕ) → is_empty (before_slash (c ∷ p)) ≡ v → IsCut (c ∷ p)
    → longest_suffix (segment (c ∷ p)) (rows_of (tables ∷ [])) ≡ cond (not v) (47 ∷ []) []
longest_slash v c p q cut = grind (arith, common_steps, drop_front, length-append, longest_is, nat_tests)

rounds_slash : (v : Bool) (c : ℕ) (p : List ℕ) → is_empty (before_slash (c ∷ p)) ≡ v → IsCut (c ∷ p)
    → in_rounds (c ∷ p) ≡ cond v None (after_round (after_slash (c ∷ p)))
rounds_slash v c p q cut = grind (arith, common_steps)

slash_by : (v : Bool) (c : ℕ) (p : List ℕ) → is_empty (before_slash (c ∷ p)) ≡ v → IsCut (c ∷ p) → has_slash (c ∷ p) ≡ true → IsText (c ∷ p)
    → after_param (rows_of (tables ∷ []) ++ ends (Some 1)) (c ∷ p) ≡ keyed (in_rounds (c ∷ p))
unfolding tables
slash_by true c p q cut e h =
    after_param-stop (tables ∷ []) (Some 1) c p (longest_slash true c p q cut) e ∙ sym (ap keyed (rounds_slash true c p q cut))
slash_by false c p q cut e h =
    after_param-kid (tables ∷ []) 0 tables (Some 1) c p suffixed (lit< tt) (sym (longest_slash false c p q cut))
    ∙ ap (first (rows tables)) (kid_rest c p cut) ∙ round_rest (after_slash (c ∷ p)) (text_after (c ∷ p) h)
    ∙ sym (ap keyed (rounds_slash false c p q cut))

rounds_by : (v : Bool) (c : ℕ) (p : List ℕ) → has_slash (c ∷ p) ≡ v → IsText (c ∷ p)
    → after_param (rows_of (tables ∷ []) ++ ends (Some 1)) (c ∷ p) ≡ keyed (in_rounds (c ∷ p))
rounds_by false c p e h =
    let whole = no_slash (c ∷ p) e in
    let longest = longest_is (segment (c ∷ p)) ∙ ap chosen whole.2 ∙ ap (λ (b : Bool). cond b (47 ∷ []) []) (cuts_none (c ∷ p) e) in
    after_param-end (tables ∷ []) (Some 1) c p suffixed longest e ∙ sym (ap₂ rounds_from whole.1 whole.0)
rounds_by true c p e h = slash_by (is_empty (before_slash (c ∷ p))) c p refl (with_slash (c ∷ p) e) e h

rounds_rest : (text : List ℕ) → IsText text → first (prepend (param_token ∷ []) after_number) text ≡ keyed (in_rounds text)
unfolding tables seek
rounds_rest [] h = refl
rounds_rest (c ∷ p) h =
    param_only after_number c p h.0
    ∙ ap (λ (r : Rows). after_param r (c ∷ p)) (step-hit param_token [] after_number ∙ prepend-nil after_number)
    ∙ rounds_by (has_slash (c ∷ p)) c p refl h

-- ---- the whole path

ends_here : (text : List ℕ) → first (ends (Some 0)) text ≡ cond (is_empty text) (Some 0) None
unfolding seek
ends_here h1 = grind (arith, common_steps, param_step-empty, seek-empty)

abbrev rounds_rows : Rows
rounds_rows = prepend (codes "rounds/") (prepend (param_token ∷ []) after_number)

abbrev standings_rows : Rows
standings_rows = prepend (codes "standings") (ends (Some 0))

standings_text : IsText (codes "standings")
standings_text = (lit< tt, (lit< tt, (lit< tt, (lit< tt, (lit< tt, (lit< tt, (lit< tt, (lit< tt, (lit< tt, tt)))))))))

rounds_text : IsText (codes "rounds/")
rounds_text = (lit< tt, (lit< tt, (lit< tt, (lit< tt, (lit< tt, (lit< tt, (lit< tt, tt)))))))

abbrev begins_rounds : List ℕ → Bool
begins_rounds text = starts_with nat_eq text (codes "rounds/")

abbrev begins_standings : List ℕ → Bool
begins_standings text = starts_with nat_eq text (codes "standings")

one_only : (text : List ℕ) → begins_rounds text ≡ true → begins_standings text ≡ false
one_only h1 e = grind (arith, common_steps)

root_by : (r s z : Bool) (o : Option Pattern) → (r ≡ true → s ≡ false)
    → or_else (cond r (keyed o) None) (cond s (cond z (Some 0) None) None) ≡ keyed (cond r o (cond (s && z) (Some Standings) None))
root_by h1 s z o n = grind (arith, common_steps)

root : (text : List ℕ) → IsText text → first (rounds_rows ++ standings_rows) text ≡ keyed (after_root text)
root text h =
    two 114 115 (codes "ounds/") (codes "tandings") (prepend (param_token ∷ []) after_number) (ends (Some 0)) text (lit< tt) (lit< tt)
    (λ e. omega arith)
    ∙ ap₂ or_else
    (first-prefix (codes "rounds/") (prepend (param_token ∷ []) after_number) text rounds_text
    ∙ ap (λ (o : Option ℕ). cond (begins_rounds text) o None) (rounds_rest (drop 7 text) (text_drop 7 text h)))
    (first-prefix (codes "standings") (ends (Some 0)) text standings_text
    ∙ ap (λ (o : Option ℕ). cond (begins_standings text) o None) (ends_here (drop 9 text)))
    ∙ root_by (begins_rounds text) (begins_standings text) (is_empty (drop 9 text)) (in_rounds (drop 7 text)) (one_only text)

abbrev plain : Rows
plain = (table_pattern, 2) ∷ (round_pattern, 1) ∷ (codes "/standings", 0) ∷ []

pub first_plain : (path : List ℕ) → IsText path → first plain path ≡ keyed (pattern_of path)
first_plain path h =
    first-prefix (47 ∷ []) (rounds_rows ++ standings_rows) path (lit< tt, tt)
    ∙ ap (λ (o : Option ℕ). cond (starts_with nat_eq path (codes "/")) o None) (root (drop 1 path) (text_drop 1 path h))
    ∙ keyed_if (starts_with nat_eq path (codes "/")) (after_root (drop 1 path)) None

-- ---- the router's own rows

abbrev pattern_at : ℕ → List ℕ
pattern_at n = cond (n == 2) table_pattern (cond (n == 1) round_pattern (codes "/standings"))

abbrev text_at : ℕ → List ℕ
text_at n = cond (n == 2) (codes "/rounds/{r}/tables/{t}") (cond (n == 1) (codes "/rounds/{r}") (codes "/standings"))

abbrev names_at : ℕ → List (ℕ × ℕ)
names_at n = cond (n == 2) ((9, 10) ∷ (20, 21) ∷ []) (cond (n == 1) ((9, 10) ∷ []) [])

abbrev value_at : ℕ → Pattern
value_at n = cond (n == 2) Table (cond (n == 1) Round Standings)

abbrev route_at : ℕ → RouteOf Pattern
route_at n = record { pattern = pattern_at n; text = text_at n; names = names_at n; value = value_at n }

routes_are : routes ≡ rename route_at plain
routes_are = refl

pub first_routes : (path : List ℕ) → IsText path → first routes path ≡ map_key route_at (keyed (pattern_of path))
first_routes path h = ap (λ r. first r path) routes_are ∙ first-rename route_at plain path ∙ ap (map_key route_at) (first_plain path h)

pub found_pattern : (o : Option Pattern) (r : RouteOf Pattern) → map_key route_at (keyed o) ≡ Some r → o ≡ Some r.value
found_pattern None r e = absurd (cc)
found_pattern (Some Standings) r e = ap (option_map (λ (r : RouteOf Pattern). r.value)) e
found_pattern (Some Round) r e = ap (option_map (λ (r : RouteOf Pattern). r.value)) e
found_pattern (Some Table) r e = ap (option_map (λ (r : RouteOf Pattern). r.value)) e

pub no_pattern : (o : Option Pattern) → map_key route_at (keyed o) ≡ None → o ≡ None
no_pattern None e = refl
no_pattern (Some pattern) e = absurd (cc)

pub text_from : (p : List ℕ) → ((i : ℕ) → Fits w8 (get_or p i 0)) → IsText p
text_from [] h = tt
text_from (b ∷ p) h = ((h 0).fits, text_from p (λ i. h (suc i)))
