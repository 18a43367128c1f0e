-- One name more of a list.
use Rattle.std.proofs.Common.{◌≡◌, inl, inr, ℕ, ◌+◌, ◌<◌, Bool, true, false, IsFalse, List, [], ◌∷◌, ◌++◌, length, map, take, get_or}
use Rattle.std.proofs.Common.{Some, None, Ok, Err, is_ok, not, refl, sym, ap, subst, ◌∙◌, arith, true≢false}
use Rattle.std.proofs.{Common.{append-nil, length-append, length-take-le}, lemmas.List.{length-map, take_all, take_more, map-append}}
use Rattle.std.proofs.lemmas.List.{Elements.filter-append, Folds.list_any-append}
use Rattle.std.specs.List.{filter, list_any, take-map}
use Rattle.er_event.specs.{declared.commands.Command.Command, declared.commands.Command.TheVariants.Enrol}
use Rattle.er_event.specs.{declared.commands.Receipt.Receipt, declared.refusals.Refusal.Refusal}
use Rattle.er_store.specs.Fault.{IsFault}
use Rattle.er_desk.specs.{Asking.{ListsGrow, join_sessions}, Desk.{DeskState, Outcome}, Reply.Reply, Run.{Runs, Session, session_of}}
use Rattle.er_paper.specs.declared.imports.PlayerLine.{PlayerLine}
use Rattle.er_cli.specs.{declared.importing.Additions.Additions, Importing.{Enrols, is_already, is_stop, is_taken}}
use Rattle.er_cli.specs.inside.Importing.{names_of}

-- one command more of a run
pub runs_more : (commands : List Command) (replies : List Reply) (old mid new : DeskState) (command : Command) (reply : Reply)
    → Runs old commands replies mid → Outcome mid command reply new → Runs old (commands ++ command ∷ []) (replies ++ reply ∷ []) new
runs_more [] [] old mid new command reply runs last = (new, subst (λ k. Outcome k command reply new) runs last, refl)
runs_more (c ∷ commands) (r ∷ replies) old mid new command reply runs last =
    (runs.0, runs.1, runs_more commands replies runs.0 mid new command reply runs.2 last)
runs_more [] (r ∷ replies) old mid new command reply runs last = absurd runs
runs_more (c ∷ commands) [] old mid new command reply runs last = absurd runs

-- a fault of the store ends an import
fault_stops : (why : Refusal) → IsFault why → is_stop (Err why) ≡ true
fault_stops why (inl is) = ap (λ (w : Refusal). is_stop (Err w)) is
fault_stops why (inr is) = ap (λ (w : Refusal). is_stop (Err w)) is

-- a desk that goes on with an import runs
pub runs_on : (old new : DeskState) (command : Command) (reply : Reply) → Outcome old command reply new → is_stop reply ≡ false
    → IsFalse new.needs_reopen
runs_on old new command reply (inl it) on = it.runs
runs_on old new command reply (inr (inl it)) on = subst (λ (s : DeskState). IsFalse s.needs_reopen) (sym it.same) it.was_running
runs_on old new command reply (inr (inr (inl it))) on =
    absurd (true≢false (sym (fault_stops it.why it.fault) ∙ sym (ap is_stop it.answered) ∙ on))
runs_on old new command reply (inr (inr (inr it))) on = absurd (true≢false (sym (ap is_stop it.answered) ∙ on))

-- ---- one name more was handed in

abbrev pub additions_of : List Reply → Additions
additions_of replies = record { added = length (filter is_ok replies); already = length (filter is_already replies) }

counts : (p : Reply → Bool) (replies : List Reply) (reply : Reply)
    → length (filter p (replies ++ reply ∷ [])) ≡ length (filter p replies) + length (filter p (reply ∷ []))
counts p replies reply = ap length (filter-append p replies (reply ∷ [])) ∙ length-append (filter p replies) (filter p (reply ∷ []))

same_additions : (added already a b : ℕ) → added ≡ a → already ≡ b
    → ◌≡◌ {A = Additions} (record { added = added; already = already }) (record { added = a; already = b })
same_additions added already a b one other = rw (one, other) refl

none_more : (replies : List Reply) (reply : Reply) → list_any is_stop replies ≡ false → is_stop reply ≡ false
    → list_any is_stop (replies ++ reply ∷ []) ≡ false
none_more replies reply none on = rw (list_any-append is_stop replies (reply ∷ []), none, on) refl

one_longer : (replies : List Reply) (reply : Reply) → length (replies ++ reply ∷ []) ≡ length replies + 1
one_longer replies reply = length-append replies (reply ∷ [])

-- the session with this command after it
abbrev pub with_name : Session → List ℕ → Reply → DeskState → Session
with_name session name reply new = join_sessions session (session_of (Enrol name ∷ []) (reply ∷ []) new.needs_reopen)

module _ (grow : ListsGrow) (names : List (List ℕ)) (old mid new : DeskState) (additions : Additions) (session : Session)
    (so_far : Enrols names old additions None session mid) (name : List ℕ)
    (reply : Reply) (turn : Outcome mid (Enrol name) reply new) where
  as_many : length so_far.replies ≡ length names
  as_many = so_far.all refl

  whole : take (length so_far.replies) names ≡ names
  whole = take_all (length so_far.replies) names (omega (arith, as_many))

  all_ran : Runs old (map Enrol names) so_far.replies mid
  all_ran =
      subst (λ (ns : List (List ℕ)). Runs old (map Enrol ns) so_far.replies mid) whole
      (subst (λ (rs : List Reply). Runs old (map Enrol (take (length rs) names)) rs mid) (append-nil so_far.replies) so_far.ran)

  all_asked : session ≡ session_of (map Enrol names) so_far.replies mid.needs_reopen
  all_asked =
      subst (λ (ns : List (List ℕ)). session ≡ session_of (map Enrol ns) so_far.replies mid.needs_reopen) whole
      (subst (λ (rs : List Reply). session ≡ session_of (map Enrol (take (length rs) names)) rs mid.needs_reopen)
      (append-nil so_far.replies)
      so_far.asked)

  ran_more : Runs old (map Enrol (names ++ name ∷ [])) (so_far.replies ++ reply ∷ []) new
  ran_more = subst (λ (cs : List Command). Runs old cs (so_far.replies ++ reply ∷ []) new) (sym (map-append Enrol names (name ∷ [])))
      (runs_more (map Enrol names) so_far.replies old mid new (Enrol name) reply all_ran turn)

  asked_more : with_name session name reply new
      ≡ session_of (map Enrol (names ++ name ∷ [])) (so_far.replies ++ reply ∷ []) new.needs_reopen
  asked_more =
      ap (λ (s : Session). with_name s name reply new) all_asked
      ∙ grow old mid new (map Enrol names) so_far.replies (Enrol name) reply all_ran turn
      ∙ ap (λ (cs : List Command). session_of cs (so_far.replies ++ reply ∷ []) new.needs_reopen) (sym (map-append Enrol names (name ∷ [])))

  fits : length (so_far.replies ++ reply ∷ []) ≡ length (names ++ name ∷ [])
  fits = one_longer so_far.replies reply ∙ ap (λ n. n + 1) as_many ∙ sym (length-append names (name ∷ []))

  -- the whole list, if this one doesn't stop it
  pub enrols_more : is_stop reply ≡ false → (next : Additions) → next ≡ additions_of (so_far.replies ++ reply ∷ [])
      → Enrols (names ++ name ∷ []) old next None (with_name session name reply new) new
  enrols_more on next is =
      let all = append-nil (so_far.replies ++ reply ∷ []) in
      let long = take_all (length (so_far.replies ++ reply ∷ [])) (names ++ name ∷ []) (omega (arith, fits)) in
      record {
        replies = so_far.replies ++ reply ∷ [];
        ran = rw (all, long) ran_more;
        asked = rw (all, long) asked_more;
        counted = is;
        goes_on = none_more so_far.replies reply so_far.goes_on on;
        all = λ _. fits;
        ends = tt;
      }

  -- and if it does
  pub enrols_stop : (why : Refusal) → reply ≡ Err why → is_stop reply ≡ true → (all : List (List ℕ))
      → take (length (names ++ name ∷ [])) all ≡ names ++ name ∷ []
      → Enrols all old additions (Some why) (with_name session name reply new) new
  enrols_stop why is stops all begins =
      let long = subst (λ (r : Reply). length (so_far.replies ++ r ∷ []) ≡ length (names ++ name ∷ [])) is fits in
      record {
        replies = so_far.replies;
        ran =
            let ran = subst (λ (r : Reply). Runs old (map Enrol (names ++ name ∷ [])) (so_far.replies ++ r ∷ []) new) is ran_more in
            rw (long, begins) ran;
        asked =
            let asked = subst (λ (r : Reply).
            with_name session name reply new ≡ session_of (map Enrol (names ++ name ∷ [])) (so_far.replies ++ r ∷ []) new.needs_reopen)
            is asked_more in
            rw (long, begins) asked;
        counted = so_far.counted;
        goes_on = so_far.goes_on;
        all = λ none. cc;
        ends = subst (λ (r : Reply). is_stop r ≡ true) is stops;
      }

-- the first names and the next one
pub names_push : (lines : List PlayerLine) (i : ℕ) (d : PlayerLine) → i < length lines
    → names_of (take (i + 1) lines) ≡ names_of (take i lines) ++ (get_or lines i d).name ∷ []
names_push lines i d within = ap names_of (take_more lines i d within) ∙ map-append (λ (line : PlayerLine). line.name) (take i lines)
    (get_or lines i d ∷ [])

names_next : (lines : List PlayerLine) (i : ℕ) (d : PlayerLine) → i < length lines → d ≡ get_or lines i d
    → names_of (take (i + 1) lines) ≡ names_of (take i lines) ++ d.name ∷ []
names_next lines i d within is = names_push lines i d within ∙ ap (λ (line : PlayerLine). names_of (take i lines) ++ line.name ∷ [])
    (sym is)

first_names : (lines : List PlayerLine) (i : ℕ) (d : PlayerLine) → i < length lines → d ≡ get_or lines i d
    → take (length (names_of (take i lines) ++ d.name ∷ [])) (names_of lines) ≡ names_of (take i lines) ++ d.name ∷ []
first_names lines i d within is =
    let name = λ (line : PlayerLine). line.name in
    let long : length (names_of (take (i + 1) lines)) ≡ i + 1 = length-map (take (i + 1) lines) name
    ∙ length-take-le (i + 1) lines (omega (arith, within)) in
    subst (λ (ns : List (List ℕ)). take (length ns) (names_of lines) ≡ ns) (names_next lines i d within is)
    (ap (λ n. take n (names_of lines)) long ∙ take-map name (i + 1) lines)

-- a name of a list, in its turn
module _ (grow : ListsGrow) (lines : List PlayerLine) (i : ℕ) (line : PlayerLine) (within : i < length lines)
    (is : line ≡ get_or lines i line)
    (old mid new : DeskState) (additions : Additions) (session : Session)
    (so_far : Enrols (names_of (take i lines)) old additions None session mid) (reply : Reply)
    (turn : Outcome mid (Enrol line.name) reply new) where
  abbrev then : Session
  then = with_name session line.name reply new

  pub next_enrolled : is_stop reply ≡ false → (next : Additions) → next ≡ additions_of (so_far.replies ++ reply ∷ [])
      → Enrols (names_of (take (i + 1) lines)) old next None then new
  next_enrolled on next counted = subst (λ (ns : List (List ℕ)). Enrols ns old next None then new) (sym (names_next lines i line within is))
      (enrols_more grow (names_of (take i lines)) old mid new additions session so_far line.name reply turn on next counted)

  -- the player was added
  pub added : (receipt : Receipt) → reply ≡ Ok receipt
      → Enrols (names_of (take (i + 1) lines)) old (record { added = additions.added + 1; already = additions.already }) None then new
  added receipt ok =
      let replies = so_far.replies in
      let one : length (filter is_ok (replies ++ reply ∷ [])) ≡ length (filter is_ok replies) + 1 =
      rw ok (counts is_ok replies (Ok receipt)) in
      let none : length (filter is_already (replies ++ reply ∷ [])) ≡ length (filter is_already replies) + 0 =
      rw ok (counts is_already replies (Ok receipt)) in
      let were = ap (λ (t : Additions). t.added) so_far.counted in
      let had = ap (λ (t : Additions). t.already) so_far.counted in
      next_enrolled (ap is_stop ok) _ (same_additions _ _ _ _ (omega (arith, one, were)) (omega (arith, none, had)))

  -- or was there already
  pub found : (why : Refusal) → reply ≡ Err why → is_taken why ≡ true
      → Enrols (names_of (take (i + 1) lines)) old (record { added = additions.added; already = additions.already + 1 }) None then new
  found why err taken =
      let replies = so_far.replies in
      let none : length (filter is_ok (replies ++ reply ∷ [])) ≡ length (filter is_ok replies) + 0 =
      rw err (counts is_ok replies (Err why)) in
      let that : length (filter is_already (Err why ∷ [])) ≡ 1 = rw taken refl in
      let one : length (filter is_already (replies ++ reply ∷ [])) ≡ length (filter is_already replies) + 1 =
      rw err (counts is_already replies (Err why) ∙ ap (λ n. length (filter is_already replies) + n) that) in
      let were = ap (λ (t : Additions). t.added) so_far.counted in
      let had = ap (λ (t : Additions). t.already) so_far.counted in
      next_enrolled (ap is_stop err ∙ ap not taken) _ (same_additions _ _ _ _ (omega (arith, none, were)) (omega (arith, one, had)))

  -- or the import ends
  pub ended : (why : Refusal) → reply ≡ Err why → is_taken why ≡ false → Enrols (names_of lines) old additions (Some why) then new
  ended why err other = enrols_stop grow (names_of (take i lines)) old mid new additions session so_far line.name reply turn why err
      (ap is_stop err ∙ ap not other) (names_of lines) (first_names lines i line within is)
