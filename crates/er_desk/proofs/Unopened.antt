-- What a crash may leave of files that were not opened holds what they held.
use Rattle.std.proofs.Common.{◌≡◌, ◌⊎◌, ◌≤◌, ◌%◌, ◌∙◌, ℕ, List, length, take, take_all, Option, Some, None, option_map, true, IsTrue}
use Rattle.std.proofs.Common.{refl, sym, ap, subst, inl, inr, arith, eq-eqb, ne_eqb}
use Rattle.std.proofs.lemmas.Bool.{cases_Bool, cases_eq}
use Rattle.std.proofs.Math.{Logic.{∥∥₁_elim, ∥∥₁_map}, Path.fun_ext}
use Rattle.sqlite_disk.specs.declared.{Disk.Ghosts, Files.Files}
use Rattle.sqlite_wal.specs.Recovery as raw
use Rattle.sqlite_wal.specs.{Files.outcomes, PageSize.{IsPageSize}, Recovery.{AreWhole, Image, IsIgnored, Pages}}
use Rattle.sqlite_pool.specs.Stored.{StandsAs, is_among, is_summed, reserved, resealed, sealed, stored_size}
use Rattle.sqlite_pool.proofs.{ProbeLemmas.{reserved_word, size_by_file, size_by_log}, ResealLemmas.adopts_of}
use Rattle.sqlite_pool.proofs.StateLemmas.{clean_is, may_leave_is, size_is_allowed}
use Rattle.sqlite_trees.specs.Props.{Trees-set}
use Rattle.sqlite_store.specs.{declared.store.FileStore.FileStore, Listing.IsOurs, Unopened.{state_of}}
use Rattle.sqlite_store.specs.FileStore.{reading, recovers, schema_in, state, view}
use Rattle.sqlite_catalog.specs.Listing.{IsSound}
use Rattle.sqlite.specs.{Tree.Trees, Held.AreDatabases, Opening.HoldsAt}
use Rattle.sqlite.specs.Files.{HoldsDatabase, IsCleanLeft, LeavesFiles, NamesSize, SaysSums, image_of}
use Rattle.sqlite.specs.declared.{error.Error.Error, file.Leftover.Leftover}
use Rattle.sqlite.specs.declared.file.Leftover.TheVariants as left
use Rattle.sqlite.proofs.FileLemmas.{is_something}
use Rattle.er_desk.specs.{Desk.{Placed, IsStoredAt}, Headline.{HoldsWhole, Recovers, RecoversWhole}}
use Rattle.er_desk.specs.Opening.{HoldJust, SparesAt, StaysLeft, StaysThere}

-- ---- pages that have their sums

kept_page : (size : ℕ) (page : Option (List ℕ)) → ((bytes : List ℕ) → page ≡ Some bytes → sealed (take size bytes) ≡ bytes)
    → option_map (λ (bytes : List ℕ). sealed (take size bytes)) page ≡ page
kept_page size None same = refl
kept_page size (Some bytes) same = ap Some (same bytes refl)

-- they stay as they are where they are given them
resealed_same : (size : ℕ) (numbers : List ℕ) (stored : Pages)
    → ((n : ℕ) (bytes : List ℕ) → stored n ≡ Some bytes → sealed (take size bytes) ≡ bytes) → resealed size numbers stored ≡ stored
unfolding resealed
resealed_same size numbers stored same = fun_ext λ n. elim (cases_Bool (is_among numbers n)) [
  | inl among ↦ rw among (kept_page size (stored n) (same n))
  | inr other ↦ rw other
]

-- a page of so many bytes has its sum, or pages have none
seal_same : (chosen size : ℕ) (bytes : List ℕ) → stored_size chosen ≡ stored_size size → (is_summed chosen ≡ true → chosen ≡ size)
    → length bytes ≡ stored_size size → bytes ≡ sealed (take size bytes) → sealed (take chosen bytes) ≡ bytes
unfolding sealed
seal_same chosen size bytes alike summed len has = elim (cases_eq (chosen % 16) 8) [
  | inl on ↦
      let same : chosen ≡ size = summed (rw (eq-eqb (chosen % 16) 8 on) refl) in
      ap (λ (n : ℕ). sealed (take n bytes)) same ∙ sym has
  | inr off ↦
      let all : stored_size chosen ≡ chosen = rw (ne_eqb (chosen % 16) 8 off) (omega arith) in
      let whole : length bytes ≡ chosen = omega (arith, len, alike, all) in
      rw (take_all chosen bytes (omega (arith, whole)), whole, ne_eqb (chosen % 16) 8 off) refl
]

-- ---- the size

pub holds_of : (image : Image) (db : Trees) → HoldsWhole image db → HoldsDatabase image db
holds_of image db (size, allowed, held) = (
  size,
  allowed,
  record {
    pages = held.pages;
    wanted = held.wanted;
    schema = held.schema;
    found = adopts_of size image held.pages held.found;
    ours = held.ours;
    reads = held.reads;
    sound = held.sound;
  },
)

module _ (image : Image) (db : Trees) (size : ℕ) (allowed : IsPageSize (stored_size size)) (held : HoldsAt size image db) where
  large : 504 ≤ size
  large = let few : reserved size ≤ 8 = grind arith in omega (arith, allowed.0)

  -- the size that the files name is that of the database in them
  named : (chosen : ℕ) → NamesSize image chosen → chosen ≡ stored_size size
  named chosen names =
      let adopts = adopts_of size image held.pages held.found in
      elim (cases_eq chosen (stored_size size)) [
        | inl same ↦ same
        | inr other ↦
            let seen = λ (read : IsIgnored image.log → ⊥). other (names.0 read ∙ size_by_log size image held.pages adopts read) in
            absurd (seen (λ ignored. other (names.1 ignored ∙ size_by_file size image held.pages adopts large held.ours.file.sound ignored)))
      ]

  -- if the files say that pages end in sums, those of the database do
  summed : (chosen : ℕ) → stored_size chosen ≡ stored_size size → (IsTrue (is_summed chosen) → SaysSums (stored_size chosen) image)
      → is_summed chosen ≡ true → chosen ≡ size
  summed chosen alike says on =
      let adopts = adopts_of size image held.pages held.found in
      let word = reserved_word size image held.pages adopts large held.ours.file.sound in
      let found = subst (λ (n : ℕ). raw.Recovers n image adopts.stored) (sym alike) adopts.found in
      let said = says on adopts.stored word.0 found word.1 (word.2 ∙ sym alike) in
      let eight : reserved size ≡ 8 = omega (arith, word.3, said) in
      let too : reserved chosen ≡ 8 = search arith in
      omega (arith, alike, eight, too)

  -- what stands for the files holds the database again
  pub stands_whole : (chosen : ℕ) → NamesSize image (stored_size chosen) → (IsTrue (is_summed chosen) → SaysSums (stored_size chosen) image)
      → (new : Image) → StandsAs chosen image new → HoldsWhole new db
  stands_whole chosen names says new stands =
      let alike = named (stored_size chosen) names in
      let stored = held.found.stored in
      let was = subst (λ (n : ℕ). raw.Recovers n image stored) (sym alike) held.found.found in
      let back = λ (it : raw.Recovers (stored_size chosen) new stored). subst (λ (n : ℕ). raw.Recovers n new stored) alike it in
      let now : raw.Recovers (stored_size size) new stored = elim stands.0 [
        | inl same ↦ back (same stored was)
        | inr more ↦ elim (more.2 stored was) [
          | inl it ↦ back it
          | inr it ↦ back (subst (raw.Recovers (stored_size chosen) new) (resealed_same chosen more.0 stored (λ n bytes is.
              seal_same chosen size bytes alike (summed chosen alike says) (held.found.whole.sized n bytes is) (held.found.sealed n bytes is))) it)
        ]
      ] in (
        size,
        allowed,
        record {
          pages = held.pages;
          wanted = held.wanted;
          schema = held.schema;
          found = record {
            stored = stored;
            found = now;
            whole = held.found.whole;
            sealed = held.found.sealed;
            shows = held.found.shows;
            present = now.present;
          };
          ours = held.ours;
          reads = held.reads;
          sound = held.sound;
        },
      )

-- ---- what is left

module _ {D : Type 0} {g : Ghosts D} where
  -- what a crash may leave of a store that lists its tables by number, with each page's sum
  pub opens_whole : (it : FileStore D g) → IsTrue (view it).is_numbered → AreDatabases (recovers it) → (left : Image)
      → (state it).may_leave left → ∥ ((db : Trees) × recovers it db × HoldsWhole left db) ∥₁
  opens_whole it numbered sound left may = ∥∥₁_elim it.safe squash₁ (λ all.
      let found = all left may in
      let db = reading it found.0 in
      let allowed : recovers it db = (left, found.0, may, ∣ found.1 ∣₁, refl) in
      let schema = sound db allowed in
      ∥∥₁_elim (size_is_allowed it.pool) squash₁ (λ size. ∥∥₁_map found.2 (λ ours.
      let it_is : (x : Trees) × recovers it x × HoldsWhole left x = (
        db,
        allowed,
        (
          (state it).page_size,
          size,
          record {
            pages = found.0;
            wanted = schema_in it found.0;
            schema = schema.0;
            found = found.1;
            reads = refl;
            sound = schema.1;
            ours = subst (λ b. IsOurs (state it).page_size b (schema_in it found.0) found.0) numbered ours;
          },
        ),
      ) in it_is)))

also : (image : Image) (placed : Placed) → RecoversWhole image placed → Recovers image placed × RecoversWhole image placed
also image placed whole = ((whole.0, ∥∥₁_map whole.1 (holds_of image whole.0), whole.2), whole)

module _ {D : Type 0} (g : Ghosts D) where
  module _ (image : Image) (files : Files D) (just : HoldJust g image files) (placed : Placed) (was : RecoversWhole image placed) where
    same_image : image_of g files ≡ image
    same_image = just.0

    stays_whole : (new : Image) → new ≡ image → RecoversWhole new placed
    stays_whole new same = subst (λ (i : Image). RecoversWhole i placed) (sym same) was

    kept_whole : (chosen : ℕ) → NamesSize image (stored_size chosen) → (IsTrue (is_summed chosen) → SaysSums (stored_size chosen) image)
        → (new : Image) → outcomes g files.log files.db new ⊎ StandsAs chosen image new → RecoversWhole new placed
    kept_whole chosen names says new (inl old) = stays_whole new (just.1 new old)
    kept_whole chosen names says new (inr stands) = (
      was.0,
      ∥∥₁_map was.1 (λ whole. stands_whole image was.0 whole.0 whole.1 whole.2 chosen names says new stands),
      was.2,
    )

    -- a store found what the files held
    found_is : (it : FileStore D g) → LeavesFiles files (left.Store it) → (trees : Trees) → recovers it trees → trees ≡ was.0
    found_is it spares trees may =
        ∥∥₁_elim was.1 (Trees-set _ _) (λ whole. (spares trees may).1 was.0
        (subst (λ (i : Image). HoldsDatabase i was.0) (sym same_image) (holds_of image was.0 whole)))

    store_whole : (it : FileStore D g) → LeavesFiles files (left.Store it) → IsTrue (view it).is_clean → IsTrue (view it).is_numbered
        → (new : Image) → (state it).may_leave new → RecoversWhole new placed
    store_whole it spares clean numbered new may = (
      was.0,
      ∥∥₁_elim was.1 squash₁ (λ whole. ∥∥₁_map
          (opens_whole it numbered (λ db left. (whole.2.schema, subst (λ (t : Trees). IsSound whole.2.schema t) (sym (found_is it spares db left)) whole.2.sound)) new may)
          (λ found. subst (HoldsWhole new) (found_is it spares found.0 found.1) found.2)),
      was.2,
    )

    -- each of the three that an opening may leave
    pub stays_left : (rest : Leftover D g) → IsCleanLeft rest → LeavesFiles files rest → StaysLeft placed rest
    stays_left (left.Files now) clean spares = record {
      finds = tt;
      bytes = λ none new may. also new placed (stays_whole new (just.1 new (spares new may)));
    }
    stays_left (left.Unopened now) clean (inl (nothing, way)) = record {
      finds = tt;
      bytes = λ none new may. absurd (∥∥₁_elim was.1 (λ a b. absurd a) (λ whole.
          is_something (image_of g files) was.0 (subst (λ (i : Image). HoldsDatabase i was.0) (sym same_image) (holds_of image was.0 whole)) nothing));
    }
    stays_left (left.Unopened now) clean (inr (something, names, begins, says, kept)) = record {
      finds = tt;
      bytes = λ none new may.
          let may_leave = may_leave_is now.pool new (subst IsTrue (clean_is now.pool) clean) may in
          also new placed (kept_whole (state_of now).page_size (subst (λ (i : Image). NamesSize i (stored_size (state_of now).page_size)) same_image names)
          (λ on. subst (SaysSums (stored_size (state_of now).page_size)) same_image (says on)) new
          (subst (λ (i : Image). outcomes g files.log files.db new ⊎ StandsAs (state_of now).page_size i new) same_image (kept new may_leave).same));
    }
    stays_left (left.Store it) clean spares = record {
      finds = λ trees may. subst (IsStoredAt placed) (sym (found_is it spares trees may)) was.2;
      bytes = λ numbered new may.
          also new placed (store_whole it spares clean numbered new (may_leave_is it.pool new (subst IsTrue (clean_is it.pool) clean) may));
    }

module _ {D : Type 0} {g : Ghosts D} where
  -- whatever the storage crate says of files that it did not open
  pub stays_there : (image : Image) (error : Error) (rest : Option (Leftover D g)) → SparesAt image error rest
      → (placed : Placed) → RecoversWhole image placed → StaysThere placed error rest
  stays_there image error None spared placed was = tt
  stays_there image error (Some rest) (files, just, spares) placed was = λ clean.
      stays_left g image files just placed was rest clean (spares clean).1
