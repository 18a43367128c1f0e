-- The files beside that of an event: how long each is, if it is there and that is known.
use Rattle.std.specs.Prelude.{◌≡◌, ◌≢◌, ◌⊎◌, ◌<◌, ℕ, List, Option, Some, None, IfSome}
use Rattle.er_cli.specs.declared.logs.TheConstants.{LEAST_LOG}

abbrev pub Lengths : Type 0
Lengths = Option (List ℕ → Option ℕ)

abbrev pub IsUnused : Lengths → List ℕ → Type 0
IsUnused lengths path = IfSome lengths (λ known. known path ≡ None)

-- every file but this one is as it was
abbrev pub RemovesOnly : Lengths → List ℕ → Lengths → Type 0
RemovesOnly old path new =
    IfSome old (λ was. (is : List ℕ → Option ℕ) × (new ≡ Some is) × ((other : List ℕ) → other ≢ path → is other ≡ was other))

-- it is too short to hold a frame
abbrev pub IsTooShort : Lengths → List ℕ → Type 0
IsTooShort lengths path = IfSome lengths (λ known. (length : ℕ) × (known path ≡ Some length) × (length < LEAST_LOG))

-- all files are as they were, or but for this log, which held nothing
abbrev pub RemovesEmpty : Lengths → List ℕ → Lengths → Type 0
RemovesEmpty old path new = (new ≡ old) ⊎ (IsTooShort old path × RemovesOnly old path new)
