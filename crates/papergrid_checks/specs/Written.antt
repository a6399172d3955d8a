-- What a caller knows of a writer after a failed call.
use Rattle.std.specs.Prelude.{ℕ, ◌⊎◌, List, [], Option, take}
use Rattle.std.specs.Io.KnownBytes.{Appends}

-- nothing was written, or a beginning of such an output
abbrev pub AppendsBeginning : (List ℕ → Type 0) → Option (List ℕ) → Option (List ℕ) → Type 0
AppendsBeginning IsOutput old new =
    Appends old new [] ⊎ ((output : List ℕ) × IsOutput output × ((n : ℕ) × Appends old new (take n output)))
