-- What holds of sizes, by name of how they are chosen.
use Rattle.std.specs.Prelude.{ℕ, List}
use Rattle.papergrid_tracks.specs.Problem.{Problem}
use Rattle.papergrid_tracks.specs.Sizings.{AreSizesBy, AreTooLargeBy}
use Rattle.papergrid_tracks.specs.declared.sizing.Sizing.TheVariants.{ByShares, Least}

-- the sizes by shares
abbrev pub AreSizes : Problem → List ℕ → Type 0
AreSizes = AreSizesBy ByShares

-- they are too large
abbrev pub AreSizesTooLarge : Problem → Type 0
AreSizesTooLarge = AreTooLargeBy ByShares

-- the least sizes
abbrev pub AreLeastSizes : Problem → List ℕ → Type 0
AreLeastSizes = AreSizesBy Least

-- they are too large
abbrev pub AreLeastTooLarge : Problem → Type 0
AreLeastTooLarge = AreTooLargeBy Least
