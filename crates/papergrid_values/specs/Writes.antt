-- What values feed a hasher: lists of writes.
use Rattle.std.specs.Prelude.{ℕ, List, [], ◌∷◌, ◌++◌, pos}
use Rattle.std.specs.List.{flat_map}
use Rattle.std.specs.Hash as fed
use Rattle.std.specs.Hash.{HashWrites}

-- the index of a kind in the list of its type, and then the numbers
abbrev pub key_fed : List ℕ → HashWrites
key_fed [] = []
key_fed (kind ∷ numbers) = fed.isize (pos kind) ++ flat_map fed.usize numbers

-- the prefix, and then the suffix
abbrev pub texts_fed : List ℕ × List ℕ → HashWrites
texts_fed texts = fed.str texts.0 ++ fed.str texts.1
