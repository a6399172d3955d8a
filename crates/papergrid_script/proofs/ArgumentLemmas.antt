-- What words say, of which one is refused.
use Rattle.std.proofs.Common.{◌≡◌, ◌∷◌, [], List, Result, Err, refl}
use Rattle.papergrid_script.specs.Arguments.{said_by}

-- what is refused stays so, whatever words follow
pub said-refused : {S W E : Type 0} (next : S → W → Result S E) (words : List W) (e : E) → said_by next (Err e) words ≡ Err e
said-refused next [] e = refl
said-refused next (word ∷ words) e = refl
