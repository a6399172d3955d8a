-- What records yield: a finite list of rows, each a finite list of cells, as the contracts of their
-- iterators tell it.
use Rattle.std.specs.Prelude.{◌<◌, ◌^◌, List, length, Option, Some}
use Rattle.std.specs.List.{AllZip}
use Rattle.std.specs.Iterator.{Count, IsFinite, Drains, Yields}

-- `it` may be called, ends, and gives fewer than 2 ^ 64 items, of each of which P holds
pub record IsShort {S A : Type 0} (can : S → Type 0) (left : S → Count) (steps : S → Option A → S → Type 0) (P : A → Type 0) (it : S) : Type 0 where
  pub may_start : can it
  pub ends : IsFinite (left it)
  pub fits : (xs : List A) (t : S) → Yields steps it xs t → length xs < 2 ^ 64
  pub each : (xs : List A) (t : S) (x : A) (u : S) → Yields steps it xs t → steps t (Some x) u → P x

module _ {W S A : Type 0} (into : W → S → Type 0) (can : S → Type 0) (left : S → Count) (steps : S → Option A → S → Type 0) where
  -- the same of whatever iterator is made of w
  abbrev pub WalkIsShort : (A → Type 0) → W → Type 0
  WalkIsShort P w = (it : S) → into w it → IsShort can left steps P it

-- a walk over w gave xs and ended
pub record Gives {W S A : Type 0} (into : W → S → Type 0) (steps : S → Option A → S → Type 0) (w : W) (xs : List A) : Type 0 where
  pub iterator : S
  pub made : into w iterator
  pub walked : Drains steps iterator xs

-- a walk over w gave rows whose walks gave the lists of cells
pub record GivesRows {W S Row T Cell : Type 0} (into : W → S → Type 0) (steps : S → Option Row → S → Type 0) (row_into : Row → T → Type 0) (row_steps : T → Option Cell → T → Type 0) (w : W) (cells : List (List Cell)) : Type 0 where
  pub rows : List Row
  pub walk : Gives into steps w rows
  pub each : AllZip (Gives row_into row_steps) rows cells

-- records yield rows of which P holds
abbrev pub TellsRows : {R Cell : Type 0} → (R → List (List Cell) → Type 0) → R → (List (List Cell) → Type 0) → Type 0
TellsRows {Cell = Cell} tells records P = (rows : List (List Cell)) × tells records rows × P rows
