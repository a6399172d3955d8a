-- How wide the lines of fields are, and which cuts change none of them.
use Rattle.std.proofs.Common.{◌≡◌, ◌∙◌, ◌⊎◌, ◌<◌, ◌≤◌, ◌+◌, ◌-◌, ◌++◌, ◌∷◌, [], ℕ, zero, suc, All, List, ap, arith, get_or, inl, inr, length, map, max, min, refl, subst, sym, take}
use Rattle.std.specs.List.{AllZip}
use Rattle.std.proofs.lemmas.List.{map_push, take_more}
use Rattle.std.proofs.lemmas.List.Elements.{All-head, All-push, All-tail, All-weaker}
use Rattle.papergrid_text.specs.Text.{split_lines, width_of}
use Rattle.papergrid_csv.specs.Cutting.{IsCut}
use Rattle.papergrid_csv.specs.ForProofs.Cuts.{HasLinesWithin}
use Rattle.papergrid_csv.specs.ForProofs.Within.{IsFirstCut}
use Rattle.papergrid_csv.proofs.CutLemmas.{cut-itself}

-- ---- one more, up to a greater number

abbrev Grows : {A : Type 0} → (ℕ → A → Type 0) → Type 0
Grows {A} P = (m n : ℕ) (a : A) → m ≤ n → P m a → P n a

-- what holds of items up to a number
pub all-more : {A B : Type 0} (P : ℕ → B → Type 0) → Grows P → (f : A → B) (xs : List A) (x : A) (m n k : ℕ) → All (P m) (map f xs) → P n (f x) → k ≡ max m n → All (P k) (map f (xs ++ x ∷ []))
all-more P grows f xs x m n k all last is =
    subst (All (P k)) (sym (map_push f xs x))
    (All-push (P k) (map f xs) (f x) (All-weaker (P m) (P k) (λ b. grows m k b (omega arith)) (map f xs) all) (grows n k (f x) (omega arith) last))

-- of the first items
pub all-next : {A B : Type 0} (P : ℕ → B → Type 0) → Grows P → (f : A → B) (xs : List A) (i : ℕ) (x other : A) (m n k : ℕ) → i < length xs → x ≡ get_or xs i other → All (P m) (map f (take i xs)) → P n (f x) →
    k ≡ max m n → All (P k) (map f (take (i + 1) xs))
all-next P grows f xs i x other m n k within same all last is =
    let next : take (i + 1) xs ≡ take i xs ++ x ∷ [] = take_more xs i other within ∙ ap (λ item. take i xs ++ item ∷ []) (sym same) in
    subst (λ l. All (P k) (map f l)) (sym next) (all-more P grows f (take i xs) x m n k all last is)

pub line-grows : Grows {A = List ℕ} (λ columns line. width_of line ≤ columns)
line-grows m n line more narrow = omega (arith, more, narrow)

pub text-grows : Grows HasLinesWithin
text-grows m n text more all = All-weaker (λ line. width_of line ≤ m) (λ line. width_of line ≤ n) (λ line. line-grows m n line more) (split_lines text) all

pub row-grows : Grows {A = List (List ℕ)} (λ columns row. All (HasLinesWithin columns) row)
row-grows m n row more all = All-weaker (HasLinesWithin m) (HasLinesWithin n) (λ text. text-grows m n text more) row all

-- ---- cuts that change nothing

module _ (columns widest : ℕ) (within : widest ≤ columns) where
  row-stays : (row : List (List ℕ)) → All (HasLinesWithin widest) row → AllZip (IsCut columns) row row
  row-stays [] all = tt
  row-stays (text ∷ row) all = (
    cut-itself columns text (text-grows widest columns text within (All-head (HasLinesWithin widest) text row all)),
    row-stays row (All-tail (HasLinesWithin widest) text row all),
  )

  rows-stay : (rows : List (List (List ℕ))) → All (All (HasLinesWithin widest)) rows → AllZip (AllZip (IsCut columns)) rows rows
  rows-stay [] all = tt
  rows-stay (row ∷ rows) all =
      (row-stays row (All-head (All (HasLinesWithin widest)) row rows all), rows-stay rows (All-tail (All (HasLinesWithin widest)) row rows all))

-- one less than the widest line is the first cut to try
pub first-cut : (width widest below least first : ℕ) (rows : List (List (List ℕ))) → All (All (HasLinesWithin widest)) rows → below ≡ widest - 1 → least ≡ max below 1 → first ≡ min width least →
    IsFirstCut width rows first
first-cut width widest below least first rows all one_less some_least is = record {
  within = omega arith;
  some = some width is;
  same = λ cut past within. rows-stay cut widest (omega (arith, past, within)) rows all;
}
  where
    some : (n : ℕ) → first ≡ min n least → (n ≡ 0) ⊎ (1 ≤ first)
    some zero told = inl refl
    some (suc n) told = inr (omega arith)
