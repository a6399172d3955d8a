-- What the loops over sizes and lines keep.
use Rattle.std.proofs.Common.{◌≡◌, ℕ, zero, suc, ◌+◌, ◌-◌, ◌<◌, ◌≤◌, Bool, false, cond, inl, inr, List, ◌∷◌, length, get_or, take, drop, sum, count_by, refl, sym, ap, ◌∙◌, arith, ◌++◌, ap₂}
use Rattle.std.specs.List.{range_with_len}
use Rattle.std.proofs.lemmas.Bool.{cases_lt}
use Rattle.std.proofs.lemmas.List.{drop_more, take_all}
use Rattle.std.proofs.lemmas.List.Sums.{sum_by-cons, sum_by-take-le, sum_by-take-drop, sum_by-append}
use Rattle.std.proofs.lemmas.Grind.{same_number_lists}
use Rattle.papergrid_tracks.specs.declared.demand.Demand.{Demand}
use Rattle.papergrid_tracks.specs.ForProofs.Settled.{line_at}
use Rattle.papergrid_values.specs.Lines.{all_lines}
use Rattle.papergrid_tracks.specs.Ranges.{end_of, inner_lines, IsInTable}
use Rattle.papergrid_tracks.specs.Fits.{range_sum, HasRoom}
use Rattle.papergrid_tracks.specs.Sizes.{share, distributed}
use Rattle.papergrid_tracks.proofs.Upto.{upto-point, within, holds_cases}
use Rattle.papergrid_tracks.proofs.Steps.{share-out, distributed_sum, length-distributed, get_or-distributed}

-- the sum of a range is at most the whole
pub range_sum-le : (sizes : List ℕ) (d : Demand) → range_sum sizes d ≤ sum sizes
range_sum-le sizes d =
    let a : sum (take d.span (drop d.start sizes)) ≤ sum (drop d.start sizes) = sum_by-take-le (λ x. x) (drop d.start sizes) d.span in
    let b : sum (take d.start sizes) + sum (drop d.start sizes) ≡ sum sizes = sum_by-take-drop (λ x. x) sizes d.start in
    omega arith

-- the lines drawn in a part of the list
pub drawn_from : (lines : List Bool) (a m : ℕ) → a + m ≤ length lines → count_by (λ x. x) (take m (drop a lines)) ≡ count_by (line_at lines) (range_with_len a m)
drawn_from lines a zero le = refl
drawn_from lines a (suc m) le =
    let x : Bool = get_or lines a false in
    let b = ap (λ zs. count_by (λ x. x) (take (suc m) zs)) (drop_more lines a false (omega arith)) in
    let c = sum_by-cons (λ x. cond x 1 0) (get_or lines a false) (take m (drop (a + 1) lines)) in
    let s = sum_by-cons (λ i. cond (line_at lines i) 1 0) a (range_with_len (a + 1) m) in
    let ih : count_by (λ x. x) (take m (drop (a + 1) lines)) ≡ count_by (line_at lines) (range_with_len (a + 1) m) = drawn_from lines (a + 1) m (omega arith) in
    omega arith

pub inner_lines-slice : (lines : List Bool) (d : Demand) → IsInTable (length lines) d →
    count_by (λ x. x) (take (d.start + d.span - (d.start + 1)) (drop (d.start + 1) lines)) ≡ inner_lines (line_at lines) d
inner_lines-slice lines d table = grind (arith, drawn_from)

-- no share is more than the whole
pub share-le : (amount : ℕ) (d : Demand) (i : ℕ) → 1 ≤ d.span → share amount d i ≤ amount
share-le amount d i one = elim (holds_cases d i) [
  | inl h ↦
      let p : share amount d (d.start + (i - d.start)) ≤ within (share amount d) d = upto-point (λ k. share amount d (d.start + k)) d.span (i - d.start) (omega arith) in
      let p' : share amount d (d.start + (i - d.start)) ≡ share amount d i = ap (share amount d) (omega arith) in
      let s : within (share amount d) d ≡ amount = distributed_sum amount d one in
      omega arith
  | inr h ↦ let z : share amount d i ≡ 0 = share-out amount d i one h.1 in omega arith
]

-- the shares are added below i
pub record Distributes (amount : ℕ) (d : Demand) (old new : List ℕ) (i next_share : ℕ) : Type 0 where
  pub below : (k : ℕ) → k < i → get_or new k 0 ≡ get_or old k 0 + share amount d k
  pub rest : (k : ℕ) → i ≤ k → get_or new k 0 ≡ get_or old k 0
  pub next : i < end_of d → next_share ≡ share amount d i

pub Distributes-all : (amount : ℕ) (d : Demand) (old new : List ℕ) (next_share : ℕ) → 1 ≤ d.span → length new ≡ length old →
    Distributes amount d old new (end_of d) next_share → new ≡ distributed amount d old
Distributes-all amount d old new next_share one same h =
    same_number_lists new (distributed amount d old) (same ∙ sym (length-distributed amount d old))
    (λ k l. elim (cases_lt k (end_of d)) [
      | inl lt ↦ h.below k lt ∙ sym (at k (omega arith))
      | inr le ↦ grind (arith, at, share-out)
    ])
  where
    at : (k : ℕ) → k < length old → get_or (distributed amount d old) k 0 ≡ get_or old k 0 + share amount d k
    at k l = get_or-distributed amount d old k l

-- all lines of a list of lines
pub all_lines-drawn : (lines : List Bool) (n : ℕ) → length lines ≡ n + 1 → count_by (λ x. x) lines ≡ all_lines (line_at lines) n
all_lines-drawn lines n e =
    ap (count_by (λ x. x)) (sym (take_all (n + 1) lines (omega arith))) ∙ drawn_from lines 0 (n + 1) (omega arith)

-- numbers in a row, cut in two
pub range_with_len-append : (a m k : ℕ) → range_with_len a (m + k) ≡ range_with_len a m ++ range_with_len (a + m) k
range_with_len-append a zero k = ap₂ range_with_len (let e : a ≡ a + 0 = omega arith in e) (let e : 0 + k ≡ k = omega arith in e)
range_with_len-append a (suc m) k =
    ap (range_with_len a) (let e : suc m + k ≡ suc (m + k) = omega arith in e)
    ∙ ap (λ xs. a ∷ xs) (range_with_len-append (a + 1) m k)
    ∙ ap (λ j. a ∷ range_with_len (a + 1) m ++ range_with_len j k) (let e : a + 1 + m ≡ a + suc m = omega arith in e)

-- the inner lines are among all lines
pub inner_lines-le : (line : ℕ → Bool) (n : ℕ) (d : Demand) → IsInTable n d → inner_lines line d ≤ all_lines line n
inner_lines-le line n d table =
    let e : n + 1 ≡ (d.start + 1) + ((d.span - 1) + (n + 1 - end_of d)) = omega arith in
    let a : all_lines line n ≡ count_by line (range_with_len 0 ((d.start + 1) + ((d.span - 1) + (n + 1 - end_of d)))) = ap (λ m. count_by line (range_with_len 0 m)) e in
    let b : count_by line (range_with_len 0 ((d.start + 1) + ((d.span - 1) + (n + 1 - end_of d))))
    ≡ count_by line (range_with_len 0 (d.start + 1)) + count_by line (range_with_len (0 + (d.start + 1)) ((d.span - 1) + (n + 1 - end_of d))) =
    ap (count_by line) (range_with_len-append 0 (d.start + 1) ((d.span - 1) + (n + 1 - end_of d)))
    ∙ sum_by-append (λ i. cond (line i) 1 0) (range_with_len 0 (d.start + 1)) (range_with_len (0 + (d.start + 1)) ((d.span - 1) + (n + 1 - end_of d))) in
    let c : count_by line (range_with_len (0 + (d.start + 1)) ((d.span - 1) + (n + 1 - end_of d)))
    ≡ count_by line (range_with_len (0 + (d.start + 1)) (d.span - 1)) + count_by line (range_with_len (0 + (d.start + 1) + (d.span - 1)) (n + 1 - end_of d)) =
    ap (count_by line) (range_with_len-append (0 + (d.start + 1)) (d.span - 1) (n + 1 - end_of d))
    ∙ sum_by-append (λ i. cond (line i) 1 0) (range_with_len (0 + (d.start + 1)) (d.span - 1)) (range_with_len (0 + (d.start + 1) + (d.span - 1)) (n + 1 - end_of d)) in
    let f : count_by line (range_with_len (0 + (d.start + 1)) (d.span - 1)) ≡ inner_lines line d =
    ap (λ s. count_by line (range_with_len s (d.span - 1))) (let e : 0 + (d.start + 1) ≡ d.start + 1 = omega arith in e) in
    omega arith

-- a cell with room needs no more than the total with all lines
pub minimum_within_total : (line : ℕ → Bool) (n : ℕ) (sizes : List ℕ) (d : Demand) → end_of d ≤ n → HasRoom line sizes d → d.minimum ≤ sum sizes + all_lines line n
minimum_within_total line n sizes d le room = grind (arith, range_sum-le, cases_lt, inner_lines-le)

-- a minimum size past the greatest `usize`: every list that fits is too large
pub large_minimum : (line : ℕ → Bool) (n : ℕ) (sizes : List ℕ) (d : Demand) → IsInTable n d → 18446744073709551615 < d.minimum → HasRoom line sizes d → 18446744073709551616 ≤ sum sizes + all_lines line n
large_minimum line n sizes d table large room = grind (arith, minimum_within_total)
