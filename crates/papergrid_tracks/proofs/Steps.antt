-- One step: what the sizes are after a cell was taken.
use Rattle.std.proofs.Common.{◌≡◌, ℕ, zero, suc, ◌+◌, ◌-◌, ◌*◌, ◌/◌, ◌%◌, ◌<◌, ◌≤◌, Bool, ◌⊎◌, List, length, get_or, refl, ap, ◌∙◌, arith, suc-mul, eq-eqb, rules}
use Rattle.std.proofs.lemmas.List.FromFn.{get_or-map-range_with_len, length-map-range_with_len}
use Rattle.papergrid_tracks.specs.declared.demand.Demand.{Demand}
use Rattle.papergrid_tracks.specs.Ranges.{end_of, inner_lines}
use Rattle.papergrid_tracks.specs.Fits.{range_sum, HasRoom}
use Rattle.papergrid_tracks.specs.Sizes.{share, distributed, deficit, grown_sizes}
use Rattle.papergrid_tracks.proofs.Upto.{upto, upto-ext, upto-add, upto-split, within, range_sum-within, holds_cases}

pub length-distributed : (amount : ℕ) (d : Demand) (xs : List ℕ) → length (distributed amount d xs) ≡ length xs
length-distributed amount d xs = length-map-range_with_len (λ i. get_or xs i 0 + share amount d i) 0 (length xs)

pub get_or-distributed : (amount : ℕ) (d : Demand) (xs : List ℕ) (i : ℕ) → i < length xs →
    get_or (distributed amount d xs) i 0 ≡ get_or xs i 0 + share amount d i
get_or-distributed amount d xs i l = get_or-map-range_with_len (λ i. get_or xs i 0 + share amount d i) 0 (length xs) i i 0 l (omega arith)

pub get_or-grown : (line : ℕ → Bool) (sizes : List ℕ) (d : Demand) (i : ℕ) → i < length sizes →
    get_or (grown_sizes line sizes d) i 0 ≡ get_or sizes i 0 + share (deficit line sizes d) d i
get_or-grown line sizes d i l = get_or-distributed (deficit line sizes d) d sizes i l

pub share-first : (amount : ℕ) (d : Demand) (i : ℕ) → i ≡ d.start → share amount d i ≡ amount / d.span + amount % d.span
share-first amount d i e = rw (eq-eqb i d.start e) refl

pub share-later : (amount : ℕ) (d : Demand) (i : ℕ) → d.start < i → i < end_of d → share amount d i ≡ amount / d.span
share-later amount d i l l' = grind (arith, holds_cases)

pub share-out : (amount : ℕ) (d : Demand) (i : ℕ) → 1 ≤ d.span → (i < d.start) ⊎ (end_of d ≤ i) → share amount d i ≡ 0
share-out amount d i one out = grind (arith, holds_cases)

upto-same : (q k : ℕ) → upto (λ i. q) k ≡ k * q
upto-same q zero = omega arith
upto-same q (suc k) = let e : upto (λ i. q) k ≡ k * q = upto-same q k in let e' : suc k * q ≡ k * q + q = suc-mul k q in omega arith

-- the shares add up to what is shared out
pub distributed_sum : (amount : ℕ) (d : Demand) → 1 ≤ d.span → within (share amount d) d ≡ amount
distributed_sum amount d one =
    let k : ℕ = d.span - 1 in
    let e : d.span ≡ 1 + k = omega arith in
    let a : upto (λ i. share amount d (d.start + i)) d.span ≡ upto (λ i. share amount d (d.start + i)) (1 + k) = ap (upto (λ i. share amount d (d.start + i))) e in
    let b : upto (λ i. share amount d (d.start + i)) (1 + k) ≡ share amount d (d.start + 0) + upto (λ i. share amount d (d.start + (1 + i))) k =
    upto-split (λ i. share amount d (d.start + i)) 1 k ∙ (omega arith) in
    let first : share amount d (d.start + 0) ≡ amount / d.span + amount % d.span = share-first amount d (d.start + 0) (omega arith) in
    let later : upto (λ i. share amount d (d.start + (1 + i))) k ≡ upto (λ i. amount / d.span) k =
    upto-ext (λ i. share amount d (d.start + (1 + i))) (λ i. amount / d.span) k (λ i l. share-later amount d (d.start + (1 + i)) (omega arith) (omega arith)) in
    let same : upto (λ i. amount / d.span) k ≡ k * (amount / d.span) = upto-same (amount / d.span) k in
    let e' : d.span * (amount / d.span) ≡ suc k * (amount / d.span) = ap (λ m. m * (amount / d.span)) (let e' : d.span ≡ suc k = omega arith in e') in
    omega arith

-- what a range's sum becomes
pub within-grown : (line : ℕ → Bool) (sizes : List ℕ) (d e : Demand) → end_of e ≤ length sizes →
    range_sum (grown_sizes line sizes d) e ≡ range_sum sizes e + within (share (deficit line sizes d) d) e
within-grown line sizes d e le =
    let a : range_sum (grown_sizes line sizes d) e ≡ within (λ i. get_or (grown_sizes line sizes d) i 0) e = range_sum-within (grown_sizes line sizes d) e in
    let b : range_sum sizes e ≡ within (λ i. get_or sizes i 0) e = range_sum-within sizes e in
    let c : within (λ i. get_or (grown_sizes line sizes d) i 0) e ≡ within (λ i. get_or sizes i 0 + share (deficit line sizes d) d i) e =
    upto-ext (λ i. get_or (grown_sizes line sizes d) (e.start + i) 0) (λ i. get_or sizes (e.start + i) 0 + share (deficit line sizes d) d (e.start + i)) e.span
    (λ i l. get_or-grown line sizes d (e.start + i) (omega arith)) in
    let s = upto-add (λ i. get_or sizes (e.start + i) 0) (λ i. share (deficit line sizes d) d (e.start + i)) e.span in
    omega arith

pub range_sum-grown_self : (line : ℕ → Bool) (sizes : List ℕ) (d : Demand) → 1 ≤ d.span → end_of d ≤ length sizes →
    range_sum (grown_sizes line sizes d) d ≡ range_sum sizes d + deficit line sizes d
range_sum-grown_self line sizes d one le = search (rules, within, within-grown, distributed_sum)

pub range_sum-grown_le : (line : ℕ → Bool) (sizes : List ℕ) (d e : Demand) → end_of e ≤ length sizes →
    range_sum sizes e ≤ range_sum (grown_sizes line sizes d) e
range_sum-grown_le line sizes d e le = search (rules, within, within-grown)

-- a cell with room keeps it, and the cell that is taken gets it
pub HasRoom-kept : (line : ℕ → Bool) (sizes : List ℕ) (d e : Demand) → end_of e ≤ length sizes → HasRoom line sizes e → HasRoom line (grown_sizes line sizes d) e
HasRoom-kept line sizes d e le room = search (rules, range_sum-grown_le)

pub HasRoom-grown : (line : ℕ → Bool) (sizes : List ℕ) (d : Demand) → 1 ≤ d.span → end_of d ≤ length sizes → HasRoom line (grown_sizes line sizes d) d
HasRoom-grown line sizes d one le = search (rules, range_sum-grown_self)

-- a cell that grows has no more than its minimum size afterwards
pub tight-grown : (line : ℕ → Bool) (sizes : List ℕ) (d : Demand) → 1 ≤ d.span → end_of d ≤ length sizes → 0 < deficit line sizes d →
    d.minimum ≡ range_sum (grown_sizes line sizes d) d + inner_lines line d
tight-grown line sizes d one le grows = search (rules, range_sum-grown_self)
