-- The sums over the listed cells tell whether the positions are those of a certificate.
use Rattle.std.proofs.Common.{◌≡◌, ℕ, zero, suc, ◌+◌, ◌*◌, ◌<◌, ◌≤◌, ◌≢◌, ◌==◌, ◌&&◌, Bool, true, false, cond, inl, inr, List, [], ◌∷◌, length, map, get_or, sum_by, refl, sym, ap, ap₂, ◌∙◌, subst, subst₂, arith, eqb, eqb-true, eq-eqb}
use Rattle.std.specs.Prelude.{All, AllPairs, Contains, ⊤}
use Rattle.std.specs.List.{AllByRecursion}
use Rattle.std.proofs.Math.Nat.{mul-zero}
use Rattle.std.proofs.Math.ListN.{get_or-map}
use Rattle.std.proofs.lemmas.Bool.{cases_Bool, and_parts, and_from}
use Rattle.std.proofs.lemmas.List.{get_or_default, length-map}
use Rattle.std.proofs.lemmas.List.Sums.{sum_by-cons}
use Rattle.std.proofs.lemmas.List.Elements.{All-contains, recursion_from_All, All-from_recursion, All-weaker}
use Rattle.papergrid_tracks.specs.Problem.{problem_of_demands}
use Rattle.papergrid_values.specs.declared.position.Position.{Position}
use Rattle.papergrid_tracks.specs.declared.checked.Checked.{Checked}
use Rattle.papergrid_tracks.specs.declared.demand.Demand.{Demand}
use Rattle.papergrid_values.specs.declared.direction.Direction.{Direction}
use Rattle.papergrid_tracks.specs.Answers.{IsAccepted}
use Rattle.papergrid_tracks.specs.ForProofs.Checks.{AreDisjointAt, AreDistinct, Checks, SumsAgree, all_listed, times_listed}
use Rattle.papergrid_tracks.specs.Fits.{IsLeast}
use Rattle.papergrid_tracks.specs.Ranges.{AreDisjoint, IsInTable, demand_of, end_of, inner_lines, position_of}
use Rattle.papergrid_tracks.proofs.Duality.{IsLeast-from_certificate}
use Rattle.papergrid_tracks.proofs.OutLemmas.{none_out}
use Rattle.papergrid_tracks.proofs.RangeLemmas.{ArePairwiseDisjoint-from_AllPairs, outside, partition}
use Rattle.papergrid_tracks.proofs.Theorems.{first_out-none}
use Rattle.papergrid_tracks.proofs.Upto.{upto, within}

abbrev stands_at : Demand → Position → Bool
stands_at d p = d.row == p.row && d.col == p.col

at_position : (d : Demand) (p : Position) → stands_at d p ≡ true → position_of d ≡ p
at_position d p t = grind (arith, and_parts, eqb-true)

at_own_position : (d : Demand) → stands_at d (position_of d) ≡ true
at_own_position d = and_from (eqb d.row d.row) (eqb d.col d.col) (eq-eqb d.row d.row refl) (eq-eqb d.col d.col refl)

not_at_position : (d : Demand) (p : Position) → position_of d ≢ p → stands_at d p ≡ false
not_at_position d p ne = elim (cases_Bool (stands_at d p)) [ inl t ↦ absurd (ne (at_position d p t)) | inr f ↦ f ]

-- the sum over the cells at a position
abbrev at_sum : (Demand → ℕ) → Position → List Demand → ℕ
at_sum f p ds = sum_by (λ d. cond (stands_at d p) (f d) 0) ds

all_listed-nil : (f : Demand → ℕ) (ds : List Demand) → all_listed f [] ds ≡ 0
all_listed-nil f [] = refl
all_listed-nil f (d ∷ ds) = grind (arith, sum_by-cons, mul-zero, all_listed-nil f ds)

all_listed-cons : (f : Demand → ℕ) (p : Position) (ps : List Position) (ds : List Demand) → all_listed f (p ∷ ps) ds ≡ at_sum f p ds + all_listed f ps ds
all_listed-cons f p ps [] = refl
all_listed-cons f p ps (d ∷ ds) =
    let ih : all_listed f (p ∷ ps) ds ≡ at_sum f p ds + all_listed f ps ds = all_listed-cons f p ps ds in
    let a : all_listed f (p ∷ ps) (d ∷ ds) ≡ f d * times_listed (p ∷ ps) d + all_listed f (p ∷ ps) ds = sum_by-cons (λ e. f e * times_listed (p ∷ ps) e) d ds in
    let b : all_listed f ps (d ∷ ds) ≡ f d * times_listed ps d + all_listed f ps ds = sum_by-cons (λ e. f e * times_listed ps e) d ds in
    let s : at_sum f p (d ∷ ds) ≡ cond (stands_at d p) (f d) 0 + at_sum f p ds = sum_by-cons (λ e. cond (stands_at e p) (f e) 0) d ds in
    let n : times_listed (p ∷ ps) d ≡ cond (stands_at d p) 1 0 + times_listed ps d = sum_by-cons (λ q. cond (stands_at d q) 1 0) p ps in
    elim (cases_Bool (stands_at d p)) [
      | inl t ↦
          let n' : times_listed (p ∷ ps) d ≡ 1 + times_listed ps d = n ∙ ap (λ b. cond b 1 0 + times_listed ps d) t in
          let s' : at_sum f p (d ∷ ds) ≡ f d + at_sum f p ds = s ∙ ap (λ b. cond b (f d) 0 + at_sum f p ds) t in
          let m : f d * times_listed (p ∷ ps) d ≡ f d * suc (times_listed ps d) = ap (λ k. f d * k) (let e : times_listed (p ∷ ps) d ≡ suc (times_listed ps d) = omega arith in e) in
          omega arith
      | inr x ↦
          let n' : times_listed (p ∷ ps) d ≡ 0 + times_listed ps d = n ∙ ap (λ b. cond b 1 0 + times_listed ps d) x in
          let s' : at_sum f p (d ∷ ds) ≡ 0 + at_sum f p ds = s ∙ ap (λ b. cond b (f d) 0 + at_sum f p ds) x in
          let m : f d * times_listed (p ∷ ps) d ≡ f d * times_listed ps d = ap (λ k. f d * k) (let e : times_listed (p ∷ ps) d ≡ times_listed ps d = omega arith in e) in
          omega arith
    ]

-- no two of the cells stand at one position, by recursion
abbrev IsDistinct : List Demand → Type 0
IsDistinct [] = ⊤
IsDistinct (d ∷ ds) = AllByRecursion (λ e. position_of d ≢ position_of e) ds × IsDistinct ds

IsDistinct-from : (ds : List Demand) → AreDistinct ds → IsDistinct ds
IsDistinct-from [] h = tt
IsDistinct-from (d ∷ ds) h = (
  recursion_from_All (λ e. position_of d ≢ position_of e) ds (λ k e l. h 0 (suc k) e (omega arith) (omega arith)),
  IsDistinct-from ds (λ i j e l l'. h (suc i) (suc j) e (omega arith) (omega arith)),
)

-- where a cell stands no other one does
at_sum-none : (f : Demand → ℕ) (p : Position) (ds : List Demand) → AllByRecursion (λ e. p ≢ position_of e) ds → at_sum f p ds ≡ 0
at_sum-none f p [] all = refl
at_sum-none f p (d ∷ ds) all = grind (arith, sum_by-cons, not_at_position, at_sum-none f p ds all.1)

at_sum-here : (f : Demand → ℕ) (ds : List Demand) (c : Demand) → IsDistinct ds → Contains ds c → at_sum f (position_of c) ds ≡ f c
at_sum-here f ds c distinct m = go ds distinct m.0 m.1 m.2
  where
    go : (ds : List Demand) → IsDistinct ds → (k : ℕ) → k < length ds → get_or ds k c ≡ c → at_sum f (position_of c) ds ≡ f c
    go [] distinct k l e = absurd (omega arith)
    go (d ∷ ds) distinct zero l e =
        let s : at_sum f (position_of d) (d ∷ ds) ≡ cond (stands_at d (position_of d)) (f d) 0 + at_sum f (position_of d) ds = sum_by-cons (λ x. cond (stands_at x (position_of d)) (f x) 0) d ds in
        let s' : at_sum f (position_of d) (d ∷ ds) ≡ f d + at_sum f (position_of d) ds = s ∙ ap (λ b. cond b (f d) 0 + at_sum f (position_of d) ds) (at_own_position d) in
        subst (λ x. at_sum f (position_of x) (d ∷ ds) ≡ f x) e (omega (arith, at_sum-none f (position_of d) ds distinct.0))
    go (d ∷ ds) distinct (suc k) l e =
        let m : Contains ds c = (k, omega arith, e) in
        let ne : position_of d ≢ position_of c = All-contains (λ x. position_of d ≢ position_of x) ds c (All-from_recursion (λ x. position_of d ≢ position_of x) ds distinct.0) m in
        let s : at_sum f (position_of c) (d ∷ ds) ≡ cond (stands_at d (position_of c)) (f d) 0 + at_sum f (position_of c) ds = sum_by-cons (λ x. cond (stands_at x (position_of c)) (f x) 0) d ds in
        let s' : at_sum f (position_of c) (d ∷ ds) ≡ 0 + at_sum f (position_of c) ds = s ∙ ap (λ b. cond b (f d) 0 + at_sum f (position_of c) ds) (not_at_position d (position_of c) ne) in
        omega (arith, go ds distinct.1 k (omega arith) e)

-- at a position there is one cell at most
at_sum-one : (p : Position) (ds : List Demand) → IsDistinct ds → at_sum (λ _. 1) p ds ≤ 1
at_sum-one p [] distinct = omega arith
at_sum-one p (d ∷ ds) distinct =
    let s : at_sum (λ _. 1) p (d ∷ ds) ≡ cond (stands_at d p) 1 0 + at_sum (λ _. 1) p ds = sum_by-cons (λ e. cond (stands_at e p) 1 0) d ds in
    elim (cases_Bool (stands_at d p)) [
      | inl t ↦
          let s' : at_sum (λ _. 1) p (d ∷ ds) ≡ 1 + at_sum (λ _. 1) p ds = s ∙ ap (λ b. cond b 1 0 + at_sum (λ _. 1) p ds) t in
          let none : at_sum (λ _. 1) p ds ≡ 0 = subst (λ q. at_sum (λ _. 1) q ds ≡ 0) (at_position d p t) (at_sum-none (λ _. 1) (position_of d) ds distinct.0) in
          omega arith
      | inr f ↦
          let s' : at_sum (λ _. 1) p (d ∷ ds) ≡ 0 + at_sum (λ _. 1) p ds = s ∙ ap (λ b. cond b 1 0 + at_sum (λ _. 1) p ds) f in
          omega (arith, at_sum-one p ds distinct.1)
    ]

at_sum-found : (p : Position) (ds : List Demand) → 1 ≤ at_sum (λ _. 1) p ds → (c : Demand) × Contains ds c × (position_of c ≡ p)
at_sum-found p [] le = absurd (omega arith)
at_sum-found p (d ∷ ds) le =
    let s : at_sum (λ _. 1) p (d ∷ ds) ≡ cond (stands_at d p) 1 0 + at_sum (λ _. 1) p ds = sum_by-cons (λ e. cond (stands_at e p) 1 0) d ds in
    elim (cases_Bool (stands_at d p)) [
      | inl t ↦ (d, (0, omega arith, refl), at_position d p t)
      | inr f ↦
          let s' : at_sum (λ _. 1) p (d ∷ ds) ≡ 0 + at_sum (λ _. 1) p ds = s ∙ ap (λ b. cond b 1 0 + at_sum (λ _. 1) p ds) f in
          let found : (c : Demand) × Contains ds c × (position_of c ≡ p) = at_sum-found p ds (omega arith) in
          (found.0, (suc found.1.0, omega (arith, found.1.1), found.1.2), found.2)
    ]

all_listed-few : (positions : List Position) (ds : List Demand) → IsDistinct ds → all_listed (λ _. 1) positions ds ≤ length positions
all_listed-few [] ds distinct = let z : all_listed (λ _. 1) [] ds ≡ 0 = all_listed-nil (λ _. 1) ds in omega arith
all_listed-few (p ∷ ps) ds distinct =
    let e : all_listed (λ _. 1) (p ∷ ps) ds ≡ at_sum (λ _. 1) p ds + all_listed (λ _. 1) ps ds = all_listed-cons (λ _. 1) p ps ds in
    let o : at_sum (λ _. 1) p ds ≤ 1 = at_sum-one p ds distinct in
    let ih : all_listed (λ _. 1) ps ds ≤ length ps = all_listed-few ps ds distinct in
    omega arith

-- where as many cells are listed as there are positions, each position is a cell's
listed_cells : (positions : List Position) (ds : List Demand) → IsDistinct ds → all_listed (λ _. 1) positions ds ≡ length positions →
    (cells : List Demand) × (map position_of cells ≡ positions) × AllByRecursion (Contains ds) cells
listed_cells [] ds distinct e = ([], refl, tt)
listed_cells (p ∷ ps) ds distinct e =
    let c : all_listed (λ _. 1) (p ∷ ps) ds ≡ at_sum (λ _. 1) p ds + all_listed (λ _. 1) ps ds = all_listed-cons (λ _. 1) p ps ds in
    let o : at_sum (λ _. 1) p ds ≤ 1 = at_sum-one p ds distinct in
    let few : all_listed (λ _. 1) ps ds ≤ length ps = all_listed-few ps ds distinct in
    let rest : (cells : List Demand) × (map position_of cells ≡ ps) × AllByRecursion (Contains ds) cells = listed_cells ps ds distinct (omega arith) in
    let found : (c : Demand) × Contains ds c × (position_of c ≡ p) = at_sum-found p ds (omega arith) in
    (found.0 ∷ rest.0, ap₂ (λ q qs. q ∷ qs) found.2 rest.1, (found.1, rest.2))

-- the sums over the listed cells are the sums over the cells at the positions
all_listed-cells : (f : Demand → ℕ) (ds : List Demand) → IsDistinct ds → (cells : List Demand) → AllByRecursion (Contains ds) cells → all_listed f (map position_of cells) ds ≡ sum_by f cells
all_listed-cells f ds distinct [] all = all_listed-nil f ds
all_listed-cells f ds distinct (c ∷ cells) all =
    let ih : all_listed f (map position_of cells) ds ≡ sum_by f cells = all_listed-cells f ds distinct cells all.1 in
    let s : sum_by f (c ∷ cells) ≡ f c + sum_by f cells = sum_by-cons f c cells in
    omega (arith, all_listed-cons f (position_of c) (map position_of cells) ds, at_sum-here f ds c distinct all.0)

sum_by-ones : (cells : List Demand) → sum_by (λ _. 1) cells ≡ length cells
sum_by-ones [] = refl
sum_by-ones (c ∷ cells) =
    let s : sum_by (λ _. 1) (c ∷ cells) ≡ 1 + sum_by (λ _. 1) cells = sum_by-cons (λ _. 1) c cells in
    omega (arith, sum_by-ones cells)

-- ---- what is accepted

module _ (direction : Direction) (span_of : Position → ℕ) where
  abbrev IsRanged : Demand → Type 0
  IsRanged d = d ≡ demand_of direction (position_of d) (span_of (position_of d)) d.minimum

  disjoint-from_cells : (a b : Demand) → IsRanged a → IsRanged b → AreDisjoint a b → AreDisjointAt direction span_of (position_of a) (position_of b)
  disjoint-from_cells a b ra rb = subst₂ AreDisjoint ra rb

  disjoint-from_positions : (a b : Demand) → IsRanged a → IsRanged b → AreDisjointAt direction span_of (position_of a) (position_of b) → AreDisjoint a b
  disjoint-from_positions a b ra rb = subst₂ AreDisjoint (sym ra) (sym rb)

  pairs-from_positions : (cells : List Demand) → All IsRanged cells → AllPairs (AreDisjointAt direction span_of) (map position_of cells) → AllPairs AreDisjoint cells
  pairs-from_positions cells ranged pairs i j e l l' =
      let many : length (map position_of cells) ≡ length cells = length-map cells position_of in
      disjoint-from_positions (get_or cells i e) (get_or cells j e) (ranged i e (omega arith)) (ranged j e l')
      (subst₂ (AreDisjointAt direction span_of) (get_or-map position_of cells i e) (get_or-map position_of cells j e) (pairs i j (position_of e) l (omega arith)))

  pairs-from_cells : (cells : List Demand) → All IsRanged cells → AllPairs AreDisjoint cells → AllPairs (AreDisjointAt direction span_of) (map position_of cells)
  pairs-from_cells [] ranged pairs i j p l l' = absurd (omega arith)
  pairs-from_cells (c ∷ cells) ranged pairs i j p l l' =
      let many : length (map position_of (c ∷ cells)) ≡ length (c ∷ cells) = length-map (c ∷ cells) position_of in
      let here : AreDisjointAt direction span_of (get_or (map position_of (c ∷ cells)) i (position_of c)) (get_or (map position_of (c ∷ cells)) j (position_of c)) =
      subst₂ (AreDisjointAt direction span_of) (sym (get_or-map position_of (c ∷ cells) i c)) (sym (get_or-map position_of (c ∷ cells) j c))
      (disjoint-from_cells (get_or (c ∷ cells) i c) (get_or (c ∷ cells) j c) (ranged i c (omega arith)) (ranged j c (omega arith)) (pairs i j c l (omega arith))) in
      subst₂ (AreDisjointAt direction span_of) (get_or_default (map position_of (c ∷ cells)) i (position_of c) p (omega arith)) (get_or_default (map position_of (c ∷ cells)) j (position_of c) p l') here

module _ (line : ℕ → Bool) (sizes : List ℕ) (positions : List Position) (direction : Direction) (span_of : Position → ℕ) (checked : Checked) (ds : List Demand)
    (h : Checks line sizes positions direction span_of checked ds) (are_distinct : AreDistinct ds) where
  distinct : IsDistinct ds
  distinct = IsDistinct-from ds are_distinct

  ranged_cells : (cells : List Demand) → All (Contains ds) cells → All (IsRanged direction span_of) cells
  ranged_cells cells visible = All-weaker (Contains ds) (IsRanged direction span_of) (λ d m. All-contains (IsRanged direction span_of) ds d h.ranged m) cells visible

  listed-at : (f : Demand → ℕ) (cells : List Demand) → map position_of cells ≡ positions → AllByRecursion (Contains ds) cells → all_listed f positions ds ≡ sum_by f cells
  listed-at f cells at all = ap (λ ps. all_listed f ps ds) (sym at) ∙ all_listed-cells f ds distinct cells all

  pub accepted-from : SumsAgree checked sizes positions → AllPairs (AreDisjointAt direction span_of) positions → IsAccepted (problem_of_demands line (length sizes) ds) sizes positions
  accepted-from agree disjoint =
      let all = h.holds agree.holds in
      let table : All (IsInTable (length sizes)) ds = λ k e l. record { covers_one = h.spans k e l; ends_within = all.table k e l } in
      let listed : (cells : List Demand) × (map position_of cells ≡ positions) × AllByRecursion (Contains ds) cells = listed_cells positions ds distinct (sym all.found ∙ agree.found) in
      let visible : All (Contains ds) listed.0 = All-from_recursion (Contains ds) listed.0 listed.2 in
      let minimums : checked.minimums ≡ sum_by (λ d. d.minimum) listed.0 = all.minimums ∙ listed-at (λ d. d.minimum) listed.0 listed.1 listed.2 in
      let inner : checked.inner ≡ sum_by (inner_lines line) listed.0 = all.inner ∙ listed-at (inner_lines line) listed.0 listed.1 listed.2 in
      record {
        none_out = first_out-none (length sizes) ds (recursion_from_All (IsInTable (length sizes)) ds table);
        fits = record { one_each = refl; room = all.room };
        cells = listed.0;
        at_positions = listed.1;
        certificate = record {
          visible = visible;
          disjoint = pairs-from_positions direction span_of listed.0 (ranged_cells listed.0 visible) (subst (AllPairs (AreDisjointAt direction span_of)) (sym listed.1) disjoint);
          adds_up = omega arith;
        };
      }

  pub sums-from_accepted : IsAccepted (problem_of_demands line (length sizes) ds) sizes positions → SumsAgree checked sizes positions
  sums-from_accepted a =
      let table = none_out (length sizes) ds a.none_out h.spans in
      let so : checked.holds ≡ true = elim (cases_Bool checked.holds) [
        | inl t ↦ t
        | inr f ↦ absurd (h.fails f record { table = λ k e l. (table k e l).ends_within; room = a.fits.room; few = all_listed-few positions ds distinct })
      ] in
      let all = h.holds so in
      let cells : AllByRecursion (Contains ds) a.cells = recursion_from_All (Contains ds) a.cells a.certificate.visible in
      let minimums : checked.minimums ≡ sum_by (λ d. d.minimum) a.cells = all.minimums ∙ listed-at (λ d. d.minimum) a.cells a.at_positions cells in
      let inner : checked.inner ≡ sum_by (inner_lines line) a.cells = all.inner ∙ listed-at (inner_lines line) a.cells a.at_positions cells in
      grind (arith, so, all.found ∙ listed-at (λ _. 1) a.cells a.at_positions cells ∙ sum_by-ones a.cells, length-map)

  pub disjoint-from_accepted : IsAccepted (problem_of_demands line (length sizes) ds) sizes positions → AllPairs (AreDisjointAt direction span_of) positions
  disjoint-from_accepted a =
      subst (AllPairs (AreDisjointAt direction span_of)) a.at_positions
      (pairs-from_cells direction span_of a.cells (ranged_cells a.cells a.certificate.visible) a.certificate.disjoint)

-- accepted sizes are least
pub IsLeast-accepted : (line : ℕ → Bool) (n : ℕ) (ds : List Demand) (sizes : List ℕ) (positions : List Position) → All (λ d. 1 ≤ d.span) ds → IsAccepted (problem_of_demands line n ds) sizes positions → IsLeast (problem_of_demands line n ds) sizes
IsLeast-accepted line n ds sizes positions spans a =
    IsLeast-from_certificate line n ds a.cells sizes (none_out n ds a.none_out spans) a.fits a.certificate

-- ---- how many positions are accepted

upto_ones : (n : ℕ) → upto (λ _. 1) n ≡ n
upto_ones zero = refl
upto_ones (suc n) = let e : upto (λ _. 1) n ≡ n = upto_ones n in omega arith

ones_below : (cells : List Demand) → AllByRecursion (λ d. 1 ≤ d.span) cells → length cells ≤ sum_by (within (λ _. 1)) cells
ones_below [] spans = omega arith
ones_below (c ∷ cells) spans =
    let s : sum_by (within (λ _. 1)) (c ∷ cells) ≡ within (λ _. 1) c + sum_by (within (λ _. 1)) cells = sum_by-cons (within (λ _. 1)) c cells in
    omega (arith, upto_ones c.span, spans.0, ones_below cells spans.1)

-- ranges of a table that have no track in common are no more than its numbers
pub few_positions : (line : ℕ → Bool) (n : ℕ) (ds : List Demand) (sizes : List ℕ) (positions : List Position) → All (λ d. 1 ≤ d.span) ds → IsAccepted (problem_of_demands line n ds) sizes positions → length positions ≤ n
few_positions line n ds sizes positions spans a =
    let table : All (IsInTable n) ds = none_out n ds a.none_out spans in
    let cells : All (IsInTable n) a.cells = All-weaker (Contains ds) (IsInTable n) (λ d m. All-contains (IsInTable n) ds d table m) a.cells a.certificate.visible in
    let inside : AllByRecursion (λ d. end_of d ≤ n) a.cells = recursion_from_All (λ d. end_of d ≤ n) a.cells (All-weaker (IsInTable n) (λ d. end_of d ≤ n) (λ d h. h.ends_within) a.cells cells) in
    let long : AllByRecursion (λ d. 1 ≤ d.span) a.cells = recursion_from_All (λ d. 1 ≤ d.span) a.cells (All-weaker (IsInTable n) (λ d. 1 ≤ d.span) (λ d h. h.covers_one) a.cells cells) in
    let p : upto (λ _. 1) n ≡ sum_by (within (λ _. 1)) a.cells + upto (outside a.cells (λ _. 1)) n = partition (λ _. 1) n a.cells inside (ArePairwiseDisjoint-from_AllPairs a.cells a.certificate.disjoint) in
    omega (arith, ones_below a.cells long, upto_ones n, length-map a.cells position_of, ap length a.at_positions)
