-- What is kept of the demands tells all that is asked of them.
use Rattle.std.proofs.Common.{◌≡◌, ℕ, zero, suc, ◌+◌, ◌-◌, ◌<◌, ◌≤◌, ◌≢◌, ◌^◌, max, Bool, true, false, ◌&&◌, ◌||◌, ◌==◌, inl, inr, List, [], ◌∷◌, ◌++◌, length, get_or, filter, map, fold, refl, sym, subst, ap, ◌∙◌, arith, eqb, eq-eqb, ne_eqb, eqb-true, ltb, lt-ltb, le-ltb, ltb-true}
use Rattle.std.specs.Prelude.{All, Some, find, flat_map, not}
use Rattle.std.specs.List.{list_any, range_with_len}
use Rattle.std.proofs.lemmas.Bool.{and_from, and_parts, cases_Bool, cases_lt, lt-leb, true≢false}
use Rattle.std.proofs.lemmas.Grind.{same_number_lists}
use Rattle.std.proofs.lemmas.List.Elements.{All-filter, All-head, All-push, All-tail, filter-append}
use Rattle.std.proofs.lemmas.List.Folds.{list_any-append}
use Rattle.std.proofs.lemmas.List.{append-nil, map-append}
use Rattle.std.proofs.lemmas.List.Sums.{fold-append}
use Rattle.papergrid_tracks.specs.declared.demand.Demand.{Demand}
use Rattle.papergrid_tracks.specs.Certificates.{exact_single}
use Rattle.papergrid_tracks.specs.Ranges.{IsInTable, first_out}
use Rattle.papergrid_tracks.specs.declared.demands.Demands.{Demands}
use Rattle.papergrid_tracks.specs.ForProofs.Demands.{HoldsDemands, AreGathered, first_greatest, is_large, is_single, gathered_for, no_demand, rest_of, without_minimum}
use Rattle.papergrid_tracks.specs.Sizes.{base_size, base_sizes, by_span}
use Rattle.papergrid_tracks.proofs.Greatest.{get_or-base_sizes, length-base_sizes}

-- ---- the first of greatest minimum size

-- what is kept stays where no cell needs more
kept-stays : (i : ℕ) (kept : Demand) (ds : List Demand) → base_size ds i ≤ kept.minimum → fold (gathered_for i) kept ds ≡ kept
kept-stays i kept [] le = refl
kept-stays i kept (d ∷ ds) le = elim (cases_Bool (eqb d.span 1 && eqb d.start i)) [
  | inl t ↦
      let le' : max d.minimum (base_size ds i) ≤ kept.minimum = rw t at le in
      rw (t, le-ltb kept.minimum d.minimum (omega arith)) (kept-stays i kept ds (omega arith))
  | inr f ↦
      rw f (kept-stays i kept ds (rw f at le))
]

-- one cell on, by what is kept then
first_skip : (i : ℕ) (kept next d : Demand) (ds : List Demand) (m : ℕ) → gathered_for i kept d ≡ next →
    (find (λ d. d.span == 1 && d.start == i && d.minimum == m) ds ≡ Some (fold (gathered_for i) next ds)) × ((fold (gathered_for i) next ds).minimum ≡ m) →
    (find (λ d. d.span == 1 && d.start == i && d.minimum == m) ds ≡ Some (fold (gathered_for i) kept (d ∷ ds))) × ((fold (gathered_for i) kept (d ∷ ds)).minimum ≡ m)
first_skip i kept next d ds m step rest = grind arith

-- else the first cell of greatest minimum size is kept
kept-first : (i : ℕ) (kept : Demand) (ds : List Demand) (m : ℕ) → base_size ds i ≡ m → kept.minimum < m →
    (find (λ d. d.span == 1 && d.start == i && d.minimum == m) ds ≡ Some (fold (gathered_for i) kept ds)) × ((fold (gathered_for i) kept ds).minimum ≡ m)
kept-first i kept [] m e lt = absurd (omega arith)
kept-first i kept (d ∷ ds) m e lt = elim (cases_Bool (eqb d.span 1 && eqb d.start i)) [
  | inl t ↦
      let e' : max d.minimum (base_size ds i) ≡ m = rw t at e in
      elim (cases_lt d.minimum m) [
        | inl less ↦
            let ne : d.minimum ≢ m = omega arith in
            let skip : find (λ d. d.span == 1 && d.start == i && d.minimum == m) (d ∷ ds) ≡ find (λ d. d.span == 1 && d.start == i && d.minimum == m) ds = rw (t, ne_eqb d.minimum m ne) refl in
            elim (cases_lt kept.minimum d.minimum) [
              | inl more ↦
                  let step : gathered_for i kept d ≡ d = rw (t, lt-ltb kept.minimum d.minimum more) refl in
                  let rest = first_skip i kept d d ds m step (kept-first i d ds m (omega arith) less) in
                  (skip ∙ rest.0, rest.1)
              | inr no_more ↦
                  let step : gathered_for i kept d ≡ kept = rw (t, le-ltb kept.minimum d.minimum no_more) refl in
                  let rest = first_skip i kept kept d ds m step (kept-first i kept ds m (omega arith) lt) in
                  (skip ∙ rest.0, rest.1)
            ]
        | inr most ↦
            let same : d.minimum ≡ m = omega arith in
            let step : gathered_for i kept d ≡ d = rw (t, lt-ltb kept.minimum d.minimum (omega arith)) refl in
            let all : fold (gathered_for i) (gathered_for i kept d) ds ≡ d = ap (λ k. fold (gathered_for i) k ds) step ∙ kept-stays i d ds (omega arith) in
            ((rw (t, eq-eqb d.minimum m same) refl) ∙ ap Some (sym all), ap (λ (k : Demand). k.minimum) all ∙ same)
      ]
  | inr f ↦
      let rest = first_skip i kept kept d ds m (rw f refl) (kept-first i kept ds m (rw f at e) lt) in
      ((rw f refl) ∙ rest.0, rest.1)
]

-- what is kept cell by cell is the first of greatest minimum size
kept-is_first : (i : ℕ) (ds : List Demand) → fold (gathered_for i) no_demand ds ≡ first_greatest i ds
unfolding first_greatest
kept-is_first i ds = elim (cases_lt 0 (base_size ds i)) [
  | inl some ↦
      rw ((ne_eqb (base_size ds i) 0 (omega arith)), (kept-first i no_demand ds (base_size ds i) refl some).0) refl
  | inr none ↦ grind (arith, eq-eqb, kept-stays)
]

pub first_greatest_nil : (i : ℕ) → first_greatest i [] ≡ no_demand
first_greatest_nil i = sym (kept-is_first i [])

pub first_greatest_more : (i : ℕ) (ds : List Demand) (d : Demand) → first_greatest i (ds ++ d ∷ []) ≡ gathered_for i (first_greatest i ds) d
first_greatest_more i ds d =
    sym (kept-is_first i (ds ++ d ∷ [])) ∙ fold-append (gathered_for i) no_demand ds (d ∷ []) ∙ ap (λ k. gathered_for i k d) (kept-is_first i ds)

pub minimum-first_greatest : (i : ℕ) (ds : List Demand) → (first_greatest i ds).minimum ≡ base_size ds i
minimum-first_greatest i ds = ap (λ (k : Demand). k.minimum) (sym (kept-is_first i ds)) ∙ elim (cases_lt 0 (base_size ds i)) [
  | inl some ↦ (kept-first i no_demand ds (base_size ds i) refl some).1
  | inr none ↦ ap (λ (k : Demand). k.minimum) (kept-stays i no_demand ds none) ∙ (omega arith)
]

-- where track i has its base size and that is not 0, the cell is the first that needs it
pub exact_single-first : (i : ℕ) (ds : List Demand) (sizes : List ℕ) → get_or sizes i 0 ≡ base_size ds i → get_or sizes i 0 ≢ 0 → exact_single ds sizes i ≡ Some (first_greatest i ds)
exact_single-first i ds sizes base some =
    (kept-first i no_demand ds (get_or sizes i 0) (sym base) (omega arith)).0 ∙ ap Some (kept-is_first i ds)

-- the base sizes are the minimum sizes of what is kept
pub base-from_single_span : (n limit : ℕ) (demands single_span : List Demand) (sizes : List ℕ) → n ≤ limit → length sizes ≡ n →
    ((i : ℕ) → i < limit → get_or single_span i no_demand ≡ first_greatest i demands) →
    ((k : ℕ) → k < length sizes → get_or sizes k 0 ≡ (get_or single_span k no_demand).minimum) → sizes ≡ base_sizes n demands
base-from_single_span n limit demands single_span sizes le many kept minimums =
    same_number_lists sizes (base_sizes n demands) (many ∙ sym (length-base_sizes n demands))
    (λ k l. minimums k l ∙ ap (λ (d : Demand). d.minimum) (kept k (omega arith)) ∙ minimum-first_greatest k demands ∙ sym (get_or-base_sizes n demands k (omega arith)))

-- ---- the cells that are kept as they come

-- a cell that covers one track alone, below the limit, does not overflow the table
pub first_out-rest_of : (n limit : ℕ) (ds : List Demand) → All (λ d. is_single limit d ≡ true → d.start < n) ds → first_out n (rest_of limit ds) ≡ first_out n ds
first_out-rest_of n limit [] below = refl
first_out-rest_of n limit (d ∷ ds) below =
    let rest = first_out-rest_of n limit ds (All-tail (λ d. is_single limit d ≡ true → d.start < n) d ds below) in
    grind (arith, cases_Bool (is_single limit d), All-head, le-ltb, eqb-true, and_parts)

-- a test that a single cell fails finds the same cells among the others
filter-rest_of : (test : Demand → Bool) (limit : ℕ) (ds : List Demand) → ((d : Demand) → d.span ≡ 1 → test d ≡ false) → filter test (rest_of limit ds) ≡ filter test ds
filter-rest_of test limit [] fails = refl
filter-rest_of test limit (d ∷ ds) fails = grind (arith, cases_Bool, eqb-true, and_parts, filter-rest_of test limit ds fails)

spans-rest_of : (limit : ℕ) (ds : List Demand) (a m : ℕ) → 2 ≤ a →
    flat_map (λ span. filter (λ d. d.span == span) (rest_of limit ds)) (range_with_len a m) ≡ flat_map (λ span. filter (λ d. d.span == span) ds) (range_with_len a m)
spans-rest_of limit ds a zero two = refl
spans-rest_of limit ds a (suc m) two = grind (arith, filter-rest_of, spans-rest_of limit ds (a + 1) m (omega arith))

pub by_span-rest_of : (n limit : ℕ) (ds : List Demand) → by_span n (rest_of limit ds) ≡ by_span n ds
by_span-rest_of n limit ds = spans-rest_of limit ds 2 (n - 1) (omega arith)

pub table-rest_of : (n limit : ℕ) (ds : List Demand) → All (IsInTable n) ds → All (IsInTable n) (rest_of limit ds)
table-rest_of n limit ds table = All-filter (λ d. not (is_single limit d)) (IsInTable n) ds table

-- ---- one cell more

-- a cell that covers a track alone and needs no more than the one that is kept there changes nothing
pub gathered_for-met : (single_span : List Demand) (d : Demand) → d.minimum ≤ (get_or single_span d.start no_demand).minimum → (k : ℕ) →
    get_or single_span k no_demand ≡ gathered_for k (get_or single_span k no_demand) d
gathered_for-met single_span d met k = grind (arith, cases_Bool, eqb-true, and_parts, le-ltb)

rest_of-more : (limit : ℕ) (ds : List Demand) (d : Demand) → rest_of limit (ds ++ d ∷ []) ≡ rest_of limit ds ++ rest_of limit (d ∷ [])
rest_of-more limit ds d = filter-append (λ d. not (is_single limit d)) ds (d ∷ [])

rest_of-single : (limit : ℕ) (ds : List Demand) (d : Demand) → is_single limit d ≡ true → rest_of limit (ds ++ d ∷ []) ≡ rest_of limit ds
rest_of-single limit ds d single = rest_of-more limit ds d ∙ rw single (append-nil (rest_of limit ds))

rest_of-other : (limit : ℕ) (ds : List Demand) (d : Demand) → is_single limit d ≡ false → rest_of limit (ds ++ d ∷ []) ≡ rest_of limit ds ++ d ∷ []
rest_of-other limit ds d other = rest_of-more limit ds d ∙ rw other refl

or_none : (b : Bool) → (b || false) ≡ b
or_none true = refl
or_none false = refl

module _ (limit : ℕ) (old new : Demands) (demands : List Demand) (d : Demand) (held : HoldsDemands limit old demands) (one : 1 ≤ d.span) (small : d.minimum < 2 ^ 64)
    (same_limit : new.limit ≡ old.limit) (same_large : new.is_large ≡ old.is_large) where
  large : new.is_large ≡ list_any is_large (demands ++ d ∷ [])
  large = grind (arith, lt-leb, list_any-append, or_none)

  spans : All (λ e. 1 ≤ e.span) (demands ++ d ∷ [])
  spans = All-push (λ e. 1 ≤ e.span) demands d held.spans one

  -- one that covers a track alone, below the limit, is kept by its number
  pub Holds-single : is_single limit d ≡ true → new.rest.items ≡ old.rest.items →
      ((k : ℕ) → get_or new.single_span.items k no_demand ≡ gathered_for k (get_or old.single_span.items k no_demand) d) → HoldsDemands limit new (demands ++ d ∷ [])
  Holds-single single same kept = grind (arith, rest_of-single, large, first_greatest_more, spans)

  -- any other as it came
  pub Holds-other : is_single limit d ≡ false → new.rest.items ≡ old.rest.items ++ d ∷ [] → new.single_span.items ≡ old.single_span.items →
      HoldsDemands limit new (demands ++ d ∷ [])
  Holds-other other pushed same = record {
    limit_is = same_limit ∙ held.limit_is;
    ranges =
        ap (map without_minimum) pushed ∙ map-append without_minimum old.rest.items (d ∷ []) ∙ ap (λ l. l ++ without_minimum d ∷ []) held.ranges
        ∙ sym (map-append without_minimum (rest_of limit demands) (d ∷ [])) ∙ ap (map without_minimum) (sym (rest_of-other limit demands d other));
    large = large;
    exact = λ h. pushed ∙ ap (λ l. l ++ d ∷ []) (held.exact (sym same_large ∙ h)) ∙ sym (rest_of-other limit demands d other);
    single_span = grind (arith, first_greatest_more, elsewhere);
    spans = spans;
  }
    where
      elsewhere : (i : ℕ) → i < limit → gathered_for i (first_greatest i demands) d ≡ first_greatest i demands
      elsewhere i l = grind (arith, cases_Bool, and_parts, eqb-true, and_from, lt-ltb, true≢false)

-- ---- what is kept of a table where no minimum size is large

module _ (n : ℕ) (kept : Demands) (demands : List Demand) (is : AreGathered n kept demands) (small : kept.is_large ≡ false) where
  pub base-kept : (sizes : List ℕ) → length sizes ≡ n → ((k : ℕ) → k < length sizes → get_or sizes k 0 ≡ (get_or kept.single_span.items k no_demand).minimum) →
      sizes ≡ base_sizes n demands
  base-kept sizes many minimums = base-from_single_span n is.limit demands kept.single_span.items sizes is.from_limit many (is.held.single_span small) minimums

  pub by_span-kept : by_span n kept.rest.items ≡ by_span n demands
  by_span-kept = ap (by_span n) (is.held.exact small) ∙ by_span-rest_of n is.limit demands

  pub table-kept : All (IsInTable n) demands → All (IsInTable n) kept.rest.items
  table-kept table = subst (All (IsInTable n)) (sym (is.held.exact small)) (table-rest_of n is.limit demands table)

-- a limit that is the number of tracks tells which of the single cells are in the table
pub below-own_limit : (n : ℕ) (ds : List Demand) → All (λ d. is_single n d ≡ true → d.start < n) ds
below-own_limit n ds = λ k d l t. ltb-true (get_or ds k d).start n (and_parts (eqb (get_or ds k d).span 1) (ltb (get_or ds k d).start n) t).1
