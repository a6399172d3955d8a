-- What the loops over the table of last cells keep.
use Rattle.std.proofs.Common.{◌≡◌, ℕ, ◌+◌, ◌<◌, ◌≤◌, true, cond, ◌⊎◌, inl, inr, List, length, get_or, refl, sym, ap, ◌∙◌, arith, Option, Some, None, [], ◌∷◌, ◌++◌, ◌==◌, ap₂, zero, suc}
use Rattle.std.specs.Prelude.{find, filter_map}
use Rattle.std.specs.List.{AllByRecursion, range_with_len, cons_option}
use Rattle.std.proofs.lemmas.List.Elements.{filter_map-append}
use Rattle.std.proofs.lemmas.Bool.{cases_Bool, cases_eq, cases_lt, true≢false}
use Rattle.std.proofs.lemmas.List.{get_or_past}
use Rattle.std.specs.Option.{option_or}
use Rattle.papergrid_tracks.specs.declared.demand.Demand.{Demand}
use Rattle.papergrid_tracks.specs.Ranges.{holds, IsInTable, LiesIn}
use Rattle.papergrid_tracks.specs.Certificates.{exact_single, single_at, outermost, certificate_cells}
use Rattle.papergrid_tracks.proofs.RangeLemmas.{covered}
use Rattle.papergrid_tracks.proofs.LoopLemmas.{range_with_len-append}
use Rattle.papergrid_tracks.specs.ForProofs.LastCells.{AreExact, IsLaminarInOrder, last_holding, slot_of, certificate_slot}
use Rattle.papergrid_tracks.specs.ForProofs.Demands.{no_demand}
use Rattle.papergrid_tracks.proofs.Upto.{holds_cases}
use Rattle.papergrid_tracks.proofs.FitBound.{ByRecursion-weaker}
use Rattle.papergrid_tracks.proofs.Certified.{none_some}
use Rattle.papergrid_tracks.proofs.LastLemmas.{certificate_cells-at, starting_at, last_holding-some, last_holding-none, last_holding-all, last_holding_push, precedes-from_last, last-from_precedes, IsLaminarInOrder-before, IsLaminarInOrder_push}

-- the cell is written below i
pub record WrittenOver (d : Demand) (old new : List (Option Demand)) (i : ℕ) : Type 0 where
  pub inside : (k : ℕ) → d.start ≤ k → k < i → get_or new k None ≡ Some d
  pub rest : (k : ℕ) → (k < d.start) ⊎ (i ≤ k) → get_or new k None ≡ get_or old k None

-- the cells at the numbers of the range below i lie in it
abbrev pub AreUnder : Demand → List (Option Demand) → ℕ → Type 0
AreUnder d last i = (k : ℕ) (o : Demand) → d.start ≤ k → k < i → get_or last k None ≡ Some o → LiesIn o d

-- the table of the cells looked at so far, of which each precedes all later ones
pub record IsTableOf (n : ℕ) (ds : List Demand) (last : List (Option Demand)) : Type 0 where
  pub many : length last ≡ n
  pub holds_last : (k : ℕ) → k < n → get_or last k None ≡ last_holding ds k
  pub laminar : IsLaminarInOrder ds

module _ (n : ℕ) (ds : List Demand) (last : List (Option Demand)) (table : AllByRecursion (IsInTable n) ds) (is : IsTableOf n ds last) where
  -- what stands in the table is a cell of the list
  pub table-cells : (i : ℕ) (o : Demand) → get_or last i None ≡ Some o → IsInTable (length last) o
  table-cells i o e = elim (cases_lt i n) [
    | inl l ↦
        rw is.many (last_holding-all (IsInTable n) ds i o table (sym (is.holds_last i l) ∙ e)).1
    | inr le ↦ grind (arith, none_some, get_or_past)
  ]

  ones : AllByRecursion (λ c. 1 ≤ c.span) ds
  ones = ByRecursion-weaker (IsInTable n) (λ c. 1 ≤ c.span) (λ c t. t.covers_one) ds table

  in_table : (d : Demand) (i : ℕ) → IsInTable n d → holds d i ≡ true → i < n
  in_table d i t h = grind (arith, holds_cases, true≢false)

  -- one more cell
  pub IsTableOf-more : (d : Demand) (new : List (Option Demand)) → IsInTable n d →
      ((i : ℕ) (o : Demand) → holds d i ≡ true → get_or last i None ≡ Some o → LiesIn o d) → length new ≡ length last →
      ((k : ℕ) → k < length new → get_or new k None ≡ cond (holds d k) (Some d) (get_or last k None)) → IsTableOf n (ds ++ d ∷ []) new
  IsTableOf-more d new t covers same written =
      let many : length last ≡ n = is.many in
      record {
        many = same ∙ many;
        holds_last = λ k l. written k (omega arith) ∙ ap (cond (holds d k) (Some d)) (is.holds_last k l) ∙ sym (last_holding_push ds d k);
        laminar = IsLaminarInOrder_push ds d is.laminar
            (precedes-from_last ds d is.laminar t.covers_one ones (λ i o h e. covers i o h (is.holds_last i (in_table d i t h) ∙ e)));
      }

  -- where all the cells are laminar, what stands in the range of the next one lies in it
  pub under-from_laminar : (d : Demand) (es : List Demand) → IsInTable n d → IsLaminarInOrder (ds ++ d ∷ es) → (i : ℕ) (o : Demand) → holds d i ≡ true → get_or last i None ≡ Some o → LiesIn o d
  under-from_laminar d es t laminar i o h e =
      last-from_precedes ds d (IsLaminarInOrder-before ds d es laminar) i o h (sym (is.holds_last i (in_table d i t h)) ∙ e)

-- one more number for the cells of the certificate
pub filter_map_slot_more : (h : ℕ → Option Demand) (i : ℕ) → filter_map h (range_with_len 0 (i + 1)) ≡ filter_map h (range_with_len 0 i) ++ cons_option (h i) []
filter_map_slot_more h i = grind (arith, range_with_len-append, filter_map-append)

filter_map-agree : (h g : ℕ → Option Demand) (a n : ℕ) → ((i : ℕ) → a ≤ i → i < a + n → h i ≡ g i) → filter_map h (range_with_len a n) ≡ filter_map g (range_with_len a n)
filter_map-agree h g a zero same = refl
filter_map-agree h g a (suc n) same =
    ap₂ (λ o xs. cons_option o xs) (same a (omega arith) (omega arith)) (filter_map-agree h g (a + 1) n (λ i l l'. same i (omega arith) (omega arith)))

option_or-none : (o : Option Demand) → option_or o None ≡ o
option_or-none None = refl
option_or-none (Some d) = refl

-- the cell in the slot is that of the certificate
slot-certificate_cells : (demands growing_cells : List Demand) (sizes : List ℕ) (i : ℕ) → IsLaminarInOrder growing_cells → AllByRecursion (λ d. 1 ≤ d.span) growing_cells →
    slot_of (last_holding growing_cells i) (exact_single demands sizes i) (get_or sizes i 0) i
    ≡ option_or (find (λ d. d.start == i) (outermost growing_cells)) (single_at demands growing_cells sizes i)
slot-certificate_cells demands growing_cells sizes i laminar ones =
    sym (certificate_cells-at demands growing_cells sizes i laminar ones
    ∙ elim (cases_Bool (covered growing_cells i)) [
      | inl t ↦ grind (arith, last_holding-some, option_or-none, starting_at)
      | inr f ↦ rw (last_holding-none growing_cells i f, f) refl
    ])

-- where the cell kept at i is exact, it is the one in the slot
slot-kept : (demands growing_cells : List Demand) (sizes : List ℕ) (single_span : List Demand) (i : ℕ) → i < length sizes → AreExact demands growing_cells sizes single_span →
    slot_of (last_holding growing_cells i) (Some (get_or single_span i no_demand)) (get_or sizes i 0) i ≡ slot_of (last_holding growing_cells i) (exact_single demands sizes i) (get_or sizes i 0) i
slot-kept demands growing_cells sizes single_span i l exact = grind (arith, cases_Bool, covered, last_holding-some, cases_eq, last_holding-none)

-- the cells by one look at each track are those of the certificate
pub certificate_cells-by_slots : (demands growing_cells : List Demand) (sizes : List ℕ) (last : List (Option Demand)) (single_span : List Demand) → IsLaminarInOrder growing_cells → AllByRecursion (λ d. 1 ≤ d.span) growing_cells →
    ((i : ℕ) → i < length sizes → get_or last i None ≡ last_holding growing_cells i) → AreExact demands growing_cells sizes single_span →
    filter_map (certificate_slot last single_span sizes) (range_with_len 0 (length sizes)) ≡ certificate_cells (length sizes) demands growing_cells sizes
certificate_cells-by_slots demands growing_cells sizes last single_span laminar each lasts exact =
    filter_map-agree (certificate_slot last single_span sizes) (λ i. option_or (find (λ d. d.start == i) (outermost growing_cells)) (single_at demands growing_cells sizes i)) 0 (length sizes)
    (λ i l l'. ap (λ o. slot_of o (Some (get_or single_span i no_demand)) (get_or sizes i 0) i) (lasts i (omega arith))
    ∙ slot-kept demands growing_cells sizes single_span i (omega arith) exact ∙ slot-certificate_cells demands growing_cells sizes i laminar each)
