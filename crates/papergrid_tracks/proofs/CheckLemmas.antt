-- What a checker goes by: its sums over the listed cells, and the certificate that they make.
use Rattle.std.proofs.Common.{◌≡◌, ℕ, zero, suc, ◌+◌, ◌-◌, ◌*◌, ◌<◌, ◌≤◌, Bool, true, false, cond, List, [], ◌∷◌, ◌++◌, length, count_by, drop, drop-cons, get_or, refl, sum, sym, take, ap, ◌∙◌, arith, rules}
use Rattle.std.specs.Prelude.{All}
use Rattle.std.specs.List.{AllByRecursion, range_with_len}
use Rattle.std.proofs.lemmas.Bool.{cases_Bool, true≢false, false≢true}
use Rattle.std.proofs.Math.Nat.{mul-le-mul_right}
use Rattle.std.proofs.lemmas.List.Sums.{sum_by-cons, sum_by-append}
use Rattle.std.proofs.lemmas.List.Elements.{All-append, All-cons, All-nil, recursion_from_All, All-from_recursion}
use Rattle.papergrid_values.specs.declared.position.Position.{Position}
use Rattle.papergrid_tracks.specs.declared.checked.Checked.{Checked}
use Rattle.papergrid_tracks.specs.declared.demand.Demand.{Demand}
use Rattle.papergrid_values.specs.declared.direction.Direction.{Direction}
use Rattle.papergrid_tracks.specs.ForProofs.Checks.{CanHold, Checks, all_listed, times_listed}
use Rattle.papergrid_tracks.specs.Fits.{HasRoom, range_sum}
use Rattle.papergrid_tracks.specs.Ranges.{demand_of, end_of, inner_lines, position_of}
use Rattle.papergrid_tracks.proofs.LoopLemmas.{range_with_len-append}

-- one more number
pub count_by-more : (line : ℕ → Bool) (s i : ℕ) → s ≤ i → count_by line (range_with_len s (i + 1 - s)) ≡ count_by line (range_with_len s (i - s)) + cond (line i) 1 0
count_by-more line s i le = grind (arith, range_with_len-append, sum_by-append, sum_by-cons)

pub count_by-agree : (f g : ℕ → Bool) (a m : ℕ) → ((i : ℕ) → a ≤ i → i < a + m → f i ≡ g i) → count_by f (range_with_len a m) ≡ count_by g (range_with_len a m)
count_by-agree f g a zero same = refl
count_by-agree f g a (suc m) same =
    let ih : count_by f (range_with_len (a + 1) m) ≡ count_by g (range_with_len (a + 1) m) = count_by-agree f g (a + 1) m (λ i l l'. same i (omega arith) (omega arith)) in
    let x : count_by f (range_with_len a (suc m)) ≡ cond (f a) 1 0 + count_by f (range_with_len (a + 1) m) = sum_by-cons (λ j. cond (f j) 1 0) a (range_with_len (a + 1) m) in
    let y : count_by g (range_with_len a (suc m)) ≡ cond (g a) 1 0 + count_by g (range_with_len (a + 1) m) = sum_by-cons (λ j. cond (g j) 1 0) a (range_with_len (a + 1) m) in
    x ∙ ap (λ b. cond b 1 0 + count_by f (range_with_len (a + 1) m)) (same a (omega arith) (omega arith)) ∙ ap (λ k. cond (g a) 1 0 + k) ih ∙ sym y

-- ---- one more cell

all_listed_push : (f : Demand → ℕ) (positions : List Position) (ds : List Demand) (d : Demand) → all_listed f positions (ds ++ d ∷ []) ≡ all_listed f positions ds + f d * times_listed positions d
all_listed_push f positions ds d = grind (arith, sum_by-append, sum_by-cons)

All_push : (P : Demand → Type 0) (ds : List Demand) (d : Demand) → All P ds → P d → All P (ds ++ d ∷ [])
All_push P ds d all p = All-append P ds (d ∷ []) all (All-cons P d [] p (All-nil P))

-- of all and one more
All-front : (P : Demand → Type 0) (ds : List Demand) (d : Demand) → All P (ds ++ d ∷ []) → All P ds × P d
All-front P ds d all = search (rules, go, recursion_from_All, All-from_recursion)
  where
    go : (ds : List Demand) → AllByRecursion P (ds ++ d ∷ []) → AllByRecursion P ds × P d
    go [] all = (tt, all.0)
    go (c ∷ ds) all = let r = go ds all.1 in ((all.0, r.0), r.1)

module _ (line : ℕ → Bool) (sizes : List ℕ) (positions : List Position) (direction : Direction) (span_of : Position → ℕ) (old : Checked) (ds : List Demand) (d : Demand)
    (h : Checks line sizes positions direction span_of old ds)
    (ranged : d ≡ demand_of direction (position_of d) (span_of (position_of d)) d.minimum) (one : 1 ≤ d.span) where
  CanHold-front : CanHold line sizes positions (ds ++ d ∷ []) → CanHold line sizes positions ds
  CanHold-front can = grind (arith, All-front, all_listed_push (λ _. 1) positions ds d)

  -- the cell has room, and does not make more listed cells than there are positions
  pub Checks-more : old.holds ≡ true → end_of d ≤ length sizes → HasRoom line sizes d → old.found + times_listed positions d ≤ length positions → d.minimum ≤ 73786976294838206464 → inner_lines line d ≤ 18446744073709551616 →
      Checks line sizes positions direction span_of
      (record { holds = true; found = old.found + times_listed positions d; minimums = old.minimums + d.minimum * times_listed positions d; inner = old.inner + inner_lines line d * times_listed positions d }) (ds ++ d ∷ [])
  Checks-more so ends has few minimum_small inner_small =
      let all = h.holds so in
      let e : all_listed (λ _. 1) positions (ds ++ d ∷ []) ≡ all_listed (λ _. 1) positions ds + 1 * times_listed positions d = all_listed_push (λ _. 1) positions ds d in
      let found : old.found ≡ all_listed (λ _. 1) positions ds = all.found in
      let minimums : old.minimums ≡ all_listed (λ c. c.minimum) positions ds = all.minimums in
      let inner : old.inner ≡ all_listed (inner_lines line) positions ds = all.inner in
      let n : all_listed (λ c. c.minimum) positions (ds ++ d ∷ []) ≡ all_listed (λ c. c.minimum) positions ds + d.minimum * times_listed positions d = all_listed_push (λ c. c.minimum) positions ds d in
      let i : all_listed (inner_lines line) positions (ds ++ d ∷ []) ≡ all_listed (inner_lines line) positions ds + inner_lines line d * times_listed positions d = all_listed_push (inner_lines line) positions ds d in
      let ib : old.inner ≤ 18446744073709551616 * old.found = h.bounded.inner in
      let nm : d.minimum * times_listed positions d ≤ 73786976294838206464 * times_listed positions d = mul-le-mul_right (times_listed positions d) minimum_small in
      let im : inner_lines line d * times_listed positions d ≤ 18446744073709551616 * times_listed positions d = mul-le-mul_right (times_listed positions d) inner_small in
      record {
        ranged = All_push (λ c. c ≡ demand_of direction (position_of c) (span_of (position_of c)) c.minimum) ds d h.ranged ranged;
        spans = All_push (λ c. 1 ≤ c.span) ds d h.spans one;
        holds = λ so. record {
          table = All_push (λ c. end_of c ≤ length sizes) ds d all.table ends;
          room = All_push (HasRoom line sizes) ds d all.room has;
          found = omega arith;
          minimums = omega arith;
          inner = omega arith;
        };
        fails = λ so. absurd (true≢false so);
        bounded = record { few = few; minimums = omega arith; inner = omega arith };
      }

  -- something fails, and with this cell does still
  pub Checks-fails : (old.holds ≡ true → CanHold line sizes positions (ds ++ d ∷ []) → ⊥) →
      Checks line sizes positions direction span_of (record { holds = false; found = old.found; minimums = old.minimums; inner = old.inner }) (ds ++ d ∷ [])
  Checks-fails why = record {
    ranged = All_push (λ c. c ≡ demand_of direction (position_of c) (span_of (position_of c)) c.minimum) ds d h.ranged ranged;
    spans = All_push (λ c. 1 ≤ c.span) ds d h.spans one;
    holds = λ so. absurd (false≢true so);
    fails = grind (arith, cases_Bool old.holds, CanHold-front);
    bounded = record { few = h.bounded.few; minimums = h.bounded.minimums; inner = h.bounded.inner };
  }

  -- because it has no room in the table
  pub none_room : (end_of d ≤ length sizes → HasRoom line sizes d → ⊥) → CanHold line sizes positions (ds ++ d ∷ []) → ⊥
  none_room none can = none (All-front (λ e. end_of e ≤ length sizes) ds d can.table).1 (All-front (HasRoom line sizes) ds d can.room).1

count_by-le : (line : ℕ → Bool) (a m : ℕ) → count_by line (range_with_len a m) ≤ m
count_by-le line a zero = omega arith
count_by-le line a (suc m) =
    let ih : count_by line (range_with_len (a + 1) m) ≤ m = count_by-le line (a + 1) m in
    grind (arith, cases_Bool (line a), sum_by-cons (λ j. cond (line j) 1 0) a (range_with_len (a + 1) m))

-- a range has no more inner lines than numbers
pub inner_lines-span : (line : ℕ → Bool) (d : Demand) → inner_lines line d ≤ d.span
inner_lines-span line d = let le : inner_lines line d ≤ d.span - 1 = count_by-le line (d.start + 1) (d.span - 1) in omega arith

-- ---- a cell whose range begins where there is room enough

-- the first size of a range is a part of its sum
pub first_of_range : (sizes : List ℕ) (d : Demand) → 1 ≤ d.span → d.start < length sizes → get_or sizes d.start 0 ≤ range_sum sizes d
first_of_range sizes d one l = search (rules, go, drop-cons, sum_by-cons)
  where
    go : (n : ℕ) → 1 ≤ n → get_or sizes d.start 0 ≤ sum (take n (drop d.start sizes))
    go zero one = absurd (omega arith)
    go (suc n) one =
        let first : sum (take (suc n) (drop d.start sizes)) ≡ get_or sizes d.start 0 + sum (take n (drop (suc d.start) sizes)) =
        ap (λ xs. sum (take (suc n) xs)) (drop-cons sizes d.start 0 l) ∙ sum_by-cons (λ x. x) (get_or sizes d.start 0) (take n (drop (suc d.start) sizes)) in
        omega (arith, first)

-- what is listed no time changes nothing
pub none_listed : (checked : Checked) (minimum inner times : ℕ) → checked.holds ≡ true → times ≡ 0 →
    record { holds = true; found = checked.found + times; minimums = checked.minimums + minimum * times; inner = checked.inner + inner * times } ≡ checked
none_listed checked minimum inner times so none = grind arith
