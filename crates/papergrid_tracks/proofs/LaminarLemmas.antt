-- The test of ranges that are nested or disjoint tells whether they are, and where they are not two of them cross.
use Rattle.std.proofs.Common.{◌≡◌, ℕ, ◌<◌, ◌≤◌, ◌⊎◌, ◌||◌, inl, inr, true, false, Bool, List, [], ◌∷◌, get_or, nat_le, arith, refl, ltb-true}
use Rattle.std.specs.Prelude.{All, Contains, IsTrue, nat_lt, ◌↔◌}
use Rattle.std.specs.List.{list_all}
use Rattle.std.proofs.lemmas.Bool.{cases_Bool, leb-true, le-leb, lt-ltb, true≢false}
use Rattle.std.proofs.lemmas.Bool.Decides.{Decides-and, Decides-or, Decides-by_and, Decides-like}
use Rattle.std.proofs.lemmas.List.Elements.{All-contains, All-from_recursion}
use Rattle.papergrid_tracks.specs.declared.demand.Demand.{Demand}
use Rattle.papergrid_tracks.specs.Certificates.{lies_in}
use Rattle.papergrid_tracks.specs.ForProofs.Settled.{longer}
use Rattle.papergrid_tracks.specs.Ranges.{AreDisjoint, AreNested, IsLaminar, LiesIn, SomeCross, end_of}
use Rattle.papergrid_tracks.proofs.Orders.{Contains-filter, Contains-later, cells_themselves, filter-all}

-- whether two ranges have no track in common
abbrev pub are_disjoint : Demand → Demand → Bool
are_disjoint a b = nat_le (end_of a) b.start || nat_le (end_of b) a.start

-- whether one of two ranges is part of the other
abbrev pub are_nested : Demand → Demand → Bool
are_nested a b = lies_in a b || lies_in b a

-- any two of them are nested or disjoint
abbrev pub is_laminar : List Demand → Bool
is_laminar demands = list_all (λ a. list_all (λ b. are_nested a b || are_disjoint a b) (longer demands)) (longer demands)

Decides-leb : (a b : ℕ) → IsTrue (nat_le a b) ↔ (a ≤ b)
Decides-leb a b = (leb-true a b, le-leb a b)

lies : (a b : Demand) → IsTrue (lies_in a b) ↔ LiesIn a b
lies a b = Decides-and (nat_le b.start a.start) (nat_le (end_of a) (end_of b)) (Decides-leb b.start a.start) (Decides-leb (end_of a) (end_of b))

nested : (a b : Demand) → IsTrue (are_nested a b) ↔ AreNested a b
nested a b = Decides-or (lies_in a b) (lies_in b a) (lies a b) (lies b a)

disjoint : (a b : Demand) → IsTrue (are_disjoint a b) ↔ AreDisjoint a b
disjoint a b = Decides-or (nat_le (end_of a) b.start) (nat_le (end_of b) a.start) (Decides-leb (end_of a) b.start) (Decides-leb (end_of b) a.start)

abbrev are_compatible : Demand → Demand → Bool
are_compatible a b = are_nested a b || are_disjoint a b

abbrev AreCompatible : Demand → Demand → Type 0
AreCompatible a b = AreNested a b ⊎ AreDisjoint a b

compatible : (a b : Demand) → IsTrue (are_compatible a b) ↔ AreCompatible a b
compatible a b = Decides-or (are_nested a b) (are_disjoint a b) (nested a b) (disjoint a b)

-- one of the list fails the test, where not all pass
failing : (test : Demand → Bool) (ds : List Demand) → list_all test ds ≡ false → (d : Demand) × (test d ≡ false) × Contains ds d
failing test [] f = absurd (true≢false f)
failing test (d ∷ ds) f = elim (cases_Bool (test d)) [
  | inr not ↦ (d, not, (0, omega arith, refl))
  | inl is ↦ let found : (e : Demand) × (test e ≡ false) × Contains ds e = failing test ds (rw is at f) in (found.0, found.1, Contains-later ds d found.0 found.2)
]

module _ (demands : List Demand) where
  tested : IsTrue (is_laminar demands) ↔ (All (λ a. All (AreCompatible a) (longer demands)) (longer demands))
  tested =
      Decides-by_and (λ a. list_all (are_compatible a) (longer demands)) (λ a. All (AreCompatible a) (longer demands)) (list_all (λ a. list_all (are_compatible a) (longer demands)))
      (λ a. Decides-by_and (are_compatible a) (AreCompatible a) (list_all (are_compatible a)) (compatible a) refl (λ _ _. refl) (longer demands))
      refl (λ _ _. refl) (longer demands)

  cells : All (λ d. (nat_lt 1 d.span ≡ true) × Contains demands d) (longer demands)
  cells = All-from_recursion (λ d. (nat_lt 1 d.span ≡ true) × Contains demands d) (longer demands) (filter-all (Contains demands) (λ d. nat_lt 1 d.span) demands (cells_themselves demands))

  pub Decides-is_laminar : IsTrue (is_laminar demands) ↔ IsLaminar demands
  Decides-is_laminar = Decides-like (is_laminar demands) to from tested
    where
      long : (a : Demand) → Contains demands a → 2 ≤ a.span → Contains (longer demands) a
      long a m two = Contains-filter (λ d. nat_lt 1 d.span) demands a m (lt-ltb 1 a.span (omega arith))

      to : All (λ a. All (AreCompatible a) (longer demands)) (longer demands) → IsLaminar demands
      to all a b ma mb la lb =
          All-contains (AreCompatible a) (longer demands) b
          (All-contains (λ a. All (AreCompatible a) (longer demands)) (longer demands) a all (long a ma la)) (long b mb lb)

      from : IsLaminar demands → All (λ a. All (AreCompatible a) (longer demands)) (longer demands)
      from laminar j e l k e' l' =
          let p = cells j e l in
          let q = cells k e' l' in
          let two : 1 < (get_or (longer demands) j e).span = ltb-true 1 (get_or (longer demands) j e).span p.0 in
          let also : 1 < (get_or (longer demands) k e').span = ltb-true 1 (get_or (longer demands) k e').span q.0 in
          laminar (get_or (longer demands) j e) (get_or (longer demands) k e') p.1 q.1 (omega arith) (omega arith)

  -- where the test fails, two ranges cross
  pub SomeCross-from_test : is_laminar demands ≡ false → SomeCross demands
  SomeCross-from_test f =
      let one : (a : Demand) × (list_all (are_compatible a) (longer demands) ≡ false) × Contains (longer demands) a = failing (λ a. list_all (are_compatible a) (longer demands)) (longer demands) f in
      let other : (b : Demand) × (are_compatible one.0 b ≡ false) × Contains (longer demands) b = failing (are_compatible one.0) (longer demands) one.1 in
      let p = All-contains (λ d. (nat_lt 1 d.span ≡ true) × Contains demands d) (longer demands) one.0 cells one.2 in
      let q = All-contains (λ d. (nat_lt 1 d.span ≡ true) × Contains demands d) (longer demands) other.0 cells other.2 in
      grind (arith, one, other)

  -- ranges that cross are neither nested nor disjoint
  pub not_laminar : SomeCross demands → IsLaminar demands → ⊥
  not_laminar cross laminar =
      elim (laminar cross.one cross.other cross.are_visible.0 cross.are_visible.1 cross.are_long.0 cross.are_long.1) [
        | inl x ↦ cross.not_nested x
        | inr x ↦ cross.not_disjoint x
      ]

  -- so either holds
  pub laminar-or-crossing : IsLaminar demands ⊎ SomeCross demands
  laminar-or-crossing = elim (cases_Bool (is_laminar demands)) [ inl is ↦ inl (Decides-is_laminar.0 is) | inr not ↦ inr (SomeCross-from_test not) ]

  -- and if they are nested or disjoint only where something does not hold, two of them cross
  pub SomeCross-unless : (IsLaminar demands → ⊥) → SomeCross demands
  SomeCross-unless none = elim (cases_Bool (is_laminar demands)) [
    | inl is ↦ absurd (none (Decides-is_laminar.0 is))
    | inr not ↦ SomeCross-from_test not
  ]
