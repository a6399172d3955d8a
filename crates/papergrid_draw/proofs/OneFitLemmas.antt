-- Configurations that hold the same have no two lists of settings that fit their crossings, no two reasons why they have none, and never both.
use Rattle.std.proofs.Common.{◌≡◌, ◌∙◌, ◌⊎◌, ◌+◌, ◌-◌, ◌<◌, ℕ, List, [], ◌∷◌, ap, arith, get_or, inl, inr, map, refl, subst, sym}
use Rattle.std.specs.Prelude.{◌↔◌, All, AllPairs, Contains}
use Rattle.std.proofs.lemmas.Grind.{get_or_tail}
use Rattle.std.proofs.lemmas.List.Elements.{All-contains, Contains-append_cases, Contains-append_right, Contains-push_cases}
use Rattle.papergrid_values.specs.Positions.{IsBefore}
use Rattle.papergrid_values.specs.declared.position.Position.{Position}
use Rattle.papergrid_config.specs.ConfigSame.{HoldTheSameSettings}
use Rattle.papergrid_config.specs.declared.setting.Setting.{Setting}
use Rattle.papergrid_config.specs.declared.spanned.SpannedConfig.{SpannedConfig}
use Rattle.papergrid_layout.specs.Places.{TableView}
use Rattle.papergrid_draw.specs.Crossings.{FitCrossings, IsFitFault, IsUnfit, bare_drawing, crossing_setting}
use Rattle.papergrid_draw.specs.Drawings.{layout_of}
use Rattle.papergrid_draw.specs.Sinks.{IsRefusal}
use Rattle.papergrid_draw.specs.Tiles.{IsTileFault, IsTiled, owner}
use Rattle.papergrid_draw.specs.declared.crossings.Junctions.{Junctions}
use Rattle.papergrid_draw.specs.declared.error.DrawError.{DrawError}
use Rattle.papergrid_draw.specs.declared.error.DrawError.TheVariants.{Memory, NoRoom, NotTiled, OutOfTable, TooLarge, Write}
use Rattle.papergrid_draw.proofs.OneLemmas.{one-first, other-way}

-- ---- lists in order that have the same elements

module _ {A : Type 0} where
  none-contained : (x : A) → Contains [] x → ⊥
  none-contained x contained = let within : contained.0 < 0 = contained.1 in omega arith

  first-contained : (x : A) (xs : List A) → Contains (x ∷ xs) x
  first-contained x xs = (0, omega arith, refl)

  contained-cases : (y : A) (ys : List A) (x : A) → Contains (y ∷ ys) x → (y ≡ x) ⊎ Contains ys x
  contained-cases y ys x contained = elim (Contains-append_cases (y ∷ []) ys x contained) [
    | inl own ↦ elim (Contains-push_cases [] y x own) [ inl none ↦ absurd (none-contained x none) | inr is ↦ inl is ]
    | inr later ↦ inr later
  ]

  next-is : (x : A) (xs : List A) (k : ℕ) (d : A) → get_or (x ∷ xs) (k + 1) d ≡ get_or xs k d
  next-is x xs k d = let back : k + 1 - 1 ≡ k = omega arith in get_or_tail x xs (k + 1) d (omega arith) ∙ ap (λ i. get_or xs i d) back

  module _ (R : A → A → Type 0) (apart : (x y : A) → R x y → R y x → ⊥) where
    before : (x : A) (xs : List A) → AllPairs R (x ∷ xs) → (y : A) → Contains xs y → R x y
    before x xs pairs y contained =
        let each : All (R x) xs = λ k d within. subst (R x) (next-is x xs k d) (pairs 0 (k + 1) d (omega arith) (omega (arith, within))) in
        All-contains (R x) xs y each contained

    rest-pairs : (x : A) (xs : List A) → AllPairs R (x ∷ xs) → AllPairs R xs
    rest-pairs x xs pairs = λ i j d less within.
        subst (λ y. R y (get_or xs j d)) (next-is x xs i d) (subst (R (get_or (x ∷ xs) (i + 1) d)) (next-is x xs j d) (pairs (i + 1) (j + 1) d (omega (arith, less)) (omega (arith, within))))

    -- what follows the first of one list follows the first of the other
    rest-contained : (x y : A) (xs ys : List A) → x ≡ y → AllPairs R (x ∷ xs) → ((z : A) → Contains (x ∷ xs) z → Contains (y ∷ ys) z) → (z : A) → Contains xs z → Contains ys z
    rest-contained x y xs ys first pairs all z contained = elim (contained-cases y ys z (all z (Contains-append_right (x ∷ []) xs z contained))) [
      | inr later ↦ later
      | inl is ↦ (let own : R x x = subst (R x) (sym (first ∙ is)) (before x xs pairs z contained) in absurd (apart x x own own))
    ]

    pub same-elements : (xs ys : List A) → AllPairs R xs → AllPairs R ys → ((x : A) → Contains xs x ↔ Contains ys x) → xs ≡ ys
    same-elements [] [] a b same = refl
    same-elements [] (y ∷ ys) a b same = absurd (none-contained y ((same y).1 (first-contained y ys)))
    same-elements (x ∷ xs) [] a b same = absurd (none-contained x ((same x).0 (first-contained x xs)))
    same-elements (x ∷ xs) (y ∷ ys) a b same =
        let first : x ≡ y = elim (contained-cases y ys x ((same x).0 (first-contained x xs))) [
          | inl is ↦ sym is
          | inr later ↦ elim (contained-cases x xs y ((same y).1 (first-contained y ys))) [
            | inl is ↦ is
            | inr also ↦ absurd (apart x y (before x xs a y also) (before y ys b x later))
          ]
        ] in
        let rest : xs ≡ ys = same-elements xs ys (rest-pairs x xs a) (rest-pairs y ys b) (λ z. (
          rest-contained x y xs ys first a (λ w. (same w).0) z,
          rest-contained y x ys xs (sym first) b (λ w. (same w).1) z,
        )) in
        λ i. first i ∷ rest i

-- ---- crossings of configurations that hold the same

positions-apart : (a b : Position × ℕ) → IsBefore a.0 b.0 → IsBefore b.0 a.0 → ⊥
positions-apart a b (inl above) (inl below) = omega (arith, above, below)
positions-apart a b (inl above) (inr right) = omega (arith, above, right.0)
positions-apart a b (inr left) (inl below) = omega (arith, left.0, below)
positions-apart a b (inr left) (inr right) = let l : a.0.col < b.0.col = left.1 in let r : b.0.col < a.0.col = right.1 in omega arith

-- of the same lines and spans
unfit-same : (x y : SpannedConfig) (shape : ℕ × ℕ) → HoldTheSameSettings x y → (junctions : Junctions) (p : Position) (character : ℕ) → IsUnfit x shape junctions p character →
    IsUnfit y shape junctions p character
unfolding owner
unfit-same x y shape same junctions p character unfit =
    let u = subst (λ config. IsUnfit config shape junctions p character) same.but_overrides unfit in
    record {
      seen = record {
        has_rows = u.seen.has_rows;
        has_columns = u.seen.has_columns;
        row = u.seen.row;
        col = u.seen.col;
        horizontal = u.seen.horizontal;
        vertical = u.seen.vertical;
        free = u.seen.free;
      };
      joins = u.joins;
      other = u.other;
    }

module _ (x y : SpannedConfig) (shape : ℕ × ℕ) (same : HoldTheSameSettings x y) where
  pub one-fit : (junctions : Junctions) (settings other : List Setting) → FitCrossings x shape junctions settings → FitCrossings y shape junctions other → settings ≡ other
  one-fit junctions settings other a b =
      a.are
      ∙ ap (map crossing_setting) (same-elements (λ c d. IsBefore c.0 d.0) positions-apart a.crossings b.crossings a.ascending b.ascending (λ c. (
        (λ contained. (b.each c.0 c.1).1 (unfit-same x y shape same junctions c.0 c.1 ((a.each c.0 c.1).0 contained))),
        (λ contained. (a.each c.0 c.1).1 (unfit-same y x shape (other-way x y same) junctions c.0 c.1 ((b.each c.0 c.1).0 contained))),
      )))
      ∙ sym b.are

  same-table : layout_of (bare_drawing x shape) ≡ layout_of (bare_drawing y shape)
  same-table = ap (λ (config : SpannedConfig). layout_of (bare_drawing config shape)) same.but_overrides

  abbrev table : TableView
  table = layout_of (bare_drawing y shape)

  fault-same : (e : DrawError) → IsFitFault x shape e → IsFitFault y shape e
  fault-same (OutOfTable p) fault = subst (λ t. IsTileFault t (OutOfTable p)) same-table fault
  fault-same (NotTiled p) fault = subst (λ t. IsTileFault t (NotTiled p)) same-table fault
  fault-same (NoRoom p) fault = fault
  fault-same TooLarge fault = (subst IsTiled same-table fault.0, fault.1)
  fault-same (Memory e) fault = fault
  fault-same Write fault = fault

  fit-or-at-once : (junctions : Junctions) (settings : List Setting) (e : DrawError) → IsRefusal e → FitCrossings x shape junctions settings → IsTiled table → IsFitFault y shape e → ⊥
  fit-or-at-once junctions settings (OutOfTable p) named fit tiled fault = tiled.within p fault.it
  fit-or-at-once junctions settings (NotTiled p) named fit tiled fault = fault.1.it.1 (tiled.once p fault.1.it.0)
  fit-or-at-once junctions settings (NoRoom p) named fit tiled fault = fault
  fit-or-at-once junctions settings TooLarge named fit tiled fault = elim fault.1 [
    | inl rows ↦ omega (arith, rows, fit.counted.0)
    | inr columns ↦ omega (arith, columns, fit.counted.1)
  ]
  fit-or-at-once junctions settings (Memory e) named fit tiled fault = named
  fit-or-at-once junctions settings Write named fit tiled fault = fault

  pub fit-or-fault : (junctions : Junctions) (settings : List Setting) (e : DrawError) → IsRefusal e → FitCrossings x shape junctions settings → IsFitFault y shape e → ⊥
  fit-or-fault junctions settings e named fit fault = fit-or-at-once junctions settings e named fit (subst IsTiled same-table fit.tiled) fault

  one-of-two : (e f : DrawError) → IsRefusal e → IsRefusal f → IsFitFault y shape e → IsFitFault y shape f → e ≡ f
  one-of-two (Memory e) f named other a b = absurd named
  one-of-two e (Memory f) named other a b = absurd other
  one-of-two Write f named other a b = absurd named
  one-of-two e Write named other a b = absurd other
  one-of-two (NoRoom p) f named other a b = absurd a
  one-of-two e (NoRoom q) named other a b = absurd b
  one-of-two (OutOfTable p) (OutOfTable q) named other a b = ap OutOfTable (one-first _ p q a b)
  one-of-two (OutOfTable p) (NotTiled q) named other a b = absurd (b.0 p a.it)
  one-of-two (OutOfTable p) TooLarge named other a b = absurd (b.0.within p a.it)
  one-of-two (NotTiled p) (OutOfTable q) named other a b = absurd (a.0 q b.it)
  one-of-two (NotTiled p) (NotTiled q) named other a b = ap NotTiled (one-first _ p q a.1 b.1)
  one-of-two (NotTiled p) TooLarge named other a b = absurd (a.1.it.1 (b.0.once p a.1.it.0))
  one-of-two TooLarge (OutOfTable q) named other a b = absurd (a.0.within q b.it)
  one-of-two TooLarge (NotTiled q) named other a b = absurd (b.1.it.1 (a.0.once q b.1.it.0))
  one-of-two TooLarge TooLarge named other a b = refl

  pub one-fit-fault : (e f : DrawError) → IsRefusal e → IsRefusal f → IsFitFault x shape e → IsFitFault y shape f → e ≡ f
  one-fit-fault e f named other a b = one-of-two e f named other (fault-same e a) b
