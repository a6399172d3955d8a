-- Crossings that are fitted one after another.
use Rattle.std.proofs.Common.{◌≡◌, ◌∙◌, ap, sym, subst, refl, inl, inr, ℕ, ◌+◌, ◌-◌, ◌<◌, ◌≤◌, ◌⊎◌, ◌^◌, Bool, true, false, ◌&&◌, List, [], ◌∷◌, ◌++◌, map, Option, Some, None, arith, get_or}
use Rattle.std.specs.Prelude.{◌||◌, All, AllPairs, Contains, IsSome, if◌then◌else◌, nat_lt, not, unwrap_or}
use Rattle.std.specs.Option.{option_eq, option_or}
use Rattle.std.proofs.lemmas.Bool.{and_from, cases_lt, false≢true, false_from_ne_true, lt-ltb, or_left, or_right}
use Rattle.std.proofs.lemmas.List.{map-append}
use Rattle.std.proofs.lemmas.List.Elements.{All-append, All-cons, All-contains, All-contains_itself, All-head, All-map, All-tail}
use Rattle.std.proofs.lemmas.List.Quantifiers.{all_pairs_push}
use Rattle.std.proofs.lemmas.Option.{same_Some}
use Rattle.papergrid_values.specs.MapKeys.{position_eq}
use Rattle.papergrid_values.specs.Positions.{IsBefore, position_of}
use Rattle.papergrid_values.specs.declared.position.Position.{Position}
use Rattle.papergrid_values.proofs.KeyLemmas.{exact_position_eq, position_equiv}
use Rattle.papergrid_tables.specs.BorderParts.{found_intersection}
use Rattle.papergrid_tables.specs.StoredBorders.{parts_of_borders}
use Rattle.papergrid_config.specs.Applied.{is_in_range}
use Rattle.papergrid_config.specs.declared.setting.Setting.{Setting}
use Rattle.papergrid_config.specs.declared.spanned.SpannedConfig.{SpannedConfig}
use Rattle.papergrid_config.proofs.SameLemmas.{exact_option}
use Rattle.papergrid_draw.specs.Characters.{crossing_character}
use Rattle.papergrid_draw.specs.Drawings.{Drawing, layout_of}
use Rattle.papergrid_draw.specs.Drawn.{draws_horizontal, draws_vertical, owner_at}
use Rattle.papergrid_draw.specs.Tiles.{IsTiled, owner}
use Rattle.papergrid_draw.proofs.TilingLemmas.{none-first, not-before}
use Rattle.papergrid_draw.specs.Crossings.{BecomesBy, FitCrossings, IsSeenCrossing, IsUnfit, bare_drawing, crossing_setting, junction, junction_at}
use Rattle.papergrid_draw.specs.ForProofs.Crossings.{AreFittedBefore, FitsAlready, IsMark, mark_at, marked_character}
use Rattle.papergrid_draw.specs.declared.crossings.Junctions.{Junctions}
use Rattle.papergrid_draw.proofs.CornerLemmas.{differ, found-new, horizontal-same, mark_at-push, marked, missing-same, vertical-same}

-- ---- at least two lines meet at a crossing that is seen

module _ (junctions : Junctions) where
  abbrev joins : Bool → Bool → Bool → Bool → Type 0
  joins above below left right = IsSome (junction junctions above below left right)

  joins-down : (left right : Bool) → joins true true left right
  joins-down true true = refl
  joins-down true false = refl
  joins-down false true = refl
  joins-down false false = refl

  joins-across : (above below : Bool) → joins above below true true
  joins-across true true = refl
  joins-across true false = refl
  joins-across false true = refl
  joins-across false false = refl

  -- among four cells: a and b above, c and d below
  joins-inside : (ab cd ac bd ad : Bool) → (ab ≡ true → bd ≡ true → ad ≡ true) → (ac ≡ true → cd ≡ true → ad ≡ true) → ad ≡ false →
      joins (not ab) (not cd) (not ac) (not bd)
  joins-inside true cd ac true ad over under apart = absurd (false≢true (sym apart ∙ over refl refl))
  joins-inside ab true true bd ad over under apart = absurd (false≢true (sym apart ∙ under refl refl))
  joins-inside true true false false ad over under apart = refl
  joins-inside true false true false ad over under apart = refl
  joins-inside true false false false ad over under apart = refl
  joins-inside false true false true ad over under apart = refl
  joins-inside false true false false ad over under apart = refl
  joins-inside false false true true ad over under apart = refl
  joins-inside false false true false ad over under apart = refl
  joins-inside false false false true ad over under apart = refl
  joins-inside false false false false ad over under apart = refl

  -- above, below, left and right there is something of the table
  joins-seen : (a b l r ab cd ac bd ad : Bool) → (a || b) ≡ true → (l || r) ≡ true →
      (ab ≡ true → bd ≡ true → ad ≡ true) → (ac ≡ true → cd ≡ true → ad ≡ true) → (a && (b && (l && (r && ad)))) ≡ false →
      joins (a && not (l && (r && ab))) (b && not (l && (r && cd))) (l && not (a && (b && ac))) (r && not (a && (b && bd)))
  joins-seen true true true true ab cd ac bd ad down across over under apart = joins-inside ab cd ac bd ad over under apart
  joins-seen true true true false ab cd ac bd ad down across over under apart = joins-down (not (true && (true && ac))) false
  joins-seen true true false true ab cd ac bd ad down across over under apart = joins-down false (not (true && (true && bd)))
  joins-seen true false true true ab cd ac bd ad down across over under apart = joins-across (not (true && (true && ab))) false
  joins-seen false true true true ab cd ac bd ad down across over under apart = joins-across false (not (true && (true && cd)))
  joins-seen true false true false ab cd ac bd ad down across over under apart = refl
  joins-seen true false false true ab cd ac bd ad down across over under apart = refl
  joins-seen false true true false ab cd ac bd ad down across over under apart = refl
  joins-seen false true false true ab cd ac bd ad down across over under apart = refl
  joins-seen false false l r ab cd ac bd ad down across over under apart = absurd (false≢true down)
  joins-seen a b false false ab cd ac bd ad down across over under apart = absurd (false≢true across)

-- on one side of a line at least there is something of a table that is not empty
some-side : (i count : ℕ) → 0 < count → i ≤ count → (nat_lt 0 i || nat_lt i count) ≡ true
some-side i count some within = elim (cases_lt 0 i) [
  | inl past ↦ or_left _ _ (lt-ltb 0 i past)
  | inr first ↦ or_right _ _ (lt-ltb i count (omega (arith, some, first)))
]

side-inside : (i count : ℕ) → 0 < count → i ≤ count → nat_lt (i - 1) count ≡ true
side-inside i count some within = lt-ltb (i - 1) count (omega (arith, some, within))

-- one owner at two positions, by a third
one-owner : (a b c : Option Position) → option_eq position_eq a b ≡ true → option_eq position_eq b c ≡ true → option_eq position_eq a c ≡ true
one-owner a b c first second =
    subst (λ o. option_eq position_eq a o ≡ true) (exact_option position_eq exact_position_eq b c second) first

pub joined : (junctions : Junctions) (d : Drawing) (i j : ℕ) → IsSeenCrossing d i j → IsSome (junction_at junctions d i j)
joined junctions d i j seen =
    let a = owner_at d (i - 1) (j - 1) in
    let b = owner_at d (i - 1) j in
    let c = owner_at d i (j - 1) in
    let e = owner_at d i j in
    rw (side-inside i d.shape.0 seen.has_rows seen.row) (rw (side-inside j d.shape.1 seen.has_columns seen.col)
    (rw seen.horizontal (rw seen.vertical
    (joins-seen junctions (nat_lt 0 i) (nat_lt i d.shape.0) (nat_lt 0 j) (nat_lt j d.shape.1)
    (option_eq position_eq a b) (option_eq position_eq c e) (option_eq position_eq a c) (option_eq position_eq b e) (option_eq position_eq a e)
    (some-side i d.shape.0 seen.has_rows seen.row) (some-side j d.shape.1 seen.has_columns seen.col)
    (one-owner a b e) (one-owner a c e) seen.free))))

-- ---- one crossing after another

before-more : (p : Position) (i j : ℕ) → IsBefore p (position_of (i, j)) → IsBefore p (position_of (i, j + 1))
before-more p i j (inl above) = inl above
before-more p i j (inr left) = inr (left.0, let l : p.col < j = left.1 in omega arith)

before-next : (r c i j : ℕ) → IsBefore (position_of (r, c)) (position_of (i, j + 1)) → IsBefore (position_of (r, c)) (position_of (i, j)) ⊎ ((r ≡ i) × (c ≡ j))
before-next r c i j (inl above) = inl (inl above)
before-next r c i j (inr left) = let l : c < j + 1 = left.1 in
    elim (cases_lt c j) [ inl less ↦ inl (inr (left.0, less)) | inr from ↦ inr (left.0, omega arith) ]

-- where all marks are earlier, a position has none
unmarked : (i j : ℕ) (marks : List (Position × ℕ)) → All (λ mark. IsBefore mark.0 (position_of (i, j))) marks →
    (p : Position) → (IsBefore p (position_of (i, j)) → ⊥) → mark_at marks p ≡ None
unmarked i j [] before p after = refl
unmarked i j (m ∷ marks) before p after =
    let rest = unmarked i j marks (All-tail (λ mark. IsBefore mark.0 (position_of (i, j))) m marks before) p after in
    let own : IsBefore m.0 (position_of (i, j)) = All-head (λ mark. IsBefore mark.0 (position_of (i, j))) m marks before in
    let apart : position_eq m.0 p ≡ false = false_from_ne_true (position_eq m.0 p)
    (λ yes. after (subst (λ q. IsBefore q (position_of (i, j))) (exact_position_eq m.0 p yes) own)) in
    rw (rest, apart) refl

none-yet : (P : Position × ℕ → Type 0) → All P []
none-yet P k d within = absurd (omega (arith, within))

no-pairs : (R : Position × ℕ → Position × ℕ → Type 0) → AllPairs R []
no-pairs R i j d less within = absurd (omega (arith, within))

module _ (config : SpannedConfig) (shape : ℕ × ℕ) (junctions : Junctions) where
  abbrev bare : Drawing
  bare = bare_drawing config shape

  -- the character of a crossing where the marks are given
  abbrev IsFit : List (Position × ℕ) → ℕ → ℕ → Type 0
  IsFit marks r c = junction_at junctions bare r c ≡ Some (marked_character config shape marks (position_of (r, c)))

  pub fitted-start : AreFittedBefore config shape junctions 0 0 []
  fitted-start = record {
    marks = [];
    are = refl;
    each = none-yet (IsMark config shape junctions);
    ascending = no-pairs (λ a b. IsBefore a.0 b.0);
    before = none-yet (λ mark. IsBefore mark.0 (position_of (0, 0)));
    fit = λ r c seen before. absurd (none-first (position_of (r, c)) before);
  }

  -- a crossing that is left as it is
  pub fitted-pass : (i j : ℕ) (settings : List Setting) → AreFittedBefore config shape junctions i j settings → FitsAlready config shape junctions i j →
      AreFittedBefore config shape junctions i (j + 1) settings
  fitted-pass i j settings fitted already =
      let unmarked : mark_at fitted.marks (position_of (i, j)) ≡ None = unmarked i j fitted.marks fitted.before (position_of (i, j)) (not-before (position_of (i, j))) in
      let here : IsSeenCrossing bare i j → IsFit fitted.marks i j = λ seen.
      already seen ∙ ap (λ o. Some (unwrap_or (option_or o (found_intersection (parts_of_borders config.characters) (position_of (i, j)) shape.0 shape.1)) config.missing)) (sym unmarked) in
      record {
        marks = fitted.marks;
        are = fitted.are;
        each = fitted.each;
        ascending = fitted.ascending;
        before = λ k d within. before-more (get_or fitted.marks k d).0 i j (fitted.before k d within);
        fit = λ r c seen before. elim (before-next r c i j before) [
          | inl earlier ↦ fitted.fit r c seen earlier
          | inr same ↦ subst (λ m. IsSeenCrossing bare m c → IsFit fitted.marks m c) (sym same.0)
              (subst (λ n. IsSeenCrossing bare i n → IsFit fitted.marks i n) (sym same.1) here) seen
        ];
      }

  -- one that is given another character
  pub fitted-push : (i j character : ℕ) (settings : List Setting) → i ≤ shape.0 → j ≤ shape.1 → shape.0 + 1 < 2 ^ 64 → shape.1 + 1 < 2 ^ 64 →
      AreFittedBefore config shape junctions i j settings → IsUnfit config shape junctions (position_of (i, j)) character →
      AreFittedBefore config shape junctions i (j + 1) (settings ++ crossing_setting (position_of (i, j), character) ∷ [])
  fitted-push i j character settings in_rows in_columns rows columns fitted has =
      let mark : Position × ℕ = (position_of (i, j), character) in
      let marks = fitted.marks ++ mark ∷ [] in
      let own : IsMark config shape junctions mark = record {
        in_range = and_from _ _ (lt-ltb (i + 1) (2 ^ 64) (omega (arith, in_rows, rows))) (lt-ltb (j + 1) (2 ^ 64) (omega (arith, in_columns, columns)));
        unfit = has;
      } in
      let elsewhere : (p : Position) → (position_of (i, j) ≡ p → ⊥) → mark_at marks p ≡ mark_at fitted.marks p = λ p apart.
      mark_at-push fitted.marks mark p ∙ ap (λ b. option_or (if b then Some character else None) (mark_at fitted.marks p))
      (false_from_ne_true (position_eq (position_of (i, j)) p) (λ yes. apart (exact_position_eq (position_of (i, j)) p yes))) in
      let same : mark_at marks (position_of (i, j)) ≡ Some character =
      mark_at-push fitted.marks mark (position_of (i, j)) ∙ ap (λ b. option_or (if b then Some character else None) (mark_at fitted.marks (position_of (i, j))))
      (position_equiv.refl (position_of (i, j))) in
      let IsEarlier : Position × ℕ → Type 0 = λ m. IsBefore m.0 (position_of (i, j + 1)) in
      let here : IsSeenCrossing bare i j → IsFit marks i j = λ seen.
      has.joins ∙ ap (λ o. Some (unwrap_or (option_or o (found_intersection (parts_of_borders config.characters) (position_of (i, j)) shape.0 shape.1)) config.missing)) (sym same) in
      record {
        marks = marks;
        are = ap (λ list. list ++ crossing_setting mark ∷ []) fitted.are ∙ sym (map-append crossing_setting fitted.marks (mark ∷ []));
        each = All-append (IsMark config shape junctions) fitted.marks (mark ∷ []) fitted.each (All-cons (IsMark config shape junctions) mark [] own (none-yet (IsMark config shape junctions)));
        ascending = all_pairs_push (λ a b. IsBefore a.0 b.0) fitted.marks mark fitted.ascending fitted.before;
        before = All-append IsEarlier fitted.marks (mark ∷ []) (λ k d within. before-more (get_or fitted.marks k d).0 i j (fitted.before k d within))
            (All-cons IsEarlier mark [] (inr (refl, omega arith)) (none-yet IsEarlier));
        fit = λ r c seen before. elim (before-next r c i j before) [
          | inl earlier ↦ fitted.fit r c seen earlier
              ∙ ap (λ o. Some (unwrap_or (option_or o (found_intersection (parts_of_borders config.characters) (position_of (r, c)) shape.0 shape.1)) config.missing))
              (sym (elsewhere (position_of (r, c)) (λ is. not-before (position_of (r, c)) (subst (λ q. IsBefore (position_of (r, c)) q) is earlier))))
          | inr is ↦ subst (λ m. IsSeenCrossing bare m c → IsFit marks m c) (sym is.0)
              (subst (λ n. IsSeenCrossing bare i n → IsFit marks i n) (sym is.1) here) seen
        ];
      }

  -- the end of a line
  pub fitted-turn : (i j : ℕ) (settings : List Setting) → ((c : ℕ) → j ≤ c → IsSeenCrossing bare i c → ⊥) →
      AreFittedBefore config shape junctions i j settings → AreFittedBefore config shape junctions (i + 1) 0 settings
  fitted-turn i j settings none fitted = record {
    marks = fitted.marks;
    are = fitted.are;
    each = fitted.each;
    ascending = fitted.ascending;
    before = λ k d within. inl (earlier (get_or fitted.marks k d).0 (fitted.before k d within));
    fit = λ r c seen before. fitted.fit r c seen (turned r c seen before);
  }
    where
      earlier : (p : Position) → IsBefore p (position_of (i, j)) → p.row < i + 1
      earlier p (inl above) = omega (arith, above)
      earlier p (inr left) = omega (arith, left.0)

      turned : (r c : ℕ) → IsSeenCrossing bare r c → IsBefore (position_of (r, c)) (position_of (i + 1, 0)) → IsBefore (position_of (r, c)) (position_of (i, j))
      turned r c seen (inl above) = elim (cases_lt r i) [
        | inl less ↦ inl less
        | inr from ↦ (let level : r ≡ i = omega (arith, from, above) in
            elim (cases_lt c j) [
              | inl left ↦ inr (level, left)
              | inr past ↦ absurd (none c past (subst (λ m. IsSeenCrossing bare m c) level seen))
            ])
      ]
      turned r c seen (inr left) = let l : c < 0 = left.1 in absurd (omega arith)

  -- past the last column no crossing is seen
  pub none-past : (i c : ℕ) → shape.1 + 1 ≤ c → IsSeenCrossing bare i c → ⊥
  none-past i c past seen = omega (arith, past, seen.col)

  pub none-without : (i c : ℕ) → draws_horizontal bare i ≡ false → IsSeenCrossing bare i c → ⊥
  none-without i c none seen = false≢true (sym none ∙ seen.horizontal)

  -- in an empty table neither
  pub fitted-empty : (i : ℕ) → (shape.0 ≡ 0) ⊎ (shape.1 ≡ 0) → AreFittedBefore config shape junctions i 0 []
  fitted-empty i none = record {
    marks = [];
    are = refl;
    each = none-yet (IsMark config shape junctions);
    ascending = no-pairs (λ a b. IsBefore a.0 b.0);
    before = none-yet (λ mark. IsBefore mark.0 (position_of (i, 0)));
    fit = λ r c seen before. absurd (elim none [ inl rows ↦ omega (arith, rows, seen.has_rows) | inr columns ↦ omega (arith, columns, seen.has_columns) ]);
  }

-- ---- all crossings

-- a crossing is seen whatever the texts and sizes are
bare-seen : (d : Drawing) (i j : ℕ) → IsSeenCrossing d i j → IsSeenCrossing (bare_drawing d.config d.shape) i j
unfolding owner
bare-seen d i j seen = record {
  has_rows = seen.has_rows;
  has_columns = seen.has_columns;
  row = seen.row;
  col = seen.col;
  horizontal = seen.horizontal;
  vertical = seen.vertical;
  free = seen.free;
}

bare-junction : (junctions : Junctions) (d : Drawing) (i j : ℕ) → junction_at junctions d i j ≡ junction_at junctions (bare_drawing d.config d.shape) i j
unfolding owner
bare-junction junctions d i j = refl

before-end : (i j rows : ℕ) → i ≤ rows → IsBefore (position_of (i, j)) (position_of (rows + 1, 0))
before-end i j rows within = inl (omega (arith, within))

module _ (junctions : Junctions) (settings : List Setting) where
  fit-seen : (d : Drawing) → AreFittedBefore d.config d.shape junctions (d.shape.0 + 1) 0 settings → (new : SpannedConfig) → BecomesBy d.config new settings →
      (i j : ℕ) → IsSeenCrossing d i j → junction_at junctions d i j ≡ Some (crossing_character new d.shape (position_of (i, j)))
  fit-seen d fitted new becomes i j seen =
      let by : BecomesBy d.config new (map crossing_setting fitted.marks) = subst (BecomesBy d.config new) fitted.are becomes in
      let p : Position = position_of (i, j) in
      let found = found-new d.config new fitted.marks by p d.shape.0 d.shape.1 in
      let missing = missing-same d.config new fitted.marks by in
      bare-junction junctions d i j ∙ fitted.fit i j (bare-seen d i j seen) (before-end i j d.shape.0 seen.row)
      ∙ ap (λ o. Some (unwrap_or o d.config.missing)) (sym found)
      ∙ ap (λ m. Some (unwrap_or (found_intersection (parts_of_borders new.characters) p d.shape.0 d.shape.1) m)) (sym missing)

  module _ (config : SpannedConfig) (shape : ℕ × ℕ) (fitted : AreFittedBefore config shape junctions (shape.0 + 1) 0 settings) where
    by-marks : (new : SpannedConfig) → BecomesBy config new settings → BecomesBy config new (map crossing_setting fitted.marks)
    by-marks new becomes = subst (BecomesBy config new) fitted.are becomes

    -- each crossing that has another character is marked
    marks-all : (p : Position) (character : ℕ) → IsUnfit config shape junctions p character → Contains fitted.marks (p, character)
    marks-all p character unfit =
        let fits = fitted.fit p.row p.col unfit.seen (before-end p.row p.col shape.0 unfit.seen.row) in
        elim (mark_at fitted.marks p) as (λ o. mark_at fitted.marks p ≡ o → Contains fitted.marks (p, character)) [
          | None ↦ λ none. absurd (unfit.other (same_Some (crossing_character config shape p) character
              (sym (fits ∙ ap (λ o. Some (unwrap_or (option_or o (found_intersection (parts_of_borders config.characters) p shape.0 shape.1)) config.missing)) none) ∙ unfit.joins)))
          | Some own ↦ λ is. (let found = marked (Contains fitted.marks) fitted.marks p own (All-contains_itself fitted.marks) is in
              let mark = found.0 in
              let unfitted = (All-contains (IsMark config shape junctions) fitted.marks mark fitted.each found.1).unfit in
              let at : mark.0 ≡ p = found.2 in
              let same : mark.1 ≡ character = same_Some mark.1 character
              (sym unfitted.joins ∙ (λ k. junction_at junctions (bare_drawing config shape) (at k).row (at k).col) ∙ unfit.joins) in
              subst (Contains fitted.marks) (λ k. (at k, same k)) found.1)
        ] refl

    pub fit-all : IsTiled (layout_of (bare_drawing config shape)) → (shape.0 + 1 < 2 ^ 64) × (shape.1 + 1 < 2 ^ 64) → FitCrossings config shape junctions settings
    fit-all tiled counted = record {
      tiled = tiled;
      counted = counted;
      crossings = fitted.marks;
      are = fitted.are;
      each = λ p character. (
        (λ contained. (All-contains (IsMark config shape junctions) fitted.marks (p, character) fitted.each contained).unfit),
        marks-all p character,
      );
      ascending = fitted.ascending;
      in_range = subst (All (λ s. is_in_range s ≡ true)) (sym fitted.are) (All-map (λ s. is_in_range s ≡ true) crossing_setting fitted.marks (λ k other within. (fitted.each k other within).in_range));
      keeps = λ new becomes. differ config new fitted.marks (by-marks new becomes);
      lines = λ new becomes d e d_config e_config d_shape e_shape n.
          let by = by-marks new becomes in
          let lined : (x : Drawing) → (y : SpannedConfig) → x.config ≡ y → x.shape ≡ shape →
          (draws_vertical x n ≡ draws_vertical (bare_drawing y shape) n) × (draws_horizontal x n ≡ draws_horizontal (bare_drawing y shape) n) = λ x y is same. (
            ap (λ (c : SpannedConfig). draws_vertical (bare_drawing c x.shape) n) is ∙ ap (λ (s : ℕ × ℕ). draws_vertical (bare_drawing y s) n) same,
            ap (λ (c : SpannedConfig). draws_horizontal (bare_drawing c x.shape) n) is ∙ ap (λ (s : ℕ × ℕ). draws_horizontal (bare_drawing y s) n) same,
          ) in
          let of_d = lined d config d_config d_shape in
          let of_e = lined e new e_config e_shape in (
            of_e.0 ∙ vertical-same config new fitted.marks by shape junctions fitted.each n ∙ sym of_d.0,
            of_e.1 ∙ horizontal-same config new fitted.marks by shape junctions fitted.each n ∙ sym of_d.1,
          );
      fit = λ new becomes d is same i j seen.
          let at : AreFittedBefore d.config d.shape junctions (d.shape.0 + 1) 0 settings =
          subst (λ (c : SpannedConfig). AreFittedBefore c d.shape junctions (d.shape.0 + 1) 0 settings) (sym is)
          (subst (λ (s : ℕ × ℕ). AreFittedBefore config s junctions (s.0 + 1) 0 settings) (sym same) fitted) in
          let becomes' = subst (λ (c : SpannedConfig). BecomesBy c new settings) (sym is) becomes in
          fit-seen d at new becomes' i j seen ∙ ap (λ (s : ℕ × ℕ). Some (crossing_character new s (position_of (i, j)))) same;
    }
