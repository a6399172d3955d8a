-- The first names that are missing, and the first fields that are hidden.
use Rattle.std.proofs.Common.{◌≡◌, ◌≢◌, ◌∙◌, ◌⊎◌, ◌+◌, ◌<◌, ◌≤◌, ◌++◌, ◌∷◌, [], ℕ, true, false, not, List, Option, None, Some, ap, arith, cond, get_or, inl, inr, length, map, refl, subst, sym, take, ⊎_elim}
use Rattle.std.specs.Prelude.{MatchOption, Vec, nat_lt}
use Rattle.std.specs.List.{Contains, position_or_len}
use Rattle.std.proofs.lemmas.Bool.{cases_lt}
use Rattle.std.proofs.lemmas.Bool.Decides.{nat_tests}
use Rattle.std.specs.Borrow.{Bor}
use Rattle.std.specs.declared.alloc.Global.{Global}
use Rattle.std.proofs.lemmas.List.{get_or-map, take_more}
use Rattle.std.proofs.lemmas.List.Elements.{Contains-append_left, Contains-push, Contains-push_cases}
use Rattle.std.proofs.lemmas.List.Sums.{position_or_len_is}
use Rattle.papergrid_values.specs.Positions.{IsBefore}
use Rattle.papergrid_values.specs.declared.position.Position.{Position}
use Rattle.papergrid_draw.specs.Tiles.{IsFirstPosition}
use Rattle.papergrid_csv.specs.Numbers.{field_in}
use Rattle.papergrid_csv.specs.Rows.{row_texts}
use Rattle.papergrid_csv.specs.Judging.{IsFieldHidden, first_missing, is_found}
use Rattle.papergrid_csv.specs.ForProofs.Judging.{IsEarlier, IsHiddenBy, IsHiddenIn}
use Rattle.papergrid_csv.specs.declared.request.Alignment.{Alignment}
use Rattle.papergrid_csv.specs.declared.request.ColumnName.{ColumnName}
use Rattle.papergrid_csv.specs.declared.request.Span.{Span}

-- ---- names

module _ (head : List (List ℕ)) (entries : List (ColumnName × Alignment)) where
  -- all before one are found, and it is not
  pub missing-at : (i : ℕ) (d : ColumnName × Alignment) → i < length entries → ((k : ℕ) (e : ColumnName × Alignment) → k < i → is_found head (get_or entries k e).0 ≡ true) →
      is_found head (get_or entries i d).0 ≡ false → Some i ≡ first_missing head entries
  missing-at i d within before here =
      let at : position_or_len (λ entry. not (is_found head entry.0)) entries ≡ i =
      position_or_len_is (λ entry. not (is_found head entry.0)) entries i d (omega arith) (λ k below. ap not (before k d below)) (λ _. ap not here) in
      let inside : nat_lt i (length entries) ≡ true = grind (arith, nat_tests) in
      sym (ap (λ n. cond (nat_lt n (length entries)) (Some n) None) at ∙ ap (λ b. cond b (Some i) None) inside)

  -- all are found
  pub missing-none : (i : ℕ) → length entries ≤ i → ((k : ℕ) (e : ColumnName × Alignment) → k < i → is_found head (get_or entries k e).0 ≡ true) → None ≡ first_missing head entries
  missing-none i past before =
      let at : position_or_len (λ entry. not (is_found head entry.0)) entries ≡ length entries = by-default entries refl in
      let outside : nat_lt (length entries) (length entries) ≡ false = grind (arith, nat_tests) in
      sym (ap (λ n. cond (nat_lt n (length entries)) (Some n) None) at ∙ ap (λ b. cond b (Some (length entries)) None) outside)
    where
      by-default : (es : List (ColumnName × Alignment)) → es ≡ entries → position_or_len (λ entry. not (is_found head entry.0)) entries ≡ length entries
      by-default [] is = subst (λ es. position_or_len (λ entry. not (is_found head entry.0)) es ≡ length es) is refl
      by-default (e ∷ es) is =
          position_or_len_is (λ entry. not (is_found head entry.0)) entries (length entries) e (omega arith) (λ k below. ap not (before k e (omega arith))) (λ short. absurd (omega (arith, short)))

-- ---- fields of a row, and of rows

-- a field that is lent
pub field-lent : (fields : List (Bor (List ℕ))) (col : ℕ) (d : Bor (List ℕ)) → col < length fields → field_in col (map (λ field. field.now) fields) ≢ [] → (get_or fields col d).now ≢ []
field-lent fields col d within some none = some (get_or-map (λ field. field.now) fields col d [] within ∙ none)

-- a row that is lent
pub row-lent : (rows : List (Vec (Bor (List ℕ)) Global)) (row : ℕ) (found : Vec (Bor (List ℕ)) Global) (fields : List (Bor (List ℕ))) → row < length rows → found ≡ get_or rows row found →
    fields ≡ found.items → get_or (map row_texts rows) row [] ≡ map (λ field. field.now) fields
row-lent rows row found fields within is same =
    get_or-map row_texts rows row found [] within ∙ ap row_texts (sym is) ∙ ap (map (λ field. field.now)) (sym same)

module _ (span : Span) where
  pub column-next : (row : ℕ) (fields : List (List ℕ)) (col : ℕ) → ((c : ℕ) → c < col → IsHiddenIn span row fields c → ⊥) → (IsHiddenIn span row fields col → ⊥) →
      (c : ℕ) → c < col + 1 → IsHiddenIn span row fields c → ⊥
  column-next row fields col before here c below hidden =
      ⊎_elim (λ lt. before c lt hidden) (λ ge. let same : c ≡ col = omega (arith, below, ge) in here (subst (IsHiddenIn span row fields) same hidden)) (cases_lt c col)

  pub row-next : (rows : List (List (List ℕ))) (row : ℕ) → ((p : Position) → p.row < row → IsHiddenBy span rows p → ⊥) → ((c : ℕ) → IsHiddenIn span row (get_or rows row []) c → ⊥) →
      (p : Position) → p.row < row + 1 → IsHiddenBy span rows p → ⊥
  row-next rows row before here p below hidden =
      ⊎_elim (λ lt. before p lt hidden)
      (λ ge. let same : p.row ≡ row = omega (arith, below, ge) in here p.col (subst (λ r. IsHiddenIn span r (get_or rows r []) p.col) same hidden)) (cases_lt p.row row)

-- ---- the earlier of two

before-trans : (p q r : Position) → IsBefore p q → IsBefore q r → IsBefore p r
before-trans p q r (inl a) (inl b) = inl (omega arith)
before-trans p q r (inl a) (inr b) = inl (omega (arith, a, b.0))
before-trans p q r (inr a) (inl b) = inl (omega (arith, a.0, b))
before-trans p q r (inr a) (inr b) = inr (a.0 ∙ b.0, omega (arith, a.1, b.1))

before-between : (p q r : Position) → IsBefore r p → (IsBefore r q → ⊥) → IsBefore q p
before-between p q r (inl above) not_before =
    ⊎_elim (λ lt. absurd (not_before (inl lt))) (λ ge. inl (omega (arith, above, ge))) (cases_lt r.row q.row)
before-between p q r (inr beside) not_before =
    ⊎_elim (λ lt. absurd (not_before (inl lt)))
    (λ ge. ⊎_elim (λ lt. inl lt)
    (λ le. let same : q.row ≡ r.row = omega (arith, beside.0, ge, le) in
    ⊎_elim (λ lt. absurd (not_before (inr (sym same, lt)))) (λ no. inr (same ∙ beside.0, omega (arith, beside.1, no))) (cases_lt r.col q.col))
    (cases_lt q.row p.row)) (cases_lt r.row q.row)

module _ (P Q R : Position → Type 0) (splits : (p : Position) → R p → P p ⊎ Q p) (left : (p : Position) → P p → R p) (right : (p : Position) → Q p → R p) where
  abbrev IsFirstOf : (Position → Type 0) → Option Position → Type 0
  IsFirstOf H o = MatchOption o ((p : Position) → H p → ⊥) (IsFirstPosition H)

  pub joined : (a b e : Option Position) → IsFirstOf P a → IsFirstOf Q b → IsEarlier a b e → IsFirstOf R e
  joined None None e one two is = subst (IsFirstOf R) (sym is) (λ p h. ⊎_elim (one p) (two p) (splits p h))
  joined None (Some q) e one two is =
      subst (IsFirstOf R) (sym is) (record { it = right q two.it; earlier = λ r before h. ⊎_elim (one r) (two.earlier r before) (splits r h) })
  joined (Some p) None e one two is =
      subst (IsFirstOf R) (sym is) (record { it = left p one.it; earlier = λ r before h. ⊎_elim (one.earlier r before) (two r) (splits r h) })
  joined (Some p) (Some q) e one two (inl is) =
      subst (IsFirstOf R) (sym is.0)
      (record { it = left p one.it; earlier = λ r before h. ⊎_elim (one.earlier r before) (λ k. is.1 (before-between p q r before (λ b. two.earlier r b k))) (splits r h) })
  joined (Some p) (Some q) e one two (inr is) =
      subst (IsFirstOf R) (sym is.0)
      (record { it = right q two.it; earlier = λ r before h. ⊎_elim (one.earlier r (before-trans r q p before is.1)) (two.earlier r before) (splits r h) })

-- one span more
module _ (spans : List Span) (rows : List (List (List ℕ))) (i : ℕ) (d : Span) (within : i < length spans) where
  more-spans : take (i + 1) spans ≡ take i spans ++ get_or spans i d ∷ []
  more-spans = take_more spans i d within

  hidden-splits : (p : Position) → IsFieldHidden (take (i + 1) spans) rows p → IsFieldHidden (take i spans) rows p ⊎ IsHiddenBy (get_or spans i d) rows p
  hidden-splits p h =
      elim (Contains-push_cases (take i spans) (get_or spans i d) h.span (subst (λ l. Contains l h.span) more-spans h.listed)) [
        | inl before ↦ inl (record { span = h.span; listed = before; under = h.under; field = h.field })
        | inr is ↦ inr (subst (λ s. IsHiddenBy s rows p) (sym is) (h.under, h.field))
      ]

  hidden-before : (p : Position) → IsFieldHidden (take i spans) rows p → IsFieldHidden (take (i + 1) spans) rows p
  hidden-before p h = record {
    span = h.span;
    listed = subst (λ l. Contains l h.span) (sym more-spans) (Contains-append_left (take i spans) (get_or spans i d ∷ []) h.span h.listed);
    under = h.under;
    field = h.field;
  }

  hidden-here : (p : Position) → IsHiddenBy (get_or spans i d) rows p → IsFieldHidden (take (i + 1) spans) rows p
  hidden-here p h = record {
    span = get_or spans i d;
    listed = subst (λ l. Contains l (get_or spans i d)) (sym more-spans) (Contains-push (take i spans) (get_or spans i d));
    under = h.0;
    field = h.1;
  }

  pub span-next : (a b e : Option Position) → MatchOption a ((p : Position) → IsFieldHidden (take i spans) rows p → ⊥) (IsFirstPosition (IsFieldHidden (take i spans) rows)) →
      MatchOption b ((p : Position) → IsHiddenBy (get_or spans i d) rows p → ⊥) (IsFirstPosition (IsHiddenBy (get_or spans i d) rows)) → IsEarlier a b e →
      MatchOption e ((p : Position) → IsFieldHidden (take (i + 1) spans) rows p → ⊥) (IsFirstPosition (IsFieldHidden (take (i + 1) spans) rows))
  span-next a b e one two is =
      joined (IsFieldHidden (take i spans) rows) (IsHiddenBy (get_or spans i d) rows) (IsFieldHidden (take (i + 1) spans) rows) hidden-splits hidden-before hidden-here a b e one two is
