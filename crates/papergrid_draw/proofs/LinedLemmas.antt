-- The lines of a picture, each ended by a line feed.
use Rattle.std.proofs.Common.{◌≡◌, ◌≢◌, ◌⊎◌, ◌==◌, ◌∙◌, ◌+◌, ℕ, List, [], ◌∷◌, ◌++◌, Option, false, ap, append-nil, append_assoc, arith, length, refl, subst, sym, take, inl, inr, min}
use Rattle.std.specs.Io.KnownBytes.{Appends}
use Rattle.std.specs.List.{join_with_byte}
use Rattle.std.proofs.lemmas.Bool.{cases_Bool}
use Rattle.std.proofs.lemmas.Bool.Decides.{nat_tests}
use Rattle.std.proofs.lemmas.List.{take-append-le, take_all}
use Rattle.papergrid_draw.specs.Drawings.{Drawing}
use Rattle.papergrid_draw.specs.Margins.{printed, printed_lines}
use Rattle.std.proofs.Math.Seq.{take-append-add}
use Rattle.papergrid_text.proofs.KnownLemmas.{appends_more}
use Rattle.papergrid_draw.proofs.PrinterLemmas.{printed-none, printed-some}
use Rattle.papergrid_draw.specs.Lined.{ended_lines, lined}

-- joined by line feeds, and one at the end
ended-joined : (lines : List (List ℕ)) → length lines ≢ 0 → join_with_byte 10 lines ++ 10 ∷ [] ≡ ended_lines lines
ended-joined [] some = absurd (some refl)
ended-joined (line ∷ []) some = sym (append-nil (line ++ 10 ∷ []))
ended-joined (line ∷ next ∷ lines) some =
    append_assoc line (10 ∷ join_with_byte 10 (next ∷ lines)) (10 ∷ [])
    ∙ ap (λ more. line ++ (10 ∷ more)) (ended-joined (next ∷ lines) (λ none. omega (arith, none)))
    ∙ sym (append_assoc line (10 ∷ []) (ended_lines (next ∷ lines)))

ended-none : (lines : List (List ℕ)) → length lines ≡ 0 → join_with_byte 10 lines ≡ ended_lines lines
ended-none [] none = refl
ended-none (line ∷ lines) none = absurd (omega (arith, none))

pub lined-some : (d : Drawing) → d.shape.0 ≢ 0 → d.shape.1 ≢ 0 → length (printed_lines d) ≢ 0 → printed d ++ 10 ∷ [] ≡ lined d
unfolding lined
lined-some d rows columns lines =
    let r : (d.shape.0 == 0) ≡ false = grind (arith, nat_tests) in
    let c : (d.shape.1 == 0) ≡ false = grind (arith, nat_tests) in
    ap (λ l. l ++ 10 ∷ []) (printed-some d r c) ∙ ended-joined (printed_lines d) lines ∙ rw (r, c) refl

pub lined-none : (d : Drawing) → ((d.shape.0 ≢ 0) × (d.shape.1 ≢ 0) × (length (printed_lines d) ≢ 0) → ⊥) → printed d ≡ lined d
unfolding lined
lined-none d none = elim (cases_Bool (d.shape.0 == 0)) [
  | inl r ↦ printed-none d (inl r) ∙ rw r refl
  | inr r ↦ elim (cases_Bool (d.shape.1 == 0)) [
    | inl c ↦ printed-none d (inr c) ∙ rw (r, c) refl
    | inr c ↦
        let rows : d.shape.0 ≢ 0 = grind (arith, nat_tests, r) in
        let columns : d.shape.1 ≢ 0 = grind (arith, nat_tests, c) in
        elim (cases_Bool (length (printed_lines d) == 0)) [
          | inl l ↦ let empty : length (printed_lines d) ≡ 0 = grind (arith, nat_tests, l) in printed-some d r c ∙ ended-none (printed_lines d) empty ∙ rw (r, c) refl
          | inr l ↦ let some : length (printed_lines d) ≢ 0 = grind (arith, nat_tests, l) in absurd (none (rows, columns, some))
        ]
  ]
]

-- what begins a picture begins its lines
begun : (n : ℕ) (front whole : List ℕ) → whole ≡ front ++ 10 ∷ [] → (m : ℕ) × (take n front ≡ take m whole)
begun n front whole is =
    (min n (length front), take-min n front ∙ sym (ap (take (min n (length front))) is ∙ take-append-le (min n (length front)) front (10 ∷ []) (omega arith)))
  where
    take-min : (n : ℕ) (xs : List ℕ) → take n xs ≡ take (min n (length xs)) xs
    take-min n xs = elim (cases_Bool (n == min n (length xs))) [
      | inl same ↦ let e : n ≡ min n (length xs) = grind (arith, nat_tests, same) in ap (λ k. take k xs) e
      | inr other ↦
          let e : n ≢ min n (length xs) = grind (arith, nat_tests, other) in
          take_all n xs (omega (arith, e)) ∙ sym (take_all (min n (length xs)) xs (omega (arith, e)))
    ]

-- they are the same, or one line feed more
lined-or : (d : Drawing) → (printed d ≡ lined d) ⊎ (printed d ++ 10 ∷ [] ≡ lined d)
lined-or d = elim (cases_Bool (d.shape.0 == 0)) [
  | inl r ↦ let zero_rows : d.shape.0 ≡ 0 = grind (arith, nat_tests, r) in inl (lined-none d (λ all. all.0 zero_rows))
  | inr r ↦ elim (cases_Bool (d.shape.1 == 0)) [
    | inl c ↦ let zero_columns : d.shape.1 ≡ 0 = grind (arith, nat_tests, c) in inl (lined-none d (λ all. all.1 zero_columns))
    | inr c ↦ elim (cases_Bool (length (printed_lines d) == 0)) [
      | inl l ↦ let zero_lines : length (printed_lines d) ≡ 0 = grind (arith, nat_tests, l) in inl (lined-none d (λ all. all.2 zero_lines))
      | inr l ↦
          let rows : d.shape.0 ≢ 0 = grind (arith, nat_tests, r) in
          let columns : d.shape.1 ≢ 0 = grind (arith, nat_tests, c) in
          let some : length (printed_lines d) ≢ 0 = grind (arith, nat_tests, l) in
          inr (lined-some d rows columns some)
    ]
  ]
]

pub lined-begun : (d : Drawing) (old new : Option (List ℕ)) (n : ℕ) → Appends old new (take n (printed d)) → (m : ℕ) × Appends old new (take m (lined d))
lined-begun d old new n are = elim (lined-or d) [
  | inl same ↦ (n, subst (λ (l : List ℕ). Appends old new (take n l)) same are)
  | inr more ↦ (let found = begun n (printed d) (lined d) (sym more) in (found.0, subst (Appends old new) found.1 are))
]

-- after the picture, a beginning of the last line feed
pub lined-last : (d : Drawing) (old between new : Option (List ℕ)) (n : ℕ) → printed d ++ 10 ∷ [] ≡ lined d →
    Appends old between (printed d) → Appends between new (take n (10 ∷ [])) → (m : ℕ) × Appends old new (take m (lined d))
lined-last d old between new n is first rest =
    (length (printed d) + n, subst (Appends old new) (sym (take-append-add (printed d) (10 ∷ []) n) ∙ ap (take (length (printed d) + n)) is) (appends_more old between new _ _ first rest))
