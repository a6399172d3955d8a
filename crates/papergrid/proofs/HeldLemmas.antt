-- Rows held, one more at a time, and their texts.
use Rattle.std.proofs.Common.{◌≡◌, ◌++◌, ◌∙◌, ℕ, Global, List, [], ◌∷◌, Vec, ap, map, refl, subst, sym, arith}
use Rattle.std.specs.List.{AllZip}
use Rattle.std.proofs.lemmas.List.{map-append}
use Rattle.std.proofs.lemmas.Simd.{map-map}
use Rattle.papergrid_values.specs.declared.position.Position.{Position}
use Rattle.papergrid_text.proofs.RowSteps.{zip_more}
use Rattle.papergrid_draw.specs.Cells.{lines_at}
use Rattle.papergrid.proofs.FirstLines.{lines_of_made}

pub zip_pushed : {A B C : Type 0} (R : A → B → Type 0) (f : C → B) (xs : List A) (held pushed : List C) (x : A) (y : C) →
    pushed ≡ held ++ y ∷ [] → AllZip R xs (map f held) → R x (f y) → AllZip R (xs ++ x ∷ []) (map f pushed)
zip_pushed R f xs held pushed x y is so_far next = grind (arith, map-append, zip_more)

pub zip_none : {A B C : Type 0} (R : A → B → Type 0) (f : C → B) (held : List C) → held ≡ [] → AllZip R [] (map f held)
zip_none R f held is = subst (λ ys. AllZip R [] (map f ys)) (sym is) tt

-- the lines of the text of a cell are those of the cell
pub lines_of_texts : {T : Type 0} (lines : List ℕ → List (List ℕ × ℕ)) (text : T → List ℕ) (rows : List (Vec T Global)) (p : Position) →
    lines_at lines (map (λ row. map text row.items) rows) p ≡ lines_at (λ cell. lines (text cell)) (map (λ row. row.items) rows) p
lines_of_texts {T = T} lines text rows p =
    ap (λ texts. lines_at lines texts p) (sym (map-map (map text) (λ (row : Vec T Global). row.items) rows))
    ∙ sym (lines_of_made text lines (λ cell. lines (text cell)) (λ cell. refl) (map (λ row. row.items) rows) p)
