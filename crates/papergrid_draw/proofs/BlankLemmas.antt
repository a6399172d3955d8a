-- Texts of one line that stand between blanks alone.
use Rattle.std.proofs.Common.{◌≡◌, ℕ, ◌+◌, ◌-◌, List, [], ◌∷◌, ◌++◌, None, Some, length, zero, suc, refl, ap, arith, sym, ◌∙◌, append_assoc, replicate}
use Rattle.std.proofs.lemmas.List.{append-nil, replicate-append-replicate}
use Rattle.std.specs.Prelude.{if◌then◌else◌}
use Rattle.std.proofs.lemmas.Bool.{ne_eqb}
use Rattle.papergrid_values.specs.declared.alignment.AlignmentHorizontal.{AlignmentHorizontal}
use Rattle.papergrid_draw.specs.Bytes.{colored, pieces_bytes}
use Rattle.papergrid_draw.specs.Contents as contents
use Rattle.papergrid_draw.specs.Contents.{aligned_width, before, content, free_before, inner, shown_line, single_line}
use Rattle.papergrid_draw.specs.Pieces.{fill_text}
use Rattle.papergrid_draw.specs.ForProofs.Blanks.{IsBetweenBlanks}
use Rattle.papergrid_draw.specs.ForProofs.Blocks.{filled_up}
use Rattle.papergrid_draw.specs.ForProofs.Pens.{fill_bytes}
use Rattle.papergrid_draw.specs.declared.blanks.Blanks.{Blanks}
use Rattle.papergrid_draw.proofs.BlockLemmas.{aligned-only, content-only, line-filled, only_line}
use Rattle.papergrid_draw.proofs.PenLemmas.{blanks-are}

-- blanks without a colour
pub blank_bytes : (n : ℕ) → fill_bytes None 32 n ≡ replicate n 32
blank_bytes zero = refl
blank_bytes (suc n) =
    ap (λ none. if none then [] else colored None (fill_text 32 (suc n))) (ne_eqb (suc n) 0 (λ e. omega (arith, e)))
    ∙ append-nil (fill_text 32 (suc n)) ∙ blanks-are (suc n)

grouped : (a b t c d : List ℕ) → a ++ b ++ t ++ c ++ d ≡ (a ++ b) ++ t ++ (c ++ d)
grouped a b t c d = simp append_assoc

module _ (look : contents.Look) (blanks : Blanks) (between : IsBetweenBlanks look blanks) (text : List ℕ) where
  -- what fills a line up is one run of blanks on each side
  filled_by : (start rest : ℕ) → filled_up look None text (start, rest) ≡ replicate (blanks.left + start) 32 ++ text ++ replicate (rest + blanks.right) 32
  filled_by start rest =
      (λ i. fill_bytes (between.left_color i) (between.left_fill i) (between.left i)
      ++ fill_bytes (between.justification_color i) (between.justification i) start
      ++ colored None text
      ++ fill_bytes (between.justification_color i) (between.justification i) rest
      ++ fill_bytes (between.right_color i) (between.right_fill i) (between.right i))
      ∙ (λ i. blank_bytes blanks.left i ++ blank_bytes start i ++ append-nil text i ++ blank_bytes rest i ++ blank_bytes blanks.right i)
      ∙ grouped (replicate blanks.left 32) (replicate start 32) text (replicate rest 32) (replicate blanks.right 32)
      ∙ (λ i. replicate-append-replicate blanks.left start 32 i ++ text ++ replicate-append-replicate rest blanks.right 32 i)

  module _ (own width : ℕ) where
    abbrev pub one_line : contents.Block
    one_line = record { look = look; lines = (text, own) ∷ []; color = None; width = width; height = 1 }

    only : only_line one_line ≡ (text, own)
    only = ap (λ trims. shown_line trims (text, own)) between.line

    -- and stands in the place of a text of one line
    pub stands_between : (horizontal : AlignmentHorizontal) (start rest : ℕ) → look.horizontal ≡ horizontal → start ≡ free_before horizontal ((width - (blanks.left + blanks.right)) - own) → rest ≡ (width - (blanks.left + blanks.right)) - (start + own) →
        replicate (blanks.left + start) 32 ++ text ++ replicate (rest + blanks.right) 32 ≡ pieces_bytes (content one_line 0)
    stands_between horizontal start rest same first last =
        let line = only_line one_line in
        let columns : inner one_line ≡ width - (blanks.left + blanks.right) = (λ i. width - (between.left i + between.right i)) in
        let aligned : aligned_width one_line line ≡ own = aligned-only one_line refl ∙ ap (λ l. l.1) only in
        let starts : before one_line line ≡ start = (λ i. free_before (same i) (columns i - aligned i)) ∙ sym first in
        let ends : inner one_line - (before one_line line + line.1) ≡ rest = (λ i. columns i - (starts i + (only i).1)) ∙ sym last in
        sym (filled_by start rest)
        ∙ sym (λ i. filled_up look None (only i).0 (starts i, ends i))
        ∙ line-filled one_line line ∙ content-only one_line refl between.top between.lines refl

-- a text of one line has that line
pub single_is : (lines : List (List ℕ × ℕ)) (line : List ℕ × ℕ) → single_line lines ≡ Some line → lines ≡ line ∷ []
single_is [] line one = cc
single_is (first ∷ []) line one = cc
single_is (first ∷ next ∷ more) line one = cc

-- and no other has
pub not_single : (lines : List (List ℕ × ℕ)) → (length lines ≡ 1 → ⊥) → single_line lines ≡ None
not_single [] many = refl
not_single (first ∷ []) many = absurd (many refl)
not_single (first ∷ next ∷ more) many = refl
