-- The lines of a script are what their relation says, and nothing else is.
use Rattle.std.proofs.Common.{◌≡◌, ◌≢◌, ℕ, ◌-◌, ◌+◌, List, [], ◌∷◌, ◌++◌, Bool, true, false, inl, inr, add-one, length, take, get_or, map, nat_eq, refl, ap, ◌∙◌, arith, length-append, take-append-drop, rules}
use Rattle.std.specs.List.{AllZip}
use Rattle.std.proofs.lemmas.Bool.Decides.{nat_tests}
use Rattle.std.proofs.lemmas.List.{append_cancel_right, drop_all}
use Rattle.std.proofs.Math.Seq.{drop-cons, get_or-append_seam}
use Rattle.papergrid_text.proofs.Splits.{is_split, only_split}
use Rattle.papergrid_text.specs.Text.{split_lines}
use Rattle.papergrid_script.specs.ForProofs.Read.{script_lines, without_cr, without_empty_last}
use Rattle.papergrid_script.specs.ScriptLines.{AreScriptLines, IsWithoutLast}

-- ---- one element less at the end, or none

without_last-only : {A : Type 0} (x : A) (all one other : List A) → IsWithoutLast x all one → IsWithoutLast x all other → one ≡ other
without_last-only x all one other p q = grind (arith, append_cancel_right)

-- ---- one carriage return

last_dropped : (b : ℕ) (line : List ℕ) (n : ℕ) → n + 1 ≡ length line → get_or line n 0 ≡ b → line ≡ take n line ++ b ∷ []
last_dropped b line n whole at = grind (arith, drop_all, take-append-drop, drop-cons, add-one)

last_of : (b : ℕ) (front : List ℕ) → get_or (front ++ b ∷ []) (length (front ++ b ∷ []) - 1) 0 ≡ b
last_of b front =
    let n : length (front ++ b ∷ []) - 1 ≡ length front = omega (arith, length-append front (b ∷ [])) in
    rw n (get_or-append_seam front b [] 0)

some : (line : List ℕ) → nat_eq (get_or line (length line - 1) 0) 13 ≡ true → (length line - 1) + 1 ≡ length line
some [] e = absurd (grind (arith, nat_tests, e))
some (b ∷ bs) e = omega arith

without_cr-is : (line : List ℕ) → IsWithoutLast 13 line (without_cr line)
without_cr-is line = grind (arith, by_test, last_dropped, some, nat_tests, last_of)
  where
    by_test : (b : Bool) → nat_eq (get_or line (length line - 1) 0) 13 ≡ b → IsWithoutLast 13 line (without_cr line)
    by_test true e = rw e (inl (last_dropped 13 line (length line - 1) (some line e) (grind (arith, nat_tests, e))))
    by_test false e = rw e (inr (λ front same. differs front same e, refl))
      where
        differs : (front : List ℕ) → line ≡ front ++ 13 ∷ [] → nat_eq (get_or line (length line - 1) 0) 13 ≡ false → ⊥
        differs front same e = let at : get_or line (length line - 1) 0 ≡ 13 = rw same (last_of 13 front) in grind (arith, nat_tests, e, at)

all_without : (kept : List (List ℕ)) → AllZip (IsWithoutLast 13) kept (map without_cr kept)
all_without [] = tt
all_without (piece ∷ pieces) = (without_cr-is piece, all_without pieces)

all_without-only : (kept lines : List (List ℕ)) → AllZip (IsWithoutLast 13) kept lines → lines ≡ map without_cr kept
all_without-only [] [] are = refl
all_without-only [] (line ∷ lines) are = absurd are
all_without-only (piece ∷ pieces) [] are = absurd are
all_without-only (piece ∷ pieces) (line ∷ lines) are = search (rules, without_last-only, without_cr-is, all_without-only pieces lines are.1)

-- ---- an empty last piece

nothing_ends : {A : Type 0} (front : List A) (x : A) → [] ≡ front ++ x ∷ [] → ⊥
nothing_ends [] x e = cc
nothing_ends (y ∷ front) x e = cc

one_alone : (b : ℕ) (bs : List ℕ) (front : List (List ℕ)) → (b ∷ bs) ∷ [] ≡ front ++ [] ∷ [] → ⊥
one_alone b bs [] e = cc
one_alone b bs (piece ∷ front) e = nothing_ends front [] (cc)

further : (part next : List ℕ) (parts front : List (List ℕ)) → ((front : List (List ℕ)) → next ∷ parts ≢ front ++ [] ∷ []) → part ∷ next ∷ parts ≡ front ++ [] ∷ [] → ⊥
further part next parts [] other e = cc
further part next parts (piece ∷ front) other e = other front (cc)

without_empty-is : (pieces : List (List ℕ)) → IsWithoutLast [] pieces (without_empty_last pieces)
without_empty-is [] = inr (λ front e. nothing_ends front [] e, refl)
without_empty-is ([] ∷ []) = inl refl
without_empty-is ((b ∷ bs) ∷ []) = let some : nat_eq (length (b ∷ bs)) 0 ≡ false = grind (arith, nat_tests) in rw some (inr (λ front e. one_alone b bs front e, refl))
without_empty-is (part ∷ next ∷ parts) =
    elim (without_empty-is (next ∷ parts)) [
      | inl e ↦ inl (ap (λ rest. part ∷ rest) e)
      | inr e ↦ inr (λ front same. further part next parts front e.0 same, ap (λ rest. part ∷ rest) e.1)
    ]

-- ---- the lines

pub lines_are : (input : List ℕ) → AreScriptLines input (script_lines input)
unfolding script_lines
lines_are input = record {
  pieces = split_lines input;
  kept = without_empty_last (split_lines input);
  cut = is_split input;
  but_empty_last = without_empty-is (split_lines input);
  each = all_without (without_empty_last (split_lines input));
}

pub lines_only : (input : List ℕ) (lines : List (List ℕ)) → AreScriptLines input lines → lines ≡ script_lines input
unfolding script_lines
lines_only input lines are =
    let same = only_split input are.pieces are.cut in
    let kept = without_last-only [] are.pieces are.kept (without_empty_last are.pieces) are.but_empty_last (without_empty-is are.pieces) in
    all_without-only are.kept lines are.each ∙ ap (map without_cr) (kept ∙ ap without_empty_last same)
