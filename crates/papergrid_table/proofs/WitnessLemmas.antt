-- The message of the lines that name the cells which certify sizes.
use Rattle.std.proofs.Common.{◌≡◌, ◌-◌, ◌++◌, ◌∷◌, ◌∙◌, ℕ, true, false, List, [], Option, ap, arith, drop, length, length-append, subst, sym, take}
use Rattle.std.specs.Prelude.{IfOk, MatchOption, Result, Ok, Err, nat_eq, option_map, string_bytes, String}
use Rattle.std.specs.Global.{Global}
use Rattle.std.proofs.Math.Seq.{drop-append_seam}
use Rattle.std.proofs.lemmas.List.{take-append-drop}
use Rattle.std.specs.Cmp.Lexicographic.{other_text, pointwise, same_text}
use Rattle.papergrid_values.specs.declared.per_direction.PerDirection.{PerDirection}
use Rattle.papergrid_tracks.specs.declared.sizing.Sizing.{Sizing}
use Rattle.papergrid_tracks.specs.declared.solution.Solved.{Solved}
use Rattle.papergrid_layout.specs.Certificates.{solutions_of}
use Rattle.papergrid_script.specs.Outputs.{OfOutcome, outcome_sizes}
use Rattle.papergrid_script.specs.ScriptLines.{IsWithoutLast}
use Rattle.papergrid_table.specs.Witness.{IsMessageOf, IsTextOf, witness_lines}

-- ---- a line feed at the end

last : (lines front : List ℕ) (b : ℕ) → lines ≡ front ++ b ∷ [] → drop (length lines - 1) lines ≡ b ∷ []
last lines front b is =
    let n : length (front ++ b ∷ []) - 1 ≡ length front = omega (arith, length-append front (b ∷ [])) in
    ap (λ (l : List ℕ). drop (length l - 1) l) is ∙ ap (λ k. drop k (front ++ b ∷ [])) n ∙ drop-append_seam front (b ∷ [])

pub ends-so : (lines end kept : List ℕ) (b : ℕ) → end ≡ b ∷ [] → pointwise nat_eq (drop (length lines - length end) lines) end ≡ true → kept ≡ take (length lines - length end) lines →
    lines ≡ kept ++ b ∷ []
ends-so lines end kept b one same is =
    sym (take-append-drop (length lines - length end) lines)
    ∙ ap (λ rest. take (length lines - length end) lines ++ rest) (same_text (drop (length lines - length end) lines) end (sym same) ∙ one)
    ∙ ap (λ front. front ++ b ∷ []) (sym is)

pub ends-otherwise : (lines end front : List ℕ) (b : ℕ) → end ≡ b ∷ [] → pointwise nat_eq (drop (length lines - length end) lines) end ≡ false → lines ≡ front ++ b ∷ [] → ⊥
ends-otherwise lines end front b one other is =
    other_text (drop (length lines - length end) lines) end (sym other) (ap (λ (e : List ℕ). drop (length lines - length e) lines) one ∙ last lines front b is ∙ sym one)

-- ---- the message

pub message-by : {E : Type 0} (lines kept text : List ℕ) → IsWithoutLast 10 lines kept → IsTextOf kept text → (result : Result (String Global) E) →
    IfOk result (λ message. string_bytes message ≡ text) → IfOk result (λ message. IsMessageOf lines (string_bytes message))
message-by lines kept text without so (Ok message) is = (kept, without, subst (IsTextOf kept) (sym is) so)
message-by lines kept text without so (Err e) is = tt

pub script-message : {E : Type 0} (sizing : Sizing) (script lines items : List ℕ) → lines ≡ items → OfOutcome sizing script (λ outcome. items ≡ witness_lines (outcome_sizes outcome)) →
    (result : Result (String Global) E) → IfOk result (λ message. IsMessageOf lines (string_bytes message)) →
    IfOk result (λ message. OfOutcome sizing script (λ outcome. IsMessageOf (witness_lines (outcome_sizes outcome)) (string_bytes message)))
script-message sizing script lines items same so (Ok message) is = (so.0, so.1, subst (λ l. IsMessageOf l (string_bytes message)) (same ∙ so.2) is)
script-message sizing script lines items same so (Err e) is = tt

pub text-message : {E : Type 0} (IsNone : Type 0) (IsSo : PerDirection Solved → Type 0) (lines items : List ℕ) → lines ≡ items →
    (found : Option (PerDirection Solved)) × MatchOption found IsNone IsSo × (items ≡ witness_lines (option_map solutions_of found)) →
    (result : Result (String Global) E) → IfOk result (λ message. IsMessageOf lines (string_bytes message)) →
    IfOk result (λ message. (found : Option (PerDirection Solved)) × MatchOption found IsNone IsSo × IsMessageOf (witness_lines (option_map solutions_of found)) (string_bytes message))
text-message IsNone IsSo lines items same so (Ok message) is = (so.0, so.1, subst (λ l. IsMessageOf l (string_bytes message)) (same ∙ so.2) is)
text-message IsNone IsSo lines items same so (Err e) is = tt
