-- The lines of a text.
use Rattle.std.proofs.Common.{◌≡◌, ◌≢◌, ℕ, ◌<◌, List, [], ◌∷◌, length, refl, ap, sym, ◌∙◌, arith, true, false, Bool, cond, rules}
use Rattle.std.specs.Prelude.{◌==◌}
use Rattle.std.specs.List.{join_with_byte, position_or_len, before_first, after_first, onto_first, All}
use Rattle.std.proofs.lemmas.List.Elements.{All-nil, All-cons, All-head, All-tail}
use Rattle.std.proofs.lemmas.List.Splits.{slice_split_first, slice_split_none, slice_split_at, length-slice_split, join_with_byte-slice_split}
use Rattle.std.proofs.lemmas.List.Sums.{fails_before_first}
use Rattle.std.proofs.lemmas.Bool.{eqb-false, ne_eqb}
use Rattle.papergrid_text.specs.Text.{HasNoNewline, IsLines, split_lines}

-- ---- the first line

pub split_first : (bs line rest : List ℕ) → position_or_len (λ b. b == 10) bs < length bs → line ≡ before_first (λ b. b == 10) bs → rest ≡ after_first (λ b. b == 10) bs → split_lines bs ≡ line ∷ split_lines rest
split_first bs line rest h l r = rw (l, r) (slice_split_first (λ b. b == 10) bs 0 h)

pub split_whole : (bs : List ℕ) → position_or_len (λ b. b == 10) bs ≡ length bs → split_lines bs ≡ bs ∷ []
split_whole bs h = slice_split_none (λ b. b == 10) bs (λ k d below. fails_before_first (λ b. b == 10) bs k d (omega arith))

-- ---- the lines are the one list of parts that has no newline and joins to the text

plain_onto : (b : ℕ) (parts : List (List ℕ)) → b ≢ 10 → All HasNoNewline parts → All HasNoNewline (onto_first b parts)
plain_onto b [] n h = All-cons HasNoNewline (b ∷ []) [] (All-cons (λ c. c ≢ 10) b [] n (All-nil (λ c. c ≢ 10))) (All-nil HasNoNewline)
plain_onto b (part ∷ parts) n h = All-cons HasNoNewline (b ∷ part) parts (All-cons (λ c. c ≢ 10) b part n (All-head HasNoNewline part parts h)) (All-tail HasNoNewline part parts h)

plain_step : (b : ℕ) (parts : List (List ℕ)) (v : Bool) → (b == 10) ≡ v → All HasNoNewline parts → All HasNoNewline (cond v ([] ∷ parts) (onto_first b parts))
plain_step b parts true e h = All-cons HasNoNewline [] parts (All-nil (λ c. c ≢ 10)) h
plain_step b parts false e h = plain_onto b parts (λ same. eqb-false b 10 e same) h

plain_lines : (text : List ℕ) → All HasNoNewline (split_lines text)
plain_lines [] = All-cons HasNoNewline [] [] (All-nil (λ c. c ≢ 10)) (All-nil HasNoNewline)
plain_lines (b ∷ bs) = plain_step b (split_lines bs) (b == 10) refl (plain_lines bs)

fails_all : (text : List ℕ) → HasNoNewline text → All (λ b. (b == 10) ≡ false) text
fails_all text h k d below = ne_eqb _ 10 (h k d below)

split_of_join : (parts : List (List ℕ)) → 0 < length parts → All HasNoNewline parts → split_lines (join_with_byte 10 parts) ≡ parts
split_of_join [] some h = absurd (omega arith)
split_of_join (x ∷ []) some h = slice_split_none (λ b. b == 10) x (fails_all x (All-head HasNoNewline x [] h))
split_of_join (x ∷ y ∷ more) some h =
    slice_split_at (λ b. b == 10) x 10 (join_with_byte 10 (y ∷ more)) (fails_all x (All-head HasNoNewline x (y ∷ more) h)) refl
    ∙ ap (λ parts. x ∷ parts) (split_of_join (y ∷ more) (omega arith) (All-tail HasNoNewline x (y ∷ more) h))

pub is_split : (text : List ℕ) → IsLines text (split_lines text)
is_split text = search (rules, length-slice_split, plain_lines, join_with_byte-slice_split)

pub only_split : (text : List ℕ) (parts : List (List ℕ)) → IsLines text parts → parts ≡ split_lines text
only_split text parts is = sym (split_of_join parts is.some is.plain) ∙ ap split_lines is.joined
