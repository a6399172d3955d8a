-- Texts with escapes, cut at their first backslash.
use Rattle.std.proofs.Common.{◌≡◌, ◌<◌, ◌+◌, ◌-◌, ◌++◌, ◌∷◌, [], ℕ, zero, suc, List, Bool, true, false, not, cond, Option, Some, None, option_map, length, take, drop, length-take, nat_eq, refl, sym, ap, ◌∙◌, append_assoc, arith}
use Rattle.std.specs.List.{position_or_len, before_first, after_first}
use Rattle.std.proofs.Math.Utf8.{encode}
use Rattle.std.proofs.lemmas.Option.{same_Some, none-some, cond_some}
use Rattle.std.proofs.lemmas.Str.{encode_ascii}
use Rattle.papergrid_text.proofs.Places.{first_in_front, no_more_than}
use Rattle.papergrid_script.specs.Grammar.{parted_at}
use Rattle.papergrid_script.specs.ForProofs.Read.{without_cr}
use Rattle.papergrid_script.specs.Texts.{unescaped, escape_of, put_first}
use Rattle.papergrid_script.specs.ForProofs.Escapes.{IsFirstEscape, escape_at}

abbrev pub is_backslash : ℕ → Bool
is_backslash b = nat_eq b 92

-- a byte that begins no escape stays
pub unescaped-plain : (b : ℕ) (bs : List ℕ) → nat_eq b 92 ≡ false → unescaped (b ∷ bs) ≡ option_map (λ rest. b ∷ rest) (unescaped bs)
unfolding unescaped
unescaped-plain b [] plain = rw plain refl
unescaped-plain b (c ∷ bs) plain = rw plain refl

mapped_twice : (b : ℕ) (front : List ℕ) (o : Option (List ℕ)) → option_map (λ rest. b ∷ rest) (option_map (λ more. front ++ more) o) ≡ option_map (λ more. (b ∷ front) ++ more) o
mapped_twice b front None = refl
mapped_twice b front (Some more) = refl

mapped_none : (o : Option (List ℕ)) → o ≡ option_map (λ more. [] ++ more) o
mapped_none None = refl
mapped_none (Some more) = refl

-- the first byte is the one, or the position is one further on in the rest
first_position : (b : Bool) (m : ℕ) → cond (not b) (1 + m) 0 ≡ 0 → b ≡ true
first_position true m h = refl
first_position false m h = absurd (omega arith)

later_position : (b : Bool) (m n : ℕ) → cond (not b) (1 + m) 0 ≡ suc n → (b ≡ false) × (m ≡ n)
later_position true m n h = absurd (omega arith)
later_position false m n h = (refl, omega arith)

pub unescaped-parted : (bs : List ℕ) (n : ℕ) → position_or_len is_backslash bs ≡ n → n < length bs → unescaped bs ≡ option_map (λ more. take n bs ++ more) (unescaped (92 ∷ drop (n + 1) bs))
unescaped-parted [] n at within = absurd (omega arith)
unescaped-parted (b ∷ bs) zero at within = grind (arith, first_position, mapped_none)
unescaped-parted (b ∷ bs) (suc n) at within =
    let position = later_position (nat_eq b 92) _ n at in
    let next : suc n + 1 ≡ suc (n + 1) = omega arith in
    grind (arith, unescaped-plain, unescaped-parted bs n position.1 (omega arith), next, mapped_twice)

pub unescaped-whole : (bs : List ℕ) → position_or_len is_backslash bs ≡ length bs → unescaped bs ≡ Some bs
unfolding unescaped
unescaped-whole [] none = refl
unescaped-whole (b ∷ bs) none =
    let position = later_position (nat_eq b 92) _ (length bs) none in
    unescaped-plain b bs position.0 ∙ ap (option_map (λ rest. b ∷ rest)) (unescaped-whole bs position.1)

put_mapped : (o : Option ℕ) (bs left : List ℕ) (meant : ℕ) → option_map {U = ℕ × List ℕ} (λ m. (m, bs)) o ≡ Some (meant, left) → put_first o (unescaped bs) ≡ option_map (λ more. meant ∷ more) (unescaped left)
put_mapped None bs left meant h = cc
put_mapped (Some m) bs left meant h = grind (arith, same_Some)

put_none : (o : Option ℕ) (bs : List ℕ) → option_map {U = ℕ × List ℕ} (λ m. (m, bs)) o ≡ None → put_first o (unescaped bs) ≡ None
put_none None bs h = refl
put_none (Some m) bs h = cc

-- an escape, and what is left behind it
unescaped-escape : (after left : List ℕ) (meant : ℕ) → escape_at after ≡ Some (meant, left) → unescaped (92 ∷ after) ≡ option_map (λ more. meant ∷ more) (unescaped left)
unfolding unescaped
unescaped-escape [] left meant h = cc
unescaped-escape (c ∷ bs) left meant h = put_mapped (escape_of c) bs left meant h

unescaped-no_escape : (after : List ℕ) → escape_at after ≡ None → unescaped (92 ∷ after) ≡ None
unfolding unescaped
unescaped-no_escape [] h = refl
unescaped-no_escape (c ∷ bs) h = put_none (escape_of c) bs h

-- an escape means an ASCII character
one_of_three : (a b d : Bool) (bs left : List ℕ) (m : ℕ) → option_map {U = ℕ × List ℕ} (λ meant. (meant, bs)) (cond a (Some 10) (cond b (Some 9) (cond d (Some 92) None))) ≡ Some (m, left) → m < 128
one_of_three true b d bs left m h = let e : 10 ≡ m = ap (λ pair. pair.0) (same_Some (10, bs) (m, left) h) in omega arith
one_of_three false true d bs left m h = let e : 9 ≡ m = ap (λ pair. pair.0) (same_Some (9, bs) (m, left) h) in omega arith
one_of_three false false true bs left m h = let e : 92 ≡ m = ap (λ pair. pair.0) (same_Some (92, bs) (m, left) h) in omega arith
one_of_three false false false bs left m h = cc

escape_at-ascii : (after left : List ℕ) (meant : ℕ) → escape_at after ≡ Some (meant, left) → meant < 128
escape_at-ascii [] left meant h = cc
escape_at-ascii (c ∷ bs) left meant h = one_of_three (nat_eq c 110) (nat_eq c 116) (nat_eq c 92) bs left meant h

-- a CR less leaves the first backslash where it is
at_front : (v : Bool) (line shown : List ℕ) (k at : ℕ) → shown ≡ cond v (take k line) line → at ≡ position_or_len is_backslash line → IsFirstEscape shown at
at_front true line shown k at front first =
    let cut = first_in_front is_backslash line k in
    let long = length-take k line in
    let bound = no_more_than line 92 in
    rw front (omega arith)
at_front false line shown k at front first = let bound = no_more_than line 92 in rw front (omega arith)

pub escape_without_cr : (line shown : List ℕ) (at : ℕ) → shown ≡ without_cr line → at ≡ position_or_len is_backslash line → IsFirstEscape shown at
escape_without_cr line shown at front first = at_front _ line shown (length line - 1) at front first

-- ---- a pass over the escapes: the text so far, and what is meant by the rest

-- the rest begins with these plain bytes and a backslash, and then this
abbrev pub IsCut : List ℕ → List ℕ → List ℕ → Type 0
IsCut rest plain after = (plain ≡ before_first is_backslash rest) × (after ≡ after_first is_backslash rest) × (position_or_len is_backslash rest < length rest)

pub parted_cut : (rest plain after : List ℕ) → Some (plain, after) ≡ parted_at 92 rest → IsCut rest plain after
parted_cut rest plain after h = grind (arith, cond_some)

-- a text without one is whole
has_none : (some : Bool) (parts : List ℕ × List ℕ) → None ≡ cond some (Some parts) None → some ≡ false
has_none true parts h = absurd (none-some _ h)
has_none false parts h = refl

pub parted_none : (rest : List ℕ) → None ≡ parted_at 92 rest → position_or_len is_backslash rest ≡ length rest
parted_none rest h = grind (arith, has_none, no_more_than)

pub cut_open : (rest plain after : List ℕ) → IsCut rest plain after → unescaped rest ≡ option_map (λ more. plain ++ more) (unescaped (92 ∷ after))
cut_open rest plain after cut = unescaped-parted rest (position_or_len is_backslash rest) refl cut.2 ∙ rw (cut.0, cut.1) refl

-- what is meant is the text so far, and what an escape and the rest mean
abbrev pub IsSoFar : Option (List ℕ) → List ℕ → List ℕ → Type 0
IsSoFar meant text rest = meant ≡ option_map (λ more. text ++ more) (unescaped rest)

pub stopped : (meant : Option (List ℕ)) (text after : List ℕ) → None ≡ escape_at after → IsSoFar meant text (92 ∷ after) → None ≡ meant
stopped meant text after none so_far = grind (arith, unescaped-no_escape)

joined : (text piece : List ℕ) (o : Option (List ℕ)) → option_map (λ more. text ++ more) (option_map (λ more. piece ++ more) o) ≡ option_map (λ more. (text ++ piece) ++ more) o
joined text piece None = refl
joined text piece (Some more) = ap Some (simp append_assoc)

pub past_escape : (meant : Option (List ℕ)) (text after left new : List ℕ) (c : ℕ) → Some (c, left) ≡ escape_at after → new ≡ text ++ encode c → IsSoFar meant text (92 ∷ after) → IsSoFar meant new left
past_escape meant text after left new c escape pushed so_far =
    let then_left = unescaped-escape after left c (sym escape) in
    let ascii = encode_ascii c (escape_at-ascii after left c (sym escape)) in
    so_far ∙ rw (then_left, pushed, ascii) (joined text (c ∷ []) (unescaped left))

pub past_plain : (meant : Option (List ℕ)) (text rest plain after new : List ℕ) → IsCut rest plain after → new ≡ text ++ plain → IsSoFar meant text rest → IsSoFar meant new (92 ∷ after)
past_plain meant text rest plain after new cut pushed so_far =
    let open_rest = cut_open rest plain after cut in
    so_far ∙ rw (open_rest, pushed) (joined text plain (unescaped (92 ∷ after)))

pub finished : (meant : Option (List ℕ)) (text rest new : List ℕ) → position_or_len is_backslash rest ≡ length rest → new ≡ text ++ rest → IsSoFar meant text rest → Some new ≡ meant
finished meant text rest new none pushed so_far = grind (arith, unescaped-whole)
