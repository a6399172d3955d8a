-- The bytes of characters that are added one by one, and of the pieces that they fill.
use Rattle.std.proofs.Common.{Result, Ok, Err, OnOk, ◌≡◌, ◌≤◌, ◌-◌, ℕ, ◌+◌, arith, take, List, [], ◌∷◌, ◌++◌, Bool, true, false, Option, replicate, zero, suc, refl, ap, sym, ◌∙◌, append_assoc}
use Rattle.std.specs.Prelude.{◌==◌, if◌then◌else◌, encode_utf8, encode_utf8_all}
use Rattle.std.specs.List.{slice_range}
use Rattle.std.specs.Result.{is_ok}
use Rattle.std.specs.Str.{IsAscii}
use Rattle.std.proofs.lemmas.List.{append-nil, replicate-append-replicate, take-replicate}
use Rattle.std.proofs.lemmas.List.Concat.{flat_map-append}
use Rattle.std.proofs.lemmas.Str.{encodes-append}
use Rattle.papergrid_draw.specs.Bytes.{piece_bytes, pieces_bytes}
use Rattle.papergrid_draw.specs.Pieces.{Kind, Piece, fill, fill_text}
use Rattle.papergrid_draw.specs.ForProofs.Pens.{fill_bytes}

-- one more of a character
pub fill_text-more : (character n : ℕ) → fill_text character (n + 1) ≡ fill_text character n ++ encode_utf8 character
fill_text-more character n =
    ap encode_utf8_all (sym (replicate-append-replicate n 1 character))
    ∙ encodes-append (replicate n character) (character ∷ [])
    ∙ ap (λ more. fill_text character n ++ more) (append-nil (encode_utf8 character))

-- after so many, one more
pub added_one : (before old new : List ℕ) (character n : ℕ) → old ≡ before ++ fill_text character n → new ≡ old ++ encode_utf8 character → new ≡ before ++ fill_text character (n + 1)
added_one before old new character n so_far more =
    more ∙ ap (λ line. line ++ encode_utf8 character) so_far
    ∙ append_assoc before (fill_text character n) (encode_utf8 character)
    ∙ ap (λ text. before ++ text) (sym (fill_text-more character n))

-- blanks are written as they are
pub blanks-are : (n : ℕ) → fill_text 32 n ≡ replicate n 32
unfolding lib.Utf8.encode
blanks-are zero = refl
blanks-are (suc n) = ap (λ more. 32 ∷ more) (blanks-are n)

-- they are ASCII
pub blanks-ascii : (n : ℕ) → IsAscii (replicate n 32)
blanks-ascii zero i = omega arith
blanks-ascii (suc n) zero = omega arith
blanks-ascii (suc n) (suc i) = blanks-ascii n i

-- the first of them
pub blanks-front : (all : List ℕ) (n m : ℕ) → all ≡ replicate n 32 → m ≤ n → slice_range all 0 m ≡ replicate m 32
blanks-front all n m are within =
    let whole : m - 0 ≡ m = omega arith in
    ap (λ k. take k all) whole ∙ ap (take m) are ∙ take-replicate m n 32 within

-- after so many of some blanks, more of them
pub added_blanks : (before old new : List ℕ) (n more m : ℕ) → old ≡ before ++ replicate n 32 → new ≡ old ++ replicate more 32 → m ≡ n + more →
    new ≡ before ++ replicate m 32
added_blanks before old new n more m so_far step is =
    step ∙ ap (λ line. line ++ replicate more 32) so_far
    ∙ append_assoc before (replicate n 32) (replicate more 32)
    ∙ ap (λ blanks. before ++ blanks) (replicate-append-replicate n more 32 ∙ ap (λ k. replicate k 32) (sym is))

-- three texts one after another
pub added_three : (before first second new a b c : List ℕ) → first ≡ before ++ a → second ≡ first ++ b → new ≡ second ++ c → new ≡ before ++ (a ++ b ++ c)
added_three before first second new a b c one two three =
    three ∙ ap (λ line. line ++ c) (two ∙ ap (λ line. line ++ b) one ∙ append_assoc before a b) ∙ append_assoc before (a ++ b) c

-- what fills up is one piece, or none
one_or_none : (none : Bool) (piece : Piece) → pieces_bytes (if none then [] else (piece ∷ [])) ≡ (if none then [] else piece_bytes piece)
one_or_none true piece = refl
one_or_none false piece = append-nil (piece_bytes piece)

-- and has these bytes
pub fill_is : (kind : Kind) (character n : ℕ) (color : Option (List ℕ × List ℕ)) → pieces_bytes (fill kind character n color) ≡ fill_bytes color character n
fill_is kind character n color =
    one_or_none (n == 0) (record { kind = kind; text = fill_text character n; columns = n; color = color })

-- the bytes of pieces one after another
pub pieces-append : (a b : List Piece) → pieces_bytes (a ++ b) ≡ pieces_bytes a ++ pieces_bytes b
pieces-append a b = flat_map-append piece_bytes a b

-- what was added, if it was
pub on_ok_added : {A E : Type 0} (r : Result A E) (old more new : List ℕ) → new ≡ (if is_ok r then old ++ more else old) → OnOk r (new ≡ old ++ more)
on_ok_added (Ok x) old more new is = is
on_ok_added (Err e) old more new is = tt
