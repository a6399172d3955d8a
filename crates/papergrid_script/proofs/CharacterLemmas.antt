-- One character and its bytes, and the text behind a byte of ASCII.
use Rattle.std.proofs.Common.{◌≡◌, ◌<◌, ◌+◌, ◌++◌, ◌∷◌, [], ℕ, List, Bool, true, false, ◌&&◌, Some, length, refl, sym, ap, ◌∙◌, subst, arith, append-nil, length-append}
use Rattle.std.specs.Prelude.{IsUtf8}
use Rattle.std.specs.Char.{encode_utf8}
use Rattle.std.specs.Str.{all_scalars, chars, encode_utf8_all}
use Rattle.std.proofs.Math.Seq.{drop-append-add, get_or-append_seam}
use Rattle.std.proofs.lemmas.Option.{same_Some, none-some}
use Rattle.std.proofs.lemmas.Str.{chars-encodes, encodes-chars, scalars-chars, IsCharBoundary-after_ascii, IsUtf8-drop}
use Rattle.papergrid_text.specs.Text.{character_of, only}
use Rattle.papergrid_script.specs.Spelling.{IsCharacter}

pub text_behind : (front rest : List ℕ) (b : ℕ) → b < 128 → IsUtf8 (front ++ b ∷ rest) → IsUtf8 rest
text_behind front rest b low text =
    let there = get_or-append_seam front b rest 0 in
    subst IsUtf8 (drop-append-add front (b ∷ rest) 1)
    (IsUtf8-drop (front ++ b ∷ rest) (length front + 1) text
    (IsCharBoundary-after_ascii (front ++ b ∷ rest) (length front) text (omega (arith, length-append front (b ∷ rest))) (omega (arith, low, there))))

alone : (cs : List ℕ) (c : ℕ) → only cs ≡ Some c → cs ≡ c ∷ []
alone [] c h = absurd (none-some c h)
alone (d ∷ []) c h = ap (λ x. x ∷ []) (same_Some _ _ h)
alone (d ∷ next ∷ cs) c h = absurd (none-some c h)

first_true : (a : Bool) → a && true ≡ true → a ≡ true
first_true true h = refl
first_true false h = cc

pub character_read : (bytes : List ℕ) (c : ℕ) → IsUtf8 bytes → character_of bytes ≡ Some c → IsCharacter bytes c
unfolding character_of
character_read bytes c text h =
    let one = alone (chars bytes) c h in
    record {
      scalar = first_true _ (subst (λ cs. all_scalars cs ≡ true) one (scalars-chars bytes text));
      spelled = sym (encodes-chars bytes text) ∙ ap encode_utf8_all one ∙ append-nil (encode_utf8 c);
    }

pub character_spelled : (bytes : List ℕ) (c : ℕ) → IsCharacter bytes c → character_of bytes ≡ Some c
unfolding character_of
character_spelled bytes c h =
    let whole : bytes ≡ encode_utf8_all (c ∷ []) = h.spelled ∙ sym (append-nil (encode_utf8 c)) in
    let scalars : all_scalars (c ∷ []) ≡ true = rw h.scalar refl in
    ap only (ap chars whole ∙ chars-encodes (c ∷ []) scalars)
