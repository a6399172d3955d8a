-- What is spelled as the grammar says is read.
use Rattle.std.proofs.Common.{◌≡◌, ◌<◌, ◌+◌, ◌++◌, ◌∷◌, [], ℕ, suc, List, true, false, not, Some, option_map, length, drop, codes, nat_eq, refl, sym, ap, ◌∙◌, subst, arith, length-append, lit<, inl, inr}
use Rattle.std.specs.List.{list_all, position_or_len}
use Rattle.std.specs.Str.{all_ascii_digits}
use Rattle.std.proofs.lemmas.Bool.{and_parts}
use Rattle.std.proofs.lemmas.Str.Parse.{tells_all_ascii_digits}
use Rattle.std.proofs.lemmas.Bool.Decides.{nat_tests}
use Rattle.std.specs.Prelude.{IsUtf8}
use Rattle.std.proofs.lemmas.Str.{is_utf8-from_IsUtf8}
use Rattle.std.proofs.Math.Seq.{take-append_seam}
use Rattle.papergrid_script.proofs.EscapeLemmas.{unescaped-plain}
use Rattle.std.proofs.lemmas.List.Folds.{list_all-append}
use borrow.Author.Tests.{eq-eqb}
use Rattle.papergrid_values.specs.declared.entity.Entity.{Entity}
use Rattle.papergrid_values.specs.declared.entity.Entity.TheVariants as entities
use Rattle.papergrid_values.specs.declared.indent.Indent.{Indent}
use Rattle.papergrid_values.specs.declared.position.Position.{Position}
use Rattle.papergrid_values.specs.declared.sides.Sides.{Sides}
use Rattle.papergrid_config.specs.declared.setting.Setting.{Setting}
use Rattle.papergrid_config.specs.declared.setting.Setting.TheVariants.{SetPadding}
use Rattle.papergrid_script.specs.Spelling.{Said, Nothing, Columns, Set, Row, Cell}
use Rattle.papergrid_script.specs.Grammar.{parted_at, number_said, position_said, position_and_count, entity_said, sides_of, padding_of, number_and_character, keyword_setting, keyword_says, text_says, line_says}
use Rattle.papergrid_script.specs.Spelling.{IsNumber, IsPosition, IsEntity, AreSides, Four, IsCharacter, IsSetting, Pad, Colspan, Rowspan, Border, Vline, Hline, Novline, Nohline, Means, Ended, Plain, Newline, Tab, Backslash, IsLine}
use Rattle.papergrid_script.proofs.CharacterLemmas.{character_spelled}
use Rattle.papergrid_script.proofs.ReadLemmas.{cell_at}
use Rattle.papergrid_script.specs.Texts.{unescaped, put_first}

-- a byte that does not stand in a word
abbrev lacks : ℕ → List ℕ → Type 0
lacks c word = list_all (λ b. not (nat_eq b c)) word ≡ true

-- ---- the parts around a byte

position_after : (c : ℕ) (word rest : List ℕ) → lacks c word → position_or_len (λ b. nat_eq b c) (word ++ c ∷ rest) ≡ length word
position_after c [] rest none = let here : nat_eq c c ≡ true = eq-eqb c c refl in rw here refl
position_after c (b ∷ word) rest none =
    let both = and_parts (not (nat_eq b c)) (list_all (λ x. not (nat_eq x c)) word) none in
    let other : not (nat_eq b c) ≡ true = both.0 in
    let later : position_or_len (λ b. nat_eq b c) (word ++ c ∷ rest) ≡ length word = position_after c word rest both.1 in
    rw other (omega (arith, later))

behind : (c : ℕ) (word rest : List ℕ) → drop (length word + 1) (word ++ c ∷ rest) ≡ rest
behind c [] rest = refl
behind c (b ∷ word) rest = let next : suc (length word) + 1 ≡ suc (length word + 1) = omega arith in rw next (behind c word rest)

pub parted_after : (c : ℕ) (word rest : List ℕ) → lacks c word → parted_at c (word ++ c ∷ rest) ≡ Some (word, rest)
parted_after c word rest none = grind (arith, position_after, length-append, take-append_seam, behind)

-- ---- numbers and entities

pub number_spelled : (digits : List ℕ) (n : ℕ) → IsNumber digits n → number_said digits ≡ Some n
unfolding number_said
number_spelled digits n h = grind arith

-- a digit is none of the other characters of the grammar
digits_lack : (c : ℕ) (digits : List ℕ) → c < 48 → all_ascii_digits digits ≡ true → lacks c digits
digits_lack c [] low h = refl
digits_lack c (d ∷ digits) low h =
    let p = tells_all_ascii_digits.parts d digits h in
    let other : nat_eq d c ≡ false = grind (arith, nat_tests, p.0.0) in
    rw other (digits_lack c digits low p.1)

position_spelled : (bytes : List ℕ) (position : Position) → IsPosition bytes position → position_said bytes ≡ Some position
unfolding position_said
position_spelled bytes position h = grind (arith, parted_after, digits_lack, number_spelled)

position_lacks : (bytes : List ℕ) (position : Position) → IsPosition bytes position → lacks 32 bytes
position_lacks bytes position h = grind (arith, list_all-append, digits_lack)

-- a number and a comma are no star, and no letter stands first
number_first : (row col : List ℕ) → all_ascii_digits row ≡ true → 0 < length row → option_map cell_at (position_said (row ++ 44 ∷ col)) ≡ entity_said (row ++ 44 ∷ col)
unfolding entity_said
number_first [] col h some = absurd (omega arith)
number_first (d ∷ digits) col h some = grind (arith, nat_tests)

pub entity_spelled : (bytes : List ℕ) (entity : Entity) → IsEntity bytes entity → entity_said bytes ≡ Some entity
unfolding entity_said
entity_spelled bytes entities.Global h = subst (λ (b : List ℕ). entity_said b ≡ Some entities.Global) (sym h) refl
entity_spelled bytes (entities.Column c) h = subst (λ (b : List ℕ). entity_said b ≡ Some (entities.Column c)) (sym h.2) (ap (option_map entities.Column) (number_spelled h.0 c h.1))
entity_spelled bytes (entities.Row r) h = subst (λ (b : List ℕ). entity_said b ≡ Some (entities.Row r)) (sym h.2) (ap (option_map entities.Row) (number_spelled h.0 r h.1))
entity_spelled bytes (entities.Cell r c) h = subst (λ (b : List ℕ). entity_said b ≡ Some (entities.Cell r c)) (sym h.4)
    (sym (number_first h.0 h.1 h.2.digits_alone h.2.some) ∙ ap (option_map cell_at) (position_spelled (h.0 ++ 44 ∷ h.1) (record { row = r; col = c }) (h.0, h.1, h.2, h.3, refl)))

entity_lacks : (bytes : List ℕ) (entity : Entity) → IsEntity bytes entity → lacks 32 bytes
entity_lacks bytes entities.Global h = subst (lacks 32) (sym h) refl
entity_lacks bytes (entities.Column c) h = subst (lacks 32) (sym h.2) (digits_lack 32 h.0 (lit< tt) h.1.digits_alone)
entity_lacks bytes (entities.Row r) h = subst (lacks 32) (sym h.2) (digits_lack 32 h.0 (lit< tt) h.1.digits_alone)
entity_lacks bytes (entities.Cell r c) h = position_lacks bytes (record { row = r; col = c }) h

-- ---- paddings

sides_spelled : (bytes : List ℕ) (sides : Sides Indent) → AreSides bytes sides → sides_of bytes ≡ Some sides
unfolding sides_of
sides_spelled _ _ (Four left right top bottom l r t b is_left is_right is_top is_bottom) =
    let no_space = λ (digits : List ℕ) (n : ℕ) (is : IsNumber digits n). digits_lack 32 digits (lit< tt) is.digits_alone in
    rw (
      parted_after 32 left (right ++ 32 ∷ (top ++ 32 ∷ bottom)) (no_space left l is_left),
      parted_after 32 right (top ++ 32 ∷ bottom) (no_space right r is_right),
      parted_after 32 top bottom (no_space top t is_top),
      number_spelled left l is_left,
      number_spelled right r is_right,
      number_spelled top t is_top,
      number_spelled bottom b is_bottom,
    )
    refl

padding_spelled : (spelled rest : List ℕ) (entity : Entity) (sides : Sides Indent) → IsEntity spelled entity → AreSides rest sides → padding_of (spelled ++ 32 ∷ rest) ≡ Some (SetPadding entity sides)
unfolding padding_of
padding_spelled spelled rest entity sides is_entity are_sides = grind (arith, parted_after, entity_lacks, entity_spelled, sides_spelled)

-- ---- spans

span_spelled : (spelled digits : List ℕ) (position : Position) (n : ℕ) → IsPosition spelled position → IsNumber digits n → position_and_count (spelled ++ 32 ∷ digits) ≡ Some (position, n)
unfolding position_and_count
span_spelled spelled digits position n is_position is_number =
    rw (parted_after 32 spelled digits (position_lacks spelled position is_position), position_spelled spelled position is_position, number_spelled digits n is_number) refl

-- ---- characters and lines

number_and_character_spelled : (digits x : List ℕ) (position c : ℕ) → IsNumber digits position → IsCharacter x c → number_and_character (digits ++ 32 ∷ x) ≡ Some (position, c)
unfolding number_and_character
number_and_character_spelled digits x position c is_number is_character = grind (arith, parted_after, digits_lack, number_spelled, character_spelled)

setting_spelled : (line : List ℕ) (setting : Setting) → IsSetting line setting → text_says line ≡ Some (Set setting)
unfolding text_says keyword_says keyword_setting
setting_spelled _ _ (Pad spelled rest entity sides is_entity are_sides) = grind (arith, parted_after, padding_spelled)
setting_spelled _ _ (Colspan spelled digits position n is_position is_number) =
    rw (parted_after 32 (codes "colspan") (spelled ++ 32 ∷ digits) refl, span_spelled spelled digits position n is_position is_number) refl
setting_spelled _ _ (Rowspan spelled digits position n is_position is_number) =
    rw (parted_after 32 (codes "rowspan") (spelled ++ 32 ∷ digits) refl, span_spelled spelled digits position n is_position is_number) refl
setting_spelled _ _ (Border x c is_character) = rw (parted_after 32 (codes "border") x refl, character_spelled x c is_character) refl
setting_spelled _ _ (Vline digits x col c is_number is_character) =
    rw (parted_after 32 (codes "vline") (digits ++ 32 ∷ x) refl, number_and_character_spelled digits x col c is_number is_character) refl
setting_spelled _ _ (Hline digits x row c is_number is_character) =
    rw (parted_after 32 (codes "hline") (digits ++ 32 ∷ x) refl, number_and_character_spelled digits x row c is_number is_character) refl
setting_spelled _ _ (Novline digits col is_number) = rw (parted_after 32 (codes "novline") digits refl, number_spelled digits col is_number) refl
setting_spelled _ _ (Nohline digits row is_number) = rw (parted_after 32 (codes "nohline") digits refl, number_spelled digits row is_number) refl

-- ---- texts

means_spelled : (spelled meant : List ℕ) → Means spelled meant → unescaped spelled ≡ Some meant
unfolding unescaped
means_spelled _ _ Ended = refl
means_spelled _ _ (Plain b spelled meant other h) = grind (arith, nat_tests, unescaped-plain, means_spelled spelled meant h)
means_spelled _ _ (Newline spelled meant h) = ap (put_first (Some 10)) (means_spelled spelled meant h)
means_spelled _ _ (Tab spelled meant h) = ap (put_first (Some 9)) (means_spelled spelled meant h)
means_spelled _ _ (Backslash spelled meant h) = ap (put_first (Some 92)) (means_spelled spelled meant h)

-- ---- lines

text_spelled : (line : List ℕ) (s : Said) → IsLine line s → text_says line ≡ Some s
unfolding text_says keyword_says
text_spelled line Nothing h = subst (λ (l : List ℕ). text_says l ≡ Some Nothing) (sym h) refl
text_spelled line (Columns n) h = subst (λ (l : List ℕ). text_says l ≡ Some (Columns n)) (sym h.2)
    (rw (parted_after 32 (codes "columns") h.0 refl) (ap (option_map Columns) (number_spelled h.0 n h.1)))
text_spelled line (Set setting) h = setting_spelled line setting h
text_spelled line Row h = subst (λ (l : List ℕ). text_says l ≡ Some Row) (sym h) refl
text_spelled line (Cell text) h = elim h [
  | inl word ↦ subst (λ (l : List ℕ). text_says l ≡ Some (Cell text)) (sym word.0) (ap (λ t. Some (Cell t)) (sym word.1))
  | inr cell ↦ subst (λ (l : List ℕ). text_says l ≡ Some (Cell text)) (sym cell.2)
      (rw (parted_after 32 (codes "cell") cell.0 refl) (ap (option_map Cell) (means_spelled cell.0 text cell.1)))
]

pub line_spelled : (line : List ℕ) (s : Said) → IsUtf8 line → IsLine line s → line_says line ≡ Some s
unfolding line_says
line_spelled line s u h = rw (is_utf8-from_IsUtf8 line u) (text_spelled line s h)
