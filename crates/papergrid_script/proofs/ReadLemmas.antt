-- What is read as a line of a script is spelled so.
use Rattle.std.proofs.Common.{◌≡◌, ◌⊎◌, ◌<◌, ◌++◌, ◌∷◌, [], ℕ, List, true, cond, Option, Some, None, option_map, length, drop, get_or, codes, bytes_eq, nat_eq, refl, sym, ap, ◌∙◌, subst, lit<, inl, inr, arith, rules}
use Rattle.std.specs.List.{starts_with, before_first, after_first, position_or_len}
use Rattle.std.specs.Prelude.{IsUtf8}
use Rattle.std.proofs.lemmas.Bool.{and_parts}
use Rattle.std.proofs.lemmas.List.Sums.{split_at_first, passes_at_first}
use Rattle.std.proofs.lemmas.Option.{same_Some, none-some, cond_some}
use Rattle.std.proofs.lemmas.Slice.Eq.{bytes_eq-Decides}
use Rattle.std.proofs.lemmas.Str.{IsUtf8-from_is_utf8}
use borrow.Author.Tests.{ltb-true, eqb-true, eqb-false}
use Rattle.papergrid_values.specs.declared.entity.Entity.{Entity}
use Rattle.papergrid_values.specs.declared.entity.Entity.TheVariants as entities
use Rattle.papergrid_values.specs.declared.indent.Indent.{Indent}
use Rattle.papergrid_values.specs.declared.position.Position.{Position}
use Rattle.papergrid_values.specs.declared.sides.Sides.{Sides}
use Rattle.papergrid_values.specs.Borders.{frame_with}
use Rattle.papergrid_values.specs.Positions as positions
use Rattle.papergrid_config.specs.declared.setting.Setting.{Setting}
use Rattle.papergrid_config.specs.declared.setting.Setting.TheVariants.{SetPadding, SetColumnSpan, SetRowSpan, SetBorders, InsertVerticalLine, InsertHorizontalLine, RemoveVerticalLine, RemoveHorizontalLine}
use Rattle.papergrid_values.specs.Compact.{spaces}
use Rattle.papergrid_text.specs.Text.{character_of}
use Rattle.papergrid_script.specs.Grammar.{◌>>=◌, pair_at, parted_at, number_said, position_said, position_and_count, entity_said, sides_of, padding_of, number_and_character, keyword_setting, keyword_says, text_says, line_says, vertical_main, horizontal_main}
use Rattle.papergrid_script.specs.Spelling.{Said, Nothing, Row, Cell}
use Rattle.papergrid_script.specs.Spelling.{IsNumber, IsPosition, IsEntity, AreSides, Four, IsCharacter, IsSetting, Pad, Colspan, Rowspan, Border, Vline, Hline, Novline, Nohline, Means, Ended, Plain, Newline, Tab, Backslash, IsLine}
use Rattle.papergrid_script.proofs.CharacterLemmas.{character_read, text_behind}
use Rattle.papergrid_script.specs.Texts.{unescaped, escape_of, put_first}
use Rattle.papergrid_maps.proofs.EffectiveCallLemmas.{chosen}

-- ---- tests and options

pub map_some : {A B : Type 0} (f : A → B) (o : Option A) (y : B) → option_map f o ≡ Some y → (x : A) × (o ≡ Some x) × (f x ≡ y)
map_some f None y h = cc
map_some f (Some x) y h = (x, refl, same_Some _ _ h)

bind_some : {A B : Type 0} (f : A → Option B) (o : Option A) (y : B) → (o >>= f) ≡ Some y → (x : A) × (o ≡ Some x) × (f x ≡ Some y)
bind_some f None y h = cc
bind_some f (Some x) y h = (x, refl, h)

is_word : (bytes word : List ℕ) → bytes_eq bytes word ≡ true → bytes ≡ word
is_word bytes word h = (bytes_eq-Decides bytes word).0 h

-- what stands around the first such byte
parted : (byte : ℕ) (bytes : List ℕ) (parts : List ℕ × List ℕ) → parted_at byte bytes ≡ Some parts → bytes ≡ parts.0 ++ byte ∷ parts.1
parted byte bytes parts h =
    let test = λ (b : ℕ). nat_eq b byte in
    let found = cond_some _ _ _ h in
    let within : position_or_len test bytes < length bytes = ltb-true _ _ found.0 in
    let there : get_or bytes (position_or_len test bytes) 0 ≡ byte = eqb-true _ _ (passes_at_first test bytes 0 within) in
    let whole : bytes ≡ before_first test bytes ++ get_or bytes (position_or_len test bytes) 0 ∷ after_first test bytes = split_at_first test bytes 0 within in
    whole ∙ ap (λ b. before_first test bytes ++ b ∷ after_first test bytes) there ∙ ap (λ p. p.0 ++ byte ∷ p.1) found.1

-- two parts with such a byte between them, of which a pair is read
record IsPairAt {A B : Type 0} (byte : ℕ) (first : List ℕ → Option A) (second : List ℕ → Option B) (bytes : List ℕ) (pair : A × B) : Type 0 where
  front : List ℕ
  back : List ℕ
  is_front : first front ≡ Some pair.0
  is_back : second back ≡ Some pair.1
  whole : bytes ≡ front ++ byte ∷ back

pair_read : {A B : Type 0} (byte : ℕ) (first : List ℕ → Option A) (second : List ℕ → Option B) (bytes : List ℕ) (pair : A × B)
    → pair_at byte first second bytes ≡ Some pair → IsPairAt byte first second bytes pair
pair_read {A} {B} byte first second bytes pair h =
    let parts = bind_some (λ (p : List ℕ × List ℕ). first p.0 >>= λ (a : A). second p.1 >>= λ (b : B). Some (a, b)) (parted_at byte bytes) pair h in
    let a = bind_some (λ (a : A). second parts.0.1 >>= λ (b : B). Some (a, b)) (first parts.0.0) pair parts.2 in
    let b = bind_some (λ (b : B). Some (a.0, b)) (second parts.0.1) pair a.2 in
    subst (IsPairAt byte first second bytes) (same_Some _ _ b.2) (record {
      front = parts.0.0;
      back = parts.0.1;
      is_front = a.1;
      is_back = b.1;
      whole = parted byte bytes parts.0 parts.1;
    })

-- ---- numbers, entities and sides

pub number_read : (digits : List ℕ) (n : ℕ) → number_said digits ≡ Some n → IsNumber digits n
unfolding number_said
number_read digits n h = grind (arith, cond_some, and_parts)

starts_one : (c : ℕ) (bs : List ℕ) → starts_with nat_eq bs (c ∷ []) ≡ true → bs ≡ c ∷ drop 1 bs
starts_one c [] h = cc
starts_one c (b ∷ bs) h = ap (λ x. x ∷ bs) (sym (eqb-true c b (and_parts _ _ h).0))

-- the cell at a position
abbrev pub cell_at : Position → Entity
cell_at position = entities.Cell position.row position.col

position_read : (bytes : List ℕ) (position : Position) → position_said bytes ≡ Some position → IsPosition bytes position
unfolding position_said
position_read bytes position h =
    let at = map_some positions.position_of (pair_at 44 number_said number_said bytes) position h in
    let pair = pair_read 44 number_said number_said bytes at.0 at.1 in
    subst (IsPosition bytes) at.2 (pair.front, pair.back, number_read _ _ pair.is_front, number_read _ _ pair.is_back, pair.whole)

pub entity_read : (bytes : List ℕ) (entity : Entity) → entity_said bytes ≡ Some entity → IsEntity bytes entity
unfolding entity_said
entity_read bytes entity h = grind (arith, chosen, same_Some, is_word, map_some, number_read, starts_one, position_read)

abbrev sides_with : ℕ → ℕ → ℕ → ℕ → Sides Indent
sides_with l r t b = record { top = spaces t; bottom = spaces b; left = spaces l; right = spaces r }

sides_read : (bytes : List ℕ) (sides : Sides Indent) → sides_of bytes ≡ Some sides → AreSides bytes sides
unfolding sides_of
sides_read bytes sides h =
    let at_l = bind_some (λ (p : List ℕ × List ℕ). parted_at 32 p.1 >>= λ q. parted_at 32 q.1 >>= λ s. number_said p.0 >>= λ l. number_said q.0 >>= λ r. number_said s.0 >>= λ t. number_said s.1 >>= λ b. Some (sides_with l r t b)) (parted_at 32 bytes) sides h in
    let at_r = bind_some (λ (q : List ℕ × List ℕ). parted_at 32 q.1 >>= λ s. number_said at_l.0.0 >>= λ l. number_said q.0 >>= λ r. number_said s.0 >>= λ t. number_said s.1 >>= λ b. Some (sides_with l r t b)) (parted_at 32 at_l.0.1) sides at_l.2 in
    let at_t = bind_some (λ (s : List ℕ × List ℕ). number_said at_l.0.0 >>= λ l. number_said at_r.0.0 >>= λ r. number_said s.0 >>= λ t. number_said s.1 >>= λ b. Some (sides_with l r t b)) (parted_at 32 at_r.0.1) sides at_r.2 in
    let l = bind_some (λ l. number_said at_r.0.0 >>= λ r. number_said at_t.0.0 >>= λ t. number_said at_t.0.1 >>= λ b. Some (sides_with l r t b)) (number_said at_l.0.0) sides at_t.2 in
    let r = bind_some (λ r. number_said at_t.0.0 >>= λ t. number_said at_t.0.1 >>= λ b. Some (sides_with l.0 r t b)) (number_said at_r.0.0) sides l.2 in
    let t = bind_some (λ t. number_said at_t.0.1 >>= λ b. Some (sides_with l.0 r.0 t b)) (number_said at_t.0.0) sides r.2 in
    let b = bind_some (λ b. Some (sides_with l.0 r.0 t.0 b)) (number_said at_t.0.1) sides t.2 in
    let spelled : bytes ≡ at_l.0.0 ++ 32 ∷ (at_r.0.0 ++ 32 ∷ (at_t.0.0 ++ 32 ∷ at_t.0.1)) =
    parted 32 bytes at_l.0 at_l.1 ∙ ap (λ rest. at_l.0.0 ++ 32 ∷ rest) (parted 32 at_l.0.1 at_r.0 at_r.1)
    ∙ ap (λ rest. at_l.0.0 ++ 32 ∷ (at_r.0.0 ++ 32 ∷ rest)) (parted 32 at_r.0.1 at_t.0 at_t.1) in
    subst (AreSides bytes) (same_Some _ _ b.2) (subst (λ text. AreSides text (sides_with l.0 r.0 t.0 b.0)) (sym spelled)
    (Four at_l.0.0 at_r.0.0 at_t.0.0 at_t.0.1 l.0 r.0 t.0 b.0 (number_read _ _ l.1) (number_read _ _ r.1) (number_read _ _ t.1) (number_read _ _ b.1)))

padding_read : (bytes : List ℕ) (setting : Setting) → padding_of bytes ≡ Some setting → IsSetting (codes "pad " ++ bytes) setting
unfolding padding_of
padding_read bytes setting h =
    let at = map_some (λ (p : Entity × Sides Indent). SetPadding p.0 p.1) (pair_at 32 entity_said sides_of bytes) setting h in
    let pair = pair_read 32 entity_said sides_of bytes at.0 at.1 in
    subst (IsSetting (codes "pad " ++ bytes)) at.2
    (subst (λ (b : List ℕ). IsSetting (codes "pad " ++ b) (SetPadding at.0.0 at.0.1)) (sym pair.whole)
    (Pad pair.front pair.back at.0.0 at.0.1 (entity_read _ _ pair.is_front) (sides_read _ _ pair.is_back)))

-- ---- settings

worded : (keyword word rest : List ℕ) (setting : Setting) → bytes_eq keyword word ≡ true → IsSetting (word ++ 32 ∷ rest) setting → IsSetting (keyword ++ 32 ∷ rest) setting
worded keyword word rest setting same h = subst (λ (w : List ℕ). IsSetting (w ++ 32 ∷ rest) setting) (sym (is_word keyword word same)) h

-- a span of either direction, by the word that begins it
spanned_read : (word : List ℕ) (set : Position → ℕ → Setting)
    → ((spelled digits : List ℕ) (position : Position) (n : ℕ) → IsPosition spelled position → IsNumber digits n → IsSetting (word ++ (spelled ++ 32 ∷ digits)) (set position n))
    → (rest : List ℕ) (setting : Setting) → option_map (λ at. set at.0 at.1) (position_and_count rest) ≡ Some setting → IsSetting (word ++ rest) setting
unfolding position_and_count
spanned_read word set spells rest setting h =
    let at = map_some (λ (at : Position × ℕ). set at.0 at.1) (position_and_count rest) setting h in
    let pair = pair_read 32 position_said number_said rest at.0 at.1 in
    subst (IsSetting (word ++ rest)) at.2
    (subst (λ (r : List ℕ). IsSetting (word ++ r) (set at.0.0 at.0.1)) (sym pair.whole)
    (spells pair.front pair.back at.0.0 at.0.1 (position_read _ _ pair.is_front) (number_read _ _ pair.is_back)))

border_read : (rest : List ℕ) (setting : Setting) → IsUtf8 rest → option_map (λ c. SetBorders (frame_with (Some c))) (character_of rest) ≡ Some setting → IsSetting (codes "border " ++ rest) setting
border_read rest setting text h =
    let c = map_some (λ c. SetBorders (frame_with (Some c))) (character_of rest) setting h in
    subst (IsSetting (codes "border " ++ rest)) c.2 (Border rest c.0 (character_read rest c.0 text c.1))

-- a line of either direction, by the word that begins it
lined_read : (word : List ℕ) (set : ℕ → ℕ → Setting) → ((digits x : List ℕ) (position c : ℕ) → IsNumber digits position → IsCharacter x c → IsSetting (word ++ (digits ++ 32 ∷ x)) (set position c))
    → (rest : List ℕ) (setting : Setting) → IsUtf8 rest → option_map (λ at. set at.0 at.1) (number_and_character rest) ≡ Some setting → IsSetting (word ++ rest) setting
unfolding number_and_character
lined_read word set spells rest setting text h =
    let at = map_some (λ (at : ℕ × ℕ). set at.0 at.1) (number_and_character rest) setting h in
    let pair = pair_read 32 number_said character_of rest at.0 at.1 in
    let behind = text_behind pair.front pair.back 32 (lit< tt) (subst IsUtf8 pair.whole text) in
    subst (IsSetting (word ++ rest)) at.2
    (subst (λ (r : List ℕ). IsSetting (word ++ r) (set at.0.0 at.0.1)) (sym pair.whole)
    (spells pair.front pair.back at.0.0 at.0.1 (number_read _ _ pair.is_front) (character_read _ _ behind pair.is_back)))

novline_read : (rest : List ℕ) (setting : Setting) → option_map (λ col. RemoveVerticalLine col 0) (number_said rest) ≡ Some setting → IsSetting (codes "novline " ++ rest) setting
novline_read rest setting h =
    let col = map_some (λ col. RemoveVerticalLine col 0) (number_said rest) setting h in
    subst (IsSetting (codes "novline " ++ rest)) col.2 (Novline rest col.0 (number_read rest col.0 col.1))

nohline_read : (rest : List ℕ) (setting : Setting) → option_map (λ row. RemoveHorizontalLine row 0) (number_said rest) ≡ Some setting → IsSetting (codes "nohline " ++ rest) setting
nohline_read rest setting h =
    let row = map_some (λ row. RemoveHorizontalLine row 0) (number_said rest) setting h in
    subst (IsSetting (codes "nohline " ++ rest)) row.2 (Nohline rest row.0 (number_read rest row.0 row.1))

-- what is read of a keyword that is neither of padding nor of spans
abbrev line_setting : List ℕ → List ℕ → Option Setting
line_setting keyword rest =
    cond (bytes_eq keyword (codes "border")) (option_map (λ c. SetBorders (frame_with (Some c))) (character_of rest))
    (cond (bytes_eq keyword (codes "vline")) (option_map (λ at. InsertVerticalLine at.0 (vertical_main at.1)) (number_and_character rest))
    (cond (bytes_eq keyword (codes "hline")) (option_map (λ at. InsertHorizontalLine at.0 (horizontal_main at.1)) (number_and_character rest))
    (cond (bytes_eq keyword (codes "novline")) (option_map (λ col. RemoveVerticalLine col 0) (number_said rest))
    (cond (bytes_eq keyword (codes "nohline")) (option_map (λ row. RemoveHorizontalLine row 0) (number_said rest)) None))))

line_setting_read : (keyword rest : List ℕ) (setting : Setting) → IsUtf8 rest → line_setting keyword rest ≡ Some setting → IsSetting (keyword ++ 32 ∷ rest) setting
line_setting_read keyword rest setting text h = elim (chosen (bytes_eq keyword (codes "border")) (option_map (λ c. SetBorders (frame_with (Some c))) (character_of rest)) _ (Some setting) h) [
  | inl border ↦ worded keyword (codes "border") rest setting border.0 (border_read rest setting text border.1)
  | inr past_border ↦ elim (chosen (bytes_eq keyword (codes "vline")) (option_map (λ at. InsertVerticalLine at.0 (vertical_main at.1)) (number_and_character rest)) _ (Some setting) past_border.1) [
    | inl vline ↦ worded keyword (codes "vline") rest setting vline.0 (lined_read (codes "vline ") (λ col c. InsertVerticalLine col (vertical_main c)) Vline rest setting text vline.1)
    | inr past_vline ↦ elim (chosen (bytes_eq keyword (codes "hline")) (option_map (λ at. InsertHorizontalLine at.0 (horizontal_main at.1)) (number_and_character rest)) _ (Some setting) past_vline.1) [
      | inl hline ↦ worded keyword (codes "hline") rest setting hline.0 (lined_read (codes "hline ") (λ row c. InsertHorizontalLine row (horizontal_main c)) Hline rest setting text hline.1)
      | inr past_hline ↦ elim (chosen (bytes_eq keyword (codes "novline")) (option_map (λ col. RemoveVerticalLine col 0) (number_said rest)) _ (Some setting) past_hline.1) [
        | inl novline ↦ worded keyword (codes "novline") rest setting novline.0 (novline_read rest setting novline.1)
        | inr past_novline ↦ elim (chosen (bytes_eq keyword (codes "nohline")) (option_map (λ row. RemoveHorizontalLine row 0) (number_said rest)) None (Some setting) past_novline.1) [
          | inl nohline ↦ worded keyword (codes "nohline") rest setting nohline.0 (nohline_read rest setting nohline.1)
          | inr none ↦ absurd (none-some setting none.1)
        ]
      ]
    ]
  ]
]

setting_read : (keyword rest : List ℕ) (setting : Setting) → IsUtf8 rest → keyword_setting keyword rest ≡ Some setting → IsSetting (keyword ++ 32 ∷ rest) setting
unfolding keyword_setting
setting_read keyword rest setting text h = elim (chosen (bytes_eq keyword (codes "pad")) (padding_of rest) _ (Some setting) h) [
  | inl pad ↦ worded keyword (codes "pad") rest setting pad.0 (padding_read rest setting pad.1)
  | inr past_pad ↦ elim (chosen (bytes_eq keyword (codes "colspan")) (option_map (λ at. SetColumnSpan at.0 at.1) (position_and_count rest)) _ (Some setting) past_pad.1) [
    | inl colspan ↦ worded keyword (codes "colspan") rest setting colspan.0 (spanned_read (codes "colspan ") SetColumnSpan Colspan rest setting colspan.1)
    | inr past_colspan ↦ elim (chosen (bytes_eq keyword (codes "rowspan")) (option_map (λ at. SetRowSpan at.0 at.1) (position_and_count rest)) (line_setting keyword rest) (Some setting) past_colspan.1) [
      | inl rowspan ↦ worded keyword (codes "rowspan") rest setting rowspan.0 (spanned_read (codes "rowspan ") SetRowSpan Rowspan rest setting rowspan.1)
      | inr line ↦ line_setting_read keyword rest setting text line.1
    ]
  ]
]

-- ---- texts

put_some : (o : Option ℕ) (rest : Option (List ℕ)) (meant : List ℕ) → put_first o rest ≡ Some meant → (b : ℕ) × (bs : List ℕ) × (o ≡ Some b) × (rest ≡ Some bs) × (b ∷ bs ≡ meant)
put_some None rest meant h = absurd (none-some meant h)
put_some (Some b) None meant h = absurd (none-some meant h)
put_some (Some b) (Some bs) meant h = (b, bs, refl, refl, same_Some _ _ h)

escape_read : (d m : ℕ) → escape_of d ≡ Some m → ((d ≡ 110) × (10 ≡ m)) ⊎ ((d ≡ 116) × (9 ≡ m)) ⊎ ((d ≡ 92) × (92 ≡ m))
escape_read d m h = grind (arith, chosen, same_Some, none-some)

-- an escape, by the byte after the backslash and the byte that it means
escape_means : (d m : ℕ) (spelled meant : List ℕ) → ((d ≡ 110) × (10 ≡ m)) ⊎ ((d ≡ 116) × (9 ≡ m)) ⊎ ((d ≡ 92) × (92 ≡ m)) → Means spelled meant → Means (92 ∷ d ∷ spelled) (m ∷ meant)
escape_means d m spelled meant which h = elim which [
  | inl n ↦ subst (λ (x : ℕ). Means (92 ∷ x ∷ spelled) (m ∷ meant)) (sym n.0) (subst (λ (y : ℕ). Means (92 ∷ 110 ∷ spelled) (y ∷ meant)) n.1 (Newline spelled meant h))
  | inr other ↦ elim other [
    | inl t ↦ subst (λ (x : ℕ). Means (92 ∷ x ∷ spelled) (m ∷ meant)) (sym t.0) (subst (λ (y : ℕ). Means (92 ∷ 116 ∷ spelled) (y ∷ meant)) t.1 (Tab spelled meant h))
    | inr s ↦ subst (λ (x : ℕ). Means (92 ∷ x ∷ spelled) (m ∷ meant)) (sym s.0) (subst (λ (y : ℕ). Means (92 ∷ 92 ∷ spelled) (y ∷ meant)) s.1 (Backslash spelled meant h))
  ]
]

means_read : (spelled meant : List ℕ) → unescaped spelled ≡ Some meant → Means spelled meant
unfolding unescaped
means_read [] meant h = subst (Means []) (same_Some _ _ h) Ended
means_read (b ∷ []) meant h = elim (chosen (nat_eq b 92) None (Some (b ∷ [])) (Some meant) h) [
  | inl slash ↦ absurd (none-some meant slash.1)
  | inr other ↦ subst (Means (b ∷ [])) (same_Some _ _ other.1) (Plain b [] [] (eqb-false b 92 other.0) Ended)
]
means_read (b ∷ c ∷ bs) meant h =
    elim (chosen (nat_eq b 92) (put_first (escape_of c) (unescaped bs)) (option_map (λ rest. b ∷ rest) (unescaped (c ∷ bs))) (Some meant) h) [
      | inl slash ↦
          let p = put_some (escape_of c) (unescaped bs) meant slash.1 in
          let escape = escape_means c p.0 bs p.1 (escape_read c p.0 p.2) (means_read bs p.1 p.3) in
          subst (Means (b ∷ c ∷ bs)) p.4 (subst (λ (x : ℕ). Means (x ∷ c ∷ bs) (p.0 ∷ p.1)) (sym (eqb-true b 92 slash.0)) escape)
      | inr other ↦
          let p = map_some (λ rest. b ∷ rest) (unescaped (c ∷ bs)) meant other.1 in
          subst (Means (b ∷ c ∷ bs)) p.2 (Plain b (c ∷ bs) p.0 (eqb-false b 92 other.0) (means_read (c ∷ bs) p.0 p.1))
    ]

-- ---- lines

keyword_read : (keyword rest : List ℕ) (s : Said) → IsUtf8 rest → keyword_says keyword rest ≡ Some s → IsLine (keyword ++ 32 ∷ rest) s
unfolding keyword_says
keyword_read keyword rest s text h = search (rules, chosen, map_some, means_read, is_word, number_read, setting_read)

text_read : (line : List ℕ) (s : Said) → IsUtf8 line → text_says line ≡ Some s → IsLine line s
unfolding text_says
text_read line s text h = elim (chosen (bytes_eq line (codes "")) (Some Nothing) _ (Some s) h) [
  | inl empty ↦ subst (IsLine line) (same_Some _ _ empty.1) (is_word line (codes "") empty.0)
  | inr some ↦ elim (chosen (bytes_eq line (codes "row")) (Some Row) _ (Some s) some.1) [
    | inl row ↦ subst (IsLine line) (same_Some _ _ row.1) (is_word line (codes "row") row.0)
    | inr other ↦ elim (chosen (bytes_eq line (codes "cell")) (Some (Cell [])) (parted_at 32 line >>= λ parts. keyword_says parts.0 parts.1) (Some s) other.1) [
      | inl cell ↦ subst (IsLine line) (same_Some _ _ cell.1) (inl (is_word line (codes "cell") cell.0, refl))
      | inr worded ↦
          let parts = bind_some (λ (p : List ℕ × List ℕ). keyword_says p.0 p.1) (parted_at 32 line) s worded.1 in
          let whole = parted 32 line parts.0 parts.1 in
          let behind = text_behind parts.0.0 parts.0.1 32 (lit< tt) (subst IsUtf8 whole text) in
          subst (λ (l : List ℕ). IsLine l s) (sym whole) (keyword_read parts.0.0 parts.0.1 s behind parts.2)
    ]
  ]
]

pub line_read : (line : List ℕ) (s : Said) → line_says line ≡ Some s → IsUtf8 line × IsLine line s
unfolding line_says
line_read line s h = grind (arith, chosen, IsUtf8-from_is_utf8, text_read, none-some)
