-- Where a line is cut, and what is shown of it.
use Rattle.std.proofs.Common.{◌≡◌, ◌∙◌, inl, inr, ◌<◌, ◌≤◌, ◌+◌, ◌-◌, ℕ, zero, suc, List, [], ◌∷◌, ◌++◌, Bool, true, false, cond, Result, Ok, Err, OnOk, All, append-nil, append_assoc, ap, arith, drop, get_or, length, length-append, min, refl, subst, sym, take}
use Rattle.std.specs.Prelude.{◌&&◌, IsUtf8, chars, encode_utf8_all}
use Rattle.std.specs.Int.{is_in_range}
use Rattle.std.specs.List.{AllZip, join_with_byte, list_all, prefix_len}
use Rattle.std.specs.Str.{IsCharBoundary}
use Rattle.std.proofs.Math.Seq.{drop-append_seam, take-append-add, take-append_seam, take-length}
use Rattle.std.proofs.Math.Utf8.{encode}
use Rattle.std.proofs.lemmas.Bool.{cases_lt}
use Rattle.std.proofs.lemmas.Bool.Decides.{nat_tests}
use Rattle.std.proofs.lemmas.List.{length-take-le, length_push, take-append-drop, take-append-le, take-take, take_all, take_more}
use Rattle.std.proofs.lemmas.List.Elements.{All-cons, All-head, All-nil, All-tail, AllZip-push}
use Rattle.std.proofs.lemmas.List.Sums.{prefix_len-le-length}
use Rattle.std.proofs.lemmas.Str.{IsCharBoundary-at_seam, IsCharBoundary-start, IsUtf8-from_ascii, IsUtf8-past_char, chars-IsAscii, chars-append, encodes-IsAscii, encodes-append, encodes-chars}
use Rattle.unicode_width.specs.Width.{str_width}
use Rattle.unicode_width.proofs.Rules.{str_width-printable}
use Rattle.papergrid_text.proofs.PrintableLemmas.{ascii, front_printable, width-printable}
use Rattle.papergrid_text.proofs.SimpleLemmas.{cut_past}
use Rattle.papergrid_text.specs.Text.{split_lines, width_of}
use Rattle.papergrid_text.proofs.Printable.{one_line}
use Rattle.papergrid_text.proofs.Splits.{is_split}
use Rattle.papergrid_text.proofs.ReadBack.{chars-back}
use Rattle.papergrid_text.proofs.Widths.{str_width-nil}
use Rattle.papergrid_csv.specs.Cutting.{IsCut, IsCutLine, IsShortened, shortened}
use Rattle.papergrid_csv.specs.ForProofs.Cuts.{AddsLine, AllNarrow, HasLinesWithin, IsCutAt}
use Rattle.papergrid_csv.proofs.ApartLemmas.{StandsApart}
use Rattle.papergrid_csv.proofs.ApartLemmas.{ellipsis-adds}

-- ---- what is shown of a line

shortened-width : (m : ℕ) (line : List ℕ) → width_of (shortened m line) ≡ str_width false (take m (chars line)) + 1
shortened-width m line = ap (str_width false) (chars-back (take m (chars line) ++ 0x2026 ∷ [])) ∙ ellipsis-adds (take m (chars line))

-- the beginnings of what is kept are those of the line
same-beginning : (kept left : List ℕ) (next m : ℕ) → m ≤ length kept → take m (kept ++ next ∷ left) ≡ take m kept
same-beginning kept left next m within = take-append-le m kept (next ∷ left) within

with-next : (kept left : List ℕ) (next : ℕ) → take (length kept + 1) (kept ++ next ∷ left) ≡ kept ++ next ∷ []
with-next kept left next = take-append-add kept (next ∷ left) 1

pub cut-shortened : (columns count : ℕ) (line shown : List ℕ) → columns < width_of line → IsCutAt columns line count → shown ≡ take count line ++ encode 0x2026 → IsShortened columns line shown
cut-shortened columns count line shown wide at is =
    let kept = at.kept in
    let cs = at.characters in
    let first : take (length kept) (chars line) ≡ kept = ap (take (length kept)) cs ∙ take-append_seam kept (at.next ∷ at.left) in
    let counted = length-append kept (at.next ∷ at.left) in
    let long = ap length cs in
    record {
      count = length kept;
      wide = wide;
      within = omega arith;
      fits = λ m some within.
          let same = shortened-width m line in
          let begins : take m (chars line) ≡ take m kept = ap (take m) cs ∙ same-beginning kept at.left at.next m within in
          let told = ap (str_width false) begins in
          let narrow = at.narrow m some within in
          omega arith;
      next =
          let same = shortened-width (length kept + 1) line in
          let begins : take (length kept + 1) (chars line) ≡ kept ++ at.next ∷ [] = ap (take (length kept + 1)) cs ∙ with-next kept at.left at.next in
          let told = ap (str_width false) begins in
          let enough = at.wide in
          omega arith;
      is =
          is ∙ ap (λ t. t ++ encode 0x2026) at.taken ∙ ap (λ t. encode_utf8_all kept ++ t) (sym (append-nil (encode 0x2026)))
          ∙ sym (encodes-append kept (0x2026 ∷ [])) ∙ sym (ap (λ cs. encode_utf8_all (cs ++ 0x2026 ∷ [])) first);
    }

-- ---- a printable front

printable-front : (text : List ℕ) (n m : ℕ) → list_all (is_in_range 0x20 0x7E) (take n text) ≡ true → m ≤ n → list_all (is_in_range 0x20 0x7E) (take m text) ≡ true
printable-front text n zero all within = refl
printable-front [] n (suc m) all within = refl
printable-front (b ∷ text) zero (suc m) all within = absurd (omega arith)
printable-front (b ∷ text) (suc n) (suc m) all within =
    let one : is_in_range 0x20 0x7E b ≡ true = grind (arith, nat_tests) in
    let more : list_all (is_in_range 0x20 0x7E) (take n text) ≡ true = grind (arith, nat_tests) in
    let rest = printable-front text n m more (omega arith) in
    ap (λ v. v && list_all (is_in_range 0x20 0x7E) (take m text)) one ∙ rest

-- what is known of the printable bytes at the front
pub record IsFront (line : List ℕ) (n : ℕ) : Type 0 where
  pub within : n ≤ length line
  pub all : list_all (is_in_range 0x20 0x7E) (take n line) ≡ true

pub is-front : (line : List ℕ) (n : ℕ) → n ≡ prefix_len (is_in_range 0x20 0x7E) line → IsFront line n
is-front line n is = record {
  within = let bound = prefix_len-le-length (is_in_range 0x20 0x7E) line in omega arith;
  all = subst (λ k. list_all (is_in_range 0x20 0x7E) (take k line) ≡ true) (sym is) (front_printable line);
}

front-bytes : (line : List ℕ) (n : ℕ) → IsFront line n → encode_utf8_all (take n line) ≡ take n line
front-bytes line n front = encodes-IsAscii (take n line) (ascii (take n line) front.all)

front-width : (line : List ℕ) (n m : ℕ) → IsFront line n → m ≤ n → str_width false (take m line) ≡ m
front-width line n m front within =
    str_width-printable false (take m line) (printable-front line n m front.all within)
    ∙ length-take-le m line (let bound = front.within in omega arith)

front-narrow : (columns : ℕ) (line : List ℕ) (n : ℕ) → IsFront line n → n < columns → AllNarrow columns (take n line)
front-narrow columns line n front fits m some within =
    let long = length-take-le n line front.within in
    let short : m ≤ n = omega arith in
    let same : take m (take n line) ≡ take m line = take-take m n line short in
    let counted = ap (str_width false) same in
    let wide = front-width line n m front short in
    omega arith

-- ---- the line so far

-- characters of a line before the segment, and of the segment before what is left; the widths of those before it and of
-- what follows add up
pub record IsSoFar (columns : ℕ) (line segment rest : List ℕ) (taken before end : ℕ) : Type 0 where
  pub passed : List ℕ
  pub seen : List ℕ
  pub line_is : line ≡ encode_utf8_all passed ++ segment
  pub segment_is : segment ≡ encode_utf8_all seen ++ rest
  pub text : IsUtf8 segment
  pub rest_text : IsUtf8 rest
  pub taken_is : taken ≡ length (encode_utf8_all seen)
  pub end_is : end ≡ length (encode_utf8_all passed) + taken
  pub adds : (cs : List ℕ) → str_width false (passed ++ cs) ≡ before + str_width false cs
  pub narrow : AllNarrow columns (passed ++ seen)

pub so-far-front : (columns : ℕ) (line rest : List ℕ) (n : ℕ) → IsUtf8 line → IsUtf8 rest → IsFront line n → n < columns → rest ≡ drop n line → IsSoFar columns line line rest n 0 n
so-far-front columns line rest n text rest_text front fits is =
    let long = length-take-le n line front.within in
    let bytes = front-bytes line n front in
    let counted = ap length bytes in
    record {
      passed = [];
      seen = take n line;
      line_is = refl;
      segment_is = sym (take-append-drop n line) ∙ ap (λ r. take n line ++ r) (sym is) ∙ ap (λ t. t ++ rest) (sym bytes);
      text = text;
      rest_text = rest_text;
      taken_is = omega arith;
      end_is = omega arith;
      adds = λ cs. omega arith;
      narrow = front-narrow columns line n front fits;
    }

narrow-more : (columns : ℕ) (cs : List ℕ) (c : ℕ) → AllNarrow columns cs → str_width false (cs ++ c ∷ []) < columns → AllNarrow columns (cs ++ c ∷ [])
narrow-more columns cs c narrow last m some within =
    let long = length_push cs c in
    elim (cases_lt (length cs) m) [
      | inl past ↦
          (let all : take m (cs ++ c ∷ []) ≡ cs ++ c ∷ [] = take_all m (cs ++ c ∷ []) (omega arith) in
          let told = ap (str_width false) all in
          omega arith)
      | inr short ↦
          (let same : take m (cs ++ c ∷ []) ≡ take m cs = take-append-le m cs (c ∷ []) short in
          let told = ap (str_width false) same in
          let before = narrow m some short in
          omega arith)
    ]

not-all-narrow : (columns : ℕ) (cs : List ℕ) → AllNarrow columns cs → columns < str_width false cs → ⊥
not-all-narrow columns [] narrow wide = let none = str_width-nil in omega arith
not-all-narrow columns (c ∷ cs) narrow wide =
    let told = ap (str_width false) (take-length (c ∷ cs)) in
    let all = narrow (length (c ∷ cs)) (omega arith) (omega arith) in
    omega arith

module _ (columns : ℕ) (line segment rest : List ℕ) (taken before end : ℕ) (so : IsSoFar columns line segment rest taken before end) where
  abbrev kept : List ℕ
  kept = so.passed ++ so.seen

  line-whole : line ≡ encode_utf8_all kept ++ rest
  line-whole =
      so.line_is ∙ ap (λ t. encode_utf8_all so.passed ++ t) so.segment_is ∙ sym (append_assoc (encode_utf8_all so.passed) (encode_utf8_all so.seen) rest)
      ∙ ap (λ t. t ++ rest) (sym (encodes-append so.passed so.seen))

  end-of-kept : end ≡ length (encode_utf8_all kept)
  end-of-kept =
      let both = ap length (encodes-append so.passed so.seen) in
      let sum = length-append (encode_utf8_all so.passed) (encode_utf8_all so.seen) in
      let at = so.end_is in
      let seen = so.taken_is in
      omega arith

  -- no character is left where all of the line is narrow, so that it isn't wide
  pub never-ends : rest ≡ [] → columns < width_of line → ⊥
  never-ends none wide =
      let bytes : line ≡ encode_utf8_all kept = line-whole ∙ ap (λ t. encode_utf8_all kept ++ t) none ∙ append-nil (encode_utf8_all kept) in
      let all : chars line ≡ kept = ap chars bytes ∙ chars-back kept in
      not-all-narrow columns kept so.narrow (subst (λ cs. columns < str_width false cs) all wide)

  module _ (c : ℕ) (left : List ℕ) (rest_is : rest ≡ encode c ++ left) where
    abbrev next_seen : List ℕ
    next_seen = so.seen ++ c ∷ []

    left-text : IsUtf8 left
    left-text = IsUtf8-past_char rest left c so.rest_text rest_is

    seen-bytes : encode_utf8_all next_seen ≡ encode_utf8_all so.seen ++ encode c
    seen-bytes = encodes-append so.seen (c ∷ []) ∙ ap (λ t. encode_utf8_all so.seen ++ t) (append-nil (encode c))

    segment-split : segment ≡ encode_utf8_all next_seen ++ left
    segment-split =
        so.segment_is ∙ ap (λ r. encode_utf8_all so.seen ++ r) rest_is ∙ sym (append_assoc (encode_utf8_all so.seen) (encode c) left) ∙ ap (λ t. t ++ left) (sym seen-bytes)

    module _ (n size : ℕ) (n_is : n ≡ taken + size) (size_is : size ≡ length (encode c)) where
      n-long : n ≡ length (encode_utf8_all next_seen)
      n-long =
          let bytes = ap length seen-bytes in
          let sum = length-append (encode_utf8_all so.seen) (encode c) in
          let seen = so.taken_is in
          omega arith

      pub next-boundary : IsCharBoundary segment n
      next-boundary = subst (IsCharBoundary segment) (sym n-long) (IsCharBoundary-at_seam segment (encode_utf8_all next_seen) left segment-split left-text)

      -- neither is past the end of the line
      pub next-within : (n ≤ length line) × (end + size ≤ length line)
      next-within =
          let whole = ap length segment-split in
          let sum = length-append (encode_utf8_all next_seen) left in
          let outer = ap length so.line_is in
          let outer_sum = length-append (encode_utf8_all so.passed) segment in
          let at = so.end_is in
          let long = n-long in
          (omega arith, omega arith)

      next-taken : take n segment ≡ encode_utf8_all next_seen
      next-taken = ap (λ k. take k segment) n-long ∙ ap (take (length (encode_utf8_all next_seen))) segment-split ∙ take-append_seam (encode_utf8_all next_seen) left

      next-dropped : drop n segment ≡ left
      next-dropped = ap (λ k. drop k segment) n-long ∙ ap (drop (length (encode_utf8_all next_seen))) segment-split ∙ drop-append_seam (encode_utf8_all next_seen) left

      next-width : (part : List ℕ) (width : ℕ) → part ≡ take (n - 0) segment → width ≡ width_of part → before + width ≡ str_width false (so.passed ++ next_seen)
      next-width part width part_is is =
          let none : n - 0 ≡ n = omega arith in
          let characters : chars part ≡ next_seen = ap chars (part_is ∙ ap (λ k. take k segment) none ∙ next-taken) ∙ chars-back next_seen in
          let told = ap (str_width false) characters in
          let sum = so.adds next_seen in
          omega arith

      -- so far it is this wide, as far as a number tells
      told-width : (part : List ℕ) (width told most : ℕ) → part ≡ take (n - 0) segment → width ≡ width_of part → told ≡ min (before + width) most → told < columns → columns ≤ most →
          told ≡ str_width false (so.passed ++ next_seen)
      told-width part width told most part_is is told_is small fits = let all = next-width part width part_is is in omega arith

      line-characters : chars line ≡ kept ++ c ∷ chars left
      line-characters =
          let bytes : encode_utf8_all (c ∷ chars left) ≡ rest = ap (λ t. encode c ++ t) (encodes-chars left left-text) ∙ sym rest_is in
          ap chars (line-whole ∙ ap (λ t. encode_utf8_all kept ++ t) (sym bytes) ∙ sym (encodes-append kept (c ∷ chars left))) ∙ chars-back (kept ++ c ∷ chars left)

      -- the next character does not fit
      pub stops : (part : List ℕ) (width told most : ℕ) → part ≡ take (n - 0) segment → width ≡ width_of part → told ≡ min (before + width) most → columns ≤ told → IsCutAt columns line end
      stops part width told most part_is is told_is enough = record {
        kept = kept;
        next = c;
        left = chars left;
        characters = line-characters;
        taken = ap (λ k. take k line) end-of-kept ∙ ap (take (length (encode_utf8_all kept))) line-whole ∙ take-append_seam (encode_utf8_all kept) rest;
        boundary = subst (IsCharBoundary line) (sym end-of-kept) (IsCharBoundary-at_seam line (encode_utf8_all kept) rest line-whole so.rest_text);
        narrow = so.narrow;
        wide =
            let all = next-width part width part_is is in
            let same = ap (str_width false) (append_assoc so.passed so.seen (c ∷ [])) in
            omega arith;
      }

      still-narrow : (told : ℕ) → told ≡ str_width false (so.passed ++ next_seen) → told < columns → AllNarrow columns (so.passed ++ next_seen)
      still-narrow told is small =
          let same = append_assoc so.passed so.seen (c ∷ []) in
          let width = ap (str_width false) same in
          subst (AllNarrow columns) same (narrow-more columns kept c so.narrow (omega arith))

      -- it fits
      pub goes-on : (part : List ℕ) (width told most : ℕ) → part ≡ take (n - 0) segment → width ≡ width_of part → told ≡ min (before + width) most → told < columns → columns ≤ most →
          IsSoFar columns line segment left n before (end + size)
      goes-on part width told most part_is is told_is small fits = record {
        passed = so.passed;
        seen = next_seen;
        line_is = so.line_is;
        segment_is = segment-split;
        text = so.text;
        rest_text = left-text;
        taken_is = n-long;
        end_is = let at = so.end_is in omega arith;
        adds = so.adds;
        narrow = still-narrow told (told-width part width told most part_is is told_is small fits) small;
      }

      -- it fits, and stands apart
      pub goes-apart : (part after : List ℕ) (width told most : ℕ) → part ≡ take (n - 0) segment → width ≡ width_of part → told ≡ min (before + width) most → told < columns → columns ≤ most →
          after ≡ drop n segment → StandsApart c → IsSoFar columns line after left 0 told (end + size)
      goes-apart part after width told most part_is is told_is small fits after_is apart =
          let counted = told-width part width told most part_is is told_is small fits in
          let after_left : after ≡ left = after_is ∙ next-dropped in record {
            passed = so.passed ++ next_seen;
            seen = [];
            line_is =
                so.line_is ∙ ap (λ t. encode_utf8_all so.passed ++ t) segment-split ∙ sym (append_assoc (encode_utf8_all so.passed) (encode_utf8_all next_seen) left)
                ∙ ap (λ t. t ++ left) (sym (encodes-append so.passed next_seen)) ∙ ap (λ t. encode_utf8_all (so.passed ++ next_seen) ++ t) (sym after_left);
            segment_is = after_left;
            text = subst IsUtf8 (sym after_left) left-text;
            rest_text = left-text;
            taken_is = refl;
            end_is =
                let at = so.end_is in
                let long = n-long in
                let both = ap length (encodes-append so.passed next_seen) in
                let sum = length-append (encode_utf8_all so.passed) (encode_utf8_all next_seen) in
                omega arith;
            adds = λ cs.
                let joined : (so.passed ++ next_seen) ++ cs ≡ kept ++ c ∷ cs =
                ap (λ t. t ++ cs) (sym (append_assoc so.passed so.seen (c ∷ []))) ∙ append_assoc kept (c ∷ []) cs in
                let all = ap (str_width false) joined in
                let sum = apart kept cs in
                let first = ap (str_width false) (append_assoc so.passed so.seen (c ∷ [])) in
                omega arith;
            narrow = subst (AllNarrow columns) (sym (append-nil (so.passed ++ next_seen))) (still-narrow told counted small);
          }

-- ---- a count in the printable front

none-kept : (count : ℕ) (line : List ℕ) → IsUtf8 line → count ≡ 0 → 0 < width_of line → IsCutAt 0 line count
none-kept count line text is wide = by (chars line) refl
  where
    by : (cs : List ℕ) → chars line ≡ cs → IsCutAt 0 line count
    by [] same = absurd (let none = str_width-nil in let told = ap (str_width false) same in omega arith)
    by (c ∷ cs) same = record {
      kept = [];
      next = c;
      left = cs;
      characters = same;
      taken = ap (λ k. take k line) is;
      boundary = subst (IsCharBoundary line) (sym is) (IsCharBoundary-start line text);
      narrow = λ m some within. absurd (omega arith);
      wide = omega arith;
    }

some-kept : (k count n : ℕ) (line : List ℕ) → IsUtf8 line → IsFront line n → k + 1 ≤ n → count ≡ k → IsCutAt (k + 1) line count
some-kept k count n line text front within is =
    let bound = front.within in
    let printable = printable-front line n (k + 1) front.all within in
    let low = ascii (take (k + 1) line) printable in
    let less = printable-front line n k front.all (omega arith) in
    let one : take (k + 1) line ≡ take k line ++ get_or line k 0 ∷ [] = take_more line k 0 (omega arith) in record {
      kept = take k line;
      next = get_or line k 0;
      left = chars (drop (k + 1) line);
      characters =
          ap chars (sym (take-append-drop (k + 1) line)) ∙ chars-append (take (k + 1) line) (drop (k + 1) line) (IsUtf8-from_ascii (take (k + 1) line) low)
          ∙ ap (λ cs. cs ++ chars (drop (k + 1) line)) (chars-IsAscii (take (k + 1) line) low ∙ one) ∙ append_assoc (take k line) (get_or line k 0 ∷ []) (chars (drop (k + 1) line));
      taken = ap (λ p. take p line) is ∙ sym (encodes-IsAscii (take k line) (ascii (take k line) less));
      boundary = subst (IsCharBoundary line) (sym is) (cut_past line k text (omega arith) less);
      narrow = front-narrow (k + 1) line k (record { within = omega arith; all = less }) (omega arith);
      wide = let told = ap (str_width false) one in let all = front-width line n (k + 1) front within in omega arith;
    }

pub front-cut : (columns count n : ℕ) (line : List ℕ) → IsUtf8 line → IsFront line n → columns ≤ n → count ≡ columns - 1 → columns < width_of line → IsCutAt columns line count
front-cut zero count n line text front within is wide = none-kept count line text (omega arith) wide
front-cut (suc k) count n line text front within is wide =
    let next : k + 1 ≡ suc k = omega arith in
    subst (λ (columns : ℕ). IsCutAt columns line count) next (some-kept k count n line text front (omega arith) (omega arith))

-- ---- what is added

pub adds-cut : {E : Type 0} (r : Result (Unit {0}) E) (columns count : ℕ) (line part old middle new : List ℕ) → columns < width_of line → IsCutAt columns line count → part ≡ take (count - 0) line →
    middle ≡ old ++ part → OnOk r (new ≡ middle ++ encode 0x2026) → OnOk r (AddsLine columns line true old new)
adds-cut (Ok x) columns count line part old middle new wide at part_is first second = (
  take count line ++ encode 0x2026,
  inr (cut-shortened columns count line (take count line ++ encode 0x2026) wide at refl),
  second ∙ ap (λ t. t ++ encode 0x2026) (first ∙ ap (λ t. old ++ t) (part_is ∙ ap (λ n. take n line) (let none : count - 0 ≡ count = omega arith in none))) ∙ append_assoc old (take count line) (encode 0x2026),
)
adds-cut (Err e) columns count line part old middle new wide at part_is first second = tt

-- ---- all lines so far

-- the text has the cut lines, joined by line feeds
pub record AreCut (columns : ℕ) (lines : List (List ℕ)) (begins : Bool) (shown : List ℕ) : Type 0 where
  pub cuts : List (List ℕ)
  pub each : AllZip (IsCutLine columns) lines cuts
  pub is : shown ≡ join_with_byte 10 cuts
  pub first : begins ≡ true → cuts ≡ []
  pub later : begins ≡ false → 0 < length cuts

join-more : (cuts : List (List ℕ)) (cut : List ℕ) → 0 < length cuts → join_with_byte 10 (cuts ++ cut ∷ []) ≡ join_with_byte 10 cuts ++ (10 ∷ cut)
join-more [] cut some = absurd (omega arith)
join-more (x ∷ []) cut some = refl
join-more (x ∷ y ∷ more) cut some = ap (λ t. x ++ (10 ∷ t)) (join-more (y ∷ more) cut (omega arith)) ∙ sym (append_assoc x (10 ∷ join_with_byte 10 (y ∷ more)) (10 ∷ cut))

pub cut-more : (columns : ℕ) (lines : List (List ℕ)) (line : List ℕ) (begins : Bool) (old new : List ℕ) → AreCut columns lines begins old → AddsLine columns line begins old new →
    AreCut columns (lines ++ line ∷ []) false new
cut-more columns lines line begins old new so adds = record {
  cuts = so.cuts ++ adds.0 ∷ [];
  each = AllZip-push (IsCutLine columns) lines so.cuts line adds.0 so.each adds.1;
  is = by begins refl;
  first = λ is. cc;
  later = λ _. let long = length_push so.cuts adds.0 in omega arith;
}
  where
    by : (b : Bool) → begins ≡ b → new ≡ join_with_byte 10 (so.cuts ++ adds.0 ∷ [])
    by true is =
        let none = so.first is in
        adds.2 ∙ ap (λ b. old ++ cond b adds.0 (10 ∷ adds.0)) is ∙ ap (λ t. t ++ adds.0) (so.is ∙ ap (join_with_byte 10) none)
        ∙ sym (ap (λ cs. join_with_byte 10 (cs ++ adds.0 ∷ [])) none)
    by false is = adds.2 ∙ ap (λ b. old ++ cond b adds.0 (10 ∷ adds.0)) is ∙ ap (λ t. t ++ (10 ∷ adds.0)) so.is ∙ sym (join-more so.cuts adds.0 (so.later is))

-- ---- a text that is not cut

narrow-zip : (columns : ℕ) (lines : List (List ℕ)) → All (λ line. width_of line ≤ columns) lines → AllZip (IsCutLine columns) lines lines
narrow-zip columns [] all = tt
narrow-zip columns (line ∷ lines) all =
    (inl (All-head (λ l. width_of l ≤ columns) line lines all, refl), narrow-zip columns lines (All-tail (λ l. width_of l ≤ columns) line lines all))

pub cut-itself : (columns : ℕ) (text : List ℕ) → HasLinesWithin columns text → IsCut columns text text
cut-itself columns text all = record { lines = split_lines text; each = narrow-zip columns (split_lines text) all; joined = sym (is_split text).joined }

-- no line of a printable text is wider than the text is long
pub short-within : (columns : ℕ) (text : List ℕ) → list_all (is_in_range 0x20 0x7E) text ≡ true → length text ≤ columns → HasLinesWithin columns text
short-within columns text printable short =
    let wide = width-printable text printable in
    subst (All (λ l. width_of l ≤ columns)) (sym (one_line text printable)) (All-cons (λ l. width_of l ≤ columns) text [] (omega arith) (All-nil (λ l. width_of l ≤ columns)))

pub short-itself : (columns : ℕ) (text : List ℕ) → list_all (is_in_range 0x20 0x7E) text ≡ true → length text ≤ columns → IsCut columns text text
short-itself columns text printable short = cut-itself columns text (short-within columns text printable short)
