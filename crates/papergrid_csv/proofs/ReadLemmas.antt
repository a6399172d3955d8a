-- What was read of a CSV text, and the rows of its table.
use Rattle.std.proofs.Common.{◌≡◌, ◌∙◌, ◌<◌, ◌+◌, ℕ, zero, suc, List, [], ◌∷◌, ◌++◌, Bool, Option, Some, None, Vec, ap, append_assoc, arith, get_or, length, map, max, refl, replicate, sym, take, true, false}
use Rattle.std.specs.Borrow.{Bor}
use Rattle.std.specs.declared.alloc.Global.{Global}
use Rattle.std.specs.Prelude.{◌==◌, ◌&&◌, All}
use Rattle.std.specs.Ordering.{nat_cmp, ord_max}
use Rattle.std.proofs.Math.Seq.{take-nil}
use Rattle.std.proofs.lemmas.Bool.{and_parts}
use Rattle.std.proofs.lemmas.Bool.Decides.{nat_tests}
use Rattle.std.proofs.lemmas.List.Elements.{All-head, All-nil, All-push, All-tail}
use Rattle.std.proofs.lemmas.Simd.{map-map}
use Rattle.std.proofs.lemmas.List.{length-map, map-append, replicate_more, take_more}
use Rattle.csv.specs.Machine.{Read, next_record}
use Rattle.csv.specs.Reading.{default_config, ExplainsRead, NextIs, ReadsNext, ReadRecord, pending_of, source_of, strip_bom}
use Rattle.csv.specs.Records.{AllText, field_at}
use Rattle.csv.specs.declared.error.ErrorKind.{ErrorKind}
use Rattle.csv.specs.declared.error.ErrorKind.TheVariants as kinds
use Rattle.csv.specs.declared.parser.Config.{Config}
use Rattle.csv.specs.declared.parser.State.{State}
use Rattle.csv.specs.declared.parser.State.TheVariants as states
use Rattle.csv.specs.declared.reader.Reader.{Reader}
use Rattle.csv.proofs.ReadFacts.{rows-end, rows-more}
use Rattle.papergrid_csv.specs.Rows.{AllAsLong, AreRowsOf, IsNextRecord, IsUnclosed, IsUnread, config_by, config_of, with_empty_fields, first_length, greatest_length, row_texts}
use Rattle.papergrid_csv.specs.Spelling.{spelled}
use Rattle.papergrid_csv.specs.ForProofs.Read.{AreShownFields, AreShownFirst, has_other_length, unread_of}
use Rattle.papergrid_csv.specs.declared.reading.Format.{Format}
use Rattle.papergrid_csv.specs.declared.reading.Format.TheVariants.{Csv, Tsv}
use Rattle.papergrid_csv.specs.declared.reading.Reading.{Reading}
use Rattle.papergrid_csv.specs.declared.reading.RowsError.TheVariants.{Ragged}

-- ---- fields

pub field-more : (fields : List (List ℕ)) (i : ℕ) (field : List ℕ) → Some field ≡ field_at fields i → take (i + 1) fields ≡ take i fields ++ field ∷ []
unfolding field_at
field-more [] i field is = cc
field-more (f ∷ fs) zero field is = let same : field ≡ f = cc in rw same refl
field-more (f ∷ fs) (suc i) field is = let next : suc i + 1 ≡ suc (i + 1) = omega arith in rw next (ap (λ rest. f ∷ rest) (field-more fs i field is))

pub field-end : (fields : List (List ℕ)) (i : ℕ) → None ≡ field_at fields i → take i fields ≡ fields
unfolding field_at
field-end [] i is = take-nil i
field-end (f ∷ fs) zero is = cc
field-end (f ∷ fs) (suc i) is = ap (λ rest. f ∷ rest) (field-end fs i is)

-- ---- rows

pub greatest-more : (rows : List (List (List ℕ))) (row : List (List ℕ)) → greatest_length (rows ++ row ∷ []) ≡ max (greatest_length rows) (length row)
greatest-more [] row = omega arith
greatest-more (r ∷ rows) row = let more = greatest-more rows row in omega (arith, more)

-- so many fields more
pub filled-more : (row texts more : List (List ℕ)) (n m : ℕ) → texts ≡ row ++ replicate n [] → more ≡ texts ++ [] ∷ [] → m ≡ n + 1 → more ≡ row ++ replicate m []
filled-more row texts more n m so_far is next =
    is ∙ ap (λ t. t ++ [] ∷ []) so_far ∙ append_assoc row (replicate n []) ([] ∷ []) ∙ ap (λ t. row ++ t) (replicate_more n [] ∙ ap (λ k. replicate k []) (sym next))

-- one row more
pub filled-next : (columns : ℕ) (yielded : List (Vec (Bor (List ℕ)) Global)) (row added : Vec (Bor (List ℕ)) Global) (old new : List (Vec (Bor (List ℕ)) Global)) →
    map row_texts old ≡ map (with_empty_fields columns) (map row_texts yielded) → new ≡ old ++ added ∷ [] → row_texts added ≡ with_empty_fields columns (row_texts row) →
    map row_texts new ≡ map (with_empty_fields columns) (map row_texts (yielded ++ row ∷ []))
filled-next columns yielded row added old new so is filled =
    ap (map row_texts) is ∙ map-append row_texts old (added ∷ []) ∙ ap (λ l. l ++ row_texts added ∷ []) so
    ∙ ap (λ texts. map (with_empty_fields columns) (map row_texts yielded) ++ texts ∷ []) filled
    ∙ sym (map-append (with_empty_fields columns) (map row_texts yielded) (row_texts row ∷ []))
    ∙ ap (map (with_empty_fields columns)) (sym (map-append row_texts yielded (row ∷ [])))

-- ---- records that are as long as the first

long-push : (first fields : List (List ℕ)) (records : List (List (List ℕ))) → All (λ r. length r ≡ length first) records → length fields ≡ length first →
    All (λ r. length r ≡ length first) (records ++ fields ∷ [])
long-push first fields records long same = All-push (λ r. length r ≡ length first) records fields long same

pub long-more : (f : List ℕ → List ℕ) (records : List (List (List ℕ))) (fields : List (List ℕ)) → AllAsLong records → has_other_length (map (map f) records) fields ≡ false → AllAsLong (records ++ fields ∷ [])
long-more f [] fields long same = All-nil (λ r. length r ≡ length fields)
long-more f (first ∷ records) fields long same =
    let counted = length-map first f in
    let as_long : length fields ≡ length first = grind (arith, nat_tests) in
    long-push first fields records long as_long

first-map : (f : List ℕ → List ℕ) (records : List (List (List ℕ))) → first_length (map (map f) records) ≡ first_length records
first-map f [] = refl
first-map f (first ∷ records) = length-map first f

last-of : {X : Type 0} (P : X → Type 0) (xs : List X) (x : X) → All P (xs ++ x ∷ []) → P x
last-of P [] x all = All-head P x [] all
last-of P (y ∷ xs) x all = last-of P xs x (All-tail P y (xs ++ x ∷ []) all)

pub not-long : (f : List ℕ → List ℕ) (records : List (List (List ℕ))) (fields : List (List ℕ)) → has_other_length (map (map f) records) fields ≡ true → AllAsLong (records ++ fields ∷ []) → ⊥
not-long f [] fields other long = cc
not-long f (first ∷ records) fields other long =
    let counted = length-map first f in
    let last : length fields ≡ length first = last-of (λ r. length r ≡ length first) records fields long in
    let same : (length (map f first) == length fields) ≡ true = grind (arith, nat_tests) in
    cc

-- ---- by the format

pub config-known : (format : Format) (delimiter : ℕ) (quoting : Bool) → delimiter ≡ (config_by format).delimiter → quoting ≡ (config_by format).quoting →
    record default_config { delimiter = delimiter; quoting = quoting } ≡ config_by format
config-known (Csv d) delimiter quoting first second = rw (first, second) refl
config-known Tsv delimiter quoting first second = rw (first, second) refl

pub counted-rows : (strict : Bool) (fields : List (List ℕ)) (lent held : List (Vec (Bor (List ℕ)) Global)) → lent ≡ held →
    (strict && has_other_length (map row_texts lent) fields) ≡ (strict && has_other_length (map row_texts held) fields)
counted-rows strict fields lent held same = ap (λ rows. strict && has_other_length (map row_texts rows) fields) same

-- ---- a read that found a record

read-next : (cfg : Config) (s s2 : State) (xs : List ℕ) (after : Option (List ℕ)) (found : Bool) (f : List (List ℕ)) → ReadsNext cfg s (Some xs) after found f s2 → found ≡ true →
    (p : Read) × (next_record cfg s [] [] xs ≡ Some p) × (f ≡ p.0)
read-next cfg s s2 xs None found f h is = absurd h
read-next cfg s s2 xs (Some ys) found f h is = by (next_record cfg s [] [] xs) refl h
  where
    by : (o : Option Read) → next_record cfg s [] [] xs ≡ o → NextIs o found f s2 ys → (p : Read) × (next_record cfg s [] [] xs ≡ Some p) × (f ≡ p.0)
    by None e none = cc
    by (Some p) e some = (p, e, some.1)

-- ---- what a reader has read

module _ {R : Type 0} (rem : R → Option (List ℕ)) (reading : Reading) (input : List ℕ) (closed : IsUnclosed reading input → ⊥) (shown : List (List (List ℕ))) (old new : Reader R) (y : List ℕ)
    (config : old.config ≡ config_of reading) (source : source_of rem old ≡ Some y) (first : AreShownFirst reading input shown old.state y) where
  -- one record more
  pub shown-more : (fields : List (List ℕ)) (more : List (List (List ℕ))) (ragged : Bool) → ReadRecord rem old new true fields → AllText fields → ragged ≡ (reading.strict && has_other_length shown fields) → ragged ≡ false →
      more ≡ shown ++ map (spelled reading) fields ∷ [] → (z : List ℕ) × (source_of rem new ≡ Some z) × AreShownFirst reading input more new.state z
  shown-more fields more ragged read text told even is =
      let m = rows-more rem old new fields (config_of reading) states.StartRecord (strip_bom input) y first.records config source first.read read in
      let long : reading.strict ≡ true → AllAsLong (first.records ++ fields ∷ []) = λ strict.
      long-more (spelled reading) first.records fields (first.may.long strict)
      (ap (λ r. has_other_length r fields) (sym first.are) ∙ sym (ap (λ b. b && has_other_length shown fields) strict) ∙ sym told ∙ even) in (
        m.0,
        m.1,
        record {
          records = first.records ++ fields ∷ [];
          read = m.2;
          may = record { texts = All-push AllText first.records fields first.may.texts text; long = long };
          are = is ∙ ap (λ s. s ++ map (spelled reading) fields ∷ []) first.are ∙ sym (map-append (map (spelled reading)) first.records (fields ∷ []));
        },
      )

  -- no record more
  pub shown-end : (fields : List (List ℕ)) → ReadRecord rem old new false fields → AreShownFields reading input shown
  shown-end fields read = record {
    records = first.records;
    read = (old.state, y, first.read, rows-end rem old new fields (config_of reading) y config source read);
    may = first.may;
    are = first.are;
  }

  -- the next record
  next-found : (p : Read) (fields : List (List ℕ)) → next_record (config_of reading) old.state [] [] y ≡ Some p → fields ≡ p.0 → IsNextRecord reading input first.records fields
  next-found p fields found is = record {
    closed = closed;
    may = first.may;
    state = old.state;
    rest = y;
    next = p;
    read = first.read;
    found = found;
    fields_are = is;
  }

  counted : length shown ≡ length first.records
  counted = ap length first.are ∙ length-map first.records (map (spelled reading))

  first-shown : first_length shown ≡ first_length first.records
  first-shown = ap first_length first.are ∙ first-map (spelled reading) first.records

  -- it has another number of fields
  pub shown-ragged : (fields : List (List ℕ)) (ragged : Bool) (before field_count first_count : ℕ) → ReadRecord rem old new true fields → AllText fields →
      ragged ≡ (reading.strict && has_other_length shown fields) → ragged ≡ true → before ≡ length shown → field_count ≡ length fields → first_count ≡ first_length shown → IsUnread reading input (Ragged before field_count first_count)
  shown-ragged fields ragged before field_count first_count read text told odd is_before is_count is_first =
      let next = read-next (config_of reading) old.state new.state y (pending_of (rem new.rdr) new) true fields (rw (config, source) at read.0) refl in
      let both = and_parts reading.strict (has_other_length shown fields) (sym told ∙ odd) in
      record {
        strict = both.0;
        before = first.records;
        fields = fields;
        counted = is_before ∙ counted;
        fields_counted = is_count;
        first_counted = is_first ∙ first-shown;
        next = next-found next.0 fields next.1 next.2;
        is_text = text;
        is_ragged = not-long (spelled reading) first.records fields (ap (λ r. has_other_length r fields) (sym first.are) ∙ both.1);
      }

  -- no record, for this reason
  pub shown-unread : (kind : ErrorKind) → ExplainsRead rem old new true kind → IsUnread reading input (unread_of kind (length shown))
  shown-unread (kinds.Utf8 position err) why =
      let next = read-next (config_of reading) old.state new.state y (pending_of (rem new.rdr) new) true why.1 (rw (config, source) at why.2) refl in
      record {
        before = first.records;
        fields = why.1;
        counted = counted;
        next = next-found next.0 why.1 next.1 next.2;
        is_bad = why.3;
      }
  shown-unread (kinds.Io e) why = tt
  shown-unread (kinds.UnequalLengths position expected len) why = tt
  shown-unread kinds.OutOfMemory why = tt
  shown-unread (kinds.Serialize text) why = tt
  shown-unread (kinds.Deserialize position err) why = tt

-- ---- the greatest length so far

pub greatest-next : (rows : List (Vec (Bor (List ℕ)) Global)) (i : ℕ) (row : Vec (Bor (List ℕ)) Global) (greatest next : ℕ) → i < length rows → row ≡ get_or rows i row →
    greatest ≡ greatest_length (map row_texts (take i rows)) → next ≡ max greatest (length row.items) → next ≡ greatest_length (map row_texts (take (i + 1) rows))
greatest-next rows i row greatest next within is so_far step =
    let cut : take (i + 1) rows ≡ take i rows ++ row ∷ [] = take_more rows i row within ∙ ap (λ r. take i rows ++ r ∷ []) (sym is) in
    let long : length (row_texts row) ≡ length row.items = length-map row.items (λ text. text.now) in
    step ∙ (let both : max greatest (length row.items) ≡ max (greatest_length (map row_texts (take i rows))) (length (row_texts row)) = omega arith in both)
    ∙ sym (ap (λ rs. greatest_length (map row_texts rs)) cut ∙ ap greatest_length (map-append row_texts (take i rows) (row ∷ [])) ∙ greatest-more (map row_texts (take i rows)) (row_texts row))

-- ---- the fields of a record so far

pub shown-field : (reading : Reading) (fields : List (List ℕ)) (i j : ℕ) (field text : List ℕ) (texts more : List (List ℕ)) → texts ≡ map (spelled reading) (take i fields) →
    Some field ≡ field_at fields i → j ≡ i + 1 → text ≡ spelled reading field → more ≡ texts ++ text ∷ [] → more ≡ map (spelled reading) (take j fields)
shown-field reading fields i j field text texts more so_far at next same is =
    is ∙ ap (λ t. texts ++ t ∷ []) same ∙ ap (λ t. t ++ spelled reading field ∷ []) so_far ∙ sym (map-append (spelled reading) (take i fields) (field ∷ []))
    ∙ sym (ap (λ k. map (spelled reading) (take k fields)) next ∙ ap (map (spelled reading)) (field-more fields i field at))

-- ---- all rows

greatest-map : (f : List (List ℕ) → List (List ℕ)) (rows : List (List (List ℕ))) → ((row : List (List ℕ)) → length (f row) ≡ length row) → greatest_length (map f rows) ≡ greatest_length rows
greatest-map f [] same = refl
greatest-map f (row ∷ rows) same = let more = greatest-map f rows same in let one = same row in omega (arith, one, more)

pub rows-are : (reading : Reading) (input : List ℕ) (columns : ℕ) (shown rows : List (List (List ℕ))) → (IsUnclosed reading input → ⊥) → AreShownFields reading input shown →
    columns ≡ greatest_length shown → rows ≡ map (with_empty_fields columns) shown → AreRowsOf reading input columns rows
rows-are reading input columns shown rows closed so widest filled = record {
  records = so.records;
  closed = closed;
  read = so.read;
  may = so.may;
  widest = widest ∙ ap greatest_length so.are ∙ greatest-map (map (spelled reading)) so.records (λ row. length-map row (spelled reading));
  shown = filled ∙ ap (map (with_empty_fields columns)) so.are ∙ map-map (with_empty_fields columns) (map (spelled reading)) so.records;
}

pub max-of : (a b c : ℕ) → b ≡ c → ord_max nat_cmp a b ≡ max a c
max-of a b c same = grind (arith, nat_tests)
