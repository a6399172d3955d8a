-- What is written of lines, one after the other.
use Rattle.std.proofs.Common.{◌≡◌, ◌∙◌, ◌+◌, ◌-◌, ◌<◌, ℕ, replicate, suc, Bool, true, false, List, [], ◌∷◌, ◌++◌, Result, Ok, Err, OnOk, length, refl, sym, ap, subst, arith, append-nil, append_assoc}
use Rattle.std.specs.Fmt.{WritesInCalls}
use Rattle.std.specs.List.{enumerate_from, join_with_byte}
use Rattle.std.specs.Result.{IsErrAnd}
use Rattle.std.specs.declared.alloc.AllocError.{AllocError}
use Rattle.std.proofs.Output.{writes_in_calls_append, writes_in_calls_nil, writes_in_calls_single}
use Rattle.std.proofs.lemmas.List.{replicate-append-replicate}
use Rattle.std.proofs.lemmas.Result.{err_from_is_err_and}
use Rattle.papergrid_draw.specs.declared.error.DrawError.{DrawError}
use Rattle.papergrid_draw.specs.declared.error.DrawError.TheVariants.{Memory, NoRoom, NotTiled, OutOfTable, TooLarge, Write}
use Rattle.papergrid_draw.specs.ForProofs.Sheets.{IsCutShort, Writes, WritesLines, begun_after, lines_after, separator}
use Rattle.std.specs.Prelude.{Option}
use Rattle.papergrid_values.specs.declared.position.Position.{Position}
use Rattle.papergrid_draw.specs.ForProofs.Pages.{Texts}

-- what is told of cells
abbrev pub told_texts : {C : Type 0} → (C → Position → List (List ℕ × ℕ)) → (C → Position → Option (List ℕ × List ℕ)) → C → Texts
told_texts lines color cells = record { lines = lines cells; color = color cells }

-- ---- the bytes of lines

begun-stays : (lines : List (List ℕ)) → begun_after true lines ≡ true
begun-stays [] = refl
begun-stays (line ∷ lines) = refl

pub begun_after-append : (begun : Bool) (xs ys : List (List ℕ)) → begun_after begun (xs ++ ys) ≡ begun_after (begun_after begun xs) ys
begun_after-append begun [] ys = refl
begun_after-append begun (x ∷ xs) ys = sym (begun-stays ys)

pub lines_after-append : (begun : Bool) (xs ys : List (List ℕ)) → lines_after begun (xs ++ ys) ≡ lines_after begun xs ++ lines_after (begun_after begun xs) ys
lines_after-append begun [] ys = refl
lines_after-append begun (x ∷ xs) ys =
    ap (λ l. separator begun ++ x ++ l) (lines_after-append true xs ys ∙ ap (λ b. lines_after true xs ++ lines_after b ys) (begun-stays xs))
    ∙ sym (append_assoc (separator begun ++ x) (lines_after true xs) (lines_after true ys))

-- lines before which none stand are joined by line feeds
pub lines_after-all : (lines : List (List ℕ)) → lines_after false lines ≡ join_with_byte 10 lines
lines_after-all [] = refl
lines_after-all (x ∷ []) = append-nil x
lines_after-all (x ∷ y ∷ ys) = ap (λ l. x ++ 10 ∷ l) (lines_after-all (y ∷ ys))

pub enumerate_from-append : {X : Type 0} (n : ℕ) (xs ys : List X) → enumerate_from n (xs ++ ys) ≡ enumerate_from n xs ++ enumerate_from (n + length xs) ys
enumerate_from-append n [] ys = ap (λ k. enumerate_from k ys) (let e : n ≡ n + 0 = omega arith in e)
enumerate_from-append n (x ∷ xs) ys =
    ap (λ l. (n, x) ∷ l) (enumerate_from-append (n + 1) xs ys
    ∙ ap (λ k. enumerate_from (n + 1) xs ++ enumerate_from k ys) (let e : n + 1 + length xs ≡ n + suc (length xs) = omega arith in e))

-- ---- what a writer took

-- by the relations of texts that are taken and of one that breaks off
module _ {W : Type 0} (takes breaks : W → List ℕ → W → Type 0) where
  pub cut-memory : (a : W) (bytes : List ℕ) (e : AllocError) → IsCutShort takes breaks a a bytes (Memory e)
  cut-memory a bytes e = record { taken = []; rest = bytes; calls = writes_in_calls_nil takes a; whole = refl }

  cut-later : (a b c : W) (xs ys : List ℕ) (error : DrawError) → WritesInCalls takes a xs b → IsCutShort takes breaks b c ys error → IsCutShort takes breaks a c (xs ++ ys) error
  cut-later a b c xs ys (Memory e) p q = record {
    taken = xs ++ q.taken;
    rest = q.rest;
    calls = writes_in_calls_append takes a xs b q.taken c p q.calls;
    whole = append_assoc xs q.taken q.rest ∙ ap (λ l. xs ++ l) q.whole;
  }
  cut-later a b c xs ys Write p q = record {
    taken = xs ++ q.taken;
    between = q.between;
    text = q.text;
    rest = q.rest;
    calls = writes_in_calls_append takes a xs b q.taken q.between p q.calls;
    broke = q.broke;
    whole = ap (λ l. l ++ q.rest) (append_assoc xs q.taken q.text) ∙ append_assoc xs (q.taken ++ q.text) q.rest ∙ ap (λ l. xs ++ l) q.whole;
  }
  cut-later a b c xs ys (OutOfTable x) p q = absurd q
  cut-later a b c xs ys (NotTiled x) p q = absurd q
  cut-later a b c xs ys (NoRoom x) p q = absurd q
  cut-later a b c xs ys TooLarge p q = absurd q

  cut-before : (a b : W) (xs ys : List ℕ) (error : DrawError) → IsCutShort takes breaks a b xs error → IsCutShort takes breaks a b (xs ++ ys) error
  cut-before a b xs ys (Memory e) p = record {
    taken = p.taken;
    rest = p.rest ++ ys;
    calls = p.calls;
    whole = sym (append_assoc p.taken p.rest ys) ∙ ap (λ l. l ++ ys) p.whole;
  }
  cut-before a b xs ys Write p = record {
    taken = p.taken;
    between = p.between;
    text = p.text;
    rest = p.rest ++ ys;
    calls = p.calls;
    broke = p.broke;
    whole = sym (append_assoc (p.taken ++ p.text) p.rest ys) ∙ ap (λ l. l ++ ys) p.whole;
  }
  cut-before a b xs ys (OutOfTable x) p = absurd p
  cut-before a b xs ys (NotTiled x) p = absurd p
  cut-before a b xs ys (NoRoom x) p = absurd p
  cut-before a b xs ys TooLarge p = absurd p

  writes-then : {A : Type 0} (a b c : W) (xs ys : List ℕ) (r : Result A DrawError) → WritesInCalls takes a xs b → Writes takes breaks b c ys r →
      Writes takes breaks a c (xs ++ ys) r
  writes-then a b c xs ys (Ok x) p q = writes_in_calls_append takes a xs b ys c p q
  writes-then a b c xs ys (Err error) p q = cut-later a b c xs ys error p q

  -- one text that is taken, or breaks off
  pub writes-one : (a b : W) (text : List ℕ) → takes a text b → WritesInCalls takes a text b
  writes-one a b text took = writes_in_calls_single takes a text b took

  pub cut-one : (a b : W) (text : List ℕ) → breaks a text b → IsCutShort takes breaks a b text Write
  cut-one a b text broke = record {
    taken = [];
    between = a;
    text = text;
    rest = [];
    calls = writes_in_calls_nil takes a;
    broke = broke;
    whole = append-nil text;
  }

  -- ---- lines

  pub lines-none : {A : Type 0} (a : W) (begun : Bool) (x : A) → WritesLines takes breaks a a begun begun [] (Ok x)
  lines-none a begun x = record { bytes = writes_in_calls_nil takes a; begun_is = refl }

  pub lines-one : {A : Type 0} (a b : W) (begun after : Bool) (line bytes : List ℕ) (r : Result A DrawError) → bytes ≡ separator begun ++ line →
      Writes takes breaks a b bytes r → OnOk r (after ≡ true) → WritesLines takes breaks a b begun after (line ∷ []) r
  lines-one a b begun after line bytes r is writes done = record {
    bytes = subst (λ l. Writes takes breaks a b l r) (is ∙ sym (append-nil (separator begun ++ line))) writes;
    begun_is = done;
  }

  -- of no line, as memory was refused before any was ended, and that is handed on
  pub lines-refused : {A : Type 0} (a : W) (begun after : Bool) (lines : List (List ℕ)) (e : AllocError) (r : Result A DrawError) → IsErrAnd r (λ error. error ≡ Memory e) →
      WritesLines takes breaks a a begun after lines r
  lines-refused a begun after lines e r is =
      let p = err_from_is_err_and r is in
      rw (p.1, p.2) (record { bytes = cut-memory a (lines_after begun lines) e; begun_is = tt })

  both-begun : {A : Type 0} (p q s : Bool) (xs ys : List (List ℕ)) (r : Result A DrawError) → q ≡ begun_after p xs → OnOk r (s ≡ begun_after q ys) → OnOk r (s ≡ begun_after p (xs ++ ys))
  both-begun p q s xs ys (Ok x) first second = second ∙ ap (λ b. begun_after b ys) first ∙ sym (begun_after-append p xs ys)
  both-begun p q s xs ys (Err e) first second = tt

  -- lines, and then more
  pub lines-then : {A B : Type 0} (a b c : W) (p q s : Bool) (xs ys : List (List ℕ)) (x : A) (r : Result B DrawError) → WritesLines takes breaks a b p q xs (Ok x) →
      WritesLines takes breaks b c q s ys r → WritesLines takes breaks a c p s (xs ++ ys) r
  lines-then a b c p q s xs ys x r first second = record {
    bytes = subst (λ l. Writes takes breaks a c l r) (sym (lines_after-append p xs ys))
        (writes-then a b c (lines_after p xs) (lines_after (begun_after p xs) ys) r first.bytes
        (subst (λ g. Writes takes breaks b c (lines_after g ys) r) first.begun_is second.bytes));
    begun_is = both-begun p q s xs ys r first.begun_is second.begun_is;
  }

  -- lines that are not all written stand before more
  pub lines-cut : {A B : Type 0} (a b : W) (p q s : Bool) (xs ys : List (List ℕ)) (error : DrawError) → WritesLines takes breaks {A = A} a b p q xs (Err error) →
      WritesLines takes breaks {A = B} a b p s (xs ++ ys) (Err error)
  lines-cut a b p q s xs ys error cut = record {
    bytes = subst (λ l. IsCutShort takes breaks a b l error) (sym (lines_after-append p xs ys))
        (cut-before a b (lines_after p xs) (lines_after (begun_after p xs) ys) error cut.bytes);
    begun_is = tt;
  }

  -- a line of the table between its margins
  pub lines-beside : {A : Type 0} (a b : W) (begun after : Bool) (left middle right first second : List ℕ) (r : Result A DrawError) →
      first ≡ separator begun ++ left → second ≡ first ++ middle → Writes takes breaks a b (second ++ right) r → OnOk r (after ≡ true) →
      WritesLines takes breaks a b begun after ((left ++ middle ++ right) ∷ []) r
  lines-beside a b begun after left middle right first second r starts goes writes done =
      lines-one a b begun after (left ++ middle ++ right) (second ++ right) r
      (ap (λ l. l ++ right) (goes ∙ ap (λ l. l ++ middle) starts)
      ∙ append_assoc (separator begun ++ left) middle right
      ∙ append_assoc (separator begun) left (middle ++ right)
      ∙ ap (λ l. separator begun ++ l) (sym (append_assoc left middle right)))
      writes done

  -- so many copies of a line, of which these were written and not all of the next
  pub lines-cut-copies : {A B : Type 0} (a b c : W) (p q s t : Bool) (line : List ℕ) (k n : ℕ) (x : A) (error : DrawError) → k < n →
      WritesLines takes breaks a b p q (replicate k line) (Ok x) → WritesLines takes breaks {A = B} b c q s (line ∷ []) (Err error) → WritesLines takes breaks {A = B} a c p t (replicate n line) (Err error)
  lines-cut-copies {B = B} a b c p q s t line k n x error l first second =
      subst (λ lines. WritesLines takes breaks {A = B} a c p t lines (Err error))
      (ap (λ lines. lines ++ replicate (n - (k + 1)) line) (replicate-append-replicate k 1 line)
      ∙ replicate-append-replicate (k + 1) (n - (k + 1)) line
      ∙ ap (λ j. replicate j line) (let e : k + 1 + (n - (k + 1)) ≡ n = omega arith in e))
      (lines-cut a c p s t (replicate k line ++ line ∷ []) (replicate (n - (k + 1)) line) error
      (lines-then a b c p q s (replicate k line) (line ∷ []) x (Err error) first second))
