-- What a sink took of texts that were delivered to it.
use Rattle.std.proofs.Common.{◌≡◌, ◌≢◌, ◌⊎◌, ◌∙◌, ◌+◌, ℕ, Bool, inl, inr, List, [], ◌∷◌, ◌++◌, Option, Some, None, Result, Ok, Err, OnOk, IfErr, length, take, refl, sym, ap, subst, arith, append-nil}
use Rattle.std.specs.Fmt.{WritesInCalls}
use Rattle.std.specs.Io.KnownBytes.{Appends}
use Rattle.std.specs.List.{FoldsTo, concat}
use Rattle.std.proofs.Math.Seq.{take-append-add, take-append_seam}
use Rattle.std.proofs.lemmas.Bool.{cases_lt}
use Rattle.std.proofs.lemmas.List.{take-append-le, take_all}
use Rattle.papergrid_draw.specs.Deliveries.{BreaksOff, IsLeftOff, IsNotBegun, TakesBeginning}
use Rattle.papergrid_draw.specs.declared.error.DrawError.{DrawError}
use Rattle.papergrid_draw.specs.declared.error.DrawError.TheVariants.{Memory, NoRoom, NotTiled, OutOfTable, TooLarge, Write}
use Rattle.papergrid_draw.specs.Drawings.{Drawing}
use Rattle.papergrid_draw.specs.Faults.{IsDrawFault, IsDrawable}
use Rattle.papergrid_text.specs.Transfer.{HasBegun, HasEnded, IsSteady, IsTaken}
use Rattle.papergrid_draw.specs.Sinks.{IsCutOff, IsRefusal, IsUndrawn, WritesPicture}
use Rattle.papergrid_draw.specs.ForProofs.Sinks.{IsBroken}
use Rattle.papergrid_text.proofs.KnownLemmas.{appends_more}
use Rattle.papergrid_draw.proofs.DeliveryLemmas.{begun-drawable}

pub appends_none : (a : Option (List ℕ)) → Appends a a []
appends_none None = tt
appends_none (Some x) = sym (append-nil x)

-- a beginning of what stands before more is one of the whole
beginning-longer : (a b : Option (List ℕ)) (xs ys : List ℕ) (n : ℕ) → Appends a b (take n xs) → (k : ℕ) × Appends a b (take k (xs ++ ys))
beginning-longer a b xs ys n p = elim (cases_lt (length xs) n) [
  | inl past ↦ (length xs + 0, subst (Appends a b) (take_all n xs (omega arith) ∙ sym (append-nil xs) ∙ sym (take-append-add xs ys 0)) p)
  | inr le ↦ (n, subst (Appends a b) (sym (take-append-le n xs ys le)) p)
]

-- of a sink, by what it tells
module _ {W : Type 0} (contents : W → Option (List ℕ)) (has_failed has_stalled : W → Bool) where
  -- what is told of a text that it took, and of one that it did not
  abbrev took : W → List ℕ → W → Type 0
  took = IsTaken contents has_failed has_stalled

  abbrev broke : W → List ℕ → W → Type 0
  broke = IsBroken contents has_failed has_stalled

  pub taken-none : (a : W) → took a [] a
  taken-none a = record { bytes_are = appends_none (contents a); works = refl; moves = refl }

  pub taken-more : (a b c : W) (xs ys : List ℕ) → took a xs b → took b ys c → took a (xs ++ ys) c
  taken-more a b c xs ys p q = record {
    bytes_are = appends_more (contents a) (contents b) (contents c) xs ys p.bytes_are q.bytes_are;
    works = q.works ∙ p.works;
    moves = q.moves ∙ p.moves;
  }

  taken-chain : (a : W) (texts : List (List ℕ)) (b : W) → FoldsTo took a texts b → took a (concat texts) b
  taken-chain a [] b p = subst (λ w. took a [] w) p (taken-none a)
  taken-chain a (x ∷ xs) b p = taken-more a p.0 b x (concat xs) p.1 (taken-chain p.0 xs b p.2)

  -- texts one after the other are taken as one
  pub taken-calls : (a : W) (bytes : List ℕ) (b : W) → WritesInCalls took a bytes b → took a bytes b
  taken-calls a bytes b p = subst (λ l. took a l b) p.whole (taken-chain a p.parts b p.calls)

  pub sink-took : {A : Type 0} (a b : W) (bytes : List ℕ) (r : Result A DrawError) → OnOk r (WritesInCalls took a bytes b) → OnOk r (took a bytes b)
  sink-took a b bytes (Ok x) p = taken-calls a bytes b p
  sink-took a b bytes (Err e) p = tt

  -- before an allocation failed
  beginning-taken : (a b : W) (bytes : List ℕ) → TakesBeginning took a bytes b → (n : ℕ) × Appends (contents a) (contents b) (take n bytes)
  beginning-taken a b bytes p = (
    length p.taken,
    subst (Appends (contents a) (contents b)) (sym (take-append_seam p.taken p.rest) ∙ ap (take (length p.taken)) p.whole) (taken-calls a p.taken b p.calls).bytes_are,
  )

  -- before a text broke off, and of that
  beginning-broken : (a b : W) (bytes : List ℕ) → BreaksOff took broke a bytes b → (n : ℕ) × Appends (contents a) (contents b) (take n bytes)
  beginning-broken a b bytes p =
      let m = p.broke.beginning.0 in
      let both : Appends (contents a) (contents b) (take (length p.taken + m) (p.taken ++ p.text)) =
      subst (Appends (contents a) (contents b)) (sym (take-append-add p.taken p.text m))
      (appends_more (contents a) (contents p.between) (contents b) p.taken (take m p.text) (taken-calls a p.taken p.between p.calls).bytes_are p.broke.beginning.1) in
      let longer = beginning-longer (contents a) (contents b) (p.taken ++ p.text) p.rest (length p.taken + m) both in
      (longer.0, subst (λ l. Appends (contents a) (contents b) (take longer.0 l)) p.whole longer.1)

  beginning-none : (a b : W) (bytes : List ℕ) → b ≡ a → (n : ℕ) × Appends (contents a) (contents b) (take n bytes)
  beginning-none a b bytes same = (0, subst (λ w. Appends (contents a) (contents w) []) (sym same) (appends_none (contents a)))

  beginning-left : (a b : W) (bytes : List ℕ) (error : DrawError) → IsLeftOff took broke a bytes b error → (n : ℕ) × Appends (contents a) (contents b) (take n bytes)
  beginning-left a b bytes (Memory e) p = beginning-taken a b bytes p
  beginning-left a b bytes Write p = beginning-broken a b bytes p
  beginning-left a b bytes (OutOfTable q) p = beginning-none a b bytes p
  beginning-left a b bytes (NotTiled q) p = beginning-none a b bytes p
  beginning-left a b bytes (NoRoom q) p = beginning-none a b bytes p
  beginning-left a b bytes TooLarge p = beginning-none a b bytes p

  nothing-left : (a b : W) (bytes : List ℕ) (error : DrawError) → IsLeftOff took broke a bytes b error → IsRefusal error → b ≡ a
  nothing-left a b bytes (Memory e) p named = absurd named
  nothing-left a b bytes Write p named = absurd named
  nothing-left a b bytes (OutOfTable q) p named = p
  nothing-left a b bytes (NotTiled q) p named = p
  nothing-left a b bytes (NoRoom q) p named = p
  nothing-left a b bytes TooLarge p named = p

  -- the sink has ended where a text broke off
  ended-broken : (a b : W) (bytes : List ℕ) → BreaksOff took broke a bytes b → HasEnded contents has_failed has_stalled a b
  ended-broken a b bytes p = elim p.broke.ended [
    | inl failed ↦ inl failed
    | inr stalls ↦ inr (λ not_before. stalls ((taken-calls a p.taken p.between p.calls).moves ∙ not_before))
  ]

  -- but for a write that failed, it failed and stalled no more than before
  steady-left : (a b : W) (bytes : List ℕ) (error : DrawError) → IsLeftOff took broke a bytes b error →
      (error ≡ Write) ⊎ IsSteady contents has_failed has_stalled a b
  steady-left a b bytes (Memory e) p = let all = taken-calls a p.taken b p.calls in inr (all.works, all.moves)
  steady-left a b bytes Write p = inl refl
  steady-left a b bytes (OutOfTable q) p = inr (ap has_failed p, ap has_stalled p)
  steady-left a b bytes (NotTiled q) p = inr (ap has_failed p, ap has_stalled p)
  steady-left a b bytes (NoRoom q) p = inr (ap has_failed p, ap has_stalled p)
  steady-left a b bytes TooLarge p = inr (ap has_failed p, ap has_stalled p)

  -- so is what is left after an error
  pub sink-left : {A : Type 0} (a b : W) (bytes : List ℕ) (r : Result A DrawError) → IfErr r (IsLeftOff took broke a bytes b) →
      IfErr r (IsCutOff contents has_failed has_stalled a bytes b)
  sink-left a b bytes (Ok x) p = tt
  sink-left a b bytes (Err e) p = record {
    nothing = nothing-left a b bytes e p;
    beginning = beginning-left a b bytes e p;
    write = λ is. ended-broken a b bytes (subst (IsLeftOff took broke a bytes b) is p);
    steady = steady-left a b bytes e p;
  }

  -- a beginning and then a text that broke off
  pub cut-off-after : (a b c : W) (xs whole : List ℕ) → took a xs b → HasEnded contents has_failed has_stalled b c → HasBegun contents has_failed has_stalled a whole c →
      IsCutOff contents has_failed has_stalled a whole c Write
  cut-off-after a b c xs whole p ended begun = record {
    nothing = λ named. absurd named;
    beginning = begun;
    write = λ is. elim ended [
      | inl failed ↦ inl failed
      | inr stalls ↦ inr (λ not_before. stalls (p.moves ∙ not_before))
    ];
    steady = inl refl;
  }

  -- ---- calls that draw

  module _ (IsDrawn : Drawing → Type 0) (IsFault : DrawError → Type 0) (text_of : Drawing → List ℕ) where
    -- there is no drawing
    pub draws-none : (w : W) (e : DrawError) → e ≢ Write → (IsRefusal e → IsFault e) → IsUndrawn contents has_failed has_stalled IsDrawn IsFault text_of w w e
    draws-none w e works fault = record { fault = fault; nothing = λ named. refl; left = inl (works, refl) }

    -- there is one, and its text was taken, or not
    pub draws-so : {A : Type 0} (d : Drawing) → IsDrawn d → ((e : DrawError) → IsDrawFault d e → IsFault e) → (old new : W) (result : Result A DrawError) →
        IsDrawable d ⊎ IsNotBegun old new result → OnOk result (took old (text_of d) new) → IfErr result (IsDrawFault d) → IfErr result (IsCutOff contents has_failed has_stalled old (text_of d) new) →
        WritesPicture contents has_failed has_stalled IsDrawn IsFault text_of old new result
    draws-so d is follows old new (Ok x) begun taken fault left = (d, is, begun-drawable d old new (Ok x) begun, taken)
    draws-so d is follows old new (Err e) begun taken fault left = record {
      fault = λ named. follows e fault;
      nothing = left.nothing;
      left = elim begun [
        | inl drawable ↦ inr (d, is, drawable, left)
        | inr none ↦ inl ((λ write. none.2 (cc (none.1, write))), none.3)
      ];
    }

    -- what follows of the drawing and of the fault
    pub draws-also : (IsAlso : Drawing → Type 0) (IsWhy : DrawError → Type 0) → ((d : Drawing) → IsDrawn d → IsAlso d) → ((e : DrawError) → IsFault e → IsWhy e) →
        {A : Type 0} (old new : W) (result : Result A DrawError) → WritesPicture contents has_failed has_stalled IsDrawn IsFault text_of old new result →
        WritesPicture contents has_failed has_stalled IsAlso IsWhy text_of old new result
    draws-also IsAlso IsWhy also why old new (Ok x) so = (so.0, also so.0 so.1, so.2, so.3)
    draws-also IsAlso IsWhy also why old new (Err e) so = record {
      fault = λ named. why e (so.fault named);
      nothing = so.nothing;
      left = elim so.left [ inl same ↦ inl same | inr cut ↦ inr (cut.0, also cut.0 cut.1, cut.2, cut.3) ];
    }

    -- it is as it was, or took a beginning
    pub undrawn-beginning : (old new : W) (e : DrawError) → IsUndrawn contents has_failed has_stalled IsDrawn IsFault text_of old new e →
        (new ≡ old) ⊎ ((d : Drawing) × IsDrawn d × IsDrawable d × HasBegun contents has_failed has_stalled old (text_of d) new)
    undrawn-beginning old new e so = elim so.left [ inl same ↦ inl same.1 | inr cut ↦ inr (cut.0, cut.1, cut.2, cut.3.beginning) ]

    -- where a write failed it has ended
    pub undrawn-write : (old new : W) (e : DrawError) → IsUndrawn contents has_failed has_stalled IsDrawn IsFault text_of old new e → e ≡ Write →
        HasEnded contents has_failed has_stalled old new
    undrawn-write old new e so is = elim so.left [ inl same ↦ absurd (same.0 is) | inr cut ↦ cut.3.write is ]

    -- else it failed and stalled no more than before
    pub undrawn-steady : (old new : W) (e : DrawError) → IsUndrawn contents has_failed has_stalled IsDrawn IsFault text_of old new e →
        (e ≡ Write) ⊎ IsSteady contents has_failed has_stalled old new
    undrawn-steady old new e so = elim so.left [ inl same ↦ inr (ap has_failed same.1, ap has_stalled same.1) | inr cut ↦ cut.3.steady ]
