-- There is one picture of texts by settings, or one reason why there is none.
use Rattle.std.proofs.Common.{◌≡◌, ◌⊎◌, ◌∙◌, ℕ, List, ap, arith, inl, inr, length, refl, subst, sym}
use Rattle.std.specs.Prelude.{slice_index}
use Rattle.std.proofs.lemmas.Bool.{cases_lt}
use Rattle.std.proofs.lemmas.Option.{same_Some}
use Rattle.papergrid_values.specs.Positions.{IsBefore}
use Rattle.papergrid_values.specs.declared.position.Position.{Position}
use Rattle.papergrid_tracks.specs.Problem.{Problem}
use Rattle.papergrid_tracks.specs.Sizings.{AreSizesBy, AreTooLargeBy}
use Rattle.papergrid_tracks.specs.declared.error.LayoutError.{LayoutError}
use Rattle.papergrid_tracks.specs.declared.error.LayoutError.TheVariants as layout_errors
use Rattle.papergrid_tracks.specs.declared.sizing.Sizing.{Sizing}
use Rattle.papergrid_tracks.specs.declared.sizing.Sizing.TheVariants.{ByShares, Least}
use Rattle.papergrid_tracks.proofs.LeastLemmas.{furthest_right-is}
use Rattle.papergrid_maps.specs.Grids.{Grid}
use Rattle.papergrid_maps.proofs.HiddenLemmas.{position-same}
use Rattle.papergrid_config.specs.ConfigSame.{HoldTheSameSettings}
use Rattle.papergrid_config.specs.Grids.{spanned_grid}
use Rattle.papergrid_config.specs.History.{HasSettingHistory}
use Rattle.papergrid_config.specs.declared.setting.Setting.{Setting}
use Rattle.papergrid_config.specs.declared.spanned.SpannedConfig.{SpannedConfig}
use Rattle.papergrid_walk.specs.Measures.{text_measure}
use Rattle.papergrid_layout.specs.Answers.{AreBothSizes, IsBothRefused}
use Rattle.papergrid_layout.specs.Places.{IsVisibleCell}
use Rattle.papergrid_layout.proofs.PairLemmas.{none_overflows}
use Rattle.papergrid_layout.proofs.TotalLemmas.{room-of}
use Rattle.papergrid_draw.specs.Drawings.{Drawing, layout_of}
use Rattle.papergrid_draw.specs.Errors.{draw_error_of}
use Rattle.papergrid_draw.specs.Contents.{FitsPlace, block_at}
use Rattle.papergrid_draw.specs.Faults.{HasNoRoom, IsDrawFault, IsDrawable, IsWholeTooLarge}
use Rattle.papergrid_draw.specs.Lined.{lined}
use Rattle.papergrid_draw.specs.Margins.{printed}
use Rattle.papergrid_draw.specs.Pictures.{IsDrawingBy, IsDrawingWith, IsFaultWith, IsPictureFault, Undrawn, Unsized, texts_drawing}
use Rattle.papergrid_draw.specs.Sinks.{IsRefusal}
use Rattle.papergrid_draw.specs.Tiles.{IsFirstPosition, IsTiled}
use Rattle.papergrid_draw.specs.declared.error.DrawError.{DrawError}
use Rattle.papergrid_draw.specs.declared.error.DrawError.TheVariants.{Memory, NoRoom, NotTiled, OutOfTable, TooLarge, Write}
use Rattle.papergrid_draw.proofs.SameLemmas.{same-settings-lines, same-settings-picture}

-- ---- one first position

order : (p q : Position) → IsBefore p q ⊎ (IsBefore q p ⊎ (p ≡ q))
order p q = elim (cases_lt p.row q.row) [
  | inl above ↦ inl (inl above)
  | inr from_row ↦ elim (cases_lt q.row p.row) [
    | inl below ↦ inr (inl (inl below))
    | inr to_row ↦ (let row : p.row ≡ q.row = omega arith in
        elim (cases_lt p.col q.col) [
          | inl left ↦ inl (inr (row, left))
          | inr from_col ↦ elim (cases_lt q.col p.col) [
            | inl right ↦ inr (inl (inr (sym row, right)))
            | inr to_col ↦ inr (inr (position-same p q row (omega arith)))
          ]
        ])
  ]
]

pub one-first : (holds : Position → Type 0) (p q : Position) → IsFirstPosition holds p → IsFirstPosition holds q → p ≡ q
one-first holds p q a b = elim (order p q) [
  | inl before ↦ absurd (b.earlier p before a.it)
  | inr other ↦ elim other [ inl after ↦ absurd (a.earlier q after b.it) | inr same ↦ same ]
]

-- ---- one answer for a drawing

module _ (d : Drawing) where
  pub drawn-or-refused : (e : DrawError) → IsDrawable d → IsRefusal e → IsDrawFault d e → ⊥
  drawn-or-refused (OutOfTable p) is named fault = is.tiled.within p fault.it
  drawn-or-refused (NotTiled p) is named fault = fault.1.it.1 (is.tiled.once p fault.1.it.0)
  drawn-or-refused (NoRoom p) is named fault = is.room p fault.1.it
  drawn-or-refused TooLarge is named fault = is.small fault.2
  drawn-or-refused (Memory e) is named fault = named
  drawn-or-refused Write is named fault = named

  -- an error comes before another one
  before-untiled : (p q : Position) → IsDrawFault d (OutOfTable p) → IsDrawFault d (NotTiled q) → ⊥
  before-untiled p q a b = b.0 p a.it

  before-room : (p q : Position) → IsDrawFault d (OutOfTable p) → IsDrawFault d (NoRoom q) → ⊥
  before-room p q a b = b.0.within p a.it

  before-large : (p : Position) → IsDrawFault d (OutOfTable p) → IsDrawFault d TooLarge → ⊥
  before-large p a b = b.0.within p a.it

  untiled-room : (p q : Position) → IsDrawFault d (NotTiled p) → IsDrawFault d (NoRoom q) → ⊥
  untiled-room p q a b = a.1.it.1 (b.0.once p a.1.it.0)

  untiled-large : (p : Position) → IsDrawFault d (NotTiled p) → IsDrawFault d TooLarge → ⊥
  untiled-large p a b = a.1.it.1 (b.0.once p a.1.it.0)

  room-large : (p : Position) → IsDrawFault d (NoRoom p) → IsDrawFault d TooLarge → ⊥
  room-large p a b = b.1 p a.1.it

  pub one-refusal : (e f : DrawError) → IsRefusal e → IsRefusal f → IsDrawFault d e → IsDrawFault d f → e ≡ f
  one-refusal (Memory e) f named other a b = absurd named
  one-refusal Write f named other a b = absurd named
  one-refusal e (Memory f) named other a b = absurd other
  one-refusal e Write named other a b = absurd other
  one-refusal (OutOfTable p) (OutOfTable q) named other a b = ap OutOfTable (one-first _ p q a b)
  one-refusal (OutOfTable p) (NotTiled q) named other a b = absurd (before-untiled p q a b)
  one-refusal (OutOfTable p) (NoRoom q) named other a b = absurd (before-room p q a b)
  one-refusal (OutOfTable p) TooLarge named other a b = absurd (before-large p a b)
  one-refusal (NotTiled p) (OutOfTable q) named other a b = absurd (before-untiled q p b a)
  one-refusal (NotTiled p) (NotTiled q) named other a b = ap NotTiled (one-first _ p q a.1 b.1)
  one-refusal (NotTiled p) (NoRoom q) named other a b = absurd (untiled-room p q a b)
  one-refusal (NotTiled p) TooLarge named other a b = absurd (untiled-large p a b)
  one-refusal (NoRoom p) (OutOfTable q) named other a b = absurd (before-room q p b a)
  one-refusal (NoRoom p) (NotTiled q) named other a b = absurd (untiled-room q p b a)
  one-refusal (NoRoom p) (NoRoom q) named other a b = ap NoRoom (one-first _ p q a.1 b.1)
  one-refusal (NoRoom p) TooLarge named other a b = absurd (room-large p a b)
  one-refusal TooLarge (OutOfTable q) named other a b = absurd (before-large q b a)
  one-refusal TooLarge (NotTiled q) named other a b = absurd (untiled-large q b a)
  one-refusal TooLarge (NoRoom q) named other a b = absurd (room-large q b a)
  one-refusal TooLarge TooLarge named other a b = refl

-- ---- sizes that are chosen so

pub one-sizes : (sizing : Sizing) (problem : Problem) (xs ys : List ℕ) → AreSizesBy sizing problem xs → AreSizesBy sizing problem ys → xs ≡ ys
one-sizes ByShares problem xs ys a b = a.exact ∙ sym b.exact
one-sizes Least problem xs ys a b = (furthest_right-is problem a.table xs).0 a.exact ∙ sym ((furthest_right-is problem b.table ys).0 b.exact)

sized-not-large : (sizing : Sizing) (problem : Problem) (sizes : List ℕ) → AreSizesBy sizing problem sizes → AreTooLargeBy sizing problem → ⊥
sized-not-large sizing problem sizes a b =
    let small = a.total in
    let large = b.too_large sizes a.exact in
    omega (arith, small, large)

-- ---- a drawing by configurations that hold the same

pub other-way : (x y : SpannedConfig) → HoldTheSameSettings x y → HoldTheSameSettings y x
other-way x y same = record {
  but_overrides = λ i. record (sym same.but_overrides i) {
    alloc = y.alloc;
    horizontal_chars = y.horizontal_chars;
    vertical_chars = y.vertical_chars;
    horizontal_colors = y.horizontal_colors;
    vertical_colors = y.vertical_colors;
  };
  horizontal_chars = sym same.horizontal_chars;
  vertical_chars = sym same.vertical_chars;
  horizontal_colors = sym same.horizontal_colors;
  vertical_colors = sym same.vertical_colors;
}

-- why it is not drawn does not depend on how overrides are kept
module _ (d : Drawing) where
  abbrev by : SpannedConfig → Drawing
  by config = record d { config = config }

  room-there : (x y : SpannedConfig) → HoldTheSameSettings x y → (p : Position) → HasNoRoom (by x) p → HasNoRoom (by y) p
  room-there x y same p none = record {
    is_cell = subst (λ c. IsVisibleCell (layout_of (by c)) p) same.but_overrides none.is_cell;
    lacks = subst (λ c. FitsPlace (block_at (by c) p) → ⊥) same.but_overrides none.lacks;
  }

  module _ (x y : SpannedConfig) (same : HoldTheSameSettings x y) where
    tiled-there : IsTiled (layout_of (by x)) → IsTiled (layout_of (by y))
    tiled-there tiled = subst (λ c. IsTiled (layout_of (by c))) same.but_overrides tiled

    pub fault-there : (f : DrawError) → IsDrawFault (by x) f → IsDrawFault (by y) f
    fault-there (OutOfTable p) fault = subst (λ c. IsDrawFault (by c) (OutOfTable p)) same.but_overrides fault
    fault-there (NotTiled p) fault = subst (λ c. IsDrawFault (by c) (NotTiled p)) same.but_overrides fault
    fault-there (NoRoom p) fault = (
      tiled-there fault.0,
      record {
        it = room-there x y same p fault.1.it;
        earlier = λ q before none. fault.1.earlier q before (room-there y x (other-way x y same) q none);
      },
    )
    fault-there TooLarge fault = (
      tiled-there fault.0,
      λ p none. fault.1 p (room-there y x (other-way x y same) p none),
      subst (λ c. IsWholeTooLarge (by c)) same.but_overrides fault.2,
    )
    fault-there (Memory e) fault = fault
    fault-there Write fault = fault

-- ---- one picture

module _ (columns : ℕ) (texts : List (List (List ℕ))) (sizing : Sizing) where
  abbrev AreSizes : Grid → List ℕ → List ℕ → Type 0
  AreSizes grid widths heights = AreBothSizes grid text_measure columns texts sizing widths heights

  abbrev AreRefused : Grid → LayoutError → Type 0
  AreRefused grid e = IsBothRefused grid text_measure columns texts sizing e

  pub sized-or-refused : (grid : Grid) (widths heights : List ℕ) (e : LayoutError) → IsRefusal (draw_error_of e) → AreSizes grid widths heights → AreRefused grid e → ⊥
  sized-or-refused grid widths heights (layout_errors.OutOfTable p) named are refused =
      let none = (none_overflows grid text_measure columns texts).1 ((room-of sizing _ widths are.widths).none_out, (room-of sizing _ heights are.heights).none_out) in
      cc (none, refused)
  sized-or-refused grid widths heights layout_errors.TooLarge named are refused = elim refused.1 [
    | inl across ↦ sized-not-large sizing _ widths are.widths across
    | inr down ↦ sized-not-large sizing _ heights are.heights down
  ]
  sized-or-refused grid widths heights (layout_errors.Memory e) named are refused = named

  pub one-error : (grid : Grid) (e f : LayoutError) → IsRefusal (draw_error_of e) → IsRefusal (draw_error_of f) → AreRefused grid e → AreRefused grid f → e ≡ f
  one-error grid (layout_errors.Memory e) f named other a b = absurd named
  one-error grid e (layout_errors.Memory f) named other a b = absurd other
  one-error grid (layout_errors.OutOfTable p) (layout_errors.OutOfTable q) named other a b = ap layout_errors.OutOfTable (same_Some p q (sym a ∙ b))
  one-error grid (layout_errors.OutOfTable p) layout_errors.TooLarge named other a b = absurd (cc (a, b.0))
  one-error grid layout_errors.TooLarge (layout_errors.OutOfTable q) named other a b = absurd (cc (b, a.0))
  one-error grid layout_errors.TooLarge layout_errors.TooLarge named other a b = refl

  -- by two configurations that hold the same
  module _ (x y : SpannedConfig) (same : HoldTheSameSettings x y) where
    same-grid : spanned_grid x ≡ spanned_grid y
    same-grid = ap spanned_grid same.but_overrides

    one-widths : (d e : Drawing) (a : IsDrawingWith columns texts sizing x d) (b : IsDrawingWith columns texts sizing y e) → a.widths ≡ b.widths
    one-widths d e a b = one-sizes sizing _ _ _ (subst (λ grid. AreSizes grid a.widths a.heights) same-grid a.sized).widths b.sized.widths

    one-heights : (d e : Drawing) (a : IsDrawingWith columns texts sizing x d) (b : IsDrawingWith columns texts sizing y e) → a.heights ≡ b.heights
    one-heights d e a b = one-sizes sizing _ _ _ (subst (λ grid. AreSizes grid a.widths a.heights) same-grid a.sized).heights b.sized.heights

    pub one-drawn : (d e : Drawing) → IsDrawingWith columns texts sizing x d → IsDrawingWith columns texts sizing y e → (printed d ≡ printed e) × (lined d ≡ lined e)
    one-drawn d e a b =
        let one = texts_drawing x texts a.widths a.heights in
        let other = texts_drawing y texts b.widths b.heights in
        let widths = ap slice_index (one-widths d e a b) in
        let heights = ap slice_index (one-heights d e a b) in
        let shape : one.shape ≡ other.shape = λ i. (length (one-heights d e a b i), length (one-widths d e a b i)) in (
          ap printed a.is ∙ same-settings-picture one other same widths heights shape refl refl ∙ ap printed (sym b.is),
          ap lined a.is ∙ same-settings-lines one other same widths heights shape refl refl ∙ ap lined (sym b.is),
        )

    -- where they cover the same columns of a terminal and lines
    pub one-layout : (d e : Drawing) → IsDrawingWith columns texts sizing x d → IsDrawingWith columns texts sizing y e → layout_of d ≡ layout_of e
    one-layout d e a b =
        let widths = one-widths d e a b in
        let heights = one-heights d e a b in
        let same_layout : layout_of (texts_drawing x texts a.widths a.heights) ≡ layout_of (texts_drawing y texts b.widths b.heights) = λ i. record {
          grid = same-grid i;
          widths = slice_index (widths i);
          heights = slice_index (heights i);
          shape = (length (heights i), length (widths i));
        } in
        ap layout_of a.is ∙ same_layout ∙ ap layout_of (sym b.is)

    pub same-fault : (d e : Drawing) → IsDrawingWith columns texts sizing x d → IsDrawingWith columns texts sizing y e → (f : DrawError) → IsDrawFault d f → IsDrawFault e f
    same-fault d e a b f fault =
        let moved = fault-there (texts_drawing x texts a.widths a.heights) x y same f (subst (λ k. IsDrawFault k f) a.is fault) in
        let sized = subst (λ widths. IsDrawFault (texts_drawing y texts widths a.heights) f) (one-widths d e a b) moved in
        let both = subst (λ heights. IsDrawFault (texts_drawing y texts b.widths heights) f) (one-heights d e a b) sized in
        subst (λ k. IsDrawFault k f) (sym b.is) both

  module _ (x y : SpannedConfig) (same : HoldTheSameSettings x y) where
    -- there are sizes by one, and none by the other
    never-unsized : (widths heights : List ℕ) (e : LayoutError) → IsRefusal (draw_error_of e) → AreSizes (spanned_grid x) widths heights → AreRefused (spanned_grid y) e → ⊥
    never-unsized widths heights e named are refused =
        sized-or-refused (spanned_grid y) widths heights e named (subst (λ grid. AreSizes grid widths heights) (same-grid x y same) are) refused

    pub drawn-or-faulty : (d : Drawing) (e : DrawError) → IsDrawingWith columns texts sizing x d → IsDrawable d → IsRefusal e → IsFaultWith columns texts sizing y e → ⊥
    drawn-or-faulty d e is drawable named (Unsized error at are) = never-unsized is.widths is.heights error (subst IsRefusal at named) is.sized are
    drawn-or-faulty d e is drawable named (Undrawn k drawn fault) =
        drawn-or-refused d e drawable named (same-fault y x (other-way x y same) k d drawn is e fault)

    pub one-fault : (e f : DrawError) → IsRefusal e → IsRefusal f → IsFaultWith columns texts sizing x e → IsFaultWith columns texts sizing y f → e ≡ f
    one-fault e f named other (Unsized one at are) (Unsized two to too) =
        at ∙ ap draw_error_of (one-error (spanned_grid y) one two (subst IsRefusal at named) (subst IsRefusal to other) (subst (λ grid. AreRefused grid one) (same-grid x y same) are) too) ∙ sym to
    one-fault e f named other (Undrawn d is fault) (Undrawn k so why) = one-refusal k e f named other (same-fault x y same d k is so e fault) why
    one-fault e f named other (Unsized one at are) (Undrawn k so why) =
        absurd (sized-or-refused (spanned_grid y) so.widths so.heights one (subst IsRefusal at named) so.sized (subst (λ grid. AreRefused grid one) (same-grid x y same) are))
    one-fault e f named other (Undrawn d is fault) (Unsized two to too) = absurd (never-unsized is.widths is.heights two (subst IsRefusal to other) is.sized too)

  -- by settings, where configurations that they make hold the same
  module _ (settings : List Setting) (same : (x y : SpannedConfig) → HasSettingHistory settings x → HasSettingHistory settings y → HoldTheSameSettings x y) where
    pub one-picture : (d e : Drawing) → IsDrawingBy columns texts sizing settings d → IsDrawingBy columns texts sizing settings e → (printed d ≡ printed e) × (lined d ≡ lined e)
    one-picture d e a b = one-drawn a.0 b.0 (same a.0 b.0 a.1 b.1) d e a.2 b.2

    pub drawn-or-none : (d : Drawing) (e : DrawError) → IsDrawingBy columns texts sizing settings d → IsDrawable d → IsRefusal e → IsPictureFault columns texts sizing settings e → ⊥
    drawn-or-none d e a drawable named b = drawn-or-faulty a.0 b.0 (same a.0 b.0 a.1 b.1) d e a.2 drawable named b.2

    pub one-reason : (e f : DrawError) → IsRefusal e → IsRefusal f → IsPictureFault columns texts sizing settings e → IsPictureFault columns texts sizing settings f → e ≡ f
    one-reason e f named other a b = one-fault a.0 b.0 (same a.0 b.0 a.1 b.1) e f named other a.2 b.2
