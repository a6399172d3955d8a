-- Cuts that are tried, the widest first.
use Rattle.std.proofs.Common.{◌≡◌, ◌≤◌, ◌<◌, ◌+◌, ◌-◌, ◌∙◌, ℕ, ◌⊎◌, Bool, List, [], Option, None, Some, Result, Ok, Err, ap, arith, inl, inr, length, refl, subst, sym}
use Rattle.std.proofs.lemmas.Bool.{cases_lt}
use Rattle.papergrid_config.specs.declared.setting.Setting.{Setting}
use Rattle.papergrid_config.specs.declared.spanned.SpannedConfig.{SpannedConfig}
use Rattle.papergrid_script.specs.Writing.{IsBrokenOff}
use Rattle.papergrid_script.specs.declared.reading.RunFault.{RunFault}
use Rattle.papergrid_script.proofs.RunLemmas.{runs-also}
use Rattle.papergrid_csv.specs.Pictures.{IsCsvRun, IsPictured, IsUnwritten, WritesCsv}
use Rattle.papergrid_csv.specs.Requests.{settings_of}
use Rattle.papergrid_csv.specs.Rows.{AreRowsOf, IsUnread}
use Rattle.papergrid_csv.specs.Shown.{AreCut}
use Rattle.papergrid_csv.specs.Within.{IsGreatestCut, IsLastCut, IsRunWithin, IsWiderWith, cut_request}
use Rattle.papergrid_csv.specs.ForProofs.Drawn.{Configured, Crossed, Faulted, Free, IsConfigRun, IsRowsRun, IsSettingsRun, Kept, Sized, end_unread}
use Rattle.papergrid_csv.specs.ForProofs.Within.{IsFirstCut}
use Rattle.papergrid_csv.specs.declared.reading.RowsError.{RowsError}
use Rattle.papergrid_csv.specs.declared.reading.RowsError.TheVariants as rows_errors
use Rattle.papergrid_csv.specs.declared.request.Request.{Request}
use Rattle.papergrid_csv.specs.declared.run.CsvEnd.{CsvEnd}
use Rattle.papergrid_csv.specs.declared.run.CsvEnd.TheVariants.{Drawn, NotText, Ragged, TooWide, Unclosed}
use Rattle.papergrid_csv.proofs.DrawLemmas.{run-no_memory, run-silent}
use Rattle.papergrid_csv.proofs.RunLemmas.{csv-run-of}

-- no cut was tried, a run ended so with fields as they are, and so many cuts are left: by none that is greater the table is
-- less wide
pub record IsUntried (asked : Request) (width : ℕ) (input : List ℕ) (end : CsvEnd) (left : ℕ) : Type 0 where
  pub within : left ≤ width
  pub some : (width ≡ 0) ⊎ (1 ≤ left)
  pub wider : (found : ℕ) → end ≡ TooWide found → (cut : ℕ) → left < cut → cut ≤ width → IsWiderWith asked width input (Some cut)

module _ {W : Type 0} (contents : W → Option (List ℕ)) (has_failed has_stalled : W → Bool) where
  -- a request has the cut that was tried last, by which a run ended so; none that is greater will do, and so many are left
  pub record IsTried (asked : Request) (width : ℕ) (input : List ℕ) (old new : W) (request : Request) (end : CsvEnd) (left : ℕ) : Type 0 where
    pub is : request ≡ cut_request asked width request.cut
    pub greatest : IsGreatestCut asked width input request.cut
    pub run : WritesCsv contents has_failed has_stalled (IsCsvRun request input) old new (Ok end)
    pub counted : ((request.cut ≡ None) × IsUntried asked width input end left) ⊎ ((request.cut ≡ Some (left + 1)) × (left + 1 ≤ width))

-- ---- a cut that changes no field

module _ (asked : Request) (width : ℕ) (columns : ℕ) (rows : List (List (List ℕ))) (cut : ℕ) where
  -- fields stay as they are
  abbrev plain : Request
  plain = cut_request asked width None

  -- each is cut
  abbrev by_cut : Request
  by_cut = cut_request asked width (Some cut)

  config-also : (texts : List (List (List ℕ))) (config : SpannedConfig) (end : CsvEnd) (output : List ℕ) → IsConfigRun plain columns texts config end output → IsConfigRun by_cut columns texts config end output
  config-also texts config end output (Sized d drawn so) = Sized d drawn so
  config-also texts config end output (Faulted e is named fault none) = Faulted e is named fault none

  settings-also : (settings : List Setting) (shape : ℕ × ℕ) (texts : List (List (List ℕ))) (end : CsvEnd) (output : List ℕ) → IsSettingsRun plain settings shape columns texts end output →
      IsSettingsRun by_cut settings shape columns texts end output
  settings-also settings shape texts end output (Configured config configured so) =
      Configured config (record { fitted = configured.fitted; fit = configured.fit; told = configured.told }) (config-also texts config end output so)
  settings-also settings shape texts end output (Crossed e is named unfitted none) = Crossed e is named unfitted none

  -- by it a table is as wide as without
  wide-also : AreCut (Some cut) rows rows → (found : ℕ) (output : List ℕ) → IsRowsRun plain columns rows (TooWide found) output → IsRowsRun by_cut columns rows (TooWide found) output
  wide-also same found output (Free shown free is so) =
      Free rows (record { named = free.named; seen = free.seen }) same
      (settings-also (settings_of plain columns rows) (length rows, columns) rows (TooWide found) output
      (subst (λ texts. IsSettingsRun plain (settings_of plain columns rows) (length rows, columns) columns texts (TooWide found) output) is so))
  wide-also same found output (Kept kept none) = absurd kept

module _ {W : Type 0} (contents : W → Option (List ℕ)) (has_failed has_stalled : W → Bool) (asked : Request) (width : ℕ) (input : List ℕ) where
  -- ---- an input that is not read

  silent-within : (w : W) (end : CsvEnd) → IsCsvRun (cut_request asked width None) input end [] → ((found : ℕ) → end ≡ TooWide found → ⊥) →
      WritesCsv contents has_failed has_stalled (IsRunWithin asked width input None) w w (Ok end)
  silent-within w end so other =
      run-silent contents has_failed has_stalled (IsRunWithin asked width input None) w end (record { greatest = tt; run = so; last = λ found wide. absurd (other found wide) })

  pub unread-within : (w : W) (e : RowsError) → IsUnread asked.reading input e → WritesCsv contents has_failed has_stalled (IsRunWithin asked width input None) w w (end_unread e)
  unread-within w (rows_errors.NotText count) is = silent-within w (NotText count) (is, refl) (λ found wide. cc)
  unread-within w (rows_errors.Unclosed count) is = silent-within w (Unclosed count) (is, refl) (λ found wide. cc)
  unread-within w (rows_errors.Ragged count fields first) is = silent-within w (Ragged count fields first) (is, refl) (λ found wide. cc)
  unread-within w rows_errors.Memory is = run-no_memory contents has_failed has_stalled (IsRunWithin asked width input None) w

  -- ---- runs

  -- a run that broke off drew the picture
  broken-within : (request : Request) (cut : Option ℕ) → request ≡ cut_request asked width cut → IsGreatestCut asked width input cut → (old new : W) (fault : RunFault) →
      IsBrokenOff contents has_failed has_stalled IsPictured (IsCsvRun request input) old new fault → IsBrokenOff contents has_failed has_stalled IsPictured (IsRunWithin asked width input cut) old new fault
  broken-within request cut is greatest old new fault so = record {
    not_read = so.not_read;
    beginning = elim so.beginning [
      | inl same ↦ inl same
      | inr begun ↦ inr (
        begun.0,
        begun.1,
        (
          begun.2.0,
          record {
            greatest = greatest;
            run = subst (λ r. IsCsvRun r input begun.0 begun.2.0) is begun.2.1;
            last = λ found end. let never : Drawn ≡ TooWide found = sym begun.1 ∙ end in absurd (cc never);
          },
          begun.2.2,
        ),
      )
    ];
    write = so.write;
    steady = so.steady;
  }

  module _ (columns : ℕ) (rows : List (List (List ℕ))) (are : AreRowsOf asked.reading input columns rows) where
    -- what a run of the rows of an input says of the input
    input-run : (request : Request) → request.reading ≡ asked.reading → (old new : W) (result : Result CsvEnd RunFault) → WritesCsv contents has_failed has_stalled (IsRowsRun request columns rows) old new result →
        WritesCsv contents has_failed has_stalled (IsCsvRun request input) old new result
    input-run request same old new result so =
        runs-also contents has_failed has_stalled IsPictured (IsRowsRun request columns rows) (IsCsvRun request input)
        (csv-run-of request input columns rows (subst (λ reading. AreRowsOf reading input columns rows) (sym same) are)) old new result so

    -- fields stay as they are at first
    pub tried-first : (old new : W) (end : CsvEnd) (first : ℕ) → WritesCsv contents has_failed has_stalled (IsRowsRun (cut_request asked width None) columns rows) old new (Ok end) → IsFirstCut width rows first →
        IsTried contents has_failed has_stalled asked width input old new (cut_request asked width None) end first
    tried-first old new end first so is = record {
      is = refl;
      greatest = tt;
      run = input-run (cut_request asked width None) refl old new (Ok end) so;
      counted = inl (
        refl,
        record {
          within = is.within;
          some = is.some;
          wider = λ found wide cut more most.
              let ran : IsRowsRun (cut_request asked width None) columns rows (TooWide found) so.0 = subst (λ e. IsRowsRun (cut_request asked width None) columns rows e so.0) wide so.1 in
              (found, (csv-run-of (cut_request asked width (Some cut)) input columns rows are (TooWide found) so.0 (wide-also asked width columns rows cut (is.same cut more most) found so.0 ran)).0);
        },
      );
    }

    -- or their run broke off
    pub broken-first : (old new : W) (fault : RunFault) → IsBrokenOff contents has_failed has_stalled IsPictured (IsRowsRun (cut_request asked width None) columns rows) old new fault →
        IsBrokenOff contents has_failed has_stalled IsPictured (IsRunWithin asked width input None) old new fault
    broken-first old new fault so = broken-within (cut_request asked width None) None refl tt old new fault (input-run (cut_request asked width None) refl old new (Err fault) so)

  module _ (old new : W) (request : Request) (end : CsvEnd) (left : ℕ) (tried : IsTried contents has_failed has_stalled asked width input old new request end left) where
    ended-wide : (found : ℕ) → end ≡ TooWide found → IsUnwritten request input (TooWide found)
    ended-wide found wide =
        let so : IsCsvRun request input (TooWide found) tried.run.0 = subst (λ e. IsCsvRun request input e tried.run.0) wide tried.run.1 in
        so.0

    -- by the cut that was tried last the table is wider
    wider : (found : ℕ) → end ≡ TooWide found → IsWiderWith asked width input request.cut
    wider found wide = (found, subst (λ r. IsUnwritten r input (TooWide found)) tried.is (ended-wide found wide))

    -- and the writer is as it was
    same-writer : (found : ℕ) → end ≡ TooWide found → new ≡ old
    same-writer found wide = tried.run.2.silent (λ drawn. let none : ⊥ = cc in none)

    -- so the next one is the greatest that may do
    pub next-greatest : 0 < left → (found : ℕ) → end ≡ TooWide found → IsGreatestCut asked width input (Some left)
    next-greatest some found wide = elim tried.counted [
      | inl first ↦ (
        subst (IsWiderWith asked width input) first.0 (wider found wide),
        omega (arith, some),
        first.1.within,
        first.1.wider found wide,
      )
      | inr later ↦
          let before : IsGreatestCut asked width input (Some (left + 1)) = subst (IsGreatestCut asked width input) later.0 tried.greatest in
          let here : IsWiderWith asked width input (Some (left + 1)) = subst (IsWiderWith asked width input) later.0 (wider found wide) in
          let most = later.1 in (
            before.0,
            omega (arith, some),
            omega (arith, most),
            λ greater more within. elim (cases_lt (left + 1) greater) [
              | inl past ↦ before.3 greater past within
              | inr least ↦ subst (λ n. IsWiderWith asked width input (Some n)) (let same : left + 1 ≡ greater = omega (arith, more, least) in same) here
            ],
          )
    ]

    left-within : left ≤ width
    left-within = elim tried.counted [ inl first ↦ first.1.within | inr later ↦ let most = later.1 in omega (arith, most) ]

    -- the request that tries it
    pub next-request : record request { cut = Some left } ≡ cut_request asked width (Some left)
    next-request = ap (λ (r : Request). record r { cut = Some left }) tried.is

    module _ (columns : ℕ) (rows : List (List (List ℕ))) (are : AreRowsOf asked.reading input columns rows) where
      next-run : (last : W) (result : Result CsvEnd RunFault) → WritesCsv contents has_failed has_stalled (IsRowsRun (record request { cut = Some left }) columns rows) new last result →
          (found : ℕ) → end ≡ TooWide found → WritesCsv contents has_failed has_stalled (IsCsvRun (record request { cut = Some left }) input) old last result
      next-run last result so found wide =
          subst (λ w. WritesCsv contents has_failed has_stalled (IsCsvRun (record request { cut = Some left }) input) w last result) (same-writer found wide)
          (input-run columns rows are (record request { cut = Some left }) (ap (λ (r : Request). r.reading) tried.is) new last result so)

      -- it was tried
      pub tried-next : 0 < left → (found : ℕ) → end ≡ TooWide found → (last : W) (next : CsvEnd) →
          WritesCsv contents has_failed has_stalled (IsRowsRun (record request { cut = Some left }) columns rows) new last (Ok next) →
          IsTried contents has_failed has_stalled asked width input old last (record request { cut = Some left }) next (left - 1)
      tried-next some found wide last next so =
          let within = left-within in
          let count : left ≡ left - 1 + 1 = omega (arith, some) in
          record {
            is = next-request;
            greatest = next-greatest some found wide;
            run = next-run last (Ok next) so found wide;
            counted = inr (ap Some count, omega (arith, some, within));
          }

      -- or its run broke off
      pub broken-next : 0 < left → (found : ℕ) → end ≡ TooWide found → (last : W) (fault : RunFault) →
          IsBrokenOff contents has_failed has_stalled IsPictured (IsRowsRun (record request { cut = Some left }) columns rows) new last fault →
          IsBrokenOff contents has_failed has_stalled IsPictured (IsRunWithin asked width input (Some left)) old last fault
      broken-next some found wide last fault so =
          broken-within (record request { cut = Some left }) (Some left) next-request (next-greatest some found wide) old last fault (next-run last (Err fault) so found wide)

    last-cut : left ≡ 0 → IsLastCut asked width input request.cut
    last-cut none = elim tried.counted [
      | inl first ↦ subst (IsLastCut asked width input) (sym first.0) (let nothing : width ≡ 0 = (elim first.1.some [ inl empty ↦ empty | inr some ↦ absurd (omega (arith, some, none)) ]) in nothing)
      | inr later ↦ subst (IsLastCut asked width input) (sym later.0) (let one : left + 1 ≡ 1 = omega (arith, none) in one)
    ]

    -- the run whose table is not too wide, or that of the last cut
    pub run-within : ((found : ℕ) → end ≡ TooWide found → left ≡ 0) → WritesCsv contents has_failed has_stalled (IsRunWithin asked width input request.cut) old new (Ok end)
    run-within none = (
      tried.run.0,
      record { greatest = tried.greatest; run = subst (λ r. IsCsvRun r input end tried.run.0) tried.is tried.run.1; last = λ found wide. last-cut (none found wide) },
      tried.run.2,
    )
