-- Ways to read a text are equal exactly where they are the same.
use Rattle.std.proofs.Common.{◌≡◌, ap, refl, subst, true}
use Rattle.std.specs.Prelude.{◌↔◌, nat_eq}
use Rattle.std.specs.Cmp.{bool_eq_equiv, booleans_Decides, nat_eq_equiv}
use Rattle.std.specs.Option.{option_eq}
use Rattle.std.proofs.lemmas.Bool.{and_from, and_parts, eqb-true}
use Rattle.papergrid_values.proofs.EqualLemmas.{option_same}
use Rattle.papergrid_config.proofs.SameLemmas.{exact_option}
use Rattle.papergrid_csv.specs.declared.reading.Format.{Format}
use Rattle.papergrid_csv.specs.declared.reading.Format.TheVariants.{Csv, Tsv}
use Rattle.papergrid_csv.specs.declared.reading.Reading.{Reading}
use Rattle.papergrid_csv.specs.contracts.reading.FormatPartialEq.TheImpl as format
use Rattle.papergrid_csv.specs.contracts.reading.ReadingPartialEq.TheImpl as reading

itself-format : (x : Format) → format.ghosts.eq x x ≡ true
itself-format (Csv byte) = nat_eq_equiv.refl byte
itself-format Tsv = refl

equal-format : (x y : Format) → format.ghosts.eq x y ≡ true → x ≡ y
equal-format (Csv byte) (Csv other) is = ap Csv (eqb-true byte other is)
equal-format Tsv Tsv is = refl
equal-format x y is = cc

pub same-reading : (x y : Reading) → (reading.ghosts.eq x y ≡ true) ↔ (x ≡ y)
same-reading x y = (
  λ is.
      let first = and_parts (format.ghosts.eq x.format y.format) _ is in
      let second = and_parts (option_eq nat_eq x.tab y.tab) _ first.1 in
      let third = and_parts _ _ second.1 in
      let fourth = and_parts _ _ third.1 in
      let format = equal-format x.format y.format first.0 in
      let tab = exact_option nat_eq eqb-true x.tab y.tab second.0 in
      let one_line = (booleans_Decides x.one_line y.one_line).0 third.0 in
      let raw = (booleans_Decides x.raw y.raw).0 fourth.0 in
      let strict = (booleans_Decides x.strict y.strict).0 fourth.1 in
      λ i. record { format = format i; tab = tab i; one_line = one_line i; raw = raw i; strict = strict i },
  λ e. subst (λ z. reading.ghosts.eq x z ≡ true) e
      (and_from _ _ (itself-format x.format) (and_from _ _ (option_same nat_eq nat_eq_equiv.refl x.tab)
      (and_from _ _ (bool_eq_equiv.refl x.one_line) (and_from _ _ (bool_eq_equiv.refl x.raw) (bool_eq_equiv.refl x.strict))))),
)
