-- Values are equal exactly where they are the same.
use Rattle.std.proofs.Common.{◌≡◌, ◌&&◌, ℕ, List, ap, refl, true, arith}
use Rattle.std.specs.Prelude.{◌↔◌, nat_eq}
use Rattle.std.specs.Cmp.Lexicographic.{pointwise}
use Rattle.std.proofs.lemmas.Bool.{and_from, and_parts, eqb-true}
use Rattle.std.proofs.lemmas.Slice.Eq.{bytes_eq-Decides}
use Rattle.papergrid_values.specs.declared.position.Position.{Position}
use Rattle.papergrid_values.specs.contracts.position.PositionPartialEq.TheImpl as position
use Rattle.papergrid_tracks.specs.declared.error.LayoutError.{LayoutError}
use Rattle.papergrid_tracks.specs.declared.error.LayoutError.TheVariants as layout_error
use Rattle.papergrid_tracks.specs.contracts.error.LayoutErrorPartialEq.TheImpl as layout_error_eq
use Rattle.papergrid_layout.specs.declared.rect.Place.{Place}
use Rattle.papergrid_layout.specs.declared.rect.PlaceError.{PlaceError}
use Rattle.papergrid_layout.specs.declared.rect.PlaceError.TheVariants.{Hidden, OutOfTable, TooLarge}
use Rattle.papergrid_layout.specs.contracts.rect.PlacePartialEq.TheImpl as place
use Rattle.papergrid_layout.specs.contracts.rect.PlaceErrorPartialEq.TheImpl as place_error

-- ---- sizes

-- one list alone
pub same-list : (x y : List ℕ) → (pointwise nat_eq x y ≡ true) ↔ (x ≡ y)
same-list x y = bytes_eq-Decides x y

-- two lists
pub same-lists : (x y v w : List ℕ) → ((pointwise nat_eq x y && pointwise nat_eq v w) ≡ true) ↔ ((x ≡ y) × (v ≡ w))
same-lists x y v w = grind (arith, and_parts, bytes_eq-Decides, and_from)

-- ---- places

pub same-place : (x y : Place) → (place.ghosts.eq x y ≡ true) ↔ (x ≡ y)
same-place x y = grind (arith, and_parts, eqb-true, and_from)

pub same-position : (x y : Position) → (position.ghosts.eq x y ≡ true) ↔ (x ≡ y)
same-position x y = grind (arith, and_parts, eqb-true, and_from)

-- ---- errors

pub same-place_error : (x y : PlaceError) → (place_error.ghosts.eq x y ≡ true) ↔ (x ≡ y)
same-place_error Hidden Hidden = (λ is. refl, λ is. refl)
same-place_error OutOfTable OutOfTable = (λ is. refl, λ is. refl)
same-place_error TooLarge TooLarge = (λ is. refl, λ is. refl)
same-place_error x y = (λ is. cc, λ is. cc)

pub same-layout_error : (x y : LayoutError) → (layout_error_eq.ghosts.eq x y ≡ true) ↔ (x ≡ y)
same-layout_error (layout_error.OutOfTable p) (layout_error.OutOfTable q) = (λ is. ap (λ r. layout_error.OutOfTable r) ((same-position p q).0 is), λ e. (same-position p q).1 (cc e))
same-layout_error layout_error.TooLarge layout_error.TooLarge = (λ is. refl, λ is. refl)
same-layout_error (layout_error.Memory d) (layout_error.Memory e) = (λ is. refl, λ is. refl)
same-layout_error x y = (λ is. cc, λ is. cc)
