-- What visits keep, from one to the next.
use Rattle.std.proofs.Common.{◌≡◌, ℕ, ◌+◌, List, [], ◌++◌, map, sym, ap, subst, ◌∙◌, arith}
use Rattle.std.proofs.lemmas.List.{append-nil, append_assoc, map-append}
use Rattle.std.proofs.lemmas.List.Elements.{filter-append}
use Rattle.papergrid_values.specs.declared.direction.Direction.{Direction}
use Rattle.papergrid_values.specs.declared.position.Position.{Position}
use Rattle.papergrid_tracks.specs.declared.demands.Demands.{Demands}
use Rattle.papergrid_tracks.specs.ForProofs.Demands.{AddsDemands, HoldsDemands}
use Rattle.papergrid_walk.specs.Cells.{demand_by, demands_by, visible_of}
use Rattle.papergrid_walk.specs.ForProofs.Shown.{Shows}
use Rattle.papergrid_walk.specs.ForProofs.Swept.{Walk}
use Rattle.papergrid_maps.specs.Grids.{Grid}

-- after a row comes the next one
pub shows_turn : (grid : Grid) (walk : Walk) (r c : ℕ) → Shows grid walk r c → Shows grid walk (r + 1) 0
shows_turn grid walk r c so_far = record {
  anchors = so_far.anchors;
  ahead = λ q below right. so_far.ahead q (omega (arith, below)) (λ e. absurd (omega (arith, below, e)));
}

-- nothing added
pub adds_none : (kept : Demands) → AddsDemands kept kept []
adds_none kept = λ limit demands held. subst (HoldsDemands limit kept) (sym (append-nil demands)) held

module _ {C : Type 0} (measure : C → ℕ × ℕ) where
  pub demands_by-append : (direction : Direction) (grid : Grid) (xs ys : List (Position × C)) →
      demands_by direction grid measure (xs ++ ys) ≡ demands_by direction grid measure xs ++ demands_by direction grid measure ys
  demands_by-append direction grid xs ys =
      ap (map (demand_by direction grid measure)) (filter-append (λ cell. grid.shows cell.0) xs ys)
      ∙ map-append (demand_by direction grid measure) (visible_of grid xs) (visible_of grid ys)

  -- what some cells ask for, and then what more of them do, by the same view
  pub adds_more : (direction later : Direction) (grid after : Grid) → later ≡ direction → after ≡ grid →
      (u v w : Demands) (xs ys : List (Position × C)) →
      AddsDemands u v (demands_by direction grid measure xs) → AddsDemands v w (demands_by later after measure ys) →
      AddsDemands u w (demands_by direction grid measure (xs ++ ys))
  adds_more direction later grid after same_way same_grid u v w xs ys first second = λ limit demands held.
      let ask : demands_by later after measure ys ≡ demands_by direction grid measure ys =
      ap (λ d. demands_by d after measure ys) same_way ∙ ap (λ l. demands_by direction l measure ys) same_grid in
      let both : (demands ++ demands_by direction grid measure xs) ++ demands_by later after measure ys
      ≡ demands ++ demands_by direction grid measure (xs ++ ys) =
      append_assoc demands (demands_by direction grid measure xs) (demands_by later after measure ys)
      ∙ ap (λ zs. demands ++ (demands_by direction grid measure xs ++ zs)) ask
      ∙ ap (λ zs. demands ++ zs) (sym (demands_by-append direction grid xs ys)) in
      subst (HoldsDemands limit w) both (second limit _ (first limit demands held))
