-- What a checker keeps of the visible cells that it met, by the candidate that it was given.
use Rattle.std.proofs.Common.{◌≡◌, ℕ, true, List, [], ◌++◌, length, sym, ap, subst, ◌∙◌}
use Rattle.std.specs.Prelude.{All, IsTrue}
use Rattle.std.proofs.lemmas.List.{append-nil, append_assoc}
use Rattle.papergrid_values.specs.declared.position.Position.{Position}
use Rattle.papergrid_tracks.specs.declared.checked.Checked.{Checked}
use Rattle.papergrid_tracks.specs.declared.candidate.Candidate.{Candidate}
use Rattle.papergrid_tracks.specs.declared.demand.Demand.{Demand}
use Rattle.papergrid_tracks.specs.ForProofs.Checks.{Checks}
use Rattle.papergrid_walk.specs.Cells.{demands_by}
use Rattle.papergrid_maps.specs.Grids.{Grid}
use Rattle.papergrid_walk.specs.ForProofs.Visits.{demands_by-append}

-- the cells at these positions are visible
abbrev pub AreShown : Grid → List Position → Type 0
AreShown grid positions = All (λ p. IsTrue (grid.shows p)) positions

-- the positions of a candidate that is said to be in order are those of visible cells
abbrev pub IsShownCandidate : Grid → Candidate → Type 0
IsShownCandidate grid candidate = candidate.is_ordered ≡ true → AreShown grid candidate.positions.now

-- what was kept of the demands of some cells
abbrev pub ChecksBy : Grid → Candidate → Checked → List Demand → Type 0
ChecksBy grid candidate checked demands =
    Checks (grid.draws candidate.direction (length candidate.sizes.now)) candidate.sizes.now candidate.positions.now candidate.direction (grid.span candidate.direction) checked demands

-- whatever was kept, these further demands were checked besides
abbrev pub ChecksMore : Grid → Candidate → Checked → Checked → List Demand → Type 0
ChecksMore grid candidate old new further =
    (demands : List Demand) → ChecksBy grid candidate old demands → ChecksBy grid candidate new (demands ++ further)

-- nothing more
pub check_none : (grid : Grid) (candidate : Candidate) (checked : Checked) → ChecksMore grid candidate checked checked []
check_none grid candidate checked = λ demands before. subst (ChecksBy grid candidate checked) (sym (append-nil demands)) before

-- what some cells ask for, and then what more of them do, by the same view and candidate
pub check_more : {C : Type 0} (measure : C → ℕ × ℕ) (grid after : Grid) (candidate later : Candidate) → after ≡ grid → later ≡ candidate →
    (old mid new : Checked) (xs ys : List (Position × C)) →
    ChecksMore grid candidate old mid (demands_by candidate.direction grid measure xs) →
    ChecksMore after later mid new (demands_by later.direction after measure ys) →
    ChecksMore grid candidate old new (demands_by candidate.direction grid measure (xs ++ ys))
check_more measure grid after candidate later same_grid same_candidate old mid new xs ys first other = λ demands before.
    let second : ChecksMore grid candidate mid new (demands_by candidate.direction grid measure ys) =
    subst (λ l. ChecksMore l candidate mid new (demands_by candidate.direction l measure ys)) same_grid
    (subst (λ c. ChecksMore after c mid new (demands_by c.direction after measure ys)) same_candidate other) in
    let both : (demands ++ demands_by candidate.direction grid measure xs) ++ demands_by candidate.direction grid measure ys
    ≡ demands ++ demands_by candidate.direction grid measure (xs ++ ys) =
    append_assoc demands (demands_by candidate.direction grid measure xs) (demands_by candidate.direction grid measure ys)
    ∙ ap (λ zs. demands ++ zs) (sym (demands_by-append measure candidate.direction grid xs ys)) in
    subst (ChecksBy grid candidate new) both (second _ (first demands before))
