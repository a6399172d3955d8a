use Rattle.std.proofs.Common.{◌≡◌, ◌∙◌, ◌<◌, ℕ, List, Some, arith, get_or, length, slice_get, subst, sym}
use Rattle.std.proofs.lemmas.Bool.{false≢true}
use Rattle.std.proofs.lemmas.Option.{slice_get-get_or}
use Rattle.papergrid_maps.specs.declared.anchors.Anchor.{Anchor}
use Rattle.papergrid_walk.specs.ForProofs.Shown.{Shows}
use Rattle.papergrid_walk.proofs.ShownLemmas.{anchor_of, shows_first}
use Rattle.papergrid_draw.proofs.EndLemmas.{EndInTable}
use Rattle.papergrid_draw.proofs.EndLemmas.{ends-all, ends-found, ends-more, ends-none}
use Rattle.papergrid_draw.proofs.tiles.check_ends.Goals as goal

pub loop-i-init : goal.loop-i-init
loop-i-init c = λ table known shape.
    let same = c.in_ok-to_vec.ensures.items_if_clones_equal (λ x y e. e) in
    ends-none table c.args.anchors.now c.in_ok-sweep.sweep
    (subst (λ walk. Shows table.grid walk 0 0) (sym c.in_ok-sweep.ensures) (rw same (shows_first table.grid c.args.anchors.now 0 known)))

-- what is read past the end of a list
abbrev nowhere : Anchor
nowhere = record { position = record { row = 0; col = 0 }; rows = 0; cols = 0 }

abbrev anchor-at : List Anchor → ℕ → Anchor
anchor-at anchors i = get_or anchors i nowhere

at : (anchors : List Anchor) (i : ℕ) → i < length anchors → slice_get anchors i ≡ Some (anchor-at anchors i)
at anchors i within = slice_get-get_or anchors i nowhere within

pub ends_outside-requires : goal.ends_outside-requires
ends_outside-requires c =
    let table = c.requires.anchors.0 in
    let i = c.loop-i.i in
    (table.grid, (c.loop-i.invariant table c.requires.anchors.1 c.requires.anchors.2).shows i (anchor-at c.args.anchors.now i) (omega arith) (at c.args.anchors.now i c.loop-i-test.true))

pub returns-then-branch-clause-err : goal.returns-then-branch-clause-err
returns-then-branch-clause-err c = λ table known shape.
    let anchors = c.args.anchors.now in
    let i = c.loop-i.i in
    let anchor = anchor-at anchors i in
    let stands = at anchors i c.loop-i-test.true in
    let ends = c.loop-i.invariant table known shape in
    let found = c.in_ok-ends_outside.ensures.found table shape (anchor_of table.grid anchors i anchor known stands) (ends.shows i anchor (omega arith) stands) in
    ends-found table anchors c.requires.sorted i anchor stands c.loop-i.sweep known (found.0 c.if-branch.true) ends

pub loop-i-preserved : goal.loop-i-preserved
loop-i-preserved c = λ table known shape.
    let anchors = c.args.anchors.now in
    let i = c.loop-i.i in
    let anchor = anchor-at anchors i in
    let stands = at anchors i c.loop-i-test.true in
    let ends = c.loop-i.invariant table known shape in
    let shows = ends.shows i anchor (omega arith) stands in
    let found = c.in_ok-ends_outside.ensures.found table shape (anchor_of table.grid anchors i anchor known stands) shows in
    ends-more table anchors c.requires.sorted i anchor stands c.loop-i.sweep c.ends_outside.new.sweep
    (c.in_ok-ends_outside.ensures.later table.grid shows) (λ over. false≢true (sym c.if-branch.false ∙ found.1 over)) ends

pub returns-clause-ok : goal.returns-clause-ok
returns-clause-ok c = λ table known shape.
    let anchors = c.args.anchors.now in
    let last : c.loop-i.i ≡ length anchors = omega (arith, c.loop-i.auto.i-end, c.loop-i-test.false) in
    ends-all table anchors c.loop-i.sweep known (subst (λ i. EndInTable table anchors i c.loop-i.sweep) last (c.loop-i.invariant table known shape))
