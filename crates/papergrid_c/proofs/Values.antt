-- The machine values of a `Loose`. Assumes `Logic`.
use Rattle.std.proofs.Common.{◌≡◌, ℕ, List, [], ◌∷◌, ◌++◌, refl, subst}
use mathlib.Core.Bool.{true, ◌&&◌}
use lib.Dec.{T}
use seplogic.Ra.Ura.{Ura}
use mir.Syntax.{impl, tnil, dnil}
use mir.Raw.{raw as bare}
use mir.Val.{Val, vptr, vstruct, vcons, vnil, of_list, has_ty, WT}
use base.Logic.{never, fst∗}
use types.Logic.{Logic, sem}
use types.Kit.{Item, Goal, Seq, Step, step, ‵, ◌$◌, move, drop, fsplit, fjoin, fpick, fpack, feq_i, feq_l}
use denote.RattleType.{RattleType, Valss}
use denote.Builtin.{RawPtr}
use denote.Memory.{lone}
use denote.RawPtr.{Ptr, block_ptr, null_ptr, ptr_val, in_a_block}
use denote.Steps.{nothing}
use denote.Param.{layout}
use denote.Param.Laws.{Laws}
use denote.Struct.Struct.{within}
use denote.Struct.Owning.{shape}
use Rattle.core.specs.declared.alloc.Allocator.{Ghosts}
use Rattle.core.proofs.alloc.Calls.{Al, handle_tells}
use Rattle.core.proofs.cell.Inside.{Good}
use Rattle.std_alloc.specs.Box.Ownership.{box_owns}
use Rattle.std_alloc.proofs.ResultValues.{and_tt}
use Rattle.papergrid_c.specs.contracts.handle.loose.Loose as loose

abbrev pub both : Val → Val → Val
both v w = vstruct (vcons v (vcons w vnil))

module _ (R Z : RattleType) (L : Laws Z) (g : Ghosts Z.Denot) where
  abbrev pub Loose : RattleType
  Loose = loose.the_row R Z g

  abbrev al : Al
  al = record { row = Z; laws = L; g = g; d = impl [] tnil dnil; drops = impl [] tnil dnil }

  pub loose_good : (b o : ℕ) (h : Val) → Good (layout Z) h → T (has_ty (layout Z) h && true) × WT (both (vptr b o) h)
  loose_good b o h fits = (and_tt (has_ty (layout Z) h) fits.0, (tt, (fits.1, tt)))

  module _ {M : Type 1} {𝓤 : Ura M} {𝓛 : Logic 𝓤} {K : Type 0} {Γ : List (Item 𝓤)} {G : Goal 𝓤 𝓛.H} where
    pub loose_out : K → (d : Loose.Denot) (vs : List Val)
        → ((b o : ℕ) (h : Val) → d.at ≡ block_ptr b o → vs ≡ both (vptr b o) h ∷ [] → Good (layout Z) h → Seq K 𝓛 (‵ (box_owns (g.dealloc_token d.alloc) R (block_ptr b o) d.value) ∷ ‵ (Z.own_val d.alloc (h ∷ [])) ∷ Γ) G)
        → Seq K 𝓛 (‵ (Loose.own_val d vs) ∷ Γ) G
    loose_out t d vs k =
        fsplit t $ fpick t (λ vss. fsplit t $ feq_l t (λ ev. fsplit t $ feq_l t (λ ep. fsplit t $ handle_tells al t d.alloc vss.1.0 (λ h ea fits. move t (1 ∷ []) $ drop t $ move t (1 ∷ []) $
        in_a_block t d.at (λ p. box_owns (g.dealloc_token d.alloc) R p d.value) (fst∗ 𝓤 (never 𝓤) (sem 𝓛 (g.dealloc_token d.alloc (bare (lone R.mir)) null_ptr))) (λ b o e. k b o h e
        (subst (λ (p : Ptr). vs ≡ vstruct (of_list (ptr_val p ∷ h ∷ [])) ∷ []) e
        (subst (λ (ws : List Val). vs ≡ vstruct (of_list (ptr_val d.at ∷ (ws ++ []))) ∷ []) ea (subst (λ (ps : List Val). vs ≡ vstruct (of_list (ps ++ (vss.1.0 ++ []))) ∷ []) ep ev))) fits)))))

    pub loose_in : K → (b o : ℕ) (h : Val) (a : Z.Denot) (x : R.Denot)
        → Step K 𝓛 (‵ (Loose.own_val (record { at = block_ptr b o; alloc = a; value = x }) (both (vptr b o) h ∷ [])) ∷ Γ) G (‵ (box_owns (g.dealloc_token a) R (block_ptr b o) x) ∷ ‵ (Z.own_val a (h ∷ [])) ∷ Γ) G
    loose_in t b o h a x = step (λ s. let v : Val = both (vptr b o) h in
        nothing t $ move t (2 ∷ 0 ∷ []) $ fjoin t $ feq_i t (List Val) (vptr b o ∷ []) (vptr b o ∷ []) refl $ fjoin t $ feq_i t (List Val) (v ∷ []) (v ∷ []) refl $ fjoin t $
        fpack t (Valss (RawPtr ∷ Z ∷ [])) (within (shape (loose.the_type R Z g)) (block_ptr b o, (a, tt)) (v ∷ [])) (vptr b o ∷ [], (h ∷ [], tt)) $ fjoin t $ s)
