-- What the loop that gives the growing cells keeps.
use Rattle.std.proofs.Common.{◌≡◌, ℕ, ◌+◌, ◌<◌, ◌∙◌, Bool, true, false, List, [], ◌∷◌, ◌++◌, length, get_or, drop, refl, sym, ap, append_assoc, ltb}
use Rattle.std.proofs.lemmas.List.{at_drop_more}
use Rattle.papergrid_tracks.specs.declared.demand.Demand.{Demand}
use Rattle.papergrid_tracks.specs.Sizes.{deficit, grown_sizes}
use Rattle.papergrid_tracks.specs.Certificates.{growing_demands}

growing_demands-yes : (line : ℕ → Bool) (sizes : List ℕ) (d : Demand) (rest : List Demand) → ltb 0 (deficit line sizes d) ≡ true →
    growing_demands line sizes (d ∷ rest) ≡ d ∷ growing_demands line (grown_sizes line sizes d) rest
growing_demands-yes line sizes d rest grows = rw grows refl

growing_demands-no : (line : ℕ → Bool) (sizes : List ℕ) (d : Demand) (rest : List Demand) → ltb 0 (deficit line sizes d) ≡ false →
    growing_demands line sizes (d ∷ rest) ≡ growing_demands line (grown_sizes line sizes d) rest
growing_demands-no line sizes d rest stays = rw stays refl

-- the cell at i is taken: the cells that grew before it, with those that grow from it on, are all
module _ (line : ℕ → Bool) (sizes next : List ℕ) (cells growing all : List Demand) (i : ℕ) (d : Demand) (listed : i < length cells)
    (grown : next ≡ grown_sizes line sizes (get_or cells i d)) (whole : growing ++ growing_demands line sizes (drop i cells) ≡ all) where
  pub growing_pushed : (more : List Demand) → ltb 0 (deficit line sizes (get_or cells i d)) ≡ true → more ≡ growing ++ get_or cells i d ∷ [] →
      more ++ growing_demands line next (drop (i + 1) cells) ≡ all
  growing_pushed more grows push =
      rw (push, grown)
      (append_assoc growing (get_or cells i d ∷ []) (growing_demands line (grown_sizes line sizes (get_or cells i d)) (drop (i + 1) cells))
      ∙ ap (λ ds. growing ++ ds) (sym (at_drop_more (growing_demands line sizes) cells i d listed ∙ growing_demands-yes line sizes (get_or cells i d) (drop (i + 1) cells) grows))
      ∙ whole)

  pub growing_passed : (same : List Demand) → ltb 0 (deficit line sizes (get_or cells i d)) ≡ false → same ≡ growing →
      same ++ growing_demands line next (drop (i + 1) cells) ≡ all
  growing_passed same stays kept =
      rw (kept, grown)
      (ap (λ ds. growing ++ ds) (sym (at_drop_more (growing_demands line sizes) cells i d listed ∙ growing_demands-no line sizes (get_or cells i d) (drop (i + 1) cells) stays))
      ∙ whole)
