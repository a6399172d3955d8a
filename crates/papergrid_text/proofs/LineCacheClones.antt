-- A clone of the lines that a `Text` keeps.
use Rattle.std.proofs.Common.{◌≡◌, List, ℕ, [], ◌∷◌, map, refl, ap, subst, sym, arith}
use Rattle.std.specs.List.{All, AllZip}
use Rattle.papergrid_text.specs.declared.line_cache.LineCache.{LineCache}
use Rattle.papergrid_text.specs.declared.line_cache.LineCache.TheVariants.{Ranges, Given}
use Rattle.papergrid_text.specs.contracts.line_cache.LineCacheClone.TheImpl.{by_variants}
use Rattle.papergrid_text.specs.LineCache.{cached_lines, ranges_of, given_line, line_of_range, AreInside, IsInsideText}

-- lists that R ties place by place, where R fixes what v reads of one by the other
pub map_from_zip : {A C : Type 0} (R : A → A → Type 0) (v : A → C) → ((a b : A) → R a b → v b ≡ v a) → (xs ys : List A) → AllZip R xs ys → map v ys ≡ map v xs
map_from_zip R v h [] [] z = refl
map_from_zip R v h [] (b ∷ ys) z = absurd z
map_from_zip R v h (a ∷ xs) [] z = absurd z
map_from_zip R v h (a ∷ xs) (b ∷ ys) z = grind (arith, map_from_zip R v h xs ys z.1)

pub same_from_zip : {A : Type 0} (R : A → A → Type 0) → ((a b : A) → R a b → b ≡ a) → (xs ys : List A) → AllZip R xs ys → ys ≡ xs
same_from_zip R h [] [] z = refl
same_from_zip R h [] (b ∷ ys) z = absurd z
same_from_zip R h (a ∷ xs) [] z = absurd z
same_from_zip R h (a ∷ xs) (b ∷ ys) z = grind (arith, same_from_zip R h xs ys z.1)

same_ranges : (a b : LineCache) → by_variants a b → ranges_of b ≡ ranges_of a
same_ranges (Ranges v) (Ranges w) h = same_from_zip _ (λ a b r. r) v.items w.items h.0
same_ranges (Ranges v) (Given w) h = absurd h
same_ranges (Given v) (Ranges w) h = absurd h
same_ranges (Given v) (Given w) h = refl

pub same_lines : (text : List ℕ) (a b : LineCache) → by_variants a b → cached_lines text b ≡ cached_lines text a
same_lines text (Ranges v) (Ranges w) h = ap (map (line_of_range text)) (same_from_zip _ (λ a b r. r) v.items w.items h.0)
same_lines text (Ranges v) (Given w) h = absurd h
same_lines text (Given v) (Ranges w) h = absurd h
same_lines text (Given v) (Given w) h = map_from_zip _ given_line (λ a b r. λ i. (r.0 i, r.1 i)) v.items w.items h.0

-- the ranges of a clone lie in the same text
pub still_inside : (old new : List ℕ) (a b : LineCache) → by_variants a b → old ≡ new → AreInside old a → AreInside new b
still_inside old new a b h e are = subst (λ t. All (IsInsideText t) (ranges_of b)) e (subst (All (IsInsideText old)) (sym (same_ranges a b h)) are)
