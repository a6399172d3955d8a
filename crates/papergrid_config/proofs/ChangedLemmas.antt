-- What settings leave as it was, and what more of them leave.
use Rattle.std.proofs.Common.{◌≡◌, ◌∙◌, ℕ, List, [], ◌∷◌, ◌++◌, refl, subst, rules}
use Rattle.std.specs.List.{flat_map}
use Rattle.std.proofs.lemmas.Grind.{flat_map-append}
use Rattle.papergrid_maps.proofs.Applied.{AppliedSoFar}
use Rattle.papergrid_config.specs.Changed.{changed_by, if_called}
use Rattle.papergrid_config.specs.History.{AppendsSettings}
use Rattle.papergrid_config.specs.declared.setting.Setting.{Setting}
use Rattle.papergrid_config.specs.declared.spanned.SpannedConfig.{SpannedConfig}
use Rattle.papergrid_config.proofs.Applied.{appends_more}

if_called-more : {C A : Type 0} (xs ys : List C) (old mid new : A) → mid ≡ if_called xs old mid → new ≡ if_called ys mid new → new ≡ if_called (xs ++ ys) old new
if_called-more [] [] old mid new first next = next ∙ first
if_called-more [] (y ∷ ys) old mid new first next = refl
if_called-more (x ∷ xs) ys old mid new first next = refl

if_called-same : {C A : Type 0} (xs : List C) (v : A) → v ≡ if_called xs v v
if_called-same [] v = refl
if_called-same (x ∷ xs) v = refl

module _ (xs ys : List Setting) where
  part : {C A : Type 0} (calls : Setting → List C) (old mid new : A) → mid ≡ if_called (flat_map calls xs) old mid → new ≡ if_called (flat_map calls ys) mid new
      → new ≡ if_called (flat_map calls (xs ++ ys)) old new
  part calls old mid new first next = search (rules, if_called-more, flat_map-append)

  pub changed_more : (old mid new : SpannedConfig) → mid ≡ changed_by xs old mid → new ≡ changed_by ys mid new → new ≡ changed_by (xs ++ ys) old new
  changed_more old mid new first next = search (rules, part)

  unchanged : (new : SpannedConfig) → new ≡ changed_by ys new new
  unchanged new = search (rules, if_called-same)

  -- no more is changed where further settings are not reached
  pub changed_so_far : (old new : SpannedConfig) → new ≡ changed_by xs old new → new ≡ changed_by (xs ++ ys) old new
  changed_so_far old new first = changed_more old new new first (unchanged new)

-- what is told of a configuration to which settings were applied, and what is as it was
pub record Applies (old new : SpannedConfig) (settings : List Setting) : Type 0 where
  pub told : AppendsSettings old new settings
  pub others : new ≡ changed_by settings old new

pub applies_more : {old mid new : SpannedConfig} (xs ys : List Setting) → Applies old mid xs → AppendsSettings mid new ys → new ≡ changed_by ys mid new → Applies old new (xs ++ ys)
applies_more {old = old} {mid = mid} {new = new} xs ys first told others = record {
  told = appends_more xs ys first.told told;
  others = changed_more xs ys old mid new first.others others;
}

-- of all settings, where the rest of them are not reached
pub others_so_far : {old new : SpannedConfig} {done : ℕ} {calls left all : List Setting} → AppliedSoFar (Applies old new) calls left all done → new ≡ changed_by all old new
others_so_far {old = old} {new = new} {calls = calls} {left = left} so_far =
    subst (λ xs. new ≡ changed_by xs old new) so_far.split (changed_so_far calls left old new so_far.told.others)
