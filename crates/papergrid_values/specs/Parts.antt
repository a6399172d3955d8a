-- Lists of parts, each of which is set or not.
use Rattle.std.specs.Prelude.{◌≡◌, Bool, List, [], ◌∷◌, Option, None, MatchOption, IsSomeAnd, is_some, is_none, ⊤}
use Rattle.std.specs.Option.{ForSome}
use Rattle.std.specs.List.{list_any, list_all, AllZip}

-- whether some part is set
abbrev pub any_set : {T : Type 0} → List (Option T) → Bool
any_set parts = list_any is_some parts

-- whether no part is set
abbrev pub none_set : {T : Type 0} → List (Option T) → Bool
none_set parts = list_all is_none parts

-- P holds of each part that is set
abbrev pub EachSet : {T : Type 0} → (T → Type 0) → List (Option T) → Type 0
EachSet P [] = ⊤
EachSet P (part ∷ parts) = ForSome part P × EachSet P parts

-- each part gave the one in its place: none where it is unset, and else one that R relates to it
abbrev pub PartsGive : {A B : Type 0} → (A → B → Type 0) → List (Option A) → List (Option B) → Type 0
PartsGive R = AllZip (λ old new. MatchOption old (new ≡ None) (λ x. IsSomeAnd new (R x)))
