-- Folds with a closure that may change between its calls.
use Rattle.std.specs.Prelude.{◌≡◌, List, [], ◌∷◌, ⊤}

module _ {F B T : Type 0} where
  -- from the state f and the answer b on, the closure may be called at each item in turn
  abbrev pub CanFold : (F → B → T → Type 0) → (F → B → T → B → F → Type 0) → F → B → List T → Type 0
  CanFold pre step f b [] = ⊤
  CanFold pre step f b (x ∷ xs) =
      pre f b x × ((b' : B) (f' : F) → step f b x b' f' → CanFold pre step f' b' xs)

  -- calls at each item in turn led from the state f and the answer b to the answer last. Each has
  -- the answer of the call before
  abbrev pub Folds : (F → B → T → B → F → Type 0) → F → B → List T → B → Type 0
  Folds step f b [] last = b ≡ last
  Folds step f b (x ∷ xs) last = (b' : B) × (f' : F) × step f b x b' f' × Folds step f' b' xs last
