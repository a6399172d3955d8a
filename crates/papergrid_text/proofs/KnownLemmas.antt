-- Known bytes over several writes.
use Rattle.std.proofs.Common.{◌++◌, ℕ, List, Option, None, Some, ap, ◌∙◌, append_assoc}
use Rattle.std.specs.Io.KnownBytes.{Appends}

pub appends_more : (a b c : Option (List ℕ)) (bs cs : List ℕ) → Appends a b bs → Appends b c cs → Appends a c (bs ++ cs)
appends_more None b c bs cs p q = tt
appends_more (Some x) None c bs cs p q = absurd p
appends_more (Some x) (Some y) None bs cs p q = absurd q
appends_more (Some x) (Some y) (Some z) bs cs p q = q ∙ ap (λ l. l ++ cs) p ∙ append_assoc x bs cs
