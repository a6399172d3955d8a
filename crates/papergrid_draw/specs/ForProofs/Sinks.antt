-- Texts that are delivered to a sink, by what it tells of itself.
use Rattle.std.specs.Prelude.{ℕ, Bool, List, Option}
use Rattle.papergrid_text.specs.Transfer.{HasBegun, HasEnded}

module _ {W : Type 0} (contents : W → Option (List ℕ)) (has_failed has_stalled : W → Bool) where
  -- some of the first bytes were taken, and then the sink ended
  pub record IsBroken (old : W) (bytes : List ℕ) (new : W) : Type 0 where
    pub beginning : HasBegun contents has_failed has_stalled old bytes new
    pub ended : HasEnded contents has_failed has_stalled old new
