-- What is read of a reader.
use Rattle.std.specs.Prelude.{◌≡◌, ℕ, IfSome, List, Option}
use Rattle.std.specs.Io.KnownBytes.{Consumes, IsAtEnd}

-- these are all bytes that were left to read, and the reader is at its end
pub record IsWholeInput (unread_old unread_new : Option (List ℕ)) (input : List ℕ) : Type 0 where
  pub read : Consumes unread_old unread_new input
  pub all : IfSome unread_old (λ left. input ≡ left)
  pub at_end : IsAtEnd unread_new
