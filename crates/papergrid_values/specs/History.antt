-- What calls tell, one after another.
use Rattle.std.specs.Prelude.{List, ◌++◌}

-- whatever the history of the old value, that of the new one is this and then the further calls
abbrev pub AppendsHistory : {Call Value : Type 0} → (List Call → Value → Type 0) → Value → Value → List Call → Type 0
AppendsHistory {Call} IsTold old new further = (calls : List Call) → IsTold calls old → IsTold (calls ++ further) new
