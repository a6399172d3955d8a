-- Where a line ends, and where its first mark is.
use Rattle.std.proofs.Common.{◌≡◌, ◌≢◌, ℕ, ◌+◌, ◌<◌, ◌≤◌, ◌-◌, ◌||◌, min, List, length, get_or, take, drop, length-drop, arith}
use Rattle.std.specs.Prelude.{◌==◌}
use Rattle.std.specs.List.{position_or_len}
use Rattle.papergrid_text.proofs.Places.{first_of_either, first_in_front, first_further, no_more_than, no_later, is_there}

abbrev pub Stop : List ℕ → ℕ → ℕ → Type 0
Stop xs m stop = stop ≡ position_or_len (λ b. (b == 10) || (b == m)) xs

abbrev pub Ends : List ℕ → ℕ → ℕ → ℕ → Type 0
Ends xs m end mark = (end ≡ position_or_len (λ b. b == 10) xs) × (mark ≡ min (position_or_len (λ b. b == m) xs) end)

no_more : (xs : List ℕ) (m stop : ℕ) → Stop xs m stop → position_or_len (λ b. b == 10) xs ≤ stop → Ends xs m stop stop
no_more xs m stop is short = let first = first_of_either (λ b. b == 10) (λ b. b == m) xs in (omega arith, omega arith)

pub ends_whole : (xs : List ℕ) (m stop : ℕ) → Stop xs m stop → length xs ≤ stop → Ends xs m stop stop
ends_whole xs m stop is whole = let bound = no_more_than xs 10 in no_more xs m stop is (omega arith)

pub ends_unmarked : (xs : List ℕ) (m stop : ℕ) → Stop xs m stop → get_or xs stop 0 ≡ 10 → Ends xs m stop stop
ends_unmarked xs m stop is newline = no_more xs m stop is (no_later xs 10 stop newline)

pub ends_further : (xs : List ℕ) (m stop more : ℕ) → Stop xs m stop → stop < length xs → get_or xs stop 0 ≢ 10
    → more ≡ position_or_len (λ b. b == 10) (take (length xs - stop) (drop stop xs)) → Ends xs m (stop + more) stop
ends_further xs m stop more is within no_newline found =
    let first = first_of_either (λ b. b == 10) (λ b. b == m) xs in
    let further = first_further (λ b. b == 10) xs stop (omega arith) in
    let whole = first_in_front (λ b. b == 10) (drop stop xs) (length xs - stop) in
    let bound = no_more_than (drop stop xs) 10 in
    let left = length-drop stop xs in
    let apart : stop ≢ position_or_len (λ b. b == 10) xs = λ same. no_newline (is_there xs 10 stop same (omega arith)).1 in
    (omega arith, omega arith)
