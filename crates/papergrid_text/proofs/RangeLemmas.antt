-- What all characters of some ranges are, as the tables tell.
use Rattle.std.proofs.Common.{◌≤◌, ◌<◌, ◌≡◌, ℕ, Bool, true, false, not, ◌&&◌, ◌||◌, List, [], ◌∷◌, refl, arith}
use Rattle.std.proofs.lemmas.Bool.{false≢true}
use Rattle.std.proofs.lemmas.Bool.Decides.{nat_tests}
use Rattle.ucd_table.specs.Rows.{Range, in_ranges}
use Rattle.ucd_table.proofs.Facts.{Stepped-everywhere, always, ends_by}
use Rattle.ucd_table.proofs.Stepped.{Stepped, map_stepped, of_ranges, zip_stepped}
use Rattle.ucd_table.proofs.StepsLemmas.{range_rows, rises_from}
use Rattle.unicode_width.specs.declared.kind.Kind.{Kind}
use Rattle.unicode_width.specs.declared.kind.Kind.TheVariants as kinds
use Rattle.unicode_width.specs.declared.state.After.TheVariants as states
use Rattle.unicode_width.specs.declared.state.State.{State}
use Rattle.unicode_width.specs.Kind.{kind}
use Rattle.unicode_width.specs.Width.{alone, before, of_kind, plain}
use Rattle.unicode_width.proofs.Computing.{unicode_width}
use Rattle.unicode_width.proofs.KindLemmas.{kind_stepped}

-- ---- a test of ranges

-- each character of the ranges passes the test
abbrev pub AllPass : List Range → (ℕ → Bool) → Type 0
AllPass ranges test = (c : ℕ) → (not (in_ranges ranges c) || test c) ≡ true

-- the ranges rise
abbrev pub rise : List Range → Bool
rise ranges = rises_from 0 (range_rows ranges)

-- the steps of a test that is asked of the ranges alone
abbrev pub within_stepped : (ranges : List Range) (test : ℕ → Bool) → rise ranges ≡ true → Stepped test → Stepped (λ c. not (in_ranges ranges c) || test c)
within_stepped ranges test rising steps = zip_stepped (λ inside passes. not inside || passes) (in_ranges ranges) test (of_ranges ranges rising) steps

-- each step passes, and so does what lies in none
abbrev pub passes_by_steps : (test : ℕ → Bool) → Stepped test → Bool
passes_by_steps test steps = always test steps && (ends_by 0x11_0000 steps.steps && steps.default)

-- what the steps tell of the ranges
pub all_pass : (ranges : List Range) (test : ℕ → Bool) (steps : Stepped test) (rising : rise ranges ≡ true) → passes_by_steps (λ c. not (in_ranges ranges c) || test c) (within_stepped ranges test rising steps) ≡ true → AllPass ranges test
all_pass ranges test steps rising = Stepped-everywhere (λ c. not (in_ranges ranges c) || test c) (within_stepped ranges test rising steps)

-- the test is passed in the ranges
pub passes : (ranges : List Range) (test : ℕ → Bool) (c : ℕ) → AllPass ranges test → in_ranges ranges c ≡ true → test c ≡ true
passes ranges test c all inside = let either = all c in grind (arith, nat_tests)

-- ---- ranges of characters that are alike by themselves

pub data Group : Type 0 where
  Marks : Group
  Ones : Group
  Alefs : Group
  Twos : Group
  Pictographs : Group
  Indicators : Group
  Modifiers : Group

-- their ranges, as far as simple characters and the parts go
abbrev pub ranges_of : Group → List Range
ranges_of Marks =
    (0x300, 0x337) ∷ (0x339, 0x36F) ∷ (0x900, 0x902) ∷ (0x93A, 0x93A) ∷ (0x93C, 0x93C) ∷ (0x941, 0x948) ∷ (0x94D, 0x94D) ∷ (0x951, 0x957) ∷ (0x962, 0x963)
    ∷ (0xE31, 0xE31) ∷ (0xE34, 0xE3A) ∷ (0xE47, 0xE4E) ∷ []
ranges_of Ones =
    (0xC0, 0x2FF) ∷ (0x370, 0x47F) ∷ (0x5D0, 0x5DB) ∷ (0x5DD, 0x5EA) ∷ (0x620, 0x621) ∷ (0x624, 0x624) ∷ (0x626, 0x626) ∷ (0x628, 0x64A)
    ∷ (0x1E00, 0x1FFF) ∷ (0x2010, 0x2027) ∷ (0x2080, 0x20BF) ∷ (0x2100, 0x22FF) ∷ (0x2500, 0x25BF) ∷ []
ranges_of Alefs = (0x622, 0x623) ∷ (0x625, 0x625) ∷ (0x627, 0x627) ∷ []
ranges_of Twos = (0x3000, 0x3029) ∷ (0x3041, 0x3096) ∷ (0x30A0, 0x30FF) ∷ (0x3400, 0x9FFF) ∷ (0xAC00, 0xD77F) ∷ (0xFF01, 0xFF3F) ∷ []
ranges_of Pictographs =
    (0x1F337, 0x1F37C) ∷ (0x1F400, 0x1F43E) ∷ (0x1F442, 0x1F4FC) ∷ (0x1F5FB, 0x1F64F) ∷ (0x1F680, 0x1F6C5) ∷ (0x1F90C, 0x1F93A) ∷ (0x1F947, 0x1F9FF) ∷ []
ranges_of Indicators = (0x1F1E6, 0x1F1FF) ∷ []
ranges_of Modifiers = (0x1F3FB, 0x1F3FF) ∷ []

-- their kinds
abbrev pub has_kind : Group → Kind → Bool
has_kind Marks kinds.Zero = true
has_kind Ones kinds.Narrow = true
has_kind Ones kinds.Ambiguous = true
has_kind Alefs kinds.Alef = true
has_kind Twos kinds.Wide = true
has_kind Pictographs kinds.Emoji = true
has_kind Indicators kinds.RegionalIndicator = true
has_kind Modifiers kinds.EmojiModifier = true
has_kind _ _ = false

-- their columns, and what they are for the character before them
abbrev pub own_of : Group → ℕ × State
own_of Marks = (0, plain)
own_of Ones = (1, plain)
own_of Alefs = (1, before states.Alef)
own_of Twos = (2, plain)
own_of Pictographs = (2, before states.Emoji)
own_of Indicators = (1, before states.RegionalIndicator)
own_of Modifiers = (2, before states.EmojiModifier)

-- each character of the group's ranges has a kind of the group
abbrev AllHaveKind : Group → Type 0
AllHaveKind group = AllPass (ranges_of group) (λ c. has_kind group (kind c))

-- the ranges of each group rise
rises : (group : Group) → rise (ranges_of group) ≡ true
unfolding rises_from
rises Marks = refl
rises Ones = refl
rises Alefs = refl
rises Twos = refl
rises Pictographs = refl
rises Indicators = refl
rises Modifiers = refl

-- in the ranges of which of these groups a character lies
abbrev flags_of : Group → List Group → ℕ → List Bool
flags_of group [] c = in_ranges (ranges_of group) c ∷ []
flags_of group (next ∷ rest) c = in_ranges (ranges_of group) c ∷ flags_of next rest c

abbrev flags_stepped : (group : Group) (rest : List Group) → Stepped (flags_of group rest)
flags_stepped group [] = map_stepped (λ inside. inside ∷ []) (in_ranges (ranges_of group)) (of_ranges (ranges_of group) (rises group))
flags_stepped group (next ∷ rest) =
    zip_stepped (λ inside flags. inside ∷ flags) (in_ranges (ranges_of group)) (flags_of next rest) (of_ranges (ranges_of group) (rises group)) (flags_stepped next rest)

-- the kind is one of each group whose flag is set
abbrev fits : List Group → List Bool → Kind → Bool
fits (group ∷ rest) (inside ∷ flags) k = (not inside || has_kind group k) && fits rest flags k
fits _ _ _ = true

-- each character has a kind of each of these groups in whose ranges it lies
abbrev AllFit : Group → List Group → Type 0
AllFit group rest = (c : ℕ) → fits (group ∷ rest) (flags_of group rest c) (kind c) ≡ true

left : (a b : Bool) → (a && b) ≡ true → a ≡ true
left true b h = refl
left false b h = h

right : (a b : Bool) → (a && b) ≡ true → b ≡ true
right true b h = h
right false b h = absurd (false≢true h)

first : (group : Group) (rest : List Group) → AllFit group rest → AllHaveKind group
first group [] all c = left _ _ (all c)
first group (next ∷ rest) all c = left _ _ (all c)

others : (group next : Group) (rest : List Group) → AllFit group (next ∷ rest) → AllFit next rest
others group next rest all c = right _ _ (all c)

abbrev after_pictographs : List Group
after_pictographs = Indicators ∷ Modifiers ∷ []

abbrev after_twos : List Group
after_twos = Pictographs ∷ after_pictographs

abbrev after_alefs : List Group
after_alefs = Twos ∷ after_twos

abbrev after_ones : List Group
after_ones = Alefs ∷ after_alefs

abbrev after_marks : List Group
after_marks = Ones ∷ after_ones

-- one computation for all groups, over the steps of the kinds
all_fit : AllFit Marks after_marks
unfolding unicode_width
all_fit =
    Stepped-everywhere (λ c. fits (Marks ∷ after_marks) (flags_of Marks after_marks c) (kind c))
    (zip_stepped (fits (Marks ∷ after_marks)) (flags_of Marks after_marks) kind (flags_stepped Marks after_marks) kind_stepped) refl

from_ones : AllFit Ones after_ones
from_ones = others Marks Ones after_ones all_fit

from_alefs : AllFit Alefs after_alefs
from_alefs = others Ones Alefs after_alefs from_ones

from_twos : AllFit Twos after_twos
from_twos = others Alefs Twos after_twos from_alefs

from_pictographs : AllFit Pictographs after_pictographs
from_pictographs = others Twos Pictographs after_pictographs from_twos

from_indicators : AllFit Indicators (Modifiers ∷ [])
from_indicators = others Pictographs Indicators (Modifiers ∷ []) from_pictographs

-- so each character of a group's ranges has a kind of the group
all_have_kind : (group : Group) → AllHaveKind group
all_have_kind Marks = first Marks after_marks all_fit
all_have_kind Ones = first Ones after_ones from_ones
all_have_kind Alefs = first Alefs after_alefs from_alefs
all_have_kind Twos = first Twos after_twos from_twos
all_have_kind Pictographs = first Pictographs after_pictographs from_pictographs
all_have_kind Indicators = first Indicators (Modifiers ∷ []) from_indicators
all_have_kind Modifiers = first Modifiers [] (others Indicators Modifiers [] from_indicators)

-- a character of the ranges has a kind of its group
pub kind_in : (group : Group) (c : ℕ) → in_ranges (ranges_of group) c ≡ true → has_kind group (kind c) ≡ true
kind_in group c = passes (ranges_of group) (λ c. has_kind group (kind c)) c (all_have_kind group)

-- so has each line of a box
pub line_kind : (c : ℕ) → 0x2500 ≤ c → c < 0x2580 → has_kind Ones (kind c) ≡ true
unfolding in_ranges
line_kind c from to = kind_in Ones c (grind (arith, nat_tests))

-- what a kind of the group adds
pub own_by_kind : (group : Group) (c : ℕ) (k : Kind) → has_kind group k ≡ true → of_kind false c k ≡ own_of group
own_by_kind Marks c k h = grind arith
own_by_kind Ones c k h = grind arith
own_by_kind Alefs c k h = grind arith
own_by_kind Twos c k h = grind arith
own_by_kind Pictographs c k h = grind arith
own_by_kind Indicators c k h = grind arith
own_by_kind Modifiers c k h = grind arith

-- what a character of such a kind adds
pub own_alone : (group : Group) (c : ℕ) → has_kind group (kind c) ≡ true → alone false c ≡ own_of group
unfolding alone
own_alone group c h = own_by_kind group c (kind c) h

-- what a character of the ranges adds
pub own : (group : Group) (c : ℕ) → in_ranges (ranges_of group) c ≡ true → alone false c ≡ own_of group
own group c inside = own_alone group c (kind_in group c inside)
