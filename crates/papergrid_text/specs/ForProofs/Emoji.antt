-- What a step back in a text of emoji is, in the words of `unicode_width`.
use Rattle.std.specs.Prelude.{◌≡◌, ℕ, ◌+◌, true, false}
use Rattle.unicode_width.specs.Width.{before, plain, step}
use Rattle.unicode_width.specs.declared.state.After.TheVariants as states
use Rattle.unicode_width.specs.declared.state.State.{State}
use Rattle.papergrid_text.specs.declared.width.part.After.{After}
use Rattle.papergrid_text.specs.declared.width.part.After.TheVariants as afters

-- what `unicode_width` knows then of the text
abbrev pub state_of : After → State
state_of afters.Other = plain
state_of afters.Emoji = before states.Emoji
state_of afters.Modifier = before states.EmojiModifier
state_of afters.Selector = record plain { emoji = true }
state_of afters.Joiner = before states.ZwjEmoji
state_of afters.Indicator = before states.RegionalIndicator
state_of afters.Indicators = before states.RegionalIndicators

-- before a text of any width that begins so, the character adds this width, and both begin so
abbrev pub IsStep : ℕ → After → ℕ × After → Type 0
IsStep c after added = (total : ℕ) → step false c (total, state_of after) ≡ (total + added.0, state_of added.1)
