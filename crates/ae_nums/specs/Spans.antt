-- Spans of numbers.
use Rattle.std.specs.Prelude.{ℕ, ◌<◌, ◌≤◌}
use Rattle.ae_nums.specs.declared.span.Span64.{Span64}

-- the number is one of the span's
pub record IsIn (span : Span64) (number : ℕ) : Type 0 where
  pub above : span.from ≤ number
  pub below : number < span.to

-- each number of the first is one of the second
abbrev pub IsWithin : Span64 → Span64 → Type 0
IsWithin span other = (number : ℕ) → IsIn span number → IsIn other number

-- some number is in both
abbrev pub Meets : Span64 → Span64 → Type 0
Meets span other = (number : ℕ) × IsIn span number × IsIn other number
