-- How much an executable's image may hold: this project's own. One with a note, a rewritten executable, may hold more.
use Rattle.std.specs.Prelude.{ℕ, Bool, if◌then◌else◌}
use Rattle.rv_code.specs.declared.limits.TheConstants.{REGIONS_LIMIT, NOTED_REGIONS_LIMIT, MAPPED_LIMIT, RANGES_LIMIT, WORDS_LIMIT, NOTED_WORDS_LIMIT}

-- loaded segments
abbrev pub regions_limit : (has_note : Bool) → ℕ
regions_limit has_note = if has_note then NOTED_REGIONS_LIMIT else REGIONS_LIMIT

-- mapped bytes below the tracer's, the stack apart
abbrev pub mapped_limit : ℕ
mapped_limit = MAPPED_LIMIT

-- ranges of code words
abbrev pub ranges_limit : ℕ
ranges_limit = RANGES_LIMIT

-- code words
abbrev pub words_limit : (has_note : Bool) → ℕ
words_limit has_note = if has_note then NOTED_WORDS_LIMIT else WORDS_LIMIT
