-- What the objects in memory show of themselves, and how a call of them is counted.
use Rattle.std.specs.Prelude.{◌≡◌, ℕ, ◌+◌, ◌-◌, ◌^◌, min, List, Bool, true, false, ◌==◌, length, take, drop, ◌++◌, Result, IsOk, IsErr, MatchResult}
use Rattle.std.specs.List.{list_any}
use Rattle.ae_ports.specs.Named.{NamedFiles}
use Rattle.ae_ports.specs.declared.failed.Failed.{Failed}

-- the numbers of the calls that fail; how many calls there were; how many of them failed by their number, and how many for want of memory
pub record Tally : Type 0 where
  pub fails : List ℕ
  pub calls : ℕ
  pub failed : ℕ
  pub starved : ℕ

-- before the first call
abbrev pub new_tally : List ℕ → Tally
new_tally fails = record { fails = fails; calls = 0; failed = 0; starved = 0 }

-- all that failed
abbrev pub fault_count : Tally → ℕ
fault_count tally = tally.failed + tally.starved

-- one more, up to the largest u64
abbrev pub raised : ℕ → ℕ
raised count = min (count + 1) (2 ^ 64 - 1)

-- the number of the next call is one of those that fail
abbrev pub fails_next : Tally → Bool
fails_next tally = list_any (λ number. number == tally.calls) tally.fails

-- after a call that was served
abbrev pub with_served : Tally → Tally
with_served tally = record tally { calls = raised tally.calls }

-- after a call that failed by its number
abbrev pub with_failed : Tally → Tally
with_failed tally = record tally { calls = raised tally.calls; failed = raised tally.failed }

-- after a call that failed for want of memory
abbrev pub with_starved : Tally → Tally
with_starved tally = record tally { calls = raised tally.calls; starved = raised tally.starved }

-- A call failed exactly where its number is one of those that fail.
pub record CountsSteadyCall {T : Type 0} (before now : Tally) (result : Result T Failed) : Type 0 where
  pub named : fails_next before ≡ true → IsErr result × (now ≡ with_failed before)
  pub other : fails_next before ≡ false → IsOk result × (now ≡ with_served before)

-- A call failed where its number is one of those that fail, and otherwise only for want of memory.
pub record CountsCall {T : Type 0} (before now : Tally) (result : Result T Failed) : Type 0 where
  pub named : fails_next before ≡ true → IsErr result × (now ≡ with_failed before)
  pub other : fails_next before ≡ false → MatchResult result (λ _. now ≡ with_served before) (λ _. now ≡ with_starved before)

-- what a source in memory shows
pub record MemorySourceState : Type 0 where
  pub left : List ℕ
  pub tally : Tally

-- what a sink in memory shows
pub record MemorySinkState : Type 0 where
  pub taken : List ℕ
  pub tally : Tally

-- what a store in memory shows
pub record MemoryStoreState : Type 0 where
  pub files : NamedFiles
  pub tally : Tally

-- all bytes from this place on that are there and have room stand at the front of the buffer, and the rest of it is as before
pub record IsCopy (bytes : List ℕ) (from : ℕ) (before now : List ℕ) (count : ℕ) : Type 0 where
  pub all : count ≡ min (length before) (length bytes - from)
  pub buffer : now ≡ take count (drop from bytes) ++ drop count before
