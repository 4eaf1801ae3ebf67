-- What a writer of lines does: it gathers what is written to it, and hands it to the sink that it was made over when there is
-- much of it. The first arguments are the members of the sink's trait.
use Rattle.std.specs.Prelude.{◌≡◌, ℕ, ◌≤◌, List, ◌++◌, drop, true, false, Option, Result, OnOk, OnErr}
use Rattle.ae_ports.specs.Content.{Appends, AppendsFront}
use Rattle.ae_ports.specs.Fault.{HasRisen, HasCause}
use Rattle.ae_ports.specs.declared.failed.Failed.{Failed}
use Rattle.ae_nums.specs.declared.writer.LineWriter.{LineWriter}

-- This text was written to a writer since it was made over a sink, which stood at `start` then. The sink has taken a front of it,
-- whether the writer is let go now or not; where the sink hasn't failed, the rest waits.
pub record Written {K : Type 0} (told : K → Option (List ℕ)) (faults : K → ℕ) (start : K) (writer : LineWriter K) (text : List ℕ) : Type 0 where
  pub front : AppendsFront (told start) (told writer.sink.now) text
  pub waits : writer.broken ≡ false → writer.waiting ≡ drop front.0 text
  -- the sink's count of faults has risen where it failed, and is as before where it didn't
  pub later : faults start ≤ faults writer.sink.now
  pub same : writer.broken ≡ false → faults writer.sink.now ≡ faults start
  pub risen : writer.broken ≡ true → HasRisen (faults start) (faults writer.sink.now)

-- Between two moments this text was written to a writer, behind all that was written before. The sink's count of faults hasn't
-- fallen, and to a sink that had failed nothing happened.
pub record Wrote {K : Type 0} (told : K → Option (List ℕ)) (faults : K → ℕ) (before now : LineWriter K) (text : List ℕ) : Type 0 where
  pub behind : (start : K) (first : List ℕ) → Written told faults start before first → Written told faults start now (first ++ text)
  pub later : faults before.sink.now ≤ faults now.sink.now
  pub still : before.broken ≡ true → (now.broken ≡ true) × (now.sink.now ≡ before.sink.now)

-- the same loan of a sink whose rest is kept
pub record SameSink {N : Type 0} (lent lent_now : N) (sink_rest : Type 0) : Type 0 where
  pub loan : lent ≡ lent_now
  pub rest : sink_rest

-- A call wrote a text, as far as the sink didn't fail. After Failed the sink has failed.
pub record Puts {K : Type 0} (told : K → Option (List ℕ)) (faults : K → ℕ) (same_rest : K → K → Type 0) (before now : LineWriter K) (text : List ℕ) (result : Result Unit Failed) : Type 0 where
  pub wrote : Wrote told faults before now text
  pub broken : OnErr result (now.broken ≡ true)
  pub rest : SameSink before.sink.ghost_name now.sink.ghost_name (same_rest before.sink.now now.sink.now)

-- What a whole use of a writer gives to its sink, from when it was made to its finish: all of the text, or after a fault a front of
-- it, and whose fault it is.
pub record Finished {K : Type 0} (told : K → Option (List ℕ)) (faults : K → ℕ) (start now : K) (text : List ℕ) (result : Result Unit Failed) : Type 0 where
  pub all : OnOk result (Appends (told start) (told now) text)
  pub front : OnErr result (AppendsFront (told start) (told now) text)
  pub cause : HasCause (faults start) (faults now) result
