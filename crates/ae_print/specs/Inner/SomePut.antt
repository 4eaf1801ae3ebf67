-- What was written to a writer of lines, where it is said which texts are meant and not which text it is.
use Rattle.std.specs.Prelude.{ℕ, List, Option, Ok}
use Rattle.ae_nums.specs.Writer.{Puts}
use Rattle.ae_nums.specs.declared.writer.LineWriter.{LineWriter}

-- such a text was written, as far as the sink didn't fail
pub record PutsSome {K : Type 0} (told : K → Option (List ℕ)) (faults : K → ℕ) (same_rest : K → K → Type 0) (is_text : List ℕ → Type 0) (before now : LineWriter K) : Type 0 where
  pub text : List ℕ
  pub is : is_text text
  pub puts : Puts told faults same_rest before now text (Ok tt)
