-- What contracts see of an image: its fields, with plain lists for those that hold vectors.
use Rattle.std.specs.Prelude.{ℕ, List, Option}
use Rattle.rv_code.specs.declared.image.Region.{Region}
use Rattle.rv_code.specs.declared.image.Range.{Range}
use Rattle.rv_code.specs.declared.image.Name.{Name}
use Rattle.rv_code.specs.declared.image.Note.{Note}

pub record ImageParts : Type 0 where
  pub entry : ℕ
  pub regions : List Region
  pub code : List Range
  pub names : List Name
  pub named : List ℕ
  pub note : Option Note
