-- What calls behind one another did to the files.
use Rattle.std.proofs.Common.{ℕ, List, Option, None, Some, ◌∙◌}
use Rattle.ae_ports.specs.Files.{Files, SameFiles, SameOthers, SameFile}

-- behind a call that changed none
pub same_file_after : (before mid now : Option Files) (name : List ℕ) → SameFiles before mid → SameFile mid now name → SameFile before now name
same_file_after None mid now name same then = tt
same_file_after (Some before) None now name same then = absurd same
same_file_after (Some before) (Some mid) None name same then = absurd then
same_file_after (Some before) (Some mid) (Some now) name same then = then ∙ same name

pub same_others_after : (before mid now : Option Files) (name : List ℕ) → SameFiles before mid → SameOthers mid now name → SameOthers before now name
same_others_after None None now name same then = then
same_others_after None (Some mid) now name same then = absurd same
same_others_after (Some before) None now name same then = absurd same
same_others_after (Some before) (Some mid) None name same then = absurd then
same_others_after (Some before) (Some mid) (Some now) name same then = λ other differs. then other differs ∙ same other

-- two calls that changed one file alone
pub same_others_both : (before mid now : Option Files) (name : List ℕ) → SameOthers before mid name → SameOthers mid now name → SameOthers before now name
same_others_both None None now name first then = then
same_others_both None (Some mid) now name first then = absurd first
same_others_both (Some before) None now name first then = absurd first
same_others_both (Some before) (Some mid) None name first then = absurd then
same_others_both (Some before) (Some mid) (Some now) name first then = λ other differs. then other differs ∙ first other differs
