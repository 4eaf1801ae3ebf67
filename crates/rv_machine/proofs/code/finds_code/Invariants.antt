use Rattle.std.proofs.Common.{◌≡◌, false, take}
use Rattle.std.specs.List.{list_any}
use Rattle.rv_code.specs.Code.{is_word_of}
use Rattle.rv_machine.proofs.code.finds_code.Given as goal

-- none of the extents so far has the word
abbrev pub invariant-loop-place : goal.invariant-loop-place
invariant-loop-place l = list_any (λ extent. is_word_of extent l.address) (take l.place l.code) ≡ false
