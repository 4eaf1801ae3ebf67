-- The front of a piece that is filled grows by what is put behind it.
use Rattle.std.proofs.Common.{ℕ, ◌+◌, ◌≤◌, List, length, take, Option, sym, subst}
use borrow.Rule.Slice.PartMut.{put_mid}
use Rattle.ae_ports.specs.Content.{Consumes}
use Rattle.ae_ports.proofs.LawsOfContent.{Consumes-behind}
use Rattle.rv_code.proofs.LawsOfElements.{take_filled}

pub Consumes-filled : (before mid now : Option (List ℕ)) (got more k : ℕ) (piece read : List ℕ) → got ≤ length piece → more ≤ length read
    → Consumes before mid (take got piece) → Consumes mid now (take more read) → Consumes before now (take (got + more) (put_mid got k piece read))
Consumes-filled before mid now got more k piece read room within one two =
    subst (Consumes before now) (sym (take_filled got more k piece read room within)) (Consumes-behind before mid now (take got piece) (take more read) one two)
