-- Laws of bytes that are appended, or read, piece by piece. They have no code, and proofs of every crate may cite them.
use Rattle.std.proofs.Common.{◌≡◌, ℕ, ◌+◌, ◌≤◌, List, [], ◌++◌, length, take, drop, Option, None, Some, Result, refl, sym, ◌∙◌, ap, subst, arith, append_assoc, length-append, length-drop}
use Rattle.std.proofs.Math.Seq.{take-add, take-append-add, take-length}
use Rattle.std.proofs.lemmas.List.{append-nil, take-append-le}
use Rattle.std.specs.Prelude.{OnErr}
use Rattle.std.specs.Io.KnownBytes.{append_known, prepend_known}
use Rattle.ae_ports.specs.declared.failed.Failed.{Failed}
use Rattle.ae_ports.specs.Content.{Appends, AppendsFront, Consumes}

pub append_known-nil : (known : Option (List ℕ)) → append_known known [] ≡ known
append_known-nil None = refl
append_known-nil (Some bytes) = ap Some (append-nil bytes)

pub append_known-append : (known : Option (List ℕ)) (first second : List ℕ) → append_known (append_known known first) second ≡ append_known known (first ++ second)
append_known-append None first second = refl
append_known-append (Some bytes) first second = ap Some (append_assoc bytes first second)

-- a piece, and another behind it
pub Appends-behind : (before mid now : Option (List ℕ)) (first second : List ℕ) → Appends before mid first → Appends mid now second → Appends before now (first ++ second)
Appends-behind before mid now first second one two =
    two ∙ ap (λ (known : Option (List ℕ)). append_known known second) one ∙ append_known-append before first second

-- the first bytes of a piece, and then the first of the rest
pub Appends-rest : (before mid now : Option (List ℕ)) (bytes : List ℕ) (sent count : ℕ) → Appends before mid (take sent bytes) → Appends mid now (take count (drop sent bytes)) → Appends before now (take (sent + count) bytes)
Appends-rest before mid now bytes sent count one two =
    Appends-behind before mid now (take sent bytes) (take count (drop sent bytes)) one two
    ∙ ap (λ (l : List ℕ). append_known before l) (sym (take-add sent count bytes))

-- nothing is a front of every piece
pub AppendsFront-none : (known : Option (List ℕ)) (bytes : List ℕ) → AppendsFront known known bytes
AppendsFront-none known bytes = (0, omega arith, sym (append_known-nil known))

-- a whole piece is a front of it
pub AppendsFront-all : (before now : Option (List ℕ)) (bytes : List ℕ) → Appends before now bytes → AppendsFront before now bytes
AppendsFront-all before now bytes all = (length bytes, omega arith, all ∙ ap (append_known before) (sym (take-length bytes)))

-- a front of a piece is one of the piece with more behind it
pub AppendsFront-more : (before now : Option (List ℕ)) (bytes more : List ℕ) → AppendsFront before now bytes → AppendsFront before now (bytes ++ more)
AppendsFront-more before now bytes more front =
    (front.0, omega (arith, length-append bytes more, front.1), front.2 ∙ ap (append_known before) (sym (take-append-le front.0 bytes more front.1)))

-- a piece, and a front of another behind it
pub AppendsFront-behind : (before mid now : Option (List ℕ)) (first second : List ℕ) → Appends before mid first → AppendsFront mid now second → AppendsFront before now (first ++ second)
AppendsFront-behind before mid now first second one front = (
  length first + front.0,
  omega (arith, length-append first second, front.1),
  Appends-behind before mid now first (take front.0 second) one front.2 ∙ ap (append_known before) (sym (take-append-add first second front.0)),
)

-- the first bytes of a piece, and then a front of the rest
pub AppendsFront-rest : (before mid now : Option (List ℕ)) (bytes : List ℕ) (sent : ℕ) → sent ≤ length bytes → Appends before mid (take sent bytes) → AppendsFront mid now (drop sent bytes) → AppendsFront before now bytes
AppendsFront-rest before mid now bytes sent within one front =
    (sent + front.0, omega (arith, length-drop sent bytes, front.1), Appends-rest before mid now bytes sent front.0 one front.2)

-- a front of a piece, where the sink has what it is said to have
pub AppendsFront-at : (result : Result Unit Failed) (before now end : Option (List ℕ)) (bytes : List ℕ) → now ≡ end → OnErr result (AppendsFront before now bytes) → OnErr result (AppendsFront before end bytes)
AppendsFront-at result before now end bytes is front = subst (λ (known : Option (List ℕ)). OnErr result (AppendsFront before known bytes)) is front

pub prepend_known-append : (first second : List ℕ) (known : Option (List ℕ)) → prepend_known first (prepend_known second known) ≡ prepend_known (first ++ second) known
prepend_known-append first second None = refl
prepend_known-append first second (Some bytes) = ap Some (sym (append_assoc first second bytes))

-- nothing is read of what is left
pub Consumes-none : (known : Option (List ℕ)) → Consumes known known []
Consumes-none None = refl
Consumes-none (Some bytes) = refl

-- a piece is read, and another behind it
pub Consumes-behind : (before mid now : Option (List ℕ)) (first second : List ℕ) → Consumes before mid first → Consumes mid now second → Consumes before now (first ++ second)
Consumes-behind before mid now first second one two = one ∙ ap (prepend_known first) two ∙ prepend_known-append first second now
