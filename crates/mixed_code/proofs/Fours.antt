-- Lists of four.
use Rattle.std.proofs.Common.{◌≡◌, [], ◌∷◌, refl}

pub four_same : {X : Type 0} {a b c d e f g h : X} → a ≡ e → b ≡ f → c ≡ g → d ≡ h → (a ∷ b ∷ c ∷ d ∷ []) ≡ (e ∷ f ∷ g ∷ h ∷ [])
four_same first second third fourth = rw first (rw second (rw third (rw fourth refl)))
