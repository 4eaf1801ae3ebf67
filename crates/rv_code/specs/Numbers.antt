-- Words of 32 bits and bytes, as numbers. Words count as signed in two's complement, and are stored lowest byte first
-- (RISC-V unprivileged manual, sections 1.4 and 2.1).
use Rattle.std.specs.Prelude.{ℕ, zero, suc, ◌+◌, ◌-◌, ◌*◌, ◌/◌, ◌%◌, ◌^◌, ◌<◌, ℤ, pos, negsuc, List, [], ◌∷◌, if◌then◌else◌, nat_lt}
use Rattle.std.specs.Int.{cast_unsigned, cast_signed, w32}

abbrev pub IsWord : ℕ → Type 0
IsWord n = n < 2 ^ 32

abbrev pub IsByte : ℕ → Type 0
IsByte n = n < 2 ^ 8

-- addresses and sums are modulo 2^32
abbrev pub wrap : ℕ → ℕ
wrap n = n % 2 ^ 32

-- the signed number that a word counts as, in two's complement
abbrev pub signed : ℕ → ℤ
signed word = cast_signed w32 word

-- the word that counts as this signed number
abbrev pub unsigned : ℤ → ℕ
unsigned z = cast_unsigned w32 z

-- A number of fewer bits, of which half and more count as negative: 2^11 is the half of twelve bits.
abbrev pub sign_extended : ℕ → ℕ → ℤ
sign_extended half n = if nat_lt n half then pos n else negsuc (half + half - suc n)

-- so many bytes of a number, lowest first
abbrev pub bytes_of : ℕ → ℕ → List ℕ
bytes_of zero n = []
bytes_of (suc count) n = n % 256 ∷ bytes_of count (n / 256)

-- the number whose bytes these are, lowest first
abbrev pub number_of : List ℕ → ℕ
number_of [] = 0
number_of (byte ∷ bytes) = byte + 256 * number_of bytes
