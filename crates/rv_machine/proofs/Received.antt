-- Bytes of the input that go into memory piece by piece.
use Rattle.std.proofs.Common.{◌≡◌, ℕ, ◌+◌, ◌-◌, ◌^◌, ◌<◌, ◌≤◌, Bool, not, List, [], ◌++◌, length, take, drop, min, Option, None, refl, sym, ap, ◌∙◌, arith, length-append, length-drop}
use Rattle.std.proofs.lemmas.List.{length-take-le, take-append-le}
use Rattle.std.specs.Io.KnownBytes.{prepend_known}
use Rattle.ae_ports.specs.Content.{Consumes}
use Rattle.ae_ports.proofs.LawsOfContent.{prepend_known-append, Consumes-none}
use Rattle.rv_code.specs.Numbers.{wrap}
use Rattle.rv_memory.specs.Memory.{Cell, is_writable, span, first_shut, written}
use Rattle.rv_memory.proofs.LawsOfCells.{none_front, none_behind, shut_written, written_none, written_few, written_both}
use Rattle.rv_machine.specs.Inner.Advance.{Receives}

-- how far bytes of the input were put into the buffer
pub record IsReceived (told told_now : Option (List ℕ)) (before now : List Cell) (address count got : ℕ) : Type 0 where
  pub bytes : List ℕ
  pub number : length bytes ≡ got
  pub within : got ≤ count
  pub taken : Consumes told told_now bytes
  pub put : now ≡ written before (span address count) bytes

pub none_received : (told : Option (List ℕ)) (before : List Cell) (address count : ℕ) → IsReceived told told before before address count 0
none_received told before address count =
    record { bytes = []; number = refl; within = omega arith; taken = Consumes-none told; put = written_none before (span address count) }

module _ (told mid : Option (List ℕ)) (before between : List Cell) (address count got : ℕ) (fits : address < 2 ^ 32)
    (far : IsReceived told mid before between address count got) where
  -- the next bytes have room
  pub still_free : (more : ℕ) → got + more ≤ count → first_shut before (span address count) ≡ None → first_shut between (span (wrap (address + got)) more) ≡ None
  still_free more le free =
      let shut : ℕ → Bool = λ a. not (is_writable before a) in
      ap (λ (cells : List Cell). first_shut cells (span (wrap (address + got)) more)) far.put
      ∙ (shut_written before (span address count) far.bytes (span (wrap (address + got)) more)
      ∙ none_behind shut address got more fits (none_front shut address (got + more) count le free))

  pub more_received : (now : Option (List ℕ)) (after : List Cell) (more : ℕ) (bytes : List ℕ) → length bytes ≡ more → got + more ≤ count → Consumes mid now bytes
      → after ≡ written between (span (wrap (address + got)) (length bytes)) bytes → IsReceived told now before after address count (got + more)
  more_received now after more bytes long le taken put =
      let had : List ℕ = far.bytes in
      let whole : length (had ++ bytes) ≡ got + more = length-append had bytes ∙ omega (arith, far.number, long) in
      let few : length had ≤ count = omega (arith, far.number) in
      record {
        bytes = had ++ bytes;
        number = whole;
        within = le;
        taken = far.taken ∙ (ap (λ (known : Option (List ℕ)). prepend_known had known) taken ∙ prepend_known-append had bytes now);
        put = put
            ∙ (ap (λ (cells : List Cell). written cells (span (wrap (address + got)) (length bytes)) bytes) (far.put ∙ written_few before address count had few)
            ∙ (ap (λ n. written (written before (span address (length had)) had) (span (wrap (address + n)) (length bytes)) bytes) (sym far.number)
            ∙ (written_both before address had bytes fits
            ∙ sym (written_few before address count (had ++ bytes) (omega (arith, whole, le))))));
      }

-- the buffer is full
pub received_full : (told now : Option (List ℕ)) (before after : List Cell) (address count got : ℕ) → IsReceived told now before after address count got → count ≤ got
    → Receives told now before after address count got
received_full told now before after address count got far full =
    record { bytes = far.bytes; number = far.number; within = far.within; taken = far.taken; put = far.put; end = λ less. absurd (omega arith) }

-- a piece whose front was filled, of which the first bytes came
pub record IsFilled (piece buf : List ℕ) (room more count got : ℕ) : Type 0 where
  pub front : take more (buf ++ drop room piece) ≡ take more buf
  pub long : length (take more (buf ++ drop room piece)) ≡ more
  pub within : got + more ≤ count
  pub size : length (buf ++ drop room piece) ≡ 4096

pub filled : (piece buf : List ℕ) (room more count got : ℕ) → length piece ≡ 4096 → got ≤ count → room ≡ min (count - got) 4096
    → length buf ≡ length (take room piece) → more ≤ length (take room piece) → IsFilled piece buf room more count got
filled piece buf room more count got size le is_room is_buf is_more =
    let room_size : length (take room piece) ≡ room = length-take-le room piece (omega arith) in
    let front : take more (buf ++ drop room piece) ≡ take more buf = take-append-le more buf (drop room piece) (omega arith) in
    record {
      front = front;
      long = ap (λ (xs : List ℕ). length xs) front ∙ length-take-le more buf (omega arith);
      within = omega arith;
      size = length-append buf (drop room piece) ∙ (ap (λ n. length buf + n) (length-drop room piece) ∙ omega arith);
    }
