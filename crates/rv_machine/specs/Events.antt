-- The event bytes of a run of a rewritten executable: this project's own. An image without a note has none.
use Rattle.std.specs.Prelude.{ℕ, ◌+◌, ◌-◌, Bool, ◌&&◌, List, [], ◌++◌, Option, None, Some, is_none, if◌then◌else◌, ◌==◌, nat_le}
use Rattle.std.specs.List.{fold}
use Rattle.ae_nums.specs.EventHeader.{event_header}
use Rattle.rv_code.specs.declared.ending.Ending.{Ending}
use Rattle.rv_code.specs.declared.ending.Ending.TheVariants.{Exit, Illegal, Breakpoint, LoadFault, StoreFault, FetchFault, JumpMisaligned}
use Rattle.rv_code.specs.declared.image.Image.{Image}
use Rattle.rv_code.specs.declared.image.Mark.{Mark}
use Rattle.rv_code.specs.declared.image.Note.{Note}
use Rattle.rv_code.specs.Addresses.{tracer_start}
use Rattle.rv_code.specs.Endings.{kind_of, detail_of}
use Rattle.rv_code.specs.Numbers.{bytes_of, number_of}
use Rattle.rv_memory.specs.Memory.{Cell, span, bytes_at, first_hole}
use Rattle.rv_machine.specs.Run.{Run, run_of}

-- the header of an event file, by what the original is known by
abbrev pub event_header_of : Note → List ℕ
event_header_of note = event_header note.entry note.first note.count

abbrev pub is_mapped_as_whole : List Cell → List ℕ → Bool
is_mapped_as_whole memory addresses = is_none (first_hole memory addresses)

-- The bytes of the buffer up to where it is used, where buffer and end lie among what belongs to the tracer and are
-- mapped; else none.
abbrev pub drained_to : (buffer end : ℕ) → List Cell → List ℕ
drained_to buffer end memory =
    if nat_le tracer_start buffer && nat_le buffer end && is_mapped_as_whole memory (span buffer (end - buffer))
    then bytes_at memory (span buffer (end - buffer))
    else []

-- the bytes that wait in the note's buffer; a note that names no word of use has no buffer
abbrev pub drained : Note → List Cell → List ℕ
drained note memory =
    if note.used == 0 then []
    else (if is_mapped_as_whole memory (span note.used 4)
    then drained_to note.buffer (number_of (bytes_at memory (span note.used 4))) memory
    else [])

-- a mark's original address where its from is at most the pc, and else what was found before
abbrev pub original_by : (pc found : ℕ) → Mark → ℕ
original_by pc found mark = if nat_le mark.from pc then mark.original else found

-- the original address of a pc: that of the last mark whose from is at most the pc, and 0 where there is none
abbrev pub original_of : List Mark → (pc : ℕ) → ℕ
original_of map pc = fold (original_by pc) 0 map

-- the address in an End record: that of the word, but 0 where none was carried out, or where it was a jump that came to nothing
abbrev pub address_at_end : (at : ℕ) → Ending → ℕ
address_at_end at (Exit code) = at
address_at_end at (Illegal word) = at
address_at_end at Breakpoint = at
address_at_end at (LoadFault address) = at
address_at_end at (StoreFault address) = at
address_at_end at (FetchFault address) = 0
address_at_end at (JumpMisaligned target) = 0

-- an End record: an address plus 3, the ending's number and its detail
abbrev pub end_record : ℕ → Ending → List ℕ
end_record address ending = bytes_of 4 (address + 3) ++ bytes_of 4 (kind_of ending) ++ bytes_of 4 (detail_of ending)

-- the End record of a run that has ended at a pc
abbrev pub end_of_run : Note → (pc : ℕ) → Option Ending → List ℕ
end_of_run note pc None = []
end_of_run note pc (Some ending) = end_record (address_at_end (original_of note.map pc) ending) ending

-- what comes before all events of a run
abbrev pub events_before : Option Note → List ℕ
events_before None = []
events_before (Some note) = event_header_of note

-- what comes behind them, with this pc and this memory
abbrev pub events_behind : Option Note → (pc : ℕ) → List Cell → Option Ending → List ℕ
events_behind None pc memory ending = []
events_behind (Some note) pc memory ending = drained note memory ++ end_of_run note pc ending

-- without a note a run gives no events
abbrev pub events_by : Option Note → Run → List ℕ
events_by note r = events_before note ++ r.last.events ++ events_behind note r.last.pc r.last.memory r.ending

-- the event bytes of the run of an image on an input, at most so many steps
abbrev pub event_bytes_of : Image → List ℕ → ℕ → List ℕ
event_bytes_of image input count = events_by image.note (run_of image input count)
