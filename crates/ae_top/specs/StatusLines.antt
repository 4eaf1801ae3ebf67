-- The line of a status on the second output, behind what the command gave: this project's own. It ends with one newline
-- byte. A run that has ended has its ending's line, and no other.
use Rattle.std.specs.Prelude.{◌≡◌, ◌⊎◌, ℕ, List, [], ◌++◌, Bool, true, false, MatchBool, slice_index_or, codes}
use Rattle.ae_nums.specs.Decimal.{decimal_text}
use Rattle.ae_nums.specs.Hex.{hex8_text}
use Rattle.ae_nums.specs.Trace.{newline}
use Rattle.ae_ports.specs.Content.{Appends, AppendsFront}
use Rattle.ae_ports.specs.Fault.{HasRisen}
use Rattle.elf_image.specs.declared.fault.ImageFault.{ImageFault}
use Rattle.elf_image.specs.declared.fault.ImageFault.TheVariants.{Dynamic, Segments, NoCode, EntryNotCode, BadRelocation, TooLarge, Traced}
use Rattle.elf_image.specs.declared.fault.Over.TheVariants.{File, Mapped, Ranges, Words}
use Rattle.elf_raw.specs.declared.fault.ElfFault.{ElfFault}
use Rattle.elf_raw.specs.declared.fault.ElfFault.TheVariants.{NotElf, NotElf32Le, NotExec, NotRiscv, Compressed, OtherAbi, BadTable}
use Rattle.schema_form.specs.declared.fault.SchemaFault.{SchemaFault}
use Rattle.schema_form.specs.declared.fault.SchemaFault.TheVariants.{NotSchema, BadEntry, NotAForest}
use Rattle.ae_top.specs.declared.events_refusal.EventsRefusal.{EventsRefusal}
use Rattle.ae_top.specs.declared.events_refusal.EventsRefusal.TheVariants.{OtherProgram, BadRecord, Astray}
use Rattle.ae_top.specs.declared.refusal.Refusal.{Refusal}
use Rattle.ae_top.specs.declared.refusal.Refusal.TheVariants.{Elf, Image}
use Rattle.ae_top.specs.declared.status.Status.{Status}
use Rattle.ae_top.specs.declared.status.Status.TheVariants.{Done, Usage, CutShort, Missing, Refused, BadSchema, BadEvents, StoreFault, InputFault, OutFault, ErrFault, FuelSpent, Faulted, Memory}
use Rattle.ae_top.specs.World.{Port}

-- what a refusal says, before the place that it names
abbrev pub refusal_text : Refusal → List ℕ
refusal_text (Elf NotElf) = codes "ae: refused E1"
refusal_text (Elf NotElf32Le) = codes "ae: refused E2"
refusal_text (Elf NotExec) = codes "ae: refused E3"
refusal_text (Elf NotRiscv) = codes "ae: refused E4"
refusal_text (Elf Compressed) = codes "ae: refused E5"
refusal_text (Elf OtherAbi) = codes "ae: refused E6"
refusal_text (Elf (BadTable offset)) = codes "ae: refused E7 at "
refusal_text (Elf ElfFault.NoMemory) = []
refusal_text (Image Dynamic) = codes "ae: refused E8"
refusal_text (Image (Segments index)) = codes "ae: refused E9 segment "
refusal_text (Image NoCode) = codes "ae: refused E10"
refusal_text (Image EntryNotCode) = codes "ae: refused E11"
refusal_text (Image (BadRelocation index)) = codes "ae: refused E12 relocation "
refusal_text (Image (TooLarge File)) = codes "ae: refused E13 file"
refusal_text (Image (TooLarge Mapped)) = codes "ae: refused E13 mapped"
refusal_text (Image (TooLarge Ranges)) = codes "ae: refused E13 ranges"
refusal_text (Image (TooLarge Words)) = codes "ae: refused E13 words"
refusal_text (Image Traced) = codes "ae: refused E14"
refusal_text (Image ImageFault.NoMemory) = []

-- the offset, or the number of the program header or of the relocation
abbrev pub refusal_detail : Refusal → List ℕ
refusal_detail (Elf (BadTable offset)) = decimal_text offset
refusal_detail (Image (Segments index)) = decimal_text index
refusal_detail (Image (BadRelocation index)) = decimal_text index
refusal_detail _ = []

-- what the refusal of a schema says, before the place that it names
abbrev pub schema_refusal_text : SchemaFault → List ℕ
schema_refusal_text NotSchema = codes "ae: schema S1"
schema_refusal_text (BadEntry offset) = codes "ae: schema S2 at "
schema_refusal_text (NotAForest edge) = codes "ae: schema S3 edge "
schema_refusal_text SchemaFault.TooLarge = codes "ae: schema S4"
schema_refusal_text SchemaFault.NoMemory = []

-- the offset, or the name of the edge
abbrev pub schema_refusal_detail : SchemaFault → List ℕ
schema_refusal_detail NotSchema = []
schema_refusal_detail (BadEntry offset) = decimal_text offset
schema_refusal_detail (NotAForest edge) = hex8_text edge
schema_refusal_detail SchemaFault.TooLarge = []
schema_refusal_detail SchemaFault.NoMemory = []

-- what the refusal of an event file says, before the offset that it names
abbrev pub events_refusal_text : EventsRefusal → List ℕ
events_refusal_text OtherProgram = codes "ae: events other program"
events_refusal_text (BadRecord offset) = codes "ae: events bad record at "
events_refusal_text (Astray offset) = codes "ae: events astray at "

-- the offset
abbrev pub events_refusal_detail : EventsRefusal → List ℕ
events_refusal_detail OtherProgram = []
events_refusal_detail (BadRecord offset) = decimal_text offset
events_refusal_detail (Astray offset) = decimal_text offset

-- what a status says, before the name or number that it has
abbrev pub status_text : Status → List ℕ
status_text Done = []
status_text Usage = codes "ae: usage"
status_text CutShort = codes "ae: events cut short"
status_text (Missing word) = codes "ae: missing "
status_text (Refused refusal) = refusal_text refusal
status_text (BadSchema fault) = schema_refusal_text fault
status_text (BadEvents refusal) = events_refusal_text refusal
status_text StoreFault = codes "ae: store fault"
status_text InputFault = codes "ae: input fault"
status_text OutFault = codes "ae: out fault"
status_text ErrFault = codes "ae: err fault"
status_text (FuelSpent steps) = codes "ae: fuel spent "
status_text (Faulted ending) = []
status_text Memory = codes "ae: no memory"

-- the name of the file that isn't there, the place that a refusal names, or the steps that were made
abbrev pub status_detail : List (List ℕ) → Status → List ℕ
status_detail words (Missing word) = slice_index_or words word []
status_detail words (FuelSpent steps) = decimal_text steps
status_detail words (Refused refusal) = refusal_detail refusal
status_detail words (BadSchema fault) = schema_refusal_detail fault
status_detail words (BadEvents refusal) = events_refusal_detail refusal
status_detail words _ = []

abbrev pub status_line : List (List ℕ) → Status → List ℕ
status_line words status = status_text status ++ status_detail words status ++ newline

-- whether the status has a line of its own
abbrev pub has_line : Status → Bool
has_line Done = false
has_line (Faulted ending) = false
has_line _ = true

-- a sink got these bytes, or a front of them where its count of faults has risen
abbrev pub GetsLine : (before now : Port (List ℕ)) → List ℕ → Type 0
GetsLine before now bytes =
    Appends before.told now.told bytes ⊎ (AppendsFront before.told now.told bytes × HasRisen before.faults now.faults)

-- What the second output got behind what a command gave: the line of the status, or a front of it where the count of faults
-- rose; and nothing at all where the status has none.
abbrev pub LineBehind : (words : List (List ℕ)) → Status → (before now : Port (List ℕ)) → Type 0
LineBehind words status before now =
    MatchBool (has_line status) (GetsLine before now (status_line words status)) (now ≡ before)
