-- What is known of the files of a schema and of events while they are read.
use Rattle.std.specs.Prelude.{ℕ, ◌≤◌, List, length, Option}
use Rattle.ae_ports.specs.Files.{Files, HasBytes}
use Rattle.schema_form.specs.declared.limits.TheConstants.{SCHEMA_LIMIT}
use Rattle.ae_top.specs.declared.event_files.NoEvents.{NoEvents}
use Rattle.ae_top.specs.declared.event_files.Unread.{Unread}

-- a file of this name is no longer than a schema may be
abbrev pub IsShortFile : Option Files → (name : List ℕ) → Type 0
IsShortFile told name = (bytes : List ℕ) × HasBytes told name bytes × (length bytes ≤ SCHEMA_LIMIT)

-- why there are no event files, where the bytes of one that is there aren't read
abbrev pub no_events_after : Unread → NoEvents
no_events_after Unread.StoreFault = NoEvents.StoreFault
no_events_after Unread.NoMemory = NoEvents.NoMemory
