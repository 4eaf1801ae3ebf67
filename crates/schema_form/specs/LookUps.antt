-- What a schema says of the code word at an address, and of a program's event files: this project's own.
use Rattle.std.specs.Prelude.{ℕ, ◌-◌, ◌%◌, Bool, true, false, List, [], ◌∷◌, Option, Some, None, length, slice_get}
use Rattle.std.specs.Option.{option_and_then, option_map, option_map_or}
use Rattle.rv_code.specs.declared.class.Class.{Class}
use Rattle.rv_code.specs.declared.class.Class.TheVariants.{Plain, Load, Store, Branch, Jump, Indirect, Call, Stop}
use Rattle.rv_code.specs.declared.extent.Extent.{Extent}
use Rattle.rv_code.specs.Places.{place_of}
use Rattle.ev_format.specs.declared.slot.Slot.{Slot}
use Rattle.ev_format.specs.Shapes.{ShapeView}
use Rattle.schema_form.specs.declared.flags.TheConstants.{FALL_WITNESS, TAKEN_WITNESS, KEPT}
use Rattle.schema_form.specs.declared.word.SchemaWord.{SchemaWord}
use Rattle.schema_form.specs.Flags.{class_in, is_set}
use Rattle.schema_form.specs.SchemaParts.{SchemaParts}

-- what the schema has for the code word at an address, if one stands there
abbrev pub schema_word_at : SchemaParts → (address : ℕ) → Option SchemaWord
schema_word_at parts address = option_and_then (slice_get parts.words) (place_of parts.stretches address)

-- a call gives a value, and so does a load that is kept
abbrev pub gives_value : (kept : Bool) → Class → Bool
gives_value kept Plain = false
gives_value kept Load = kept
gives_value kept Store = false
gives_value kept Branch = false
gives_value kept Jump = false
gives_value kept Indirect = false
gives_value kept Call = true
gives_value kept Stop = false

abbrev pub is_indirect : Class → Bool
is_indirect Plain = false
is_indirect Load = false
is_indirect Store = false
is_indirect Branch = false
is_indirect Jump = false
is_indirect Indirect = true
is_indirect Call = false
is_indirect Stop = false

-- which records an address may have, by what the schema has for it
abbrev pub slot_by : Option SchemaWord → Slot
slot_by None = record { code = false; fall = false; taken = false; value = false; landing = false }
slot_by (Some word) =
    record {
      code = true;
      fall = is_set FALL_WITNESS word.flags;
      taken = is_set TAKEN_WITNESS word.flags;
      value = option_map_or (gives_value (is_set KEPT word.flags)) (class_in word.flags) false;
      landing = option_map_or is_indirect (class_in word.flags) false;
    }

-- the registers of a mask, of which x0 is never one
abbrev pub but_x0 : (mask : ℕ) → ℕ
but_x0 mask = mask - mask % 2

abbrev pub first_start : List Extent → ℕ
first_start [] = 0
first_start (stretch ∷ stretches) = stretch.start

-- the shape of a program's event files
abbrev pub schema_shape : SchemaParts → ShapeView
schema_shape parts =
    record {
      entry = parts.entry;
      first = first_start parts.stretches;
      count = length parts.words;
      slot = λ address. slot_by (schema_word_at parts address);
      needs = λ target. option_map (λ (word : SchemaWord). but_x0 word.mask) (schema_word_at parts target);
    }
