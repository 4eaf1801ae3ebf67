-- The flags of a code word in a schema: the number of its class, and marks. This project's own.
use Rattle.std.specs.Prelude.{ℕ, ◌/◌, ◌%◌, ◌==◌, Bool, true, false, Option, slice_get}
use Rattle.rv_code.specs.declared.class.Class.{Class}
use Rattle.rv_code.specs.declared.class.Class.TheVariants.{Plain, Load, Store, Branch, Jump, Indirect, Call, Stop}
use Rattle.schema_form.specs.declared.flags.TheConstants.{CLASSES}

abbrev pub class_number : Class → ℕ
class_number Plain = 0
class_number Load = 1
class_number Store = 2
class_number Branch = 3
class_number Jump = 4
class_number Indirect = 5
class_number Call = 6
class_number Stop = 7

-- the class whose number stands in the four low bits, if there is one
abbrev pub class_in : (flags : ℕ) → Option Class
class_in flags = slice_get CLASSES (flags % 16)

-- a mark, which is a power of 2, is among the flags
abbrev pub is_set : (mark flags : ℕ) → Bool
is_set mark flags = flags / mark % 2 == 1

-- a Plain word's result may be needed, and a load's value may be recorded
abbrev pub may_be_kept : Class → Bool
may_be_kept Plain = true
may_be_kept Load = true
may_be_kept Store = false
may_be_kept Branch = false
may_be_kept Jump = false
may_be_kept Indirect = false
may_be_kept Call = false
may_be_kept Stop = false
