-- The shape of a schema's event files is one.
use Rattle.std.specs.Prelude.{◌≡◌, ℕ, ◌%◌, Bool, true, false, Option, Some, None, IfSome, refl}
use Rattle.std.specs.Option.{option_map, option_map_or}
use Rattle.std.proofs.Common.{arith}
use Rattle.rv_code.specs.declared.class.Class.{Class}
use Rattle.rv_code.specs.declared.class.Class.TheVariants.{Plain, Load, Store, Branch, Jump, Indirect, Call, Stop}
use Rattle.ev_format.specs.Shapes.{IsShape}
use Rattle.schema_form.specs.declared.flags.TheConstants.{KEPT}
use Rattle.schema_form.specs.declared.word.SchemaWord.{SchemaWord}
use Rattle.schema_form.specs.Flags.{class_in, is_set}
use Rattle.schema_form.specs.LookUps.{schema_word_at, slot_by, gives_value, is_indirect, but_x0, schema_shape}
use Rattle.schema_form.specs.SchemaParts.{SchemaParts}

-- no class gives both
class_apart : (kept : Bool) (class : Class) → gives_value kept class ≡ true → is_indirect class ≡ false
class_apart kept Plain is = refl
class_apart kept Load is = refl
class_apart kept Store is = refl
class_apart kept Branch is = refl
class_apart kept Jump is = refl
class_apart kept Indirect is = absurd (cc is)
class_apart kept Call is = refl
class_apart kept Stop is = refl

flags_apart : (kept : Bool) (class : Option Class) → option_map_or (gives_value kept) class false ≡ true → option_map_or is_indirect class false ≡ false
flags_apart kept None is = refl
flags_apart kept (Some class) is = class_apart kept class is

slot_apart : (word : Option SchemaWord) → (slot_by word).value ≡ true → (slot_by word).landing ≡ false
slot_apart None is = refl
slot_apart (Some word) is = flags_apart (is_set KEPT word.flags) (class_in word.flags) is

lowest_clear : (mask : ℕ) → but_x0 mask % 2 ≡ 0
lowest_clear mask = omega arith

masks_clear : (word : Option SchemaWord) → IfSome (option_map (λ (found : SchemaWord). but_x0 found.mask) word) (λ mask. mask % 2 ≡ 0)
masks_clear None = tt
masks_clear (Some word) = lowest_clear word.mask

pub schema_is_shape : (parts : SchemaParts) → IsShape (schema_shape parts)
schema_is_shape parts = record {
  apart = λ address. slot_apart (schema_word_at parts address);
  clear = λ target. masks_clear (schema_word_at parts target);
}
