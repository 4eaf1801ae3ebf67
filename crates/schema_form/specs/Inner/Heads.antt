-- The stretches of bytes that aren't refused up to the last of them.
use Rattle.std.specs.Prelude.{◌≡◌, ◌≤◌, ℕ, ◌<◌, List, None, length}
use Rattle.rv_code.specs.declared.extent.Extent.{Extent}
use Rattle.rv_code.specs.Limits.{ranges_limit}
use Rattle.schema_form.specs.Layout.{stretch_count, stretch_offset, stretches_from}
use Rattle.schema_form.specs.Refusal.{head_refusal}
use Rattle.schema_form.specs.Valid.{AreStretches}

pub record AreHeadOf (bytes : List ℕ) (stretches : List Extent) : Type 0 where
  pub taken : head_refusal bytes ≡ None
  pub same : stretches ≡ stretches_from bytes (stretch_count bytes)
  pub are : AreStretches stretches
  pub whole : stretch_offset (stretch_count bytes) ≤ length bytes
  pub some : 0 < stretch_count bytes
  pub few : stretch_count bytes ≤ ranges_limit
