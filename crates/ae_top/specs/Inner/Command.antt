-- What holds of each command that was carried out.
use Rattle.std.specs.Prelude.{◌≢◌}
use Rattle.ae_top.specs.declared.status.Status.{Status}
use Rattle.ae_top.specs.declared.status.Status.TheVariants.{Usage}
use Rattle.ae_top.specs.World.{World, BlamesDevices}

-- its promise is kept, a device's fault is the status only where that device failed, and the words weren't wrong
pub record Carries (promise : Type 0) (status : Status) (before now : World) : Type 0 where
  pub keeps : promise
  pub blames : BlamesDevices status before now
  pub used : status ≢ Usage
