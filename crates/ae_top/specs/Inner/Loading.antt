-- A machine that was loaded.
use Rattle.std.specs.Prelude.{◌≡◌, ℕ, List, Option}
use Rattle.ae_ports.specs.Files.{Files, HasBytes}
use Rattle.rv_code.specs.declared.image.Image.{Image}
use Rattle.rv_machine.specs.Held.{Held, loaded_of}
use Rattle.ae_top.specs.declared.program.Wanted.{Wanted}
use Rattle.ae_top.specs.declared.program.Wanted.TheVariants.{Any, Original}
use Rattle.ae_top.specs.declared.refusal.Refusal.{Refusal}
use Rattle.ae_top.specs.Refusing.{refusal_of, traced_refusal}
use Rattle.ae_top.specs.Running.{IsUsable}

-- what refuses a file, by what is wanted
abbrev pub asked_by : Wanted → List ℕ → Option Refusal
asked_by Any bytes = refusal_of bytes
asked_by Original bytes = traced_refusal bytes

-- the machine was loaded with the image of the file with these bytes, which isn't refused
pub record IsLoadedFrom (asks : List ℕ → Option Refusal) (bytes : List ℕ) (machine : Held) : Type 0 where
  pub image : Image
  pub taken : IsUsable asks bytes image
  pub loaded : machine ≡ loaded_of image

-- the same of the file of this name
pub record IsLoaded (asks : List ℕ → Option Refusal) (told : Option Files) (name : List ℕ) (machine : Held) : Type 0
  where
    pub bytes : List ℕ
    pub has : HasBytes told name bytes
    pub image : Image
    pub taken : IsUsable asks bytes image
    pub loaded : machine ≡ loaded_of image
