use Rattle.ae_nums.proofs.LawsOfRegisters.{mask_of-registers_of}
use Rattle.ae_nums.proofs.laws.masks_have_their_registers.Goals as goal

pub returns : goal.returns
returns c = mask_of-registers_of
