use Rattle.std.proofs.Common.{sym, subst, arith}
use Rattle.rv_code.specs.Encoding.{Fits}
use Rattle.rv_code.specs.Parts.{HasRegisters}
use Rattle.rv_code.proofs.Decoded.{meaning_of-Fits}
use Rattle.rv_code.proofs.Registers.{meaning_has_registers}
use Rattle.rv_code.proofs.decoder.decode.Goals as goal

pub returns-clause-registers : goal.returns-clause-registers
returns-clause-registers c = subst HasRegisters (sym c.by_opcode.ensures) (meaning_has_registers c.args.word)

pub returns-clause-fits : goal.returns-clause-fits
returns-clause-fits c = subst Fits (sym c.by_opcode.ensures) (meaning_of-Fits c.args.word (omega arith))
