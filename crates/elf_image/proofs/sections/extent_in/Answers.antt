use Rattle.std.proofs.Common.{ℕ, ◌+◌, ◌*◌, arith}
use Rattle.std.proofs.lemmas.Grind.{div_ceil_times}
use Rattle.elf_image.proofs.WordsIn.{words_in_extent, no_words_in}
use Rattle.elf_image.proofs.sections.extent_in.Goals as goal

pub returns-then-start-end-clause-none : goal.returns-then-start-end-clause-none
returns-then-start-end-clause-none c =
    let start : ℕ = c.div_ceil-start.result * 4 in
    let round = div_ceil_times c.args.section.now.addr 4 (omega arith) in
    no_words_in c.args.section.now start (c.from.result + c.from-2.result) (omega arith) (omega arith) (omega arith) (omega arith) (omega arith)

pub returns-clause-some : goal.returns-clause-some
returns-clause-some c =
    let start : ℕ = c.div_ceil-start.result * 4 in
    let round = div_ceil_times c.args.section.now.addr 4 (omega arith) in
    words_in_extent c.args.section.now start (c.from.result + c.from-2.result) (omega arith) (omega arith) (omega arith) (omega arith)
