use Rattle.byteorder.specs.Endian.{little_bytes}
use Rattle.byteorder.specs.Numbers.{length-bytes_low_first}
use Rattle.elf_raw.proofs.Laid.{rows_length}
use Rattle.elf_raw.proofs.WordsBack.{word_there}
use Rattle.elf_raw.proofs.laws.words_are_read_back.Goals as goal

pub returns-clause-length : goal.returns-clause-length
returns-clause-length c = rows_length (little_bytes 4) 4 (length-bytes_low_first 0 4)

pub returns-clause-each : goal.returns-clause-each
returns-clause-each c = λ before words behind number fit within. word_there words before behind number fit within
