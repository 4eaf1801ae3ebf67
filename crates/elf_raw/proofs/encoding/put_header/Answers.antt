use Rattle.std.proofs.Common.{rules}
use Rattle.elf_raw.proofs.HeaderBytes.{IsInRange, header_laid, header_back}
use Rattle.elf_raw.proofs.encoding.put_header.Goals as goal

pub returns-clause-written : goal.returns-clause-written
returns-clause-written c =
    header_laid c.args.header c.args.file.now c.put_bytes.new.file c.put_halves.new.file c.put_words.new.file c.put_halves-2.new.file (search rules) c.requires c.put_bytes.ensures c.put_halves.ensures c.put_words.ensures c.put_halves-2.ensures

pub returns-clause-back : goal.returns-clause-back
returns-clause-back c =
    let fits : IsInRange c.args.header =
    record {
      ident = search rules;
      kind = search rules;
      machine = search rules;
      version = search rules;
      entry = search rules;
      phoff = search rules;
      shoff = search rules;
      flags = search rules;
      ehsize = search rules;
      phentsize = search rules;
      phnum = search rules;
      shentsize = search rules;
      shnum = search rules;
      shstrndx = search rules;
    } in
    header_back c.args.header fits
