use Rattle.std.proofs.Common.{◌≡◌, ℕ, List, length, take, drop, replicate, ap, sym, subst, ◌∙◌}
use Rattle.std.proofs.lemmas.List.{take_at, length-replicate}
use Rattle.std.specs.List.{All}
use Rattle.elf_raw.specs.declared.piece.Piece.{Piece}
use Rattle.elf_raw.specs.Tables.{AreTablesOf}
use Rattle.elf_raw.proofs.ReadBack.{IsBack}
use Rattle.elf_raw.proofs.WrittenFile.{file_laid, file_pieces, file_read}
use Rattle.elf_raw.proofs.writing.write_raw.Goals as goal

pub put_parts-requires-clause-end : goal.put_parts-requires-clause-end
put_parts-requires-clause-end c =
    ap (λ (xs : List ℕ). length xs) (c.deref_mut.ensures.value ∙ c.in_ok-file.ensures) ∙ length-replicate c.size_of.result 0 ∙ c.size_of.ensures.end

pub returns-clause-written : goal.returns-clause-written
returns-clause-written c =
    let file = c.put_parts.new.file in
    let long : length file ≡ c.in_ok-file.file.len = c.put_parts.auto.file ∙ ap (λ (xs : List ℕ). length xs) c.deref_mut.ensures.value ∙ sym c.in_ok-file.file.ok.0 in
    take_at file (drop (length file) c.in_ok-file.file.items) c.in_ok-file.file.len long
    ∙ file_laid c.args.raw.now c.args.pieces.now c.deref_mut.result.now file
    (c.deref_mut.ensures.value ∙ c.in_ok-file.ensures ∙ ap (λ n. replicate n 0) c.size_of.ensures.end)
    c.put_parts.ensures.written

pub returns-clause-pieces : goal.returns-clause-pieces
returns-clause-pieces c =
    subst
    (λ (file : List ℕ). All (λ (piece : Piece). take (length piece.bytes) (drop piece.offset file) ≡ piece.bytes) c.args.pieces.now)
    (sym (returns-clause-written c))
    (file_pieces c.args.raw.now c.args.pieces.now c.requires)

pub returns-clause-read_back : goal.returns-clause-read_back
returns-clause-read_back c =
    let back : IsBack c.args.raw.now =
    record {
      size = c.size_of.ensures.size;
      header = c.put_parts.ensures.header;
      segments = c.put_parts.ensures.segments;
      sections = c.put_parts.ensures.sections;
    } in
    subst (λ (file : List ℕ). AreTablesOf c.args.raw.now file) (sym (returns-clause-written c)) (file_read c.args.raw.now c.args.pieces.now c.requires back)
