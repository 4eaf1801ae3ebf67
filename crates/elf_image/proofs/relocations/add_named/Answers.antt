use Rattle.std.proofs.Common.{◌++◌, [], ◌∷◌, sym, ap, ◌∙◌}
use Rattle.std.proofs.lemmas.List.{append-nil}
use Rattle.elf_image.proofs.Naming.{names_one, names_none, is_code_at}
use Rattle.elf_image.proofs.relocations.add_named.Goals as goal

pub returns-in_ok-push : goal.returns-in_ok-push
returns-in_ok-push c =
    let code = sym (is_code_at c.args.bytes.now c.args.extents.now c.address_named-address.result c.args.relocation.now c.requires.extents c.address_named-address.ensures) ∙ sym c.is_code.ensures ∙ c.if-is_code.true in
    c.in_ok-push.ensures.items
    ∙ ap (λ a. c.args.named.now.items ++ a ∷ []) c.address_named-address.ensures
    ∙ ap (λ xs. c.args.named.now.items ++ xs) (sym (names_one c.args.bytes.now c.args.relocation.now (sym c.is_naming.ensures ∙ c.if-not-is_naming.false) code))

pub returns-else-is_code : goal.returns-else-is_code
returns-else-is_code c =
    let code = sym (is_code_at c.args.bytes.now c.args.extents.now c.address_named-address.result c.args.relocation.now c.requires.extents c.address_named-address.ensures) ∙ sym c.is_code.ensures ∙ c.if-is_code.false in
    sym (append-nil c.args.named.now.items)
    ∙ ap (λ xs. c.args.named.now.items ++ xs) (sym (names_none c.args.bytes.now c.args.relocation.now (sym c.is_naming.ensures ∙ c.if-not-is_naming.false) code))
