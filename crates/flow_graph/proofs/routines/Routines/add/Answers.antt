use Rattle.std.proofs.Common.{ap, sym, ◌∙◌, ◌≡◌, ℕ, List, true, false, Vec, Global}
use Rattle.std.specs.Prelude.{is_some}
use Rattle.std.specs.Map.{lookup}
use Rattle.std.specs.Str.{bytes_eq}
use Rattle.rv_code.specs.declared.image.Name.{Name}
use Rattle.flow_graph.specs.RoutineNames.{has_name, names_by, with_name}
use Rattle.flow_graph.proofs.Named.{entry_goes_last, has_from_found, name_goes_last, name_stays}
use Rattle.flow_graph.proofs.routines.Routines.add.Goals as goal

abbrev text_of : Vec ℕ Global → List ℕ
text_of key = key.items

pub returns-in_ok-insert : goal.returns-in_ok-insert
returns-in_ok-insert c =
    let entries : List (Vec ℕ Global × ℕ) = c.self.inside.addresses.entries in
    let key : Vec ℕ Global = c.in_ok-to_vec.field-0 in
    let key_is : text_of key ≡ c.args.name.now.text = c.in_ok-to_vec.ensures.items_if_clones_equal (λ x y same. same) ∙ c.as_slice-text.ensures in
    let none : has_name (names_by text_of entries) c.args.name.now.text ≡ false =
    sym (has_from_found text_of c.args.name.now.text entries)
    ∙ (ap (λ (text : List ℕ). is_some (lookup (λ (key : Vec ℕ Global). bytes_eq text (text_of key)) entries)) (sym c.as_slice-text.ensures)
    ∙ (sym c.contains_key.ensures ∙ c.if-not-contains_key.true))
    in
    let last = entry_goes_last text_of entries key c.args.name.now.address (ap (has_name (names_by text_of entries)) key_is ∙ none) in
    name_goes_last text_of entries c.insert.new.self.entries key c.args.name.now (c.in_ok-insert.ensures.entries ∙ last) key_is none
    ∙ ap (λ (names : List Name). with_name names c.args.name.now) c.self.view_is

pub returns-else-not-contains_key : goal.returns-else-not-contains_key
returns-else-not-contains_key c =
    let entries : List (Vec ℕ Global × ℕ) = c.self.inside.addresses.entries in
    let there : has_name (names_by text_of entries) c.args.name.now.text ≡ true =
    sym (has_from_found text_of c.args.name.now.text entries)
    ∙ (ap (λ (text : List ℕ). is_some (lookup (λ (key : Vec ℕ Global). bytes_eq text (text_of key)) entries)) (sym c.as_slice-text.ensures)
    ∙ (sym c.contains_key.ensures ∙ c.if-not-contains_key.false))
    in
    name_stays c.args.self.now c.args.name.now (ap (λ (names : List Name). has_name names c.args.name.now.text) (sym c.self.view_is) ∙ there)
