-- Stores change no cell that can't be written, and so no word of such cells.
use Rattle.std.proofs.Common.{◌≡◌, ◌≢◌, ℕ, zero, suc, ◌+◌, ◌*◌, ◌^◌, ◌<◌, ◌≤◌, Bool, true, false, cond, List, [], ◌∷◌, ◌++◌, length, get_or, set, Option, None, Some, Result, Ok, Err, refl, sym, ap, ◌∙◌, subst, inl, inr, arith}
use Rattle.std.specs.Prelude.{All, ◌||◌, IfOk, IfErr}
use Rattle.std.specs.List.{AllByRecursion}
use Rattle.std.specs.Option.{option_map}
use Rattle.std.proofs.lemmas.Bool.{cases_lt}
use Rattle.std.proofs.lemmas.List.{get_or_append_left, length-append}
use Rattle.std.proofs.lemmas.List.Elements.{All-append, All-set}
use Rattle.std.proofs.Math.Seq.{get_or-append_seam}
use Rattle.rv_code.specs.declared.extent.Extent.{Extent}
use Rattle.rv_code.specs.declared.instr.Instr.{Instr}
use Rattle.rv_code.specs.declared.instr.Instr.TheVariants.{Ecall}
use Rattle.rv_code.specs.Code.{is_code, is_word_of}
use Rattle.rv_code.specs.Numbers.{wrap, number_of}
use Rattle.rv_code.specs.Parts.{HasRegisters}
use Rattle.rv_code.specs.Table.{meaning_of}
use Rattle.rv_memory.specs.declared.hole.Hole.{Hole}
use Rattle.rv_memory.specs.Answers.{hole_or}
use Rattle.rv_memory.specs.Stretches.{Mapping, memory_of}
use Rattle.rv_memory.specs.Memory.{Cell, cell_at, is_writable, is_writable_cell, byte_at, byte_of_cell, span, bytes_at, first_shut, written}
use Rattle.rv_memory.proofs.LawsOfCells.{open_here, other_cells_stay, same_start, next_of}
use Rattle.rv_machine.specs.declared.table.Table.{Table}
use Rattle.rv_machine.specs.Inner.Decoded.{AreFixed, AreDecodedRows, AreTables, HasWordsOf, IsTable, Means}

-- addresses that can be written are none that can't
apart : (memory : List Cell) (addresses : List ℕ) (other : ℕ) → is_writable memory other ≡ false → first_shut memory addresses ≡ None → AllByRecursion (λ address. address ≢ other) addresses
apart memory [] other fixed free = tt
apart memory (address ∷ addresses) other fixed free =
    let both : (is_writable memory address ≡ true) × (first_shut memory addresses ≡ None) = open_here (is_writable memory address) address (first_shut memory addresses) free in
    ((λ same. absurd (cc (sym both.0 ∙ (ap (is_writable memory) same ∙ fixed)))), apart memory addresses other fixed both.1)

-- the cells that can't be written are the same
abbrev pub SameFixed : List Cell → List Cell → Type 0
SameFixed memory next = (other : ℕ) → is_writable memory other ≡ false → cell_at next other ≡ cell_at memory other

pub written_same : (memory : List Cell) (addresses bytes : List ℕ) → first_shut memory addresses ≡ None → SameFixed memory (written memory addresses bytes)
written_same memory addresses bytes free = λ other fixed. other_cells_stay memory addresses bytes other (apart memory addresses other fixed free)

fixed_kept : (memory next : List Cell) (addresses : List ℕ) → SameFixed memory next → AreFixed memory addresses → AreFixed next addresses
fixed_kept memory next [] same fixed = tt
fixed_kept memory next (address ∷ addresses) same fixed = (ap is_writable_cell (same address fixed.0) ∙ fixed.0, fixed_kept memory next addresses same fixed.1)

bytes_kept : (memory next : List Cell) (addresses : List ℕ) → SameFixed memory next → AreFixed memory addresses → bytes_at next addresses ≡ bytes_at memory addresses
bytes_kept memory next [] same fixed = refl
bytes_kept memory next (address ∷ addresses) same fixed =
    ap (λ (cell : Option Cell). byte_of_cell cell ∷ bytes_at next addresses) (same address fixed.0)
    ∙ ap (λ bytes. byte_at memory address ∷ bytes) (bytes_kept memory next addresses same fixed.1)

pub rows_kept : (code : List Extent) (memory next : List Cell) (start : ℕ) (instrs : List Instr) → SameFixed memory next → AreDecodedRows code memory start instrs → AreDecodedRows code next start instrs
rows_kept code memory next start instrs same rows = λ place within.
    let address : ℕ = wrap (start + 4 * place) in
    let means : Means code memory address (get_or instrs place Ecall) = rows place within in
    record {
      fixed = fixed_kept memory next (span address 4) same means.fixed;
      is = record {
        meaning = means.is.meaning ∙ ap (λ bytes. option_map meaning_of (cond (is_code code address) (Some (number_of bytes)) None)) (sym (bytes_kept memory next (span address 4) same means.fixed));
        registers = means.is.registers;
      };
    }

-- the tables stay tables
pub tables_kept : (code : List Extent) (memory next : List Cell) (near : Table) (others : List Table) → SameFixed memory next → AreTables code memory near others → AreTables code next near others
tables_kept code memory next near others same all = (
  record { rows = rows_kept code memory next near.start near.instrs.items same all.0.rows },
  λ k d within.
      let table : Table = get_or others k d in
      record { rows = rows_kept code memory next table.start table.instrs.items same (all.1 k d within).rows },
)

pub tables_after_put : (code : List Extent) (memory next : List Cell) (near : Table) (others : List Table) (addresses bytes : List ℕ)
    → first_shut memory addresses ≡ None → next ≡ written memory addresses bytes → AreTables code memory near others → AreTables code next near others
tables_after_put code memory next near others addresses bytes free put all =
    subst (λ cells. AreTables code cells near others) (sym put)
    (tables_kept code memory (written memory addresses bytes) near others (written_same memory addresses bytes free) all)

abbrev done_well : Result Unit Hole
done_well = Ok tt

free_of : (hole : Option ℕ) → done_well ≡ hole_or hole tt → hole ≡ None
free_of None is = refl
free_of (Some address) is = absurd (cc is)

pub tables_after_write : (code : List Extent) (mapping next : Mapping) (near : Table) (others : List Table) (addresses bytes : List ℕ) (result : Result Unit Hole)
    → result ≡ hole_or (first_shut (memory_of mapping) addresses) tt
    → IfOk result (λ _. memory_of next ≡ written (memory_of mapping) addresses bytes)
    → IfErr result (λ _. next ≡ mapping)
    → AreTables code (memory_of mapping) near others → AreTables code (memory_of next) near others
tables_after_write code mapping next near others addresses bytes (Ok done) is put kept all =
    tables_after_put code (memory_of mapping) (memory_of next) near others addresses bytes (free_of (first_shut (memory_of mapping) addresses) is) put all
tables_after_write code mapping next near others addresses bytes (Err hole) is put kept all =
    subst (λ (m : Mapping). AreTables code (memory_of m) near others) (sym kept) all

-- a table behind others
pub tables_more : (code : List Extent) (memory : List Cell) (tables : List Table) (table : Table)
    → All (λ one. IsTable code memory one) tables → IsTable code memory table → All (λ one. IsTable code memory one) (tables ++ table ∷ [])
tables_more code memory tables table all last = All-append (λ one. IsTable code memory one) tables (table ∷ []) all (λ k d within. only k d within)
  where
    only : (k : ℕ) (d : Table) → k < 1 → IsTable code memory (get_or (table ∷ []) k d)
    only zero d within = last
    only (suc k) d within = absurd (omega (arith, within))

-- some addresses among those that can't be written
pub fixed_among : (memory : List Cell) (start skip count many : ℕ) → start < 2 ^ 32 → skip + count ≤ many → AreFixed memory (span start many) → AreFixed memory (span (wrap (start + skip)) count)
fixed_among memory start zero zero many fits le fixed = tt
fixed_among memory start zero (suc count) zero fits le fixed = absurd (omega arith)
fixed_among memory start zero (suc count) (suc many) fits le fixed =
    subst (λ n. AreFixed memory (span n (suc count))) (sym (same_start start fits))
    (fixed.0, subst (λ n. AreFixed memory (span n count)) (same_start (wrap (start + 1)) (omega arith)) (fixed_among memory (wrap (start + 1)) zero count many (omega arith) (omega arith) fixed.1))
fixed_among memory start (suc skip) count zero fits le fixed = absurd (omega arith)
fixed_among memory start (suc skip) count (suc many) fits le fixed =
    subst (λ n. AreFixed memory (span n count)) (next_of start skip) (fixed_among memory (wrap (start + 1)) skip count many (omega arith) (omega arith) fixed.1)

pub fixed_front : (memory : List Cell) (start count many : ℕ) → count ≤ many → AreFixed memory (span start many) → AreFixed memory (span start count)
fixed_front memory start zero many le fixed = tt
fixed_front memory start (suc count) zero le fixed = absurd (omega arith)
fixed_front memory start (suc count) (suc many) le fixed = (fixed.0, fixed_front memory (wrap (start + 1)) count many (omega arith) fixed.1)

-- an extent of several is among them
or_true : (t : Bool) → (t || true) ≡ true
or_true true = refl
or_true false = refl

pub among : (code : List Extent) (k : ℕ) (d : Extent) → k < length code → HasWordsOf code (get_or code k d)
among [] k d inside = absurd (omega arith)
among (extent ∷ code) zero d inside = λ address is. ap (λ t. t || is_code code address) is
among (extent ∷ code) (suc k) d inside = λ address is. ap (λ t. is_word_of extent address || t) (among code k d (omega arith) address is) ∙ or_true (is_word_of extent address)

-- the rows so far, and the address of the next one
pub record SoFar (extent : Extent) (memory : List Cell) (instrs : List Instr) (made address : ℕ) : Type 0 where
  pub rows : (code : List Extent) → HasWordsOf code extent → AreDecodedRows code memory extent.start instrs
  pub next : address ≡ wrap (extent.start + 4 * length instrs)
  pub count : length instrs ≡ made

pub so_far_none : (extent : Extent) (memory : List Cell) (instrs : List Instr) → instrs ≡ [] → extent.start < 2 ^ 32 → SoFar extent memory instrs 0 extent.start
so_far_none extent memory instrs none small =
    let empty : length instrs ≡ 0 = ap length none in
    record {
      rows = λ code of place within. absurd (omega (arith, within, empty));
      next = omega (arith, empty, small);
      count = empty;
    }

-- a word of the extent
pub means_at : (code : List Extent) (extent : Extent) (memory : List Cell) (address word : ℕ) (instr : Instr) (stands : Bool) → HasWordsOf code extent → stands ≡ is_word_of extent address → stands ≡ true
    → AreFixed memory (span address 4) → word ≡ number_of (bytes_at memory (span address 4)) → instr ≡ meaning_of word → HasRegisters instr → Means code memory address instr
means_at code extent memory address word instr stands of here stood fixed is means registers =
    let code_word : is_code code address ≡ true = of address (sym here ∙ stood) in
    record {
      fixed = fixed;
      is = record {
        meaning =
            ap Some (means ∙ ap meaning_of is)
            ∙ ap (λ t. option_map meaning_of (cond t (Some (number_of (bytes_at memory (span address 4)))) None)) (sym code_word);
        registers = registers;
      };
    }

pub so_far_more : (extent : Extent) (memory : List Cell) (instrs : List Instr) (made address : ℕ) (instr : Instr)
    → SoFar extent memory instrs made address → ((code : List Extent) → HasWordsOf code extent → Means code memory address instr) → SoFar extent memory (instrs ++ instr ∷ []) (made + 1) (wrap (address + 4))
so_far_more extent memory instrs made address instr before means =
    let start : ℕ = extent.start in
    let more : length (instrs ++ instr ∷ []) ≡ length instrs + 1 = length-append instrs (instr ∷ []) in
    record {
      rows = λ code of place within. elim (cases_lt place (length instrs)) [
        | inl here ↦ subst (λ (row : Instr). Means code memory (wrap (start + 4 * place)) row) (sym (get_or_append_left instrs (instr ∷ []) Ecall place here)) (before.rows code of place here)
        | inr last ↦
            let at : place ≡ length instrs = omega (arith, within, last, more) in
            subst (λ n. Means code memory (wrap (start + 4 * n)) (get_or (instrs ++ instr ∷ []) n Ecall)) (sym at)
            (subst (λ n. Means code memory n (get_or (instrs ++ instr ∷ []) (length instrs) Ecall)) before.next
            (subst (λ (row : Instr). Means code memory address row) (sym (get_or-append_seam instrs instr [] Ecall)) (means code of)))
      ];
      next = omega (arith, more, before.next);
      count = omega (arith, more, before.count);
    }

-- two tables that change places
pub tables_swapped : (code : List Extent) (memory : List Cell) (near now : Table) (others after : List Table) (number : ℕ) (d : Table)
    → number < length others → now ≡ get_or others number d → after ≡ set others number near → AreTables code memory near others → AreTables code memory now after
tables_swapped code memory near now others after number d within is put all = (
  subst (IsTable code memory) (sym is) (all.1 number d within),
  subst (λ (tables : List Table). All (λ table. IsTable code memory table) tables) (sym put) (All-set (λ table. IsTable code memory table) others number near all.0 all.1),
)
