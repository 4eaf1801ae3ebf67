-- A clean step keeps the code words in memory.
use Rattle.std.proofs.Common.{◌≡◌, ◌≢◌, ℕ, ◌+◌, ◌*◌, ◌/◌, ◌%◌, Bool, true, false, cond, List, [], ◌∷◌, map, length, take, Option, Some, None, is_some, refl, sym, ap, ◌∙◌, arith}
use Rattle.std.specs.List.{AllByRecursion}
use Rattle.rv_code.specs.declared.image.Image.{Image}
use Rattle.rv_code.specs.declared.image.Range.{Range}
use Rattle.rv_code.specs.Code.{code_word, extents_of, is_code}
use Rattle.rv_code.specs.Image.{IsImage}
use Rattle.rv_code.specs.Numbers.{IsWord, wrap, number_of}
use Rattle.rv_code.specs.Table.{meaning_of}
use Rattle.rv_code.proofs.LawsOfLookUps.{is_some-code_word}
use Rattle.rv_code.proofs.LawsOfPlaces.{is_code-aligned}
use Rattle.rv_memory.specs.Memory.{Cell, byte_of_cell, bytes_at, cell_at, span, with_byte, written}
use Rattle.rv_memory.proofs.LawsOfCells.{cell_at-with_byte, other_cells_stay}
use Rattle.rv_machine.specs.State.{State}
use Rattle.rv_machine.specs.Effect.{Effect, Passes, Sets, Stores, Jumps, Gives, Takes, Ends, Out, Err, Events}
use Rattle.rv_machine.specs.Calls.{effect_of}
use Rattle.rv_machine.specs.Clean.{IsInCode, StepsCleanly, stored_by}
use Rattle.rv_machine.specs.Laws.{HoldsCode, CleanStepsKeepCode, FetchesItsCode}
use Rattle.rv_machine.specs.Step.{program_of, AfterStep, carried_out, fetched, settled, step_of}
use Rattle.rv_machine.proofs.Begun.{code_is_word}
use Rattle.rv_machine.proofs.Mapped.{after_effect}

weaker : {P Q : ℕ → Type 0} (xs : List ℕ) → ((x : ℕ) → P x → Q x) → AllByRecursion P xs → AllByRecursion Q xs
weaker [] more all = tt
weaker (x ∷ xs) more all = (more x all.0, weaker xs more all.1)

-- bytes of the input that were taken to some addresses change no other cell
taken_stays : (memory : List Cell) (addresses input : List ℕ) (other : ℕ) → AllByRecursion (λ address. address ≢ other) (take (length input) addresses)
    → cell_at (written memory addresses (take (length addresses) input)) other ≡ cell_at memory other
taken_stays memory [] input other apart = refl
taken_stays memory (address ∷ addresses) [] other apart = refl
taken_stays memory (address ∷ addresses) (byte ∷ input) other apart =
    taken_stays (map (with_byte address byte) memory) addresses input other apart.1 ∙ cell_at-with_byte address byte other memory apart.0

-- where the four cells of a word stay, the word stays
word_stays : (memory next : List Cell) (address : ℕ) → address % 4 ≡ 0 → IsWord address → ((other : ℕ) → other / 4 * 4 ≡ address → cell_at next other ≡ cell_at memory other)
    → number_of (bytes_at next (span address 4)) ≡ number_of (bytes_at memory (span address 4))
word_stays memory next address aligned small same =
    let second : ℕ = wrap (address + 1) in
    let third : ℕ = wrap (second + 1) in
    let fourth : ℕ = wrap (third + 1) in
    let at_second : second ≡ address + 1 = omega (arith, aligned, small) in
    let at_third : third ≡ address + 2 = omega (arith, aligned, small, at_second) in
    let at_fourth : fourth ≡ address + 3 = omega (arith, aligned, small, at_third) in
    let a = same address (omega (arith, aligned)) in
    let b = same second (omega (arith, aligned, at_second)) in
    let c = same third (omega (arith, aligned, at_third)) in
    let d = same fourth (omega (arith, aligned, at_fourth)) in
    λ i. number_of (byte_of_cell (a i) ∷ byte_of_cell (b i) ∷ byte_of_cell (c i) ∷ byte_of_cell (d i) ∷ [])

in_code : (ranges : List Range) (address word : ℕ) → code_word ranges address ≡ Some word → is_code (extents_of ranges) address ≡ true
in_code ranges address word is = sym (is_some-code_word ranges address) ∙ ap is_some is

module _ (image : Image) (is : IsImage image) where
  abbrev Keeps : List Cell → List Cell → Type 0
  Keeps memory next = (other : ℕ) → IsInCode (extents_of image.code) other → cell_at next other ≡ cell_at memory other

  holds_still : (memory next : List Cell) → HoldsCode image.code memory → Keeps memory next → HoldsCode image.code next
  holds_still memory next holds keeps address word there =
      let code = in_code image.code address word there in
      word_stays memory next address (is_code-aligned (extents_of image.code) address code) (code_is_word (is_some image.note) image.regions is.regions image.code is.ranges address code)
      (λ other same. keeps other (ap (is_code (extents_of image.code)) same ∙ code))
      ∙ holds address word there

  apart_from : (other : ℕ) → IsInCode (extents_of image.code) other → (address : ℕ) → ¬ IsInCode (extents_of image.code) address → address ≢ other
  apart_from other code address outside = λ same. outside (ap (λ n. is_code (extents_of image.code) (n / 4 * 4)) same ∙ code)

  settles : (s : State) (effect : Effect) → HoldsCode image.code s.memory → AllByRecursion (λ address. ¬ IsInCode (extents_of image.code) address) (stored_by effect s.input)
      → AfterStep (settled s effect) (λ next. HoldsCode image.code next.memory)
  settles s Passes holds clean = holds
  settles s (Sets register value access) holds clean = holds
  settles s (Stores addresses bytes access) holds clean =
      holds_still s.memory (written s.memory addresses bytes) holds
      (λ other code. other_cells_stay s.memory addresses bytes other (weaker addresses (apart_from other code) clean))
  settles s (Jumps link target) holds clean = holds
  settles s (Gives Out bytes) holds clean = holds
  settles s (Gives Err bytes) holds clean = holds
  settles s (Gives Events bytes) holds clean = holds
  settles s (Takes addresses) holds clean =
      holds_still s.memory (written s.memory addresses (take (length addresses) s.input)) holds
      (λ other code. taken_stays s.memory addresses s.input other (weaker (take (length s.input) addresses) (apart_from other code) clean))
  settles s (Ends ending) holds clean = tt

  carries : (s : State) (found : Option ℕ) → HoldsCode image.code s.memory → StepsCleanly (program_of image) s found
      → AfterStep (carried_out (program_of image).has_note s found) (λ next. HoldsCode image.code next.memory)
  carries s None holds clean = tt
  carries s (Some word) holds clean =
      let effect : Effect = effect_of (program_of image).has_note (meaning_of word) s.pc s.registers s.memory in
      after_effect (λ next. HoldsCode image.code next.memory) s.pc (settled s effect) (settles s effect holds clean.keeps_code)

  pub clean_steps : CleanStepsKeepCode image
  unfolding step_of
  clean_steps s holds clean = carries s (fetched (program_of image) s) holds clean

pub fetches : (image : Image) → FetchesItsCode image
fetches image s holds = by_code (is_code (extents_of image.code) s.pc) (code_word image.code s.pc) refl (is_some-code_word image.code s.pc) (λ word there. holds s.pc word there)
  where
    by_code : (code : Bool) (found : Option ℕ) → code_word image.code s.pc ≡ found → is_some found ≡ code → ((word : ℕ) → code_word image.code s.pc ≡ Some word → number_of (bytes_at s.memory (span s.pc 4)) ≡ word)
        → cond code (Some (number_of (bytes_at s.memory (span s.pc 4)))) None ≡ found
    by_code false None there is holds = refl
    by_code true (Some word) there is holds = ap (λ (n : ℕ). Some n) (holds word there)
    by_code true None there is holds = absurd (cc is)
    by_code false (Some word) there is holds = absurd (cc is)
