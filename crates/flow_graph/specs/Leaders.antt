-- Leaders: the code words where a block begins (Aho, Lam, Sethi and Ullman, section 8.4; that ranges, named addresses and functions
-- begin blocks too is this project's own).
use Rattle.std.specs.Prelude.{ℕ, ◌+◌, Bool, ◌&&◌, List, [], ◌∷◌, ◌++◌, map, Option, Some, None, filter, flat_map, if◌then◌else◌}
use Rattle.rv_code.specs.declared.image.Range.{Range}
use Rattle.rv_code.specs.declared.instr.Instr.{Instr}
use Rattle.rv_code.specs.Code.{extents_of, is_code}
use Rattle.rv_code.specs.Numbers.{wrap}
use Rattle.rv_code.specs.Parts.{class_of, target_of}
use Rattle.rv_code.specs.Places.{code_addresses}
use Rattle.rv_code.specs.Ways.{as_list, ends_a_run}
use Rattle.flow_graph.specs.CodeParts.{CodeParts, instr_in, words_of_parts}
use Rattle.flow_graph.specs.Marks.{is_one_of}

-- the direct target of the instruction at this address, and the next address where a run of words ends with it
abbrev pub places_behind : Option Instr → ℕ → List ℕ
places_behind None address = []
places_behind (Some instr) address =
    as_list (target_of instr address) ++ (if ends_a_run (class_of instr) then wrap (address + 4) ∷ [] else [])

-- where blocks may begin: at the entry, at the first word of each range, at direct targets, behind branches, jumps, indirect jumps and
-- stops, at named addresses, and at the addresses of functions
abbrev pub starts_in : List Range → (entry : ℕ) → (named functions : List ℕ) → List ℕ
starts_in ranges entry named functions =
    (entry ∷ map (λ (range : Range). range.start) ranges)
    ++ flat_map (λ address. places_behind (instr_in ranges address) address) (code_addresses (extents_of ranges))
    ++ named
    ++ functions

abbrev pub block_starts : CodeParts → List ℕ
block_starts parts = starts_in parts.code parts.entry parts.named parts.functions

-- a code word that is among these addresses
abbrev pub is_leader_among : List Range → (starts : List ℕ) → ℕ → Bool
is_leader_among ranges starts address = is_code (extents_of ranges) address && is_one_of starts address

-- the code word at this address begins a block
abbrev pub is_leader : CodeParts → ℕ → Bool
is_leader parts address = is_leader_among parts.code (block_starts parts) address

abbrev pub leaders_of : CodeParts → List ℕ
leaders_of parts = filter (is_leader parts) (words_of_parts parts)
