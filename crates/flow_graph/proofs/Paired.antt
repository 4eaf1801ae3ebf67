-- Words that begin and words that end something, met in order: each that ends belongs to the last one that began.
use Rattle.std.proofs.Common.{◌≡◌, ℕ, ◌+◌, ◌<◌, Bool, true, false, List, [], ◌∷◌, ◌++◌, length, map, get_or, take, Option, Some, None, refl, sym, ap, ◌∙◌, arith, append-nil, length-append}
use Rattle.std.specs.Prelude.{filter, unwrap_or}
use Rattle.std.specs.List.{zip}
use Rattle.std.proofs.Math.Seq.{take-length}
use Rattle.std.proofs.lemmas.List.{take_more, map-append}
use Rattle.std.proofs.lemmas.List.Elements.{filter-append}
use Rattle.rv_code.proofs.LawsOfElements.{filter_kept, filter_dropped}
use Rattle.flow_graph.specs.declared.block.Block.{Block}
use Rattle.flow_graph.specs.Blocks.{block_by}

-- behind each word that ends, if one is there, stands one that begins; behind each other word stands one that
-- doesn't, at the next address
pub record Alternate (begins ends : ℕ → Bool) (words : List ℕ) : Type 0 where
  pub first : 0 < length words → begins (get_or words 0 0) ≡ true
  pub behind_last : (place : ℕ) → place + 1 < length words → ends (get_or words place 0) ≡ true → begins (get_or words (place + 1) 0) ≡ true
  pub behind_other : (place : ℕ) → place < length words → ends (get_or words place 0) ≡ false → (place + 1 < length words) × (begins (get_or words (place + 1) 0) ≡ false) × (get_or words (place + 1) 0 ≡ get_or words place 0 + 4)

abbrev pub pairs : List ℕ → List ℕ → List Block
pairs leaders lasts = map block_by (zip leaders lasts)

-- all that began has ended
pub record Closed (begins ends : ℕ → Bool) (words : List ℕ) (place : ℕ) (blocks : List Block) : Type 0 where
  pub same : length (filter begins (take place words)) ≡ length (filter ends (take place words))
  pub blocks_are : blocks ≡ pairs (filter begins (take place words)) (filter ends (take place words))
  pub next : place < length words → begins (get_or words place 0) ≡ true

-- what began last hasn't ended yet
pub record Open (begins ends : ℕ → Bool) (words : List ℕ) (place : ℕ) (blocks : List Block) (first : ℕ) : Type 0 where
  pub leaders : List ℕ
  pub split : filter begins (take place words) ≡ leaders ++ first ∷ []
  pub same : length leaders ≡ length (filter ends (take place words))
  pub blocks_are : blocks ≡ pairs leaders (filter ends (take place words))
  pub more : place < length words
  pub next : begins (get_or words place 0) ≡ false

abbrev pub SoFar : (begins ends : ℕ → Bool) (words : List ℕ) (place : ℕ) (blocks : List Block) → Option ℕ → Type 0
SoFar begins ends words place blocks None = Closed begins ends words place blocks
SoFar begins ends words place blocks (Some first) = Open begins ends words place blocks first

more_kept : (test : ℕ → Bool) (words : List ℕ) (place word : ℕ) → place < length words → get_or words place 0 ≡ word → test word ≡ true
    → filter test (take (place + 1) words) ≡ filter test (take place words) ++ word ∷ []
more_kept test words place word within is passes =
    ap (filter test) (take_more words place 0 within ∙ ap (λ (n : ℕ). take place words ++ n ∷ []) is)
    ∙ filter-append test (take place words) (word ∷ []) ∙ ap (λ (more : List ℕ). filter test (take place words) ++ more) (filter_kept test word passes)

more_dropped : (test : ℕ → Bool) (words : List ℕ) (place word : ℕ) → place < length words → get_or words place 0 ≡ word → test word ≡ false
    → filter test (take (place + 1) words) ≡ filter test (take place words)
more_dropped test words place word within is fails =
    ap (filter test) (take_more words place 0 within ∙ ap (λ (n : ℕ). take place words ++ n ∷ []) is)
    ∙ filter-append test (take place words) (word ∷ []) ∙ ap (λ (more : List ℕ). filter test (take place words) ++ more) (filter_dropped test word fails)
    ∙ append-nil (filter test (take place words))

zip_more : (leaders lasts : List ℕ) (leader last : ℕ) → length leaders ≡ length lasts → zip (leaders ++ leader ∷ []) (lasts ++ last ∷ []) ≡ zip leaders lasts ++ (leader, last) ∷ []
zip_more [] [] leader last same = refl
zip_more [] (x ∷ lasts) leader last same = absurd (omega (arith, same))
zip_more (x ∷ leaders) [] leader last same = absurd (omega (arith, same))
zip_more (x ∷ leaders) (y ∷ lasts) leader last same = ap (λ (rest : List (ℕ × ℕ)). (x, y) ∷ rest) (zip_more leaders lasts leader last (omega (arith, same)))

pairs_more : (leaders lasts : List ℕ) (leader last : ℕ) → length leaders ≡ length lasts → pairs (leaders ++ leader ∷ []) (lasts ++ last ∷ []) ≡ pairs leaders lasts ++ record { leader = leader; last = last } ∷ []
pairs_more leaders lasts leader last same =
    ap (map block_by) (zip_more leaders lasts leader last same) ∙ map-append block_by (zip leaders lasts) ((leader, last) ∷ [])

-- nothing has been met
pub begun : (begins ends : ℕ → Bool) (words : List ℕ) (blocks : List Block) → Alternate begins ends words → blocks ≡ [] → SoFar begins ends words 0 blocks None
begun begins ends words blocks alternate none = record { same = refl; blocks_are = none; next = alternate.first }

-- a word that ends
pub one_last : (begins ends : ℕ → Bool) (words : List ℕ) (place word : ℕ) (blocks : List Block) (leader : Option ℕ) → Alternate begins ends words
    → place < length words → get_or words place 0 ≡ word → ends word ≡ true → SoFar begins ends words place blocks leader
    → SoFar begins ends words (place + 1) (blocks ++ record { leader = unwrap_or leader word; last = word } ∷ []) None
one_last begins ends words place word blocks None alternate within is last so_far =
    let begun : begins word ≡ true = ap begins (sym is) ∙ so_far.next within in
    let leaders = more_kept begins words place word within is begun in
    let lasts = more_kept ends words place word within is last in
    record {
      same = ap length leaders ∙ (length-append (filter begins (take place words)) (word ∷ []) ∙ (ap (λ (n : ℕ). n + 1) so_far.same ∙ (sym (length-append (filter ends (take place words)) (word ∷ [])) ∙ sym (ap length lasts))));
      blocks_are =
          ap (λ (front : List Block). front ++ record { leader = word; last = word } ∷ []) so_far.blocks_are
          ∙ (sym (pairs_more (filter begins (take place words)) (filter ends (take place words)) word word so_far.same)
          ∙ (ap (λ (xs : List ℕ). pairs xs (filter ends (take place words) ++ word ∷ [])) (sym leaders) ∙ ap (pairs (filter begins (take (place + 1) words))) (sym lasts)));
      next = λ more. alternate.behind_last place more (ap ends is ∙ last);
    }
one_last begins ends words place word blocks (Some first) alternate within is last so_far =
    let not_begun : begins word ≡ false = ap begins (sym is) ∙ so_far.next in
    let leaders = more_dropped begins words place word within is not_begun ∙ so_far.split in
    let lasts = more_kept ends words place word within is last in
    record {
      same = ap length leaders ∙ (length-append so_far.leaders (first ∷ []) ∙ (ap (λ (n : ℕ). n + 1) so_far.same ∙ (sym (length-append (filter ends (take place words)) (word ∷ [])) ∙ sym (ap length lasts))));
      blocks_are =
          ap (λ (front : List Block). front ++ record { leader = first; last = word } ∷ []) so_far.blocks_are
          ∙ (sym (pairs_more so_far.leaders (filter ends (take place words)) first word so_far.same)
          ∙ (ap (λ (xs : List ℕ). pairs xs (filter ends (take place words) ++ word ∷ [])) (sym leaders) ∙ ap (pairs (filter begins (take (place + 1) words))) (sym lasts)));
      next = λ more. alternate.behind_last place more (ap ends is ∙ last);
    }

-- a word that doesn't end
pub one_other : (begins ends : ℕ → Bool) (words : List ℕ) (place word : ℕ) (blocks : List Block) (leader : Option ℕ) → Alternate begins ends words
    → place < length words → get_or words place 0 ≡ word → ends word ≡ false → SoFar begins ends words place blocks leader
    → SoFar begins ends words (place + 1) blocks (Some (unwrap_or leader word))
one_other begins ends words place word blocks None alternate within is other so_far =
    let begun : begins word ≡ true = ap begins (sym is) ∙ so_far.next within in
    let lasts = more_dropped ends words place word within is other in
    let behind = alternate.behind_other place within (ap ends is ∙ other) in
    record {
      leaders = filter begins (take place words);
      split = more_kept begins words place word within is begun;
      same = so_far.same ∙ ap length (sym lasts);
      blocks_are = so_far.blocks_are ∙ ap (pairs (filter begins (take place words))) (sym lasts);
      more = behind.0;
      next = behind.1;
    }
one_other begins ends words place word blocks (Some first) alternate within is other so_far =
    let not_begun : begins word ≡ false = ap begins (sym is) ∙ so_far.next in
    let lasts = more_dropped ends words place word within is other in
    let behind = alternate.behind_other place within (ap ends is ∙ other) in
    record {
      leaders = so_far.leaders;
      split = more_dropped begins words place word within is not_begun ∙ so_far.split;
      same = so_far.same ∙ ap length (sym lasts);
      blocks_are = so_far.blocks_are ∙ ap (pairs so_far.leaders) (sym lasts);
      more = behind.0;
      next = behind.1;
    }

-- all have been met
pub all_met : (begins ends : ℕ → Bool) (words : List ℕ) (place : ℕ) (blocks : List Block) (leader : Option ℕ) → length words ≡ place
    → SoFar begins ends words place blocks leader → blocks ≡ pairs (filter begins words) (filter ends words)
all_met begins ends words place blocks None all so_far =
    so_far.blocks_are ∙ ap (λ (xs : List ℕ). pairs (filter begins xs) (filter ends xs)) (ap (λ (n : ℕ). take n words) (sym all) ∙ take-length words)
all_met begins ends words place blocks (Some first) all so_far = absurd (omega (arith, so_far.more, all))
