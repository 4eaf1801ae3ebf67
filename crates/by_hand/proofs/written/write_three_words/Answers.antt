use Rattle.std.proofs.Common.{◌∙◌}
use Rattle.by_hand.proofs.ThreeWords.{three_words}
use Rattle.by_hand.proofs.written.write_three_words.Goals as goal

pub write_raw-requires : goal.write_raw-requires
write_raw-requires c =
    three_words c.from_vec.result c.from_vec-2.result c.from_vec-3.result c.from_vec-4.result c.from_vec-5.result
    (c.from_vec.ensures ∙ c.in_ok-vec.ensures.items) (c.from_vec-2.ensures ∙ c.in_ok-vec-2.ensures.items) (c.from_vec-3.ensures ∙ c.new.ensures.items)
    (c.from_vec-4.ensures ∙ c.new-2.ensures.items) (c.from_vec-5.ensures ∙ c.in_ok-code.ensures.items)
