use Rattle.std.proofs.Common.{ℕ, List, [], ◌∷◌, ◌++◌, refl}
use Rattle.ae_nums.specs.Hex.{hex8_text}
use Rattle.ae_nums.specs.Trace.{newline}
use Rattle.ae_print.specs.Spaced.{spaced_words}
use Rattle.ae_nums.proofs.LawsOfWriters.{Puts-both, Puts-front, Puts-more}
use Rattle.ae_print.proofs.schema.write_word.Goals as goal

pub returns-in_err-write : goal.returns-in_err-write
returns-in_err-write g c =
    let three : List ℕ = c.args.word.flags ∷ c.args.word.raw ∷ c.args.word.mask ∷ [] in
    let broken = c.in_err-write.ensures.puts.broken in
    let front = Puts-front _ _ (hex8_text c.args.address) (spaced_words three) _ _ c.from_residual.result broken c.write.ensures.puts c.hex8.ensures in
    Puts-more _ _ _ newline _ broken front

pub returns-in_err-write_spaced : goal.returns-in_err-write_spaced
returns-in_err-write_spaced g c =
    let three : List ℕ = c.args.word.flags ∷ c.args.word.raw ∷ c.args.word.mask ∷ [] in
    let both = Puts-both g.met.K.Sink.rest_joins _ _ _ (hex8_text c.args.address) (spaced_words three) _ _ _ _ c.write.ensures.puts c.hex8.ensures c.write_spaced.ensures refl in
    Puts-front _ _ (hex8_text c.args.address ++ spaced_words three) newline _ _ _ c.in_err-write_spaced.ensures.broken both refl

pub returns : goal.returns
returns g c =
    let three : List ℕ = c.args.word.flags ∷ c.args.word.raw ∷ c.args.word.mask ∷ [] in
    let both = Puts-both g.met.K.Sink.rest_joins _ _ _ (hex8_text c.args.address) (spaced_words three) _ _ _ _ c.write.ensures.puts c.hex8.ensures c.write_spaced.ensures refl in
    Puts-both g.met.K.Sink.rest_joins _ _ _ (hex8_text c.args.address ++ spaced_words three) newline _ _ _ _ both refl c.write-2.ensures.puts refl
