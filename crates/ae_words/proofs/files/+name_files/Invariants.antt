use Rattle.std.proofs.Common.{length}
use Rattle.ae_words.proofs.files.+name_files.Given as goal

abbrev pub decreases-name_files : goal.decreases-name_files
decreases-name_files l = length l.words.now
