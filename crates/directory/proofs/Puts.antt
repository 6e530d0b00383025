-- A block into which an entry was put.
use Rattle.directory.proofs.Vocabulary.{refl, arith, inside, reads_back, others_stay, PutsOneEntry, with_dirent}

pub puts_one : PutsOneEntry
unfolding with_dirent
puts_one v place entry block h is long = (
  reads_back v block (with_dirent v place entry block) place entry (omega (arith, inside v place h)) is refl,
  λ q l ne. others_stay v block (with_dirent v place entry block) place q entry (omega (arith, inside v place h)) is ne refl,
)
