use Rattle.directory.proofs.Lemmas.{words_are}
use Rattle.directory.proofs.slots.words_of.Goals as goal

pub returns : goal.returns
returns c =
    words_are c.args.name.now c.copy_from_slice.new.self c.word_at.result c.word_at-2.result c.word_at-3.result c.word_at-4.result c.copy_from_slice.ensures.after
    c.word_at.ensures c.word_at-2.ensures c.word_at-3.ensures c.word_at-4.ensures
