use Rattle.image_versions.proofs.Places.{are_words, in_block, have_below, take_blocks, whole_blocks}
use Rattle.image_versions.proofs.laws.slots_have_blocks.Goals as goal

pub returns-clause-words : goal.returns-clause-words
returns-clause-words c = are_words

pub returns-clause-places : goal.returns-clause-places
returns-clause-places c = in_block

pub returns-clause-below : goal.returns-clause-below
returns-clause-below c = have_below

pub returns-clause-taken : goal.returns-clause-taken
returns-clause-taken c = take_blocks

pub returns-clause-whole : goal.returns-clause-whole
returns-clause-whole c = whole_blocks
