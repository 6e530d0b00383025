use Rattle.image_versions.proofs.Places.{in_range, fill, inside, lie_apart, in_their_blocks, in_their_content, count_slots, hold_most, new_fits, hold_entries, most_fit, longer}
use Rattle.image_versions.proofs.laws.entries_have_places.Goals as goal

pub returns-clause-widths : goal.returns-clause-widths
returns-clause-widths c = in_range

pub returns-clause-fill : goal.returns-clause-fill
returns-clause-fill c = fill

pub returns-clause-inside : goal.returns-clause-inside
returns-clause-inside c = inside

pub returns-clause-apart : goal.returns-clause-apart
returns-clause-apart c = lie_apart

pub returns-clause-slots : goal.returns-clause-slots
returns-clause-slots c = in_their_blocks

pub returns-clause-content : goal.returns-clause-content
returns-clause-content c = in_their_content

pub returns-clause-lengths : goal.returns-clause-lengths
returns-clause-lengths c = count_slots

pub returns-clause-most : goal.returns-clause-most
returns-clause-most c = hold_most

pub returns-clause-new : goal.returns-clause-new
returns-clause-new c = new_fits

pub returns-clause-blocks : goal.returns-clause-blocks
returns-clause-blocks c = hold_entries

pub returns-clause-fit : goal.returns-clause-fit
returns-clause-fit c = most_fit

pub returns-clause-longer : goal.returns-clause-longer
returns-clause-longer c = longer
