-- The tables count what they have, and so an operation waits only if it may.
use Rattle.inodes_on_blocks.proofs.Vocabulary.{loaded, waits_where_it_may, tables_of, ReferencesAreCounted, WaitsForOthers}
use Rattle.inodes_on_blocks.proofs.Basics.{all_owed}

pub references_are_counted : ReferencesAreCounted
references_are_counted r w shows inv n = all_owed n (tables_of r) w (loaded (tables_of r)) shows.tables inv

pub waits_for_others : WaitsForOthers
waits_for_others h x op r w shows inv may e = waits_where_it_may h x op r.state shows.whole shows.tables.sound (references_are_counted r w shows inv) may e
