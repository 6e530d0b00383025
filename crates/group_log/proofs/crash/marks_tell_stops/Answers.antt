use Rattle.group_log.proofs.Lemmas.{marks_tell_stops, cuts_have_replies, none_is_marked_in_part}
use Rattle.group_log.proofs.crash.marks_tell_stops.Goals as goal

pub returns-clause-stops : goal.returns-clause-stops
returns-clause-stops g c = marks_tell_stops g.D.Device.contents

pub returns-clause-replies : goal.returns-clause-replies
returns-clause-replies g c = cuts_have_replies g.D.Device.contents

pub returns-clause-whole : goal.returns-clause-whole
returns-clause-whole g c = none_is_marked_in_part g.D.Device.contents
