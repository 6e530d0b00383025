-- The command line: [IMAGE] [--schedule listed|round] [--prompt] [--threads] [--last N] [--timeline] [--explain] [--check] [--save FILE].
use Rattle.std.specs.Prelude.{◌-◌, ◌^◌, [], ◌∷◌, Some, true, codes, pos}
use Rattle.script.specs.Vocabulary.{App, Rule, new_app, new_rule, with_rule, Set, SetTrue, Signed}

-- the file with the image; it may be left out
abbrev pub image_rule : Rule
image_rule = record (new_rule (codes "image")) { action = Some Set; value_names = 1 }

-- in which order the lines are run, by a word whose meaning is checked later
abbrev pub schedule_rule : Rule
schedule_rule = record (new_rule (codes "schedule")) { long = Some (codes "schedule"); action = Some Set; value_names = 1 }

-- each line is answered when it is typed
abbrev pub prompt_rule : Rule
prompt_rule = record (new_rule (codes "prompt")) { long = Some (codes "prompt"); action = Some SetTrue }

-- each hart has a thread
abbrev pub threads_rule : Rule
threads_rule = record (new_rule (codes "threads")) { long = Some (codes "threads"); action = Some SetTrue }

-- how many of the last events are printed, a u32
abbrev pub last_rule : Rule
last_rule = record (new_rule (codes "last")) {
  long = Some (codes "last");
  value_names = 1;
  defaults = codes "0" ∷ [];
  parser = Some (Signed (pos 0) (pos (2 ^ 32 - 1)));
}

-- all events are printed
abbrev pub timeline_rule : Rule
timeline_rule = record (new_rule (codes "timeline")) { long = Some (codes "timeline"); action = Some SetTrue }

-- a history of the answers is printed
abbrev pub explain_rule : Rule
explain_rule = record (new_rule (codes "explain")) { long = Some (codes "explain"); action = Some SetTrue }

-- the image is examined, and no script is run
abbrev pub check_rule : Rule
check_rule = record (new_rule (codes "check")) { long = Some (codes "check"); action = Some SetTrue }

-- the file that the image is written to after the script
abbrev pub save_rule : Rule
save_rule = record (new_rule (codes "save")) { long = Some (codes "save"); action = Some Set; value_names = 1 }

-- the program's name, with a version
abbrev pub console_app : App
console_app = let app = new_app (codes "console") in record app { top = record app.top { has_version = true } }

-- with what is run, and in which order
abbrev pub scheduled_app : App
scheduled_app = with_rule (with_rule console_app image_rule) schedule_rule

-- and when
abbrev pub prompted_app : App
prompted_app = with_rule scheduled_app prompt_rule

-- and how
abbrev pub running_app : App
running_app = with_rule (with_rule prompted_app threads_rule) last_rule

-- and with what is printed after all answers
abbrev pub printing_app : App
printing_app = with_rule (with_rule running_app timeline_rule) explain_rule

abbrev pub console_line : App
console_line = with_rule (with_rule printing_app check_rule) save_rule
