-- What the crates below call things: the words that this crate's definitions and contracts use.
pub use Rattle.explain.specs.Vocabulary.{Explains, IsFirstDamage, IsMounted, IsWellFormed, KeptTree, NotesEvent, TreeData, WorldOf, any_climbs, any_full, heard_in, nothing_kept, trace_in, tree_in, ended, some_lacks_place}
unfoldable pub use Rattle.explain.specs.Vocabulary.{blocks_of}
pub use Rattle.script.specs.Vocabulary.{Appends, cause_name, cause_number, full_name, full_number}
pub use Rattle.hart_core.specs.declared.outcome.Outcome.{Outcome}
pub use Rattle.script.specs.declared.mode.Mode.{Mode}
pub use Rattle.hart_core.specs.declared.outcome.Stop.{Stop}
pub use Rattle.script.specs.Grammar.{kind_word}
pub use Rattle.script.specs.Text.{numbered_text, reply_line, shape_line, stat_text, told_line}
pub use Rattle.hart_core.specs.Mounting.{Rests}
pub use Rattle.hart_core.specs.declared.starts.StartRefused.{StartRefused}
pub use Rattle.script.specs.Said.{call_said, line_said, numbered}
pub use Rattle.std.specs.Fmt.{format_spec, styled_decimal}
pub use Rattle.atomic_programs.specs.Calls.{with_answer}
pub use Rattle.explain.specs.Explained.{IsRefusedOf, IsRefusedSo, OwnsRun, RunOn, StartsOn}
pub use Rattle.explain.specs.Keeps.{HandsOut as HandsOutKept, HasNoted, IsRefusedBy}
pub use Rattle.explain.specs.Numbers.{name_of, number_of}
pub use Rattle.explain.specs.declared.refused.ExplainRefused.{ExplainRefused}
pub use Rattle.hart_core.specs.Events.{came_of, event_of, said_of}
pub use Rattle.hart_core.specs.Harts.{AreHarts, shared_of}
pub use Rattle.hart_core.specs.Telling.{heard_by}
pub use Rattle.hart_core.specs.Worlds.{Answers, Makes}
pub use Rattle.hart_core.specs.declared.outcome.Stop.TheVariants.{DeviceFault}
pub use Rattle.hart_core.specs.declared.starts.StartRefused.TheVariants.{Busy, NoSuchHart, NotEmptyHart, PathTooLong, TooLong, ZeroInPath}
pub use Rattle.image_tree.specs.Shape.{shape_of}
pub use Rattle.fs_layout.specs.Recovered.{version_in}
pub use Rattle.image_versions.specs.declared.version.Version.{Version}
pub use Rattle.image_versions.specs.declared.version.Version.TheVariants.{One}
pub use Rattle.mkfs.specs.Image.{image_of}
pub use Rattle.script.specs.Asking.{Asked, Help, Nothing, Quit, Run, State, asked_by, asked_in}
unfoldable pub use Rattle.script.specs.Asking.{typed_lines}
pub use Rattle.script.specs.Entries.{entry_line}
pub use Rattle.script.specs.Reading.{bad_in, front_in}
pub use Rattle.script.specs.Tails.{TailView, tail, with_event}
pub use Rattle.script.specs.declared.command.ScriptFault.{ScriptFault}
pub use Rattle.script.specs.declared.mode.Schedule.{Schedule}
pub use Rattle.script.specs.declared.mode.Schedule.TheVariants.{Listed, Round}
pub use Rattle.fs_machine.specs.declared.kind.Kind.{Kind}
pub use Rattle.group_log.specs.declared.phase.Phase.{Phase}
pub use Rattle.group_log.specs.declared.phase.Phase.TheVariants.{Halted, Installing, Open, Staging}
pub use Rattle.hart_core.specs.declared.events.Came.{Came}
pub use Rattle.hart_core.specs.declared.events.Event.{Event}
pub use Rattle.image_tree.specs.declared.fault.MountFault.{MountFault}
pub use Rattle.plain_tree.specs.declared.answer.Answer.{Answer}
pub use Rattle.plain_tree.specs.declared.answer.Answer.TheVariants.{Count, Done as IsDone, Failed, Fd, Full, Stat}
pub use Rattle.plain_tree.specs.declared.call.Call.{Call}
pub use Rattle.plain_tree.specs.declared.trace.Placed.{Placed}
pub use Rattle.std.specs.declared.alloc.Global.{Global}
