-- What the crates below call things: the words that this crate's definitions and contracts use.
pub use Rattle.std.specs.Str.{bytes_eq}
pub use Rattle.fs_machine.specs.declared.kind.Kind.{Kind}
pub use Rattle.clap.specs.Words.{App, FailsBy, Rule, Text, app_of, fault_of, first_value, found_of, matches_of, new_app, new_rule, one_text, rows_of, rule_of, with_rule}
pub use Rattle.plain_tree.specs.Numbers.{cause_name, cause_number, full_name, full_number, type_number}
pub use Rattle.std.specs.Io.KnownBytes.{Appends}
pub use Rattle.std.specs.Option.{option_and_then}
pub use Rattle.circular_buffer.specs.Buffer.{keep_last}
pub use Rattle.clap.specs.declared.builder.action.ArgAction.TheVariants.{Set, SetTrue}
pub use Rattle.clap.specs.declared.builder.value_parser.ValueParser.TheVariants.{Signed}
pub use Rattle.clap.specs.declared.parser.matches.Found.{Found}
pub use Rattle.image_tree.specs.declared.shape.Shape.{Shape}
pub use Rattle.plain_tree.specs.declared.answer.Answer.{Answer}
pub use Rattle.plain_tree.specs.declared.answer.Answer.TheVariants.{Count, Done, Failed, Fd, Full, Stat}
pub use Rattle.plain_tree.specs.declared.answer.Reply.{Reply}
pub use Rattle.plain_tree.specs.declared.answer.Stat.{Stat as StatOf}
pub use Rattle.plain_tree.specs.declared.call.Call.{Call}
pub use Rattle.plain_tree.specs.declared.call.Call.TheVariants.{Chdir, Close, Dup, Fstat, Inherit, Link, Mkdir, Open, Read, Unlink, Write}
pub use Rattle.plain_tree.specs.declared.step.Action.{Action}
pub use Rattle.plain_tree.specs.declared.step.Action.TheVariants.{Bump, Chdir as ChdirStep, Close as CloseStep, Dup as DupStep, Enter, Find, Fstat as FstatStep, Inherit as InheritStep, Mkdir as MkdirStep, Open as OpenStep, Read as ReadStep, Truncate, Unbump, Unlink as UnlinkStep, WritePart}
pub use Rattle.plain_tree.specs.declared.step.StepAnswer.{StepAnswer}
pub use Rattle.plain_tree.specs.declared.step.StepAnswer.TheVariants.{Bytes, Fd as NewFd, Full as NoRoom, Opened, Stat as Status}
pub use Rattle.plain_tree.specs.declared.trace.Placed.{Placed}
pub use Rattle.std.specs.Borrow.{Bor}
pub use Rattle.std.specs.List.{ends_with, list_all, slice_split, starts_with}
pub use Rattle.std.specs.Str.Parse.{IsNumeral, digits_value, without_leading_plus}
pub use Rattle.std.specs.declared.alloc.Global.{Global}
