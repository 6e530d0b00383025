-- What this crate's proofs speak of: its own definitions, and what the crates below and the library call things.
pub use Rattle.script.specs.Vocabulary.{App, Appends, FailsBy, Kind, Text, bytes_eq, fault_of, found_of, keep_last, matches_of, option_and_then, rows_of}
pub use Rattle.buffer_cache.proofs.Vocabulary.{Bool, Err, List, None, Ok, OnOk, Option, Result, Some, [], ap, append_assoc, arith, cond, false, get_or, length, none-some, refl, same_Some, subst, sym, true, ℕ, ◌%◌, ◌++◌, ◌+◌, ◌-◌, ◌<◌, ◌∙◌, ◌∷◌, ◌≡◌, ◌≢◌, ◌≤◌}
pub use Rattle.fs_layout.proofs.Vocabulary.{append-nil, drop, drop-drop, drop_all, length-append, length-drop, take, ◌/◌}
pub use Rattle.plain_tree.proofs.Vocabulary.{take_more, ◌||◌}
pub use Rattle.script.specs.Reading.{all_in, do_in, end_in, first_said, hart_with_call, is_passed_over, said_in, start_in, step_in, upto_in, with_one, with_two}
unfoldable pub use Rattle.script.specs.Reading.{call_in, kind_in, line_in, lines_from, one_operand, two_operands}
pub use Rattle.script.specs.Said.{All, Call, Chdir, Close, Dup, End, Fill, Fstat, Inherit, Line, Link, Mkdir, NumberedLine, Open, Read, Run, Start, Step, Unlink, Upto, Write}
pub use Rattle.std.proofs.Common.{IfOk, codes, min, slice_index_or}
pub use Rattle.script.specs.Words.{byte_of, bytes_in, digits_in, hart_in, number_in, with_digit, with_first}
unfoldable pub use Rattle.script.specs.Words.{pairs_in, value_after}
pub use Rattle.std.proofs.lemmas.Slice.Eq.{bytes_eq-Decides}
pub use Rattle.script.specs.Grammar.{HasCall, IsKind, SaysCall, SaysLine, kind_word}
pub use Rattle.std.proofs.lemmas.List.{at_drop_all, at_drop_more, drop-append-le}
pub use Rattle.clap.specs.Words.{HasMatchesOf, is_simple, is_simple_and_free}
pub use Rattle.clap.specs.declared.error.Error.{Error}
pub use Rattle.clap.specs.declared.parser.matches.ArgMatches.{ArgMatches}
pub use Rattle.script.specs.Asking.{Asked, Help, Nothing, Quit, State, asked_in, ends_input}
pub use Rattle.script.specs.Options.{console_line}
pub use Rattle.script.specs.Tails.{tail, with_events}
pub use Rattle.script.specs.Text.{hex, hex_digit}
