-- What the proofs of this crate's functions use: its lemmas, and what they speak of.
pub use Rattle.script.proofs.Vocabulary.{Appends, Bool, Line, List, None, OnOk, Option, Some, [], ap, append-nil, append_assoc, arith, codes, cond, console_line, drop, false, get_or, hex, length, min, none-some, option_and_then, refl, said_in, subst, sym, take, true, with_first, ℕ, ◌++◌, ◌+◌, ◌∙◌, ◌∷◌, ◌≡◌}
unfoldable pub use Rattle.script.proofs.Vocabulary.{line_in, lines_from, pairs_in, value_after}
pub use Rattle.plain_tree.proofs.Vocabulary.{length_push, map, ◌==◌}
pub use Rattle.std.proofs.Common.{rules, string_bytes, tests}
pub use Rattle.plain_tree.specs.Numbers.{type_number}
pub use Rattle.script.proofs.Appending.{hex_turn, tells_both}
pub use Rattle.script.proofs.Pairs.{no_pair, one_pair, push_front, with_front}
pub use Rattle.script.proofs.Scripts.{gives_front, none_left, nothing_said, one_said, passed_over, with_lines}
pub use Rattle.script.proofs.Spacing.{all_spaced, word_spaced}
unfoldable pub use Rattle.script.specs.Asking.{single_spaced}
pub use Rattle.script.specs.Reading.{ends_in_return, lines_of, script_in, words_of}
pub use Rattle.script.specs.Said.{line_said, numbered}
pub use Rattle.script.specs.Text.{stat_text, told_line}
pub use Rattle.std.proofs.lemmas.Iterator.Consumers.{YieldsList-end, YieldsList-turn}
pub use Rattle.std.proofs.lemmas.Iterator.Splits.{YieldsList-from_slice_split}
pub use Rattle.std.specs.Prelude.{decimal}
pub use Rattle.std.specs.Slice.Iter.{chunks_rest, chunks_size, split_callee, split_done, split_rest}
pub use Rattle.script.proofs.Lines.{too_many_words}
pub use Rattle.script.proofs.Prompting.{run_was_said, runs_so}
pub use Rattle.script.proofs.Reading.{faults_as, line_is_simple, read_as}
pub use Rattle.script.proofs.Saying.{line_read}
pub use Rattle.script.proofs.Standing.{line_says}
pub use Rattle.script.proofs.Tailing.{all_noted}
pub use Rattle.script.specs.Gives.{Fails, Gives, words_now}
pub use Rattle.script.specs.declared.command.ScriptLine.{ScriptLine}
pub use Rattle.std.proofs.lemmas.List.{map-append}
