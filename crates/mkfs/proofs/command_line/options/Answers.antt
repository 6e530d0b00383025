use Rattle.mkfs.proofs.Lemmas.{ap, map, string_bytes, subst, FailsBy, fault_of, is_simple_and_free, mkfs_line, all_given, line_is_simple, values_given}
use Rattle.mkfs.proofs.command_line.options.Goals as goal

pub returns-clause-numbers : goal.returns-clause-numbers
returns-clause-numbers c =
    let parse = c.try_get_matches_from_mut in
    all_given c.in_ok-command.command parse.new.self parse.result _ _ c.in_ok-command.ensures parse.ensures.ok parse.ensures.after parse.ensures.fails

pub returns-clause-values : goal.returns-clause-values
returns-clause-values c =
    let parse = c.try_get_matches_from_mut in
    values_given _ _ _ mkfs_line (map string_bytes c.args.words.now) parse.result c.in_ok-command.ensures line_is_simple parse.ensures.ok

pub returns-clause-kinds : goal.returns-clause-kinds
returns-clause-kinds c =
    let parse = c.try_get_matches_from_mut in
    let line = c.in_ok-command.ensures in
    subst (λ a. FailsBy (fault_of a (map string_bytes c.args.words.now)) parse.result) line (parse.ensures.kinds (ap is_simple_and_free line))
