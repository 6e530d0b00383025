use Rattle.script.proofs.Lemmas.{map, string_bytes, console_line, faults_as, line_is_simple, read_as}
use Rattle.script.proofs.command_line.options.Goals as goal

pub returns-clause-values : goal.returns-clause-values
returns-clause-values c =
    let parse = c.try_get_matches_from in
    read_as _ console_line (map string_bytes c.args.words.now) parse.result c.in_ok-command.ensures line_is_simple parse.ensures.matches

pub returns-clause-kinds : goal.returns-clause-kinds
returns-clause-kinds c =
    let parse = c.try_get_matches_from in
    faults_as _ (map string_bytes c.args.words.now) parse.result c.in_ok-command.ensures parse.ensures.kinds
