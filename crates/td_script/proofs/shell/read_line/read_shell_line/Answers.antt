use Rattle.std.proofs.Common.{◌≡◌, ℕ, List, Some, Ok, rules}
use Rattle.td_script.specs.Arguments.{cut_word}
use Rattle.td_script.specs.Judging.{heard}
use Rattle.td_script.specs.ShellFaults.{shell_command_named}
use Rattle.td_script.specs.ShellWords.{shell_word_named}
use Rattle.td_script.proofs.ShellLaws.{line_fits}
use Rattle.td_script.proofs.shell.read_line.read_shell_line.Goals as goal

pub returns-clause-fit : goal.returns-clause-fit
returns-clause-fit c =
    let line : List ℕ = c.args.line.now in
    let spoken : heard line ≡ Ok (Some line) = search rules in
    let is : shell_command_named c.args.sites (shell_word_named (cut_word line).0) (cut_word line).1
    ≡ Ok c.in_ok-command.command = search rules in
    line_fits c.args.sites line c.in_ok-command.command spoken is
