use Rattle.std.proofs.Common.{◌≡◌, ◌++◌, take}
use Rattle.std.specs.Process.{command_program, command_args, SameEnv}
use Rattle.dc_pipes.proofs.child.add_arguments.Given as goal

abbrev pub invariant-loop-argument : goal.invariant-loop-argument
invariant-loop-argument l = record {
  program : command_program l.command ≡ command_program l.fn.command;
  arguments : command_args l.command ≡ command_args l.fn.command ++ take l.argument-index l.arguments;
  variables : SameEnv l.fn.command l.command;
}
