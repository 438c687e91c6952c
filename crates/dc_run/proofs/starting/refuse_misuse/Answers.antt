use Rattle.std.proofs.Common.{sym, ap, ◌∙◌}
use Rattle.std.specs.Option.{option_copied}
use Rattle.dc_conf.specs.Nodes.{driver_line_of}
use Rattle.dc_run.proofs.StartLemmas.{misused_line, no_line}
use Rattle.dc_run.proofs.starting.refuse_misuse.Goals as goal

pub unreachable-requires : goal.unreachable-requires
unreachable-requires c =
    no_line (driver_line_of c.args.conf.now.nodes c.in-Some.spec.now.name) (sym c.driver_line.ensures.line ∙ c.in-None-driver_line.is)
    (misused_line c.args.used.now c.args.conf.now.nodes c.args.specs.now c.in-Some.spec.now (sym c.misused_pipe.ensures ∙ ap option_copied c.in-Some.is) c.requires)
