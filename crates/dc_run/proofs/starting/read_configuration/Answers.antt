use Rattle.std.proofs.Common.{◌≡◌, false}
use Rattle.dc_run.specs.Starting.{has_files}
use Rattle.dc_run.proofs.StartLemmas.{own_conf, own_refused}
use Rattle.dc_run.proofs.starting.read_configuration.Goals as goal
use Rattle.dc_run.proofs.starting.read_configuration.Goals.{in-Ok-configuration_in, in-Err-configuration_in}

pub returns-then-not-has_files : goal.returns-then-not-has_files
returns-then-not-has_files g c =
    let none : has_files c.args.used.now ≡ false = let has = c.has_files.ensures in let is = c.if-not-has_files.true in cc in
    elim c.match-configuration_in.branch [
      | in-Ok-configuration_in w ↦
          rw w.result-is (own_conf c.args.used.now c.args.path.now _ (g.F.Files.files c.args.files.now) w.in-Ok-configuration_in.conf none w.in-Ok-configuration_in.ensures)
      | in-Err-configuration_in w ↦
          rw w.result-is
          (own_refused c.args.used.now c.args.path.now _ (g.F.Files.files c.args.files.now) w.in-Err-configuration_in.error w.end_of_conf.result none w.in-Err-configuration_in.ensures w.end_of_conf.ensures)
    ]
