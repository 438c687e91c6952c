use Rattle.std.proofs.Common.{List, ◌++◌}
use Rattle.std.specs.Prelude.{codes}
use Rattle.std.specs.List.{flat_map}
use Rattle.dc_conf.specs.declared.faults.Fault.{Fault}
use Rattle.dc_conf.specs.ConfFaults.{made_faults, driver_in, unknown_database}
use Rattle.dc_conf.proofs.LeastLemmas.{least_join}
use Rattle.dc_conf.proofs.naming.names_fault.Goals as goal

pub returns : goal.returns
returns c =
    let config : List Fault = unknown_database (codes "config") c.args.head.now c.args.web.now in
    let templates : List Fault = unknown_database (codes "templates") c.args.head.now c.args.web.now in
    least_join (config ++ templates) (flat_map (λ s. made_faults c.args.web.now (driver_in s) s) c.args.databases.now) _ _ _ c.earlier.ensures
    (least_join config templates _ _ _ c.earlier-fault.ensures c.unknown_database.ensures c.unknown_database-2.ensures) c.in_ok-databases_fault.ensures
