use Rattle.std.proofs.Common.{rules, length, Err, Ok, inl, inr, refl, sym, ap, ◌∙◌}
use Rattle.std.proofs.lemmas.Result.{err_from_is_err_and}
use Rattle.dc_run.specs.Starting.{misused_among}
use Rattle.dc_run.specs.World.{ground_of}
use Rattle.dc_shelf.specs.Shelves.{sources_of}
use Rattle.dc_run.proofs.StartLemmas.{apart_used, as_many, fit, loaded_by, misused_ends, over_used, started, unbuilt_ends}
use Rattle.dc_run.proofs.starting.start.Goals as goal

pub returns-in_err-refuse_misuse-clause-starts : goal.returns-in_err-refuse_misuse-clause-starts
returns-in_err-refuse_misuse-clause-starts g c =
    let p = err_from_is_err_and c.from_residual-in_err-refuse_misuse.result c.from_residual-in_err-refuse_misuse.ensures.1 in
    rw (p.1, p.2)
    (inl (
      misused_ends c.args.used.now c.args.path.now c.in_ok-conf.conf (g.F.Files.files c.args.files.now) (g.F.Files.files c.read_configuration.new.files) _ c.in_ok-resolved.resolved
          c.as_slice.result.now c.as_slice.ensures c.in_ok-conf.ensures.0 c.in_ok-conf.ensures.1 c.in_ok-resolved.ensures.resolved c.in_err-refuse_misuse.ensures.misused,
      refl,
    ))

pub returns-in_err-by_name-clause-starts : goal.returns-in_err-by_name-clause-starts
returns-in_err-by_name-clause-starts g c =
    let p = err_from_is_err_and c.from_residual-in_err-by_name.result c.from_residual-in_err-by_name.ensures.1 in
    rw (p.1, p.2)
    (inl (
      unbuilt_ends c.args.used.now c.args.path.now c.in_ok-conf.conf (g.F.Files.files c.args.files.now) (g.F.Files.files c.read_configuration.new.files) _ c.in_ok-resolved.resolved
          c.in_ok-conf.ensures.0 c.in_ok-conf.ensures.1 c.in_ok-resolved.ensures.resolved c.in_err-by_name.ensures.unbuilt,
      refl,
    ))

pub roots_of-requires : goal.roots_of-requires
roots_of-requires g c = record { count = as_many _ _ _ _ c.in_ok-resolved.ensures.resolved.plans_are }

pub returns-in-Ok-load_used-clause-starts : goal.returns-in-Ok-load_used-clause-starts
returns-in-Ok-load_used-clause-starts g c =
    let conf_is = fit c.args.used.now (g.F.Files.files c.args.files.now).view.disk c.args.path.now c.in_ok-conf.conf c.in_ok-resolved.resolved c.in_ok-conf.ensures.0 c.in_ok-resolved.ensures.resolved
    (ap (misused_among c.args.used.now) (sym c.as_slice.ensures) ∙ c.in_ok-refuse_misuse.ensures.unmisused) c.in_ok-by_name.ensures.patterns in
    let told = c.roots_of.ensures in
    started c.args.used.now c.in_ok-conf.conf c.in_ok-resolved.resolved c.in_ok-by_name.by_name c.in_ok-by_name.by_owner c.roots_of.result
    (record { conf_is = told.conf; plans_are = told.plans; copy_is = told.copy }) c.in_ok-resolved.ensures.resolved
    c.args.path.now (sources_of (g.F.Files.files c.args.files.now) (g.L.Link.link c.args.io.now)) (ground_of (g.F.Files.files c.load_used.new.files) (g.L.Link.link c.load_used.new.io) _) c.in_ok-by_name.ensures.built
    (loaded_by c.args.used.now c.args.path.now c.in_ok-conf.conf (sources_of (g.F.Files.files c.args.files.now) (g.L.Link.link c.args.io.now)) (g.F.Files.files c.read_configuration.new.files)
    (sources_of (g.F.Files.files c.load_used.new.files) (g.L.Link.link c.load_used.new.io)) c.as_slice-3.result.now _ _ (Ok tt)
    conf_is c.in_ok-conf.ensures.1 (search rules) (search rules) (search rules) c.in-Ok-load_used.ensures.loads)

pub returns-in-Err-load_used-clause-starts : goal.returns-in-Err-load_used-clause-starts
returns-in-Err-load_used-clause-starts g c =
    let conf_is = fit c.args.used.now (g.F.Files.files c.args.files.now).view.disk c.args.path.now c.in_ok-conf.conf c.in_ok-resolved.resolved c.in_ok-conf.ensures.0 c.in_ok-resolved.ensures.resolved
    (ap (misused_among c.args.used.now) (sym c.as_slice.ensures) ∙ c.in_ok-refuse_misuse.ensures.unmisused) c.in_ok-by_name.ensures.patterns in
    inr (record {
      error = c.in-Err-load_used.error;
      end_is = c.end_of_load.ensures;
      conf = c.in_ok-conf.conf;
      loaded = loaded_by c.args.used.now c.args.path.now c.in_ok-conf.conf (sources_of (g.F.Files.files c.args.files.now) (g.L.Link.link c.args.io.now)) (g.F.Files.files c.read_configuration.new.files)
          (sources_of (g.F.Files.files c.load_used.new.files) (g.L.Link.link c.load_used.new.io)) c.as_slice-3.result.now _ _ (Err c.in-Err-load_used.error)
          conf_is c.in_ok-conf.ensures.1 (search rules) (search rules) (search rules) c.in-Err-load_used.ensures.loads;
    })

pub returns-in-Ok-load_used-clause-over : goal.returns-in-Ok-load_used-clause-over
returns-in-Ok-load_used-clause-over g c =
    let told = c.roots_of.ensures in
    over_used c.args.used.now c.in_ok-conf.conf c.in_ok-resolved.resolved c.in_ok-by_name.by_name c.in_ok-by_name.by_owner c.roots_of.result
    (record { conf_is = told.conf; plans_are = told.plans; copy_is = told.copy }) c.in_ok-resolved.ensures.resolved (length c.load_used.new.used.items) (search rules)

pub returns-in-Ok-load_used-clause-apart : goal.returns-in-Ok-load_used-clause-apart
returns-in-Ok-load_used-clause-apart g c =
    let told = c.roots_of.ensures in
    apart_used c.args.used.now c.in_ok-conf.conf c.in_ok-resolved.resolved c.in_ok-by_name.by_name c.in_ok-by_name.by_owner c.roots_of.result
    (record { conf_is = told.conf; plans_are = told.plans; copy_is = told.copy }) c.in_ok-resolved.ensures.resolved (length c.load_used.new.used.items) (search rules)
