use Rattle.std.proofs.Common.{[], refl, false}
use Rattle.dc_frontend.specs.declared.frontend.Frontend.TheVariants.{Noninteractive}
use Rattle.dc_proto.specs.declared.priority.Priority.TheVariants.{High}
use Rattle.dc_session.specs.Asking.{nothing_asked}
use Rattle.dc_session.specs.SessionState.{no_terminal, nowhere}
use Rattle.dc_run.specs.Roots.{shaped}
use Rattle.dc_run.proofs.RunLemmas.{communicated, loaded_files, ran_program, was_answered, was_copied, was_drilled, was_said, was_shown, was_taken}
use Rattle.dc_run.proofs.running.use_tool.Goals as goal

pub returns-in-Communicate-clause-does : goal.returns-in-Communicate-clause-does
returns-in-Communicate-clause-does g c =
    rw c.in-Communicate.is (
      c.communicate.ensures.served.0,
      communicated (shaped c.args.roots.now) c.args.settings.now _ (g.C.Link.link c.args.child.now) _ _ _ _ _ _ _ _ _ _ _ _ _ _ refl (c.communicate.ensures.served.1 (g.C.Link.link c.args.child.now)),
    )

pub returns-in-LoadTemplate-clause-does : goal.returns-in-LoadTemplate-clause-does
returns-in-LoadTemplate-clause-does g c =
    rw c.in-LoadTemplate.is
    ([], loaded_files (shaped c.args.roots.now) c.args.settings.now (g.L.Link.link c.args.io.now) (g.C.Link.link c.args.child.now) _ _ _ _ _ _ c.args.ahead.now _ _ _ _ (c.load_template_files.ensures _ _ _ _))

pub returns-in-Run-clause-does : goal.returns-in-Run-clause-does
returns-in-Run-clause-does g c =
    rw c.in-Run.is (c.run_program.ensures.ran.0, ran_program (shaped c.args.roots.now) c.args.settings.now _ _ _ _ _ _ _ _ _ _ _ _ _ _ _ _ c.in-Run.frontend c.in-Run.priority _ c.run_program.ensures.ran.1)

pub returns-in-LoadTemplate-clause-running : goal.returns-in-LoadTemplate-clause-running
returns-in-LoadTemplate-clause-running g c started =
    let waits = (c.load_template_files.ensures no_terminal nowhere (record { frontend = Noninteractive; threshold = High; nonint_seen = false }) nothing_asked).waits in
    cc

pub returns-in-Communicate-clause-running : goal.returns-in-Communicate-clause-running
returns-in-Communicate-clause-running g c started =
    let waits = (c.communicate.ensures.served.1 (g.C.Link.link c.args.child.now)).waits in
    cc

pub returns-in-Show-clause-does : goal.returns-in-Show-clause-does
returns-in-Show-clause-does g c =
    rw c.in-Show.is (
      [],
      was_shown (shaped c.args.roots.now) c.args.settings.now (g.L.Link.link c.args.io.now) (g.L.Link.link c.show.new.io) (g.C.Link.link c.args.child.now) (g.E.Link.link c.args.err.now) _ _ _ c.args.ahead.now
          c.args.last_code c.show.result _ _ c.show.ensures.layers c.show.ensures.printed,
    )

pub returns-in-CopyDb-clause-does : goal.returns-in-CopyDb-clause-does
returns-in-CopyDb-clause-does g c =
    rw c.in-CopyDb.is (
      [],
      was_copied (shaped c.args.roots.now) c.args.settings.now (g.L.Link.link c.args.io.now) (g.C.Link.link c.args.child.now) (g.E.Link.link c.args.err.now) (g.E.Link.link c.copy_database.new.err) _ _ _
          c.args.ahead.now c.args.last_code c.copy_database.result _ c.copy_database.ensures.copies,
    )

pub returns-in-SetSelections-clause-does : goal.returns-in-SetSelections-clause-does
returns-in-SetSelections-clause-does g c =
    rw c.in-SetSelections.is (
      [],
      was_taken (shaped c.args.roots.now) c.args.settings.now (g.L.Link.link c.args.io.now) (g.L.Link.link c.select.new.io) (g.C.Link.link c.args.child.now) (g.E.Link.link c.args.err.now) (g.E.Link.link c.select.new.err) _ _ _
          c.args.ahead.now c.args.last_code c.select.result c.in-SetSelections.verbose c.in-SetSelections.check c.in-SetSelections.unseen c.select.ensures.taken,
    )

pub returns-in-GetSelections-clause-does : goal.returns-in-GetSelections-clause-does
returns-in-GetSelections-clause-does g c =
    rw c.in-GetSelections.is (
      [],
      was_said (shaped c.args.roots.now) c.args.settings.now (g.L.Link.link c.args.io.now) (g.L.Link.link c.say_answers.new.io) (g.C.Link.link c.args.child.now) (g.E.Link.link c.args.err.now) (g.E.Link.link c.say_answers.new.err) _ _ _
          c.args.ahead.now c.args.last_code c.say_answers.result c.say_answers.ensures.layers c.say_answers.ensures.printed,
    )

pub returns-in-Drill-clause-does : goal.returns-in-Drill-clause-does
returns-in-Drill-clause-does g c =
    rw c.in-Drill.is (
      [],
      was_drilled (shaped c.args.roots.now) c.args.settings.now (g.L.Link.link c.args.io.now) (g.L.Link.link c.drill_layers.new.io) (g.C.Link.link c.args.child.now) (g.E.Link.link c.args.err.now) _ _ _
          c.args.ahead.now c.args.last_code c.drill_layers.result c.in-Drill.count c.drill_layers.ensures.drilled,
    )

pub returns-in-Answer-clause-does : goal.returns-in-Answer-clause-does
returns-in-Answer-clause-does g c =
    rw c.in-Answer.is (
      [],
      was_answered (shaped c.args.roots.now) c.args.settings.now (g.L.Link.link c.args.io.now) (g.C.Link.link c.args.child.now) (g.L.Link.link c.answer_program.new.io) (g.C.Link.link c.answer_program.new.child)
          (g.E.Link.link c.args.err.now) _ _ c.args.ahead.now c.args.last_code c.answer_program.result _ c.answer_program.ensures.answered,
    )
