use Rattle.std.proofs.Common.{List, ℕ, Ok, subst, ◌∙◌}
use Rattle.dc_frontend.specs.declared.shown.Shown.{Shown}
use Rattle.dc_outside.specs.LinkCalls.{Sends}
use Rattle.dc_pass.specs.Reading.{replies}
use Rattle.dc_pass.specs.Passing.{Hears}
use Rattle.dc_pass.proofs.AskLemmas.{requested}
use Rattle.dc_pass.proofs.pass.request.Goals as goal

pub returns : goal.returns
returns g c =
    requested c.args.backup c.args.title.now c.args.sent.now c.args.got.now (record { link = g.L.Link.link c.args.link.now; ahead = c.args.ahead.now })
    (record { link = g.L.Link.link c.hear.new.link; ahead = c.hear.new.ahead }) c.hear.result c.hear.new.got
    (record {
      some = c.requires;
      link = g.L.Link.link c.write.new.self;
      sends = subst (λ (t : List ℕ). Sends {T = Unit {0}} t (g.L.Link.link c.args.link.now) (g.L.Link.link c.write.new.self) (Ok tt)) (c.bytes.ensures ∙ c.in_ok-text.ensures) c.in-Ok.ensures;
      hears = subst (λ (s : List Shown). Hears (replies c.args.backup s) c.args.got.now (record { link = g.L.Link.link c.write.new.self; ahead = c.args.ahead.now })
          (record { link = g.L.Link.link c.hear.new.link; ahead = c.hear.new.ahead }) c.hear.result c.hear.new.got) c.as_slice.ensures c.hear.ensures;
    })
