use Rattle.std.proofs.Common.{ℕ, List, refl, ap, ◌∙◌}
use Rattle.dc_session.specs.Asking.{is_among}
use Rattle.dc_session.proofs.NameLemmas.{among_names}
use Rattle.dc_session.proofs.name_set.NameSet.contains.Goals as goal

pub returns : goal.returns
returns c =
    let found = rw c.bytes.ensures.value at c.contains.ensures in
    found ∙ among_names _ c.args.name.now (λ j. refl) c.self.inside.marks.keys ∙ ap (λ (ns : List (List ℕ)). is_among ns c.args.name.now) c.self.view_is
