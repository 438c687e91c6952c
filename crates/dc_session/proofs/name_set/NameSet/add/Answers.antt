use Rattle.std.proofs.Common.{◌≡◌, ℕ, true, List, refl, ap, sym, subst, ◌∙◌}
use Rattle.dc_text.specs.Maps.{AreDistinct}
use Rattle.dc_text.specs.Names.{is_name}
use Rattle.dc_session.specs.Asking.{with_name}
use Rattle.dc_session.proofs.NameLemmas.{names_in, AreNames, names_in-insert_key, are_names_with, distinct_with}
use Rattle.dc_session.proofs.name_set.NameSet.add.Goals as goal

added : (c : goal.In_ok-insert) → names_in c.insert.new.self.keys ≡ with_name (names_in c.self.inside.marks.keys) c.args.name.now
added c =
    ap names_in c.in_ok-insert.ensures.keys ∙ names_in-insert_key _ (λ k j. refl) c.self.inside.marks.keys _
    ∙ ap (with_name (names_in c.self.inside.marks.keys)) (c.in_ok-mark.ensures ∙ c.into_text.ensures.value ∙ c.in_ok-copy.ensures)

pub invariant_of-self-2 : goal.invariant_of-self-2
invariant_of-self-2 c =
    let named : is_name c.args.name.now ≡ true = subst (λ (n : List ℕ). is_name n ≡ true) c.in_ok-copy.ensures c.into_text.ensures.name in
    subst (λ (ns : List (List ℕ)). AreNames ns × AreDistinct ns) (sym (added c))
    (are_names_with _ _ c.self.invariant.0 named, distinct_with _ _ c.self.invariant.1)

pub returns-clause-added : goal.returns-clause-added
returns-clause-added c = added c ∙ ap (λ (ns : List (List ℕ)). with_name ns c.args.name.now) c.self.view_is
