use Rattle.std.proofs.Common.{◌≡◌, ◌∙◌, true, List, length, sym, subst}
use Rattle.std.specs.List.{AllByRecursion, filter, list_all, list_any}
use Rattle.std.specs.Prelude.{is_some}
use Rattle.dc_conf.specs.declared.spec.LayerSpec.{LayerSpec}
use Rattle.dc_conf.specs.Configuration.{are_apart, have_names_apart, fits_sort, reached, HavePlans}
use Rattle.dc_conf.specs.Machine.{unknown_from}
use Rattle.dc_conf.specs.Nodes.{is_among, is_node, driver_line_of, leads_to}
use Rattle.dc_conf.specs.Plans.{IsOver}
use Rattle.dc_conf.specs.Trees.{shape}
use Rattle.dc_conf.proofs.PlanLemmas.{have_same}
use Rattle.dc_conf.proofs.ResolveLemmas.{unknown_is, all_known}
use Rattle.dc_conf.proofs.ResolvedLemmas.{places_apart, names_apart, sorts_fit, lines_there, are_known, all_over, all_once, all_disjoint}
use Rattle.dc_conf.proofs.TestLemmas.{not_some}
use Rattle.dc_conf.proofs.conf.Conf.resolve.Goals as goal

pub returns-in-Some-clause-answer : goal.returns-in-Some-clause-answer
returns-in-Some-clause-answer c =
    unknown_is c.args.self.now.databases c.args.roots.now c.in-Some.root
    ((λ i. unknown_from (sym (c.as_slice.ensures ∙ c.databases.ensures) i) 0 (sym c.as_slice-2.ensures i)) ∙ sym c.unknown_root.ensures ∙ c.in-Some.is)

pub plans_of-requires-clause-known : goal.plans_of-requires-clause-known
plans_of-requires-clause-known c =
    let known : AllByRecursion (λ name. is_among c.args.self.now.databases name ≡ true) c.args.roots.now =
    all_known c.args.self.now.databases 0 c.args.roots.now
    ((λ i. unknown_from (sym (c.as_slice.ensures ∙ c.databases.ensures) i) 0 (sym c.as_slice-2.ensures i)) ∙ sym c.unknown_root.ensures ∙ not_some _ c.in_default.not-Some) in
    let there : AllByRecursion (λ root. is_node c.args.self.now.nodes root ≡ true) c.args.roots.now =
    are_known c.args.self.now c.args.roots.now c.specs.ensures.sound known in
    subst (λ nodes. AllByRecursion (λ root. is_node nodes root ≡ true) c.as_slice-5.result.now) (sym (c.nodes.ensures ∙ c.web-2.ensures))
    (subst (AllByRecursion (λ root. is_node c.args.self.now.nodes root ≡ true)) (sym c.as_slice-5.ensures) there)

pub returns-clause-answer : goal.returns-clause-answer
returns-clause-answer c =
    let known : AllByRecursion (λ name. is_among c.args.self.now.databases name ≡ true) c.args.roots.now =
    all_known c.args.self.now.databases 0 c.args.roots.now
    ((λ i. unknown_from (sym (c.as_slice.ensures ∙ c.databases.ensures) i) 0 (sym c.as_slice-2.ensures i)) ∙ sym c.unknown_root.ensures ∙ not_some _ c.in_default.not-Some) in
    let specs : c.in_ok-specs.specs ≡ reached c.args.self.now c.args.roots.now =
    c.in_ok-specs.ensures
    ∙ (λ i. filter (λ (spec : LayerSpec). list_any (λ root. leads_to (c.web.ensures i) root spec.name) (c.as_slice-3.ensures i)) (c.specs.ensures.value i)) in
    let have : HavePlans c.args.self.now.nodes (reached c.args.self.now c.args.roots.now) c.in_ok-plans.plans c.args.roots.now =
    have_same c.nodes.result.now c.args.self.now.nodes c.as_slice-4.result.now (reached c.args.self.now c.args.roots.now) c.in_ok-plans.plans c.as_slice-5.result.now c.args.roots.now
    (c.nodes.ensures ∙ c.web-2.ensures) (c.as_slice-4.ensures ∙ specs) c.as_slice-5.ensures c.in_ok-plans.ensures in
    (known, specs, subst (λ ss. HavePlans c.args.self.now.nodes ss c.in_ok-plans.plans c.args.roots.now) (sym specs) have)

pub returns-clause-places : goal.returns-clause-places
returns-clause-places c =
    let specs : c.in_ok-specs.specs ≡ reached c.args.self.now c.args.roots.now =
    c.in_ok-specs.ensures
    ∙ (λ i. filter (λ (spec : LayerSpec). list_any (λ root. leads_to (c.web.ensures i) root spec.name) (c.as_slice-3.ensures i)) (c.specs.ensures.value i)) in
    subst (λ (ss : List LayerSpec). are_apart ss ≡ true) (sym specs) (places_apart c.args.self.now c.args.roots.now c.specs.ensures.sound)

pub returns-clause-names : goal.returns-clause-names
returns-clause-names c =
    let specs : c.in_ok-specs.specs ≡ reached c.args.self.now c.args.roots.now =
    c.in_ok-specs.ensures
    ∙ (λ i. filter (λ (spec : LayerSpec). list_any (λ root. leads_to (c.web.ensures i) root spec.name) (c.as_slice-3.ensures i)) (c.specs.ensures.value i)) in
    subst (λ (ss : List LayerSpec). have_names_apart ss ≡ true) (sym specs) (names_apart c.args.self.now c.args.roots.now c.specs.ensures.sound)

pub returns-clause-sorts : goal.returns-clause-sorts
returns-clause-sorts c =
    let specs : c.in_ok-specs.specs ≡ reached c.args.self.now c.args.roots.now =
    c.in_ok-specs.ensures
    ∙ (λ i. filter (λ (spec : LayerSpec). list_any (λ root. leads_to (c.web.ensures i) root spec.name) (c.as_slice-3.ensures i)) (c.specs.ensures.value i)) in
    subst (λ (ss : List LayerSpec). list_all fits_sort ss ≡ true) (sym specs) (sorts_fit c.args.self.now c.args.roots.now c.specs.ensures.sound)

pub returns-clause-made : goal.returns-clause-made
returns-clause-made c =
    let specs : c.in_ok-specs.specs ≡ reached c.args.self.now c.args.roots.now =
    c.in_ok-specs.ensures
    ∙ (λ i. filter (λ (spec : LayerSpec). list_any (λ root. leads_to (c.web.ensures i) root spec.name) (c.as_slice-3.ensures i)) (c.specs.ensures.value i)) in
    subst (λ (ss : List LayerSpec). list_all (λ spec. is_some (driver_line_of c.args.self.now.nodes spec.name)) ss ≡ true) (sym specs)
    (lines_there c.args.self.now c.args.roots.now c.specs.ensures.sound)

pub returns-clause-over : goal.returns-clause-over
returns-clause-over c =
    let specs : c.in_ok-specs.specs ≡ reached c.args.self.now c.args.roots.now =
    c.in_ok-specs.ensures
    ∙ (λ i. filter (λ (spec : LayerSpec). list_any (λ root. leads_to (c.web.ensures i) root spec.name) (c.as_slice-3.ensures i)) (c.specs.ensures.value i)) in
    let have : HavePlans c.args.self.now.nodes (reached c.args.self.now c.args.roots.now) c.in_ok-plans.plans c.args.roots.now =
    have_same c.nodes.result.now c.args.self.now.nodes c.as_slice-4.result.now (reached c.args.self.now c.args.roots.now) c.in_ok-plans.plans c.as_slice-5.result.now c.args.roots.now
    (c.nodes.ensures ∙ c.web-2.ensures) (c.as_slice-4.ensures ∙ specs) c.as_slice-5.ensures c.in_ok-plans.ensures in
    subst (λ (ss : List LayerSpec). AllByRecursion (λ plan. IsOver (shape plan) (length ss)) c.in_ok-plans.plans) (sym specs)
    (all_over c.args.self.now c.args.roots.now c.in_ok-plans.plans c.specs.ensures.sound have)

pub returns-clause-once : goal.returns-clause-once
returns-clause-once c =
    let specs : c.in_ok-specs.specs ≡ reached c.args.self.now c.args.roots.now =
    c.in_ok-specs.ensures
    ∙ (λ i. filter (λ (spec : LayerSpec). list_any (λ root. leads_to (c.web.ensures i) root spec.name) (c.as_slice-3.ensures i)) (c.specs.ensures.value i)) in
    let have : HavePlans c.args.self.now.nodes (reached c.args.self.now c.args.roots.now) c.in_ok-plans.plans c.args.roots.now =
    have_same c.nodes.result.now c.args.self.now.nodes c.as_slice-4.result.now (reached c.args.self.now c.args.roots.now) c.in_ok-plans.plans c.as_slice-5.result.now c.args.roots.now
    (c.nodes.ensures ∙ c.web-2.ensures) (c.as_slice-4.ensures ∙ specs) c.as_slice-5.ensures c.in_ok-plans.ensures in
    all_once c.args.self.now c.args.roots.now c.in_ok-plans.plans c.specs.ensures.sound have

pub returns-clause-disjoint : goal.returns-clause-disjoint
returns-clause-disjoint c =
    let specs : c.in_ok-specs.specs ≡ reached c.args.self.now c.args.roots.now =
    c.in_ok-specs.ensures
    ∙ (λ i. filter (λ (spec : LayerSpec). list_any (λ root. leads_to (c.web.ensures i) root spec.name) (c.as_slice-3.ensures i)) (c.specs.ensures.value i)) in
    let have : HavePlans c.args.self.now.nodes (reached c.args.self.now c.args.roots.now) c.in_ok-plans.plans c.args.roots.now =
    have_same c.nodes.result.now c.args.self.now.nodes c.as_slice-4.result.now (reached c.args.self.now c.args.roots.now) c.in_ok-plans.plans c.as_slice-5.result.now c.args.roots.now
    (c.nodes.ensures ∙ c.web-2.ensures) (c.as_slice-4.ensures ∙ specs) c.as_slice-5.ensures c.in_ok-plans.ensures in
    λ are. all_disjoint c.args.self.now c.args.roots.now c.in_ok-plans.plans c.specs.ensures.sound are have
