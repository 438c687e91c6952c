use Rattle.std.proofs.Common.{sym, subst, ◌∙◌}
use Rattle.dc_cli.specs.Tools.{AreRefusedAt, IsToolAnswer}
use Rattle.dc_cli.proofs.ToolLemmas.{none_refused, word_refused, answered}
use Rattle.dc_cli.proofs.reading.read_tool.Goals as goal

pub returns-in-empty : goal.returns-in-empty
returns-in-empty c = subst (λ words. AreRefusedAt words 0) c.as_slice.ensures (none_refused c.as_slice.result.now c.in-empty.len_below)

pub returns-then-is_word : goal.returns-then-is_word
returns-then-is_word c =
    subst (λ words. IsToolAnswer words c.read_communicate.result) c.as_slice.ensures
    (answered c.as_slice.result.now c.tool-item.result _ _ c.in-len1-up.len_at_least c.tool-item.is (sym c.is_word.ensures ∙ c.if-is_word.true) c.read_communicate.ensures)

pub returns-then-is_word-2 : goal.returns-then-is_word-2
returns-then-is_word-2 c =
    subst (λ words. IsToolAnswer words c.read_load_template.result) c.as_slice.ensures
    (answered c.as_slice.result.now c.tool-item.result _ _ c.in-len1-up.len_at_least c.tool-item.is (sym c.is_word-else-is_word.ensures ∙ c.if-is_word-2.true) c.read_load_template.ensures)

pub returns-then-is_word-3 : goal.returns-then-is_word-3
returns-then-is_word-3 c =
    subst (λ words. IsToolAnswer words c.read_run.result) c.as_slice.ensures
    (answered c.as_slice.result.now c.tool-item.result _ _ c.in-len1-up.len_at_least c.tool-item.is (sym c.is_word-else-is_word-2.ensures ∙ c.if-is_word-3.true) c.read_run.ensures)

pub returns-then-is_word-4 : goal.returns-then-is_word-4
returns-then-is_word-4 c =
    subst (λ words. IsToolAnswer words c.read_show.result) c.as_slice.ensures
    (answered c.as_slice.result.now c.tool-item.result _ _ c.in-len1-up.len_at_least c.tool-item.is (sym c.is_word-else-is_word-3.ensures ∙ c.if-is_word-4.true) c.read_show.ensures)

pub returns-then-is_word-5 : goal.returns-then-is_word-5
returns-then-is_word-5 c =
    subst (λ words. IsToolAnswer words c.read_copy.result) c.as_slice.ensures
    (answered c.as_slice.result.now c.tool-item.result _ _ c.in-len1-up.len_at_least c.tool-item.is (sym c.is_word-else-is_word-4.ensures ∙ c.if-is_word-5.true) c.read_copy.ensures)

pub returns-then-is_word-6 : goal.returns-then-is_word-6
returns-then-is_word-6 c =
    subst (λ words. IsToolAnswer words c.read_selections.result) c.as_slice.ensures
    (answered c.as_slice.result.now c.tool-item.result _ _ c.in-len1-up.len_at_least c.tool-item.is (sym c.is_word-else-is_word-5.ensures ∙ c.if-is_word-6.true) c.read_selections.ensures)

pub returns-then-is_word-7 : goal.returns-then-is_word-7
returns-then-is_word-7 c =
    subst (λ words. IsToolAnswer words c.read_get_selections.result) c.as_slice.ensures
    (answered c.as_slice.result.now c.tool-item.result _ _ c.in-len1-up.len_at_least c.tool-item.is (sym c.is_word-else-is_word-6.ensures ∙ c.if-is_word-7.true) c.read_get_selections.ensures)

pub returns-then-is_word-8 : goal.returns-then-is_word-8
returns-then-is_word-8 c =
    subst (λ words. IsToolAnswer words c.read_drill.result) c.as_slice.ensures
    (answered c.as_slice.result.now c.tool-item.result _ _ c.in-len1-up.len_at_least c.tool-item.is (sym c.is_word-else-is_word-7.ensures ∙ c.if-is_word-8.true) c.read_drill.ensures)

pub returns-then-is_word-9 : goal.returns-then-is_word-9
returns-then-is_word-9 c =
    subst (λ words. IsToolAnswer words c.read_answer.result) c.as_slice.ensures
    (answered c.as_slice.result.now c.tool-item.result _ _ c.in-len1-up.len_at_least c.tool-item.is (sym c.is_word-else-is_word-8.ensures ∙ c.if-is_word-9.true) c.read_answer.ensures)

pub returns-else-is_word-9 : goal.returns-else-is_word-9
returns-else-is_word-9 c =
    subst (λ words. AreRefusedAt words 0) c.as_slice.ensures
    (word_refused c.as_slice.result.now c.tool-item.result c.in-len1-up.len_at_least c.tool-item.is (sym c.is_word.ensures ∙ c.if-is_word.false)
    (sym c.is_word-else-is_word.ensures ∙ c.if-is_word-2.false) (sym c.is_word-else-is_word-2.ensures ∙ c.if-is_word-3.false)
    (sym c.is_word-else-is_word-3.ensures ∙ c.if-is_word-4.false) (sym c.is_word-else-is_word-4.ensures ∙ c.if-is_word-5.false)
    (sym c.is_word-else-is_word-5.ensures ∙ c.if-is_word-6.false) (sym c.is_word-else-is_word-6.ensures ∙ c.if-is_word-7.false)
    (sym c.is_word-else-is_word-7.ensures ∙ c.if-is_word-8.false) (sym c.is_word-else-is_word-8.ensures ∙ c.if-is_word-9.false))
