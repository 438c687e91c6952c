use Rattle.std.proofs.Common.{ap, sym, ◌∙◌}
use Rattle.dc_cli.proofs.ReadingLemmas.{seen_more, seen_all, stopped}
use Rattle.dc_cli.proofs.ToolLemmas.{by_first}
use Rattle.dc_cli.proofs.seen.see.Goals as goal

pub loop-rest-preserved : goal.loop-rest-preserved
loop-rest-preserved g c =
    seen_more g.S.Seen.with_word c.args.first c.args.words.now c.loop-rest.rest.now _ c.word-item.result c.loop-rest.seen c.in-Some.more c.loop-rest.invariant
    (by_first c.loop-rest.rest.now c.word-item.result c.in-len1-up.len_at_least c.word-item.is) (ap (g.S.Seen.with_word c.loop-rest.seen) (sym c.bytes.ensures) ∙ sym c.next.ensures ∙ c.in-Some.is)

pub returns-in-None : goal.returns-in-None
returns-in-None g c =
    stopped g.S.Seen.with_word c.args.first c.args.words.now c.loop-rest.rest.now _ c.word-item.result c.loop-rest.seen c.loop-rest.invariant
    (by_first c.loop-rest.rest.now c.word-item.result c.in-len1-up.len_at_least c.word-item.is) (ap (g.S.Seen.with_word c.loop-rest.seen) (sym c.bytes.ensures) ∙ sym c.next.ensures ∙ c.in-None.is)

pub returns : goal.returns
returns g c = seen_all g.S.Seen.with_word c.args.first c.args.words.now c.loop-rest.rest.now c.loop-rest.seen c.loop-rest.invariant c.in_default.len_below
