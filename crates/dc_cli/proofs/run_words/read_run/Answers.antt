use Rattle.dc_cli.proofs.RunLemmas.{runs, command_missing, refused_there, option_read}
use Rattle.dc_cli.proofs.run_words.read_run.Goals as goal

pub returns-then-not-begins_with_dash : goal.returns-then-not-begins_with_dash
returns-then-not-begins_with_dash c =
    runs c.args.words.now c.loop-rest.rest.now c.loop-rest.options c.word-item.result c.run_for.result c.loop-rest.invariant c.in-len1-up.len_at_least c.word-item.is (cc) c.run_for.ensures

pub loop-rest-preserved : goal.loop-rest-preserved
loop-rest-preserved c =
    option_read c.args.words.now c.loop-rest.rest.now c.loop-rest.options _ c.word-item.result c.in-Ok.first c.loop-rest.invariant c.in-len1-up.len_at_least c.word-item.is c.in-Ok.ensures c.with-options.ensures

pub returns-in-Err : goal.returns-in-Err
returns-in-Err c =
    refused_there c.args.words.now c.loop-rest.rest.now c.loop-rest.options c.word-item.result c.in-Err.place c.loop-rest.invariant c.in-len1-up.len_at_least c.word-item.is c.in-Err.ensures

pub returns : goal.returns
returns c = command_missing c.args.words.now c.loop-rest.rest.now c.loop-rest.options c.loop-rest.invariant c.in_default.len_below
