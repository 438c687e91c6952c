use Rattle.dc_save.proofs.PipeLemmas.{short_at_once}
use Rattle.dc_save.proofs.pipe_loading.read_whole.Goals as goal

pub returns-in-Err : goal.returns-in-Err
returns-in-Err g c = short_at_once (g.L.Link.link c.args.link.now)
