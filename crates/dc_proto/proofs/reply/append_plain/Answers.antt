use Rattle.dc_text.proofs.SettledLemmas.{shown-none}
use Rattle.dc_proto.proofs.reply.append_plain.Goals as goal

pub returns-in-None : goal.returns-in-None
returns-in-None c = rw (shown-none c.args.text.now c.in-None.ensures) c.append.ensures.ok
