use Rattle.dc_template.proofs.KeyLemmas.{shorter_bytes}
use Rattle.dc_template.proofs.languages.add_languages.Goals as goal

pub add_localised-requires-in-Some : goal.add_localised-requires-in-Some
add_localised-requires-in-Some c = shorter_bytes c.args.language.now c.in-Some.shorter.now c.in-Some.ensures.1 c.requires
