use Rattle.std.proofs.Common.{◌∷◌, ◌++◌, [], refl, ap, ◌∙◌}
use Rattle.std.specs.Prelude.{codes}
use Rattle.std.specs.List.{filter}
use Rattle.std.proofs.lemmas.Result.{on_ok_weaker}
use Rattle.dc_template.specs.Languages.{is_short}
use Rattle.dc_template.proofs.KeyLemmas.{encoded_key, plain_key, added_two}
use Rattle.dc_template.proofs.languages.add_localised.Goals as goal

pub add_key-requires : goal.add_key-requires
add_key-requires c = encoded_key _ _ _ _ c.in_ok-encoded.ensures.value c.in_ok-plain.ensures.key c.requires refl

pub add_key-requires-2 : goal.add_key-requires-2
add_key-requires-2 c = encoded_key _ _ _ _ c.in_ok-plain.ensures.value c.in_ok-plain.ensures.key c.requires refl

pub returns : goal.returns
returns c = on_ok_weaker c.add_key-2.result
    (λ e. added_two (c.args.key.now ++ 45 ∷ c.args.language.now ++ codes ".utf-8") (c.args.key.now ++ 45 ∷ c.args.language.now) c.args.keys.now c.add_key.new.keys c.add_key-2.new.keys
    (c.in_ok-add_key.ensures ∙ ap (λ b. c.args.keys.now ++ filter is_short (b ∷ [])) c.in_ok-encoded.ensures.value)
    (e ∙ ap (λ b. c.add_key.new.keys ++ filter is_short (b ∷ [])) (plain_key _ _ _ c.in_ok-plain.ensures.value)))
    c.add_key-2.ensures
