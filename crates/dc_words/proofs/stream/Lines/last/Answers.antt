use Rattle.std.proofs.Common.{◌≡◌, ◌+◌, drop, sym, ap, ◌∙◌}
use Rattle.dc_text.specs.Lines.{text_lines}
use Rattle.dc_words.specs.Stream.{line_of_rest}
use Rattle.dc_words.proofs.StreamLemmas.{line_of_rest-clipped, rest_held}
use Rattle.dc_words.proofs.stream.Lines.last.Goals as goal

pub returns-clause-line : goal.returns-clause-line
returns-clause-line c =
    let held : c.remove_front.new.bytes.items ≡ (text_lines c.args.self.now).rest =
    c.remove_front.ensures ∙ ap (λ v. drop (c.self.inside.taken + c.rest_begins.result) v.items) c.replace-rest.ensures.value
    ∙ rest_held c.deref.result.now c.self.inside.held.items c.args.self.now c.self.inside.taken c.rest_begins.result c.deref.ensures.value c.self.view_is c.rest_begins.ensures.rest in
    c.line_of_vec.ensures ∙ ap line_of_rest held ∙ sym (line_of_rest-clipped (text_lines c.args.self.now).rest)
