-- A request and its replies, as they are worked out.
use Rattle.std.specs.Prelude.{◌≡◌, true, false, [], ◌∷◌, codes}
use Rattle.dc_template.specs.declared.kinds.Kind.TheVariants.{Str, Select}
use Rattle.dc_frontend.specs.declared.shown.Shown.{Shown}
use Rattle.dc_teletype.specs.declared.teletype.Answer.TheVariants.{Keep, Value}
use Rattle.dc_teletype.specs.declared.teletype.Asked.TheVariants.{Answers, Back}
use Rattle.dc_pass.specs.Wire.{request_lines, reply_lines, sent_reply}

-- a string without a value
abbrev pub name_question : Shown
name_question =
    record { name = codes "a/n"; kind = Str; description = codes "N"; extended = []; choices = []; labels = []; value = [] }

-- one of two colours
abbrev pub colour_question : Shown
colour_question =
    record {
      name = codes "a/c";
      kind = Select;
      description = codes "Colour";
      extended = codes "It is\nseen.";
      choices = codes "red" ∷ codes "blue" ∷ [];
      labels = codes "rot" ∷ codes "blau" ∷ [];
      value = codes "red";
    }

-- a string asked where the user can go back, a select asked where he can't, and what each may be answered
pub record Examples : Type 0 where
  pub name : request_lines [] true (name_question ∷ [])
      ≡ codes "title" ∷ codes "backup true" ∷ codes "question a/n" ∷ codes "kind string" ∷ codes "description N" ∷ codes "extended"
      ∷ codes "value" ∷ codes "ask" ∷ []
  pub colour : request_lines (codes "T") false (colour_question ∷ [])
      ≡ codes "title T" ∷ codes "backup false" ∷ codes "question a/c" ∷ codes "kind select" ∷ codes "description Colour" ∷ codes "extended It is\\nseen."
      ∷ codes "choice red" ∷ codes "label rot" ∷ codes "choice blue" ∷ codes "label blau" ∷ codes "value red" ∷ codes "ask" ∷ []
  pub answered : reply_lines (Answers (Value (codes "zed") ∷ [])) ≡ codes "value zed" ∷ codes "done" ∷ []
  pub kept : reply_lines (sent_reply (Answers (Keep ∷ Value [] ∷ []))) ≡ codes "keep" ∷ codes "value" ∷ codes "done" ∷ []
  pub back : reply_lines Back ≡ codes "back" ∷ []
