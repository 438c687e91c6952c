-- The reading of a reply, a line at a time. No public clause cites this module.
use Rattle.std.specs.Prelude.{ℕ, Bool, ◌&&◌, ◌||◌, List, [], ◌∷◌, Option, Some, None, drop, codes, if◌then◌else◌}
use Rattle.std.specs.Str.{bytes_eq}
use Rattle.dc_text.specs.Bytes.{is_nil}
use Rattle.dc_words.specs.declared.stream.Line.{Line}
use Rattle.dc_words.specs.declared.stream.Line.TheVariants as line
use Rattle.dc_frontend.specs.declared.shown.Shown.{Shown}
use Rattle.dc_teletype.specs.declared.teletype.Answer.TheVariants.{Keep, Value}
use Rattle.dc_pass.specs.declared.lines.WireLine.{WireLine}
use Rattle.dc_pass.specs.declared.replies.ReplyStep.{ReplyStep}
use Rattle.dc_pass.specs.declared.replies.ReplyStep.TheVariants.{Answered, Done, Back}
use Rattle.dc_pass.specs.Machine.{said}
use Rattle.dc_pass.specs.Wire.{is_value, are_further, some_passes, behind}

-- what a line of a reply says where these questions are left
abbrev pub left_step : List Shown → List ℕ → List ℕ → Option ReplyStep
left_step [] word text = if bytes_eq word (codes "done") && is_nil text then Some Done else None
left_step (question ∷ others) word text =
    if bytes_eq word (codes "keep") && is_nil text then Some (Answered Keep)
    else if bytes_eq word (codes "value") && is_value question.kind question.choices text then Some (Answered (Value text)) else None

-- `back` may come first, where the user can go back
abbrev pub reply_said : Bool → List Shown → List ℕ → List ℕ → Option ReplyStep
reply_said first left word text =
    if first && bytes_eq word (codes "back") && is_nil text then Some Back else left_step left word text

abbrev pub maybe_reply_said : Bool → List Shown → Option WireLine → Option ReplyStep
maybe_reply_said first left None = None
maybe_reply_said first left (Some said) = reply_said first left said.word said.text

abbrev pub reply_step : Bool → List Shown → Line → Option ReplyStep
reply_step first left line.TooLong = None
reply_step first left (line.Whole bytes) = maybe_reply_said first left (said bytes)

-- the text from the place on is some of the choices, behind this piece or without it
abbrev pub goes_further : List (List ℕ) → List ℕ → List ℕ → ℕ → Bool
goes_further choices piece text at = are_further choices (drop at text) || some_passes (are_further choices) (behind piece (drop at text))
