-- The replies of the confmodule protocol, version 2 (debconf-devel(7)): a code, and a text that may be empty.
use Rattle.std.specs.Prelude.{ℕ, Bool, List, [], ◌∷◌, ◌++◌, if◌then◌else◌, codes, decimal}
use Rattle.dc_text.specs.Ascii.{space, newline}
use Rattle.dc_text.specs.Settled.{newlines_shown}
use Rattle.dc_words.specs.Escaped.{escaped}
use Rattle.dc_proto.specs.declared.reply.Reply.{Reply}

abbrev pub reply : ℕ → List ℕ → Reply
reply code text = record { code = code; text = text }

-- ---- what words alone refuse

abbrev pub line_too_long : Reply
line_too_long = reply 20 (codes "line too long")

abbrev pub unsupported_command : Reply
unsupported_command = reply 20 (codes "unsupported command")

abbrev pub wrong_number : Reply
wrong_number = reply 20 (codes "wrong number of arguments")

abbrev pub bad_name : Reply
bad_name = reply 20 (codes "bad name")

abbrev pub bad_priority : Reply
bad_priority = reply 20 (codes "bad priority")

abbrev pub bad_number : Reply
bad_number = reply 20 (codes "bad number")

-- ---- how a reply is sent

-- the text in one line: in escape mode escaped, and in plain mode with each newline as the pair of a backslash and an n
abbrev pub in_one_line : Bool → List ℕ → List ℕ
in_one_line escape text = if escape then escaped text else newlines_shown text

-- a space and the text, where it isn't empty
abbrev pub told_text : Bool → List ℕ → List ℕ
told_text escape [] = []
told_text escape (byte ∷ text) = space ∷ in_one_line escape (byte ∷ text)

-- the line that a reply is sent as: the code in decimal, the text and a newline
abbrev pub printed : Bool → Reply → List ℕ
printed escape reply = decimal reply.code ++ told_text escape reply.text ++ newline ∷ []
