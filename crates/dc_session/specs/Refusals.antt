-- What is replied where a command is refused, and where a save is done (debconf-devel(7)).
use Rattle.std.specs.Prelude.{ℕ, List, ◌++◌, codes, decimal}
use Rattle.dc_proto.specs.Replies.{reply}
use Rattle.dc_proto.specs.declared.reply.Reply.{Reply}
use Rattle.dc_question.specs.declared.errors.QuestionError.{QuestionError}
use Rattle.dc_question.specs.declared.errors.QuestionError.TheVariants.{NoQuestion, NoTemplate, CantChange, Twice}

-- no question has this name, which is told as it was typed
abbrev pub no_question : List ℕ → Reply
no_question word = reply 10 (word ++ codes " doesn't exist")

-- the question's template isn't there
abbrev pub no_template : List ℕ → Reply
no_template word = reply 10 (codes "no template for " ++ word)

-- the template has no such field, which is told as it was typed
abbrev pub no_field : List ℕ → Reply
no_field word = reply 10 (word ++ codes " doesn't exist")

-- a write to the question or to its template is refused
abbrev pub cant_change : List ℕ → Reply
cant_change word = reply 10 (word ++ codes " can't be changed")

-- the question is bound to another template
abbrev pub other_template : List ℕ → Reply
other_template word = reply 10 (word ++ codes " has another template")

-- the question is prepared to be asked
abbrev pub is_busy : List ℕ → Reply
is_busy word = reply 10 (word ++ codes " is busy")

abbrev pub bad_flag_value : Reply
bad_flag_value = reply 10 (codes "bad flag value")

abbrev pub no_progress_bar : Reply
no_progress_bar = reply 10 (codes "no progress bar")

abbrev pub version_not_supported : Reply
version_not_supported = reply 30 (codes "version not supported")

abbrev pub read_fault : Reply
read_fault = reply 100 (codes "read fault")

abbrev pub no_template_file : Reply
no_template_file = reply 10 (codes "no such template file")

abbrev pub bad_template_file : ℕ → Reply
bad_template_file line = reply 10 (codes "bad template file, line " ++ decimal line)

-- all that has changed is saved
abbrev pub saved : Reply
saved = reply 0 (codes "saved")

-- the reply to a call that is refused; a field is told as it was typed
abbrev pub refusal : List ℕ → QuestionError → Reply
refusal field (NoQuestion name) = no_question name
refusal field (NoTemplate name) = no_template name
refusal field (CantChange name) = cant_change name
refusal field (Twice name) = other_template name
refusal field _ = no_field field
