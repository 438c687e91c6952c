-- What GO comes to where a user is asked and no value is fixed: what the user answers is done.
use Rattle.std.specs.Prelude.{◌≡◌, List, [], codes, map as each}
use Rattle.dc_proto.specs.Replies.{reply}
use Rattle.dc_question.specs.Changes.{value_write}
use Rattle.dc_store.specs.Batches.{all_done}
use Rattle.dc_teletype.specs.declared.teletype.Answer.{Answer}
use Rattle.dc_teletype.specs.declared.teletype.Asked.{Asked}
use Rattle.dc_teletype.specs.declared.teletype.Asked.TheVariants.{Answers, Back}
use Rattle.dc_session.specs.Asking.{to_show, values_given, were_shown}
use Rattle.dc_session.specs.SessionState.{SessionState}
use Rattle.dc_session.specs.declared.stepped.Stepped.{Stepped}
use Rattle.dc_session.specs.declared.stepped.Stepped.TheVariants.{Replied}

-- the questions that were shown are set to all the values that they were given
pub record TakesAnswers (old : SessionState) (answers : List Answer) (did : Stepped) (new : SessionState) : Type 0 where
  pub did_is : did ≡ Replied (reply 0 (codes "ok"))
  pub store : new.store ≡ all_done old.store (each (value_write old.store.layers old.at) (values_given (to_show old) answers))
  pub asking : new.asking ≡ were_shown old

-- the user went back, and nothing is prepared any more
pub record TakesBack (old : SessionState) (did : Stepped) (new : SessionState) : Type 0 where
  pub did_is : did ≡ Replied (reply 30 (codes "backup"))
  pub store : new.store ≡ old.store
  pub asking : new.asking ≡ record old.asking { prepared = [] }

-- what was answered is done
abbrev pub Takes : SessionState → Asked → Stepped → SessionState → Type 0
Takes old (Answers answers) did new = TakesAnswers old answers did new
Takes old Back did new = TakesBack old did new
