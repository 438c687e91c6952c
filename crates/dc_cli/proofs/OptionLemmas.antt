-- Options of `run`: what words spell, and what is said by those that are given.
use Rattle.std.proofs.Common.{◌≡◌, ℕ, Bool, true, false, List, [], ◌∷◌, ◌++◌, get_or, Option, Some, None, refl, sym, ◌∙◌, ap, subst}
use Rattle.std.proofs.lemmas.List.{append-nil, append_assoc}
use Rattle.std.specs.Prelude.{◌==◌, is_some, unwrap_or, codes, if◌then◌else◌}
use Rattle.std.specs.Option.{option_copied}
use Rattle.dc_text.specs.Ascii.{dash}
use Rattle.dc_text.specs.Names.{is_name}
use Rattle.dc_proto.specs.Priorities.{priority_of}
use Rattle.dc_proto.specs.declared.priority.Priority.{Priority}
use Rattle.dc_frontend.specs.Frontends.{frontend_of}
use Rattle.dc_frontend.specs.declared.frontend.Frontend.{Frontend}
use Rattle.dc_cli.specs.Tools.{short_word, long_word, Given, Short, Long, words_of, option_of, value_of, all_words, is_same, values_of, Says, NamesOwner, begins_with_dash, IsCommand}
use Rattle.dc_cli.specs.RunReading.{is_value, name_of, is_given, SayNothing, SayMore, Say, are_values, AreGiven}
use Rattle.dc_cli.specs.declared.run_options.RunOption.{RunOption}
use Rattle.dc_cli.specs.declared.run_options.RunOption.TheVariants.{Owner, Frontend as ForFrontend, Priority as ForPriority}
use Rattle.dc_cli.specs.declared.run_options.RunOptions.{RunOptions}

-- ---- spellings

-- the option of which this byte is the letter
option_by : ℕ → RunOption
option_by byte = if byte == 111 then Owner else if byte == 102 then ForFrontend else ForPriority

short_is : (option : RunOption) → option_by (get_or (short_word option) 1 0) ≡ option
unfolding option_by
short_is Owner = refl
short_is ForFrontend = refl
short_is ForPriority = refl

long_is : (option : RunOption) (value : List ℕ) → option_by (get_or (long_word option ++ value) 2 0) ≡ option
unfolding option_by
long_is Owner value = refl
long_is ForFrontend value = refl
long_is ForPriority value = refl

pub short_same : (option other : RunOption) → short_word option ≡ short_word other → option ≡ other
short_same option other e = sym (short_is option) ∙ ap (λ word. option_by (get_or word 1 0)) e ∙ short_is other

pub long_same : (option other : RunOption) (value another : List ℕ) → long_word option ++ value ≡ long_word other ++ another → option ≡ other
long_same option other value another e = sym (long_is option value) ∙ ap (λ word. option_by (get_or word 2 0)) e ∙ long_is other another

pub long_value : (option : RunOption) (value another : List ℕ) → long_word option ++ value ≡ long_word option ++ another → value ≡ another
long_value Owner value another e = cc
long_value ForFrontend value another e = cc
long_value ForPriority value another e = cc

-- the second byte tells the spellings apart
short_second : (option : RunOption) → (get_or (short_word option) 1 0 == dash) ≡ false
short_second Owner = refl
short_second ForFrontend = refl
short_second ForPriority = refl

long_second : (option : RunOption) (value : List ℕ) → (get_or (long_word option ++ value) 1 0 == dash) ≡ true
long_second Owner value = refl
long_second ForFrontend value = refl
long_second ForPriority value = refl

pub short_or_long : (option other : RunOption) (value : List ℕ) → short_word option ≡ long_word other ++ value → ⊥
short_or_long option other value e =
    let wrong : false ≡ true = sym (short_second option) ∙ ap (λ word. get_or word 1 0 == dash) e ∙ long_second other value in
    cc

pub short_dash : (option : RunOption) → begins_with_dash (short_word option) ≡ true
short_dash Owner = refl
short_dash ForFrontend = refl
short_dash ForPriority = refl

pub long_dash : (option : RunOption) (value : List ℕ) → begins_with_dash (long_word option ++ value) ≡ true
long_dash Owner value = refl
long_dash ForFrontend value = refl
long_dash ForPriority value = refl

-- a word that begins with a dash is no command
pub dash_apart : (word : List ℕ) (words command : List (List ℕ)) → begins_with_dash word ≡ true → IsCommand command → word ∷ words ≡ command → ⊥
dash_apart word words [] dash is same = is
dash_apart word words (first ∷ others) dash is same =
    let one : word ≡ first = cc in
    let wrong : true ≡ false = sym dash ∙ ap begins_with_dash one ∙ is in
    cc

-- what an option's words are is no command
pub option_apart : (one : Given) (words command : List (List ℕ)) → IsCommand command → words_of one ++ words ≡ command → ⊥
option_apart (Short option value) words command is same = dash_apart (short_word option) (value ∷ words) command (short_dash option) is same
option_apart (Long option value) words command is same = dash_apart (long_word option ++ value) words command (long_dash option value) is same

-- words begin with one option at most
pub one_option : (one other : Given) (xs ys : List (List ℕ)) → words_of one ++ xs ≡ words_of other ++ ys → (one ≡ other) × (xs ≡ ys)
one_option (Short option value) (Short other another) xs ys e =
    let first : short_word option ≡ short_word other = cc in
    let same : option ≡ other = short_same option other first in
    (cc, cc)
one_option (Short option value) (Long other another) xs ys e =
    let first : short_word option ≡ long_word other ++ another = cc in
    absurd (short_or_long option other another first)
one_option (Long option value) (Short other another) xs ys e =
    let first : short_word other ≡ long_word option ++ value = cc in
    absurd (short_or_long other option value first)
one_option (Long option value) (Long other another) xs ys e =
    let first : long_word option ++ value ≡ long_word other ++ another = cc in
    let same : option ≡ other = long_same option other value another first in
    let said : value ≡ another = long_value option value another (first ∙ ap (λ o. long_word o ++ another) (sym same)) in
    (cc, cc)

-- ---- words and values of several options

pub all_words-append : (given more : List Given) → all_words (given ++ more) ≡ all_words given ++ all_words more
all_words-append [] more = refl
all_words-append (one ∷ given) more = ap (λ words. words_of one ++ words) (all_words-append given more) ∙ sym (append_assoc (words_of one) (all_words given) (all_words more))

pub values_of-append : (option : RunOption) (given more : List Given) → values_of option (given ++ more) ≡ values_of option given ++ values_of option more
values_of-append option [] more = refl
values_of-append option (one ∷ given) more = by (is_same option (option_of one)) (values_of-append option given more) where
  by : (same : Bool) → values_of option (given ++ more) ≡ values_of option given ++ values_of option more → (if same then value_of one ∷ values_of option (given ++ more) else values_of option (given ++ more))
      ≡ (if same then value_of one ∷ values_of option given else values_of option given) ++ values_of option more
  by true later = ap (λ values. value_of one ∷ values) later
  by false later = later

is_same_self : (option : RunOption) → is_same option option ≡ true
is_same_self Owner = refl
is_same_self ForFrontend = refl
is_same_self ForPriority = refl

pub is_same_true : (option other : RunOption) → is_same option other ≡ true → option ≡ other
is_same_true Owner Owner e = refl
is_same_true Owner ForFrontend e = cc
is_same_true Owner ForPriority e = cc
is_same_true ForFrontend Owner e = cc
is_same_true ForFrontend ForFrontend e = refl
is_same_true ForFrontend ForPriority e = cc
is_same_true ForPriority Owner e = cc
is_same_true ForPriority ForFrontend e = cc
is_same_true ForPriority ForPriority e = refl

values_with : (one : Given) (given : List Given) → values_of (option_of one) (one ∷ given) ≡ value_of one ∷ values_of (option_of one) given
values_with one given = by (is_same (option_of one) (option_of one)) (is_same_self (option_of one)) where
  by : (same : Bool) → same ≡ true → (if same then value_of one ∷ values_of (option_of one) given else values_of (option_of one) given) ≡ value_of one ∷ values_of (option_of one) given
  by true e = refl
  by false e = cc

-- among values with one of them there is no other, and the option takes it
only_value : (option : RunOption) (before after : List (List ℕ)) (value : List ℕ) → are_values option (before ++ value ∷ after) ≡ true → (before ≡ []) × (is_value option value ≡ true)
only_value option [] [] value e = (refl, e)
only_value option [] (other ∷ after) value e = cc
only_value option (first ∷ []) after value e = cc
only_value option (first ∷ second ∷ before) after value e = cc

-- an option that is given again isn't given before, and takes its value
pub given_next : (given more : List Given) (one : Given) → AreGiven (given ++ one ∷ more) → (values_of (option_of one) given ≡ []) × (is_value (option_of one) (value_of one) ≡ true)
given_next given more one are =
    only_value (option_of one) (values_of (option_of one) given) (values_of (option_of one) more) (value_of one)
    (sym (ap (are_values (option_of one)) (values_of-append (option_of one) given (one ∷ more) ∙ ap (λ values. values_of (option_of one) given ++ values) (values_with one more))) ∙ are (option_of one))

-- one more option may be given that isn't yet
pub given_more : (given : List Given) (one : Given) → AreGiven given → values_of (option_of one) given ≡ [] → is_value (option_of one) (value_of one) ≡ true → AreGiven (given ++ one ∷ [])
given_more given one are none takes option =
    ap (are_values option) (values_of-append option given (one ∷ [])) ∙ by (is_same option (option_of one)) (λ e. is_same_true option (option_of one) e) where
      by : (same : Bool) → (same ≡ true → option ≡ option_of one) → are_values option (values_of option given ++ (if same then value_of one ∷ [] else [])) ≡ true
      by true is =
          let this : option ≡ option_of one = is refl in
          subst (λ o. are_values o (values_of o given ++ value_of one ∷ []) ≡ true) (sym this)
          (subst (λ values. are_values (option_of one) (values ++ value_of one ∷ []) ≡ true) (sym none) takes)
      by false is = ap (are_values option) (append-nil (values_of option given)) ∙ are option

-- ---- what is said

owner_values : (values : List (List ℕ)) (owner : List ℕ) → NamesOwner values owner → are_values Owner values ≡ true
owner_values [] owner named = refl
owner_values (value ∷ []) owner named = named.1
owner_values (value ∷ other ∷ values) owner named = absurd named

frontend_values : (values : List (List ℕ)) (said : Option Frontend) → Says frontend_of values said → are_values ForFrontend values ≡ true
frontend_values [] said says = refl
frontend_values (value ∷ []) said says = sym (ap is_some says.0) ∙ says.1
frontend_values (value ∷ other ∷ values) said says = absurd says

priority_values : (values : List (List ℕ)) (said : Option Priority) → Says priority_of values said → are_values ForPriority values ≡ true
priority_values [] said says = refl
priority_values (value ∷ []) said says = sym (ap is_some says.0) ∙ says.1
priority_values (value ∷ other ∷ values) said says = absurd says

-- options that say something are given as they may be
pub are_given : (given : List Given) (owner : List ℕ) (frontend : Option Frontend) (priority : Option Priority)
    → NamesOwner (values_of Owner given) owner → Says frontend_of (values_of ForFrontend given) frontend → Says priority_of (values_of ForPriority given) priority → AreGiven given
are_given given owner frontend priority of for from Owner = owner_values (values_of Owner given) owner of
are_given given owner frontend priority of for from ForFrontend = frontend_values (values_of ForFrontend given) frontend for
are_given given owner frontend priority of for from ForPriority = priority_values (values_of ForPriority given) priority from

-- ---- and the other way round
pub owner_named : (values : List (List ℕ)) → are_values Owner values ≡ true → (owner : List ℕ) × NamesOwner values owner
owner_named [] are = (codes "unknown", refl)
owner_named (value ∷ []) are = (value, (refl, are))
owner_named (value ∷ other ∷ values) are = cc

pub frontend_said : (values : List (List ℕ)) → are_values ForFrontend values ≡ true → (said : Option Frontend) × Says frontend_of values said
frontend_said [] are = (None, refl)
frontend_said (value ∷ []) are = (frontend_of value, (refl, are))
frontend_said (value ∷ other ∷ values) are = cc

pub priority_said : (values : List (List ℕ)) → are_values ForPriority values ≡ true → (said : Option Priority) × Says priority_of values said
priority_said [] are = (None, refl)
priority_said (value ∷ []) are = (priority_of value, (refl, are))
priority_said (value ∷ other ∷ values) are = cc

-- ---- what the options say that were read

owner_said : (values : List (List ℕ)) (said : Option (List ℕ)) → Says name_of values said → NamesOwner values (unwrap_or said (codes "unknown"))
owner_said [] said says = ap (λ o. unwrap_or o (codes "unknown")) says
owner_said (value ∷ []) said says = by (is_name value) refl says.0 where
  by : (named : Bool) → is_name value ≡ named → said ≡ (if named then Some value else None) → (unwrap_or said (codes "unknown") ≡ value) × (is_name value ≡ true)
  by true is same = (ap (λ o. unwrap_or o (codes "unknown")) same, is)
  by false is same = let wrong : false ≡ true = sym (ap is_some same) ∙ says.1 in cc
owner_said (value ∷ other ∷ values) said says = absurd says

pub say_owner : (given : List Given) (options : RunOptions) → Say given options → NamesOwner (values_of Owner given) (unwrap_or (option_copied options.owner) (codes "unknown"))
say_owner given options say = owner_said (values_of Owner given) (option_copied options.owner) say.owner_is

owner_is_name : (values : List (List ℕ)) (owner : List ℕ) → NamesOwner values owner → is_name owner ≡ true
owner_is_name [] owner named = ap is_name named
owner_is_name (value ∷ []) owner named = ap is_name named.0 ∙ named.1
owner_is_name (value ∷ other ∷ values) owner named = absurd named

pub say_name : (given : List Given) (options : RunOptions) → Say given options → is_name (unwrap_or (option_copied options.owner) (codes "unknown")) ≡ true
say_name given options say = owner_is_name (values_of Owner given) (unwrap_or (option_copied options.owner) (codes "unknown")) (say_owner given options say)

pub say_given : (given : List Given) (options : RunOptions) → Say given options → AreGiven given
say_given given options say =
    are_given given (unwrap_or (option_copied options.owner) (codes "unknown")) options.frontend options.priority (say_owner given options say) say.frontend_is say.priority_is

says_none : {A : Type 0} (read : List ℕ → Option A) (values : List (List ℕ)) (said : Option A) → Says read values said → is_some said ≡ false → values ≡ []
says_none read [] said says none = refl
says_none read (value ∷ []) said says none = let wrong : true ≡ false = sym says.1 ∙ none in cc
says_none read (value ∷ other ∷ values) said says none = absurd says

-- an option of which nothing is said isn't given
pub given_none : (given : List Given) (options : RunOptions) (option : RunOption) → Say given options → is_given options option ≡ false → values_of option given ≡ []
given_none given options Owner say none = says_none name_of (values_of Owner given) (option_copied options.owner) say.owner_is none
given_none given options ForFrontend say none = says_none frontend_of (values_of ForFrontend given) options.frontend say.frontend_is none
given_none given options ForPriority say none = says_none priority_of (values_of ForPriority given) options.priority say.priority_is none

says_some : {A : Type 0} (read : List ℕ → Option A) (values : List (List ℕ)) (said : Option A) → Says read values said → is_some said ≡ true → values ≡ [] → ⊥
says_some read [] said says some none = let wrong : false ≡ true = sym (ap is_some says) ∙ some in cc
says_some read (value ∷ values) said says some none = cc

-- and one of which something is said is given
pub given_some : (given : List Given) (options : RunOptions) (option : RunOption) → Say given options → is_given options option ≡ true → values_of option given ≡ [] → ⊥
given_some given options Owner say some none = says_some name_of (values_of Owner given) (option_copied options.owner) say.owner_is some none
given_some given options ForFrontend say some none = says_some frontend_of (values_of ForFrontend given) options.frontend say.frontend_is some none
given_some given options ForPriority say some none = says_some priority_of (values_of ForPriority given) options.priority say.priority_is some none

pub say_nothing : (options : RunOptions) → SayNothing options → Say [] options
say_nothing options nothing = record { owner_is = nothing.no_owner; frontend_is = nothing.no_frontend; priority_is = nothing.no_priority }

says_more : {A : Type 0} (read : List ℕ → Option A) (values : List (List ℕ)) (said more : Option A) (value : List ℕ) (same : Bool)
    → (same ≡ true → values ≡ []) → (same ≡ true → is_some (read value) ≡ true) → Says read values said → more ≡ (if same then read value else said)
    → Says read (values ++ (if same then value ∷ [] else [])) more
says_more {A = A} read values said more value true none takes says is =
    subst (λ (vs : List (List ℕ)). Says read (vs ++ value ∷ []) more) (sym (none refl)) (is, ap is_some is ∙ takes refl)
says_more {A = A} read values said more value false none takes says is =
    subst (λ (vs : List (List ℕ)). Says read vs more) (sym (append-nil values)) (subst (λ (o : Option A). Says read values o) (sym is) says)

name_read : (value : List ℕ) → is_name value ≡ true → is_some (name_of value) ≡ true
name_read value is = by (is_name value) is where
  by : (named : Bool) → named ≡ true → is_some (if named then Some value else None) ≡ true
  by true e = refl
  by false e = e

-- what is said where one more option is given
pub say_more : (given : List Given) (options more : RunOptions) (one : Given) → Say given options → SayMore options (option_of one) (value_of one) more
    → is_given options (option_of one) ≡ false → is_value (option_of one) (value_of one) ≡ true → Say (given ++ one ∷ []) more
say_more given options more one say with none takes = record {
  owner_is = subst (λ (vs : List (List ℕ)). Says name_of vs (option_copied more.owner)) (sym (values_of-append Owner given (one ∷ [])))
      (says_more name_of (values_of Owner given) (option_copied options.owner) (option_copied more.owner) (value_of one) (is_same Owner (option_of one))
      (unread Owner) (λ e. name_read (value_of one) (taken Owner e)) say.owner_is with.owner_is);
  frontend_is = subst (λ (vs : List (List ℕ)). Says frontend_of vs more.frontend) (sym (values_of-append ForFrontend given (one ∷ [])))
      (says_more frontend_of (values_of ForFrontend given) options.frontend more.frontend (value_of one) (is_same ForFrontend (option_of one))
      (unread ForFrontend) (taken ForFrontend) say.frontend_is with.frontend_is);
  priority_is = subst (λ (vs : List (List ℕ)). Says priority_of vs more.priority) (sym (values_of-append ForPriority given (one ∷ [])))
      (says_more priority_of (values_of ForPriority given) options.priority more.priority (value_of one) (is_same ForPriority (option_of one))
      (unread ForPriority) (taken ForPriority) say.priority_is with.priority_is);
} where
  unread : (option : RunOption) → is_same option (option_of one) ≡ true → values_of option given ≡ []
  unread option e = subst (λ o. values_of o given ≡ []) (sym (is_same_true option (option_of one) e)) (given_none given options (option_of one) say none)

  taken : (option : RunOption) → is_same option (option_of one) ≡ true → is_value option (value_of one) ≡ true
  taken option e = subst (λ o. is_value o (value_of one) ≡ true) (sym (is_same_true option (option_of one) e)) takes
