-- What becomes of a template file.
use Rattle.std.proofs.Common.{[], ◌≡◌, ℕ, List, refl, sym, ap, subst, ◌∙◌, inr}
use Rattle.std.specs.Prelude.{Result, Ok, Err}
use Rattle.dc_text.specs.declared.memory.OutOfMemory.{OutOfMemory}
use Rattle.dc_store.specs.Plans.{StoreState}
use Rattle.dc_store.specs.Batches.{names_of}
use Rattle.dc_store.specs.StoreLaws.{AreSameButAll}
use Rattle.dc_template.specs.Stanzas.{Stanza}
use Rattle.dc_question.specs.Ownership.{loaded, load_batch}
use Rattle.dc_question.specs.Questions.{QuestionContext}
use Rattle.dc_question.specs.declared.errors.QuestionError.{QuestionError}
use Rattle.dc_session.specs.Answers.{loading}
use Rattle.dc_session.specs.FileLoading.{Loads, Takes}
use Rattle.dc_session.specs.SessionState.{FilesState, SessionState}
use Rattle.dc_session.specs.TemplateFiles.{Finds}
use Rattle.dc_session.specs.declared.template_files.Found.{Found}
use Rattle.dc_session.specs.declared.template_files.Found.TheVariants as found
use Rattle.dc_teletype.specs.declared.teletype.Asked.TheVariants.{Answers}
use Rattle.dc_session.specs.declared.template_loading.FileEnd.{FileEnd}
use Rattle.dc_session.specs.declared.template_loading.FileEnd.TheVariants.{Loaded, Refused}

module _ (old : SessionState) (templates : List Stanza) (store : StoreState) (at : QuestionContext) (at_is : at ≡ old.at) where
  -- all of them are loaded
  pub all_taken : loaded old.store old.at old.owner templates ≡ Ok store → Takes (found.Templates templates) old (record old { store = store; at = at }) (Ok Loaded)
  all_taken is = rw is (refl, λ i. record old { store = store; at = at_is i })

  -- none is
  pub none_taken : (error : QuestionError) → loaded old.store old.at old.owner templates ≡ Err error → store ≡ old.store → Takes (found.Templates templates) old (record old { store = store; at = at }) (Ok (Refused error))
  none_taken error is same = rw is (refl, λ i. record old { store = same i; at = at_is i })

  -- memory ran out
  pub part_taken : (error : OutOfMemory) → AreSameButAll (names_of (load_batch old.store.layers old.at old.owner templates)) old.store.layers store.layers → Takes (found.Templates templates) old (record old { store = store; at = at }) (Err error)
  part_taken error others = (others, λ i. record old { store = store; at = at_is i })

-- what was found, then what became of it
pub taken_loads : (path : List ℕ) (what : Found) (old new : SessionState) (files : FilesState) (result : Result FileEnd OutOfMemory) → Finds path old.files what files → Takes what (record old { files = files }) new result → Loads path old new result
taken_loads path what old new files (Ok ended) finds takes =
    let kept : files ≡ new.files = ap (λ (s : SessionState). s.files) (sym takes.1) in
    record { found = what; finds = subst (Finds path old.files what) kept finds; ended_is = takes.0; new_is = takes.1 ∙ (λ i. record old { store = (loading old old.owner what).store; files = kept i }) }
taken_loads path what old new files (Err error) finds takes =
    let kept : files ≡ new.files = ap (λ (s : SessionState). s.files) (sym takes.1) in
    inr (record {
      part = inr record {
        given = record { found = what; asked = Answers [] };
        gives = record { looks = subst (Finds path old.files what) kept finds; shows = (refl, ap (λ (s : SessionState). s.terminal) takes.1) };
        others = takes.0;
      };
      at = ap (λ (s : SessionState). s.at) takes.1;
      err = ap (λ (s : SessionState). s.err) takes.1;
      owner = ap (λ (s : SessionState). s.owner) takes.1;
      policy = ap (λ (s : SessionState). s.policy) takes.1;
    })
