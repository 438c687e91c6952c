-- What a reader takes a line as.
use Rattle.std.proofs.Common.{◌≡◌, ℕ, true, not, List, [], ◌∷◌, ◌++◌, map as each, Some, None, Ok, Err, Result, Option, refl, sym, ap, subst, ◌∙◌, append_assoc}
use Rattle.std.specs.Prelude.{codes}
use Rattle.std.specs.List.{flat_map, list_all}
use Rattle.std.proofs.lemmas.List.{map-append, append-nil}
use Rattle.std.proofs.lemmas.Grind.{flat_map-append}
use Rattle.dc_text.specs.Bytes.{is_nil}
use Rattle.dc_words.specs.declared.stream.Line.{Line}
use Rattle.dc_words.specs.declared.stream.Line.TheVariants as line
use Rattle.dc_template.proofs.TestLemmas.{both, both_hold, list_all-append}
use Rattle.dc_template.specs.declared.kinds.Kind.TheVariants.{Note}
use Rattle.dc_frontend.specs.declared.shown.Shown.{Shown}
use Rattle.dc_pass.specs.declared.calls.WireCall.{WireCall}
use Rattle.dc_pass.specs.declared.calls.WireCall.TheVariants.{Ask, Tell}
use Rattle.dc_pass.specs.declared.calls.WireError.{WireError}
use Rattle.dc_pass.specs.declared.calls.WireError.TheVariants.{Bad, OutOfMemory}
use Rattle.dc_pass.specs.declared.begun.Begun.{Begun}
use Rattle.dc_pass.specs.declared.begun.Begun.TheVariants.{Nothing, Titled, Asking}
use Rattle.dc_pass.specs.declared.begun.Step.{Step}
use Rattle.dc_pass.specs.declared.begun.Step.TheVariants.{Begins, Completes}
use Rattle.dc_pass.specs.Wire.{question_lines, opening_lines, call_lines, is_call, is_question}
use Rattle.dc_pass.specs.Reading.{calls, GoesOn, IsWhole, AreUnreadable, Takes}
use Rattle.dc_pass.specs.Machine.{begun_lines, lines_begun, is_begun, is_part, part_lines, explained, step_by, Gives}
use Rattle.dc_pass.proofs.PartLemmas.{Completed, completed}
use Rattle.dc_pass.proofs.StepLemmas.{SaysLine, line_says}
use Rattle.dc_pass.proofs.RunLemmas.{makes, go_on, run, run-append, begun_run, call_run}

-- ---- each call that is begun goes on

record CallOn (b : Begun) : Type 0 where
  call : WireCall
  next : List ℕ
  behind : List (List ℕ)
  is : is_call call ≡ true
  lines_are : call_lines call ≡ begun_lines b ++ next ∷ behind

regroup : (a b c d e : List (List ℕ)) → (a ++ (b ++ (c ++ d))) ++ e ≡ ((a ++ b) ++ c) ++ (d ++ e)
regroup a b c d e = simp append_assoc

some_more : (shown : List Shown) (q : Shown) → not (is_nil (shown ++ q ∷ [])) ≡ true
some_more [] q = refl
some_more (s ∷ shown) q = refl

call_on : (b : Begun) → is_begun b ≡ true → CallOn b
call_on Nothing is = record { call = Tell []; next = codes "tell"; behind = []; is = refl; lines_are = refl }
call_on (Titled title) is = record {
  call = Ask title true (explained (codes "a") Note [] [] ∷ []);
  next = codes "backup true";
  behind = flat_map question_lines (explained (codes "a") Note [] [] ∷ []) ++ codes "ask" ∷ [];
  is = refl;
  lines_are = refl;
}
call_on (Asking title backup shown p) is =
    let t : (list_all is_question shown ≡ true) × (is_part p ≡ true) = both _ _ is in
    let c : Completed p = completed p t.1 in
    let ask : List (List ℕ) = codes "ask" ∷ [] in
    record {
      call = Ask title backup (shown ++ c.shown ∷ []);
      next = c.next;
      behind = c.behind ++ ask;
      is = both_hold _ _ (some_more shown c.shown) (list_all-append is_question shown (c.shown ∷ []) ∙ both_hold _ _ t.0 (both_hold _ _ c.is refl));
      lines_are = ap (λ (ls : List (List ℕ)). (opening_lines title backup ++ ls) ++ ask)
          (flat_map-append question_lines shown (c.shown ∷ []) ∙ ap (λ (ls : List (List ℕ)). flat_map question_lines shown ++ ls) (append-nil (question_lines c.shown) ∙ c.lines_are))
          ∙ regroup (opening_lines title backup) (flat_map question_lines shown) (part_lines p) (c.next ∷ c.behind) ask;
    }

pub goes_on : (b : Begun) → is_begun b ≡ true → GoesOn calls (lines_begun b)
goes_on b is =
    let c : CallOn b = call_on b is in
    record {
      next = line.Whole c.next;
      behind = each line.Whole c.behind;
      front = record { whole = c.call; is = c.is; lines_are = ap (each line.Whole) c.lines_are ∙ map-append line.Whole (begun_lines b) (c.next ∷ c.behind) };
    }

-- ---- what a step is taken as

pub takes_more : (b more : Begun) (l : Line) → is_begun b ≡ true → step_by b l ≡ Some (Begins more) → Takes calls (lines_begun b) l (Ok None) (lines_begun more)
takes_more b more l is e = let s : SaysLine b l (Begins more) = line_says b l (Begins more) is e in (goes_on more s.1, s.0)

pub stays_begun : (b more : Begun) (l : Line) → is_begun b ≡ true → step_by b l ≡ Some (Begins more) → is_begun more ≡ true
stays_begun b more l is e = let s : SaysLine b l (Begins more) = line_says b l (Begins more) is e in s.1

pub takes_whole : (b : Begun) (call : WireCall) (l : Line) → is_begun b ≡ true → step_by b l ≡ Some (Completes call) → Takes calls (lines_begun b) l (Ok (Some call)) []
takes_whole b call l is e = let s : SaysLine b l (Completes call) = line_says b l (Completes call) is e in (record { is = s.1; lines_are = s.0 }, refl)

-- lines that all are whole begin with a line, as it came
pub record Apart (lines front : List (List ℕ)) (l : Line) (behind : List Line) : Type 0 where
  pub bytes : List ℕ
  pub others : List (List ℕ)
  pub line_is : l ≡ line.Whole bytes
  pub behind_are : behind ≡ each line.Whole others
  pub lines_are : lines ≡ front ++ bytes ∷ others

pub apart : (lines front : List (List ℕ)) (l : Line) (behind : List Line) → each line.Whole lines ≡ each line.Whole front ++ l ∷ behind → Apart lines front l behind
apart [] [] l behind e = absurd (cc)
apart [] (f ∷ front) l behind e = absurd (cc)
apart (x ∷ lines) [] l behind e =
    let here : line.Whole x ≡ l = cc in
    let rest : each line.Whole lines ≡ behind = cc in
    record { bytes = x; others = lines; line_is = sym here; behind_are = sym rest; lines_are = refl }
apart (x ∷ lines) (f ∷ front) l behind e =
    let same : x ≡ f = cc in
    let rest : each line.Whole lines ≡ each line.Whole front ++ l ∷ behind = cc in
    let a : Apart lines front l behind = apart lines front l behind rest in
    record { bytes = a.bytes; others = a.others; line_is = a.line_is; behind_are = a.behind_are; lines_are = (λ i. same i ∷ a.lines_are i) }

pub takes_bad : (b : Begun) (l : Line) → is_begun b ≡ true → step_by b l ≡ None → AreUnreadable calls (lines_begun b ++ l ∷ [])
takes_bad b l is e = λ behind front.
    let a : Apart (call_lines front.whole) (begun_lines b) l behind =
    apart (call_lines front.whole) (begun_lines b) l behind (front.lines_are ∙ append_assoc (lines_begun b) (l ∷ []) behind) in
    let whole : run Nothing (call_lines front.whole) ≡ Some (Completes front.whole) = call_run front.whole front.is in
    let steps : run Nothing (begun_lines b ++ a.bytes ∷ a.others) ≡ run b (a.bytes ∷ a.others) =
    run-append Nothing b (begun_lines b) (a.bytes ∷ a.others) (begun_run b is) in
    let none : makes b a.bytes ≡ None = subst (λ (x : Line). step_by b x ≡ None) a.line_is e in
    let stopped : run b (a.bytes ∷ a.others) ≡ None = ap (λ m. go_on m (λ more. run more a.others) (is_nil a.others)) none in
    let off : None ≡ Some (Completes front.whole) = sym stopped ∙ sym steps ∙ sym (ap (run Nothing) a.lines_are) ∙ whole in
    cc

-- ---- what is taken of a reader's lines

pub takes_err : (b : Begun) (l : Line) (e : WireError) (old new : List Line) (result : Result (Option WireCall) WireError) → result ≡ Err e → lines_begun b ≡ old → is_begun b ≡ true
    → Gives {S = Step} (Err e) (step_by b l) → new ≡ [] → Takes calls old l result new
takes_err b l Bad old new result r o is g n =
    subst (λ x. Takes calls old l x new) (sym r) (subst (λ x. AreUnreadable calls (x ++ l ∷ [])) o (takes_bad b l is g), n)
takes_err b l OutOfMemory old new result r o is g n = subst (λ x. Takes calls old l x new) (sym r) n

pub takes_begun : (b more : Begun) (l : Line) (old : List Line) → lines_begun b ≡ old → is_begun b ≡ true → step_by b l ≡ Some (Begins more)
    → GoesOn calls (lines_begun more) × (lines_begun more ≡ old ++ l ∷ [])
takes_begun b more l old o is e = let t : Takes calls (lines_begun b) l (Ok None) (lines_begun more) = takes_more b more l is e in (t.0, t.1 ∙ ap (λ (x : List Line). x ++ l ∷ []) o)

pub takes_call : (b : Begun) (call : WireCall) (l : Line) (old : List Line) → lines_begun b ≡ old → is_begun b ≡ true → step_by b l ≡ Some (Completes call)
    → IsWhole calls (old ++ l ∷ []) call
takes_call b call l old o is e = let t : Takes calls (lines_begun b) l (Ok (Some call)) [] = takes_whole b call l is e in subst (λ (x : List Line). IsWhole calls (x ++ l ∷ []) call) o t.0
