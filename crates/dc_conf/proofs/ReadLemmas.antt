-- What the reader makes of the lines of a text.
use Rattle.std.proofs.Common.{◌≡◌, ℕ, ◌+◌, ◌≤◌, Bool, true, false, cond, List, [], ◌∷◌, ◌++◌, Some, None, Result, Ok, Err, map as each, refl, sym, ap, ◌∙◌, subst, append_assoc, arith}
use Rattle.std.specs.Prelude.{MatchResult, is_some, ◌||◌}
use Rattle.std.specs.List.{AllByRecursion, list_any}
use Rattle.std.specs.Ordering.{eq_by_cmp}
use Rattle.std.specs.Str.{bytes_eq}
use Rattle.std.specs.FinMap as map
use Rattle.std.proofs.lemmas.List.{map-append}
use Rattle.std.proofs.lemmas.Map.Text.{is_eq-slice_cmp}
use Rattle.dc_text.specs.Bytes.{is_blank}
use Rattle.dc_text.specs.Lines.{lines_of}
use Rattle.dc_text.specs.Maps.{text_cmp, set_of}
use Rattle.dc_text.proofs.MapLemmas.{get-set_of, set_of-push}
use Rattle.dc_conf.specs.declared.faults.Fault.{Fault}
use Rattle.dc_conf.specs.declared.faults.ConfKind.{ConfKind}
use Rattle.dc_conf.specs.declared.faults.ConfKind.TheVariants.{NoColon, Twice}
use Rattle.dc_conf.specs.declared.reading.Gathered.{Gathered}
use Rattle.dc_conf.specs.Stanzas.{Line, Stanza, numbered, is_comment, has_colon, field_in, fields_of, stanzas}
use Rattle.dc_conf.specs.ConfFaults.{fault, fault_if, line_faults, first_pass}
use Rattle.dc_conf.specs.Machine.{kept, at_start, finished, ended, with_field, goes_on, run, stanzas_read, least_of, Rise}
use Rattle.dc_conf.proofs.GatherLemmas.{fields-each, kept_lines, gather, rest_faults, stanzas-gather, first_pass-rest, rest_above, rise-gather}
use Rattle.dc_conf.proofs.LeastLemmas.{least_keeps}
use Rattle.dc_conf.proofs.TestLemmas.{all_each, all-append, bytes_eq-sym, false_unless}

-- ---- the keys of a stanza

is_some-cond : {X : Type 0} (b : Bool) (x : X) → is_some (cond b (Some x) None) ≡ b
is_some-cond true x = refl
is_some-cond false x = refl

same_any : (q : List ℕ) (fields : Stanza) → list_any (eq_by_cmp text_cmp q) (each (λ field. field.key) fields) ≡ list_any (λ field. bytes_eq field.key q) fields
same_any q [] = refl
same_any q (field ∷ fields) = λ i. (is_eq-slice_cmp q field.key ∙ bytes_eq-sym q field.key) i || same_any q fields i

contains-keys : (fields : Stanza) (q : List ℕ) → map.contains_key (set_of (each (λ field. field.key) fields)) q ≡ list_any (λ field. bytes_eq field.key q) fields
contains-keys fields q =
    ap is_some (get-set_of (each (λ field. field.key) fields) q) ∙ is_some-cond (list_any (eq_by_cmp text_cmp q) (each (λ field. field.key) fields)) tt ∙ same_any q fields

-- ---- what was gathered of some lines

pub record Sees (begun : List Line) (gathered : Gathered) : Type 0 where
  pub colons : AllByRecursion (λ line. has_colon line.text ≡ true) begun
  pub fields : gathered.open_stanza ≡ each field_in begun
  pub keys : gathered.keys ≡ set_of (each (λ field. field.key) gathered.open_stanza)

kept-each : (begun : List Line) → AllByRecursion (λ line. has_colon line.text ≡ true) begun → kept (each field_in begun) ≡ each fields_of (kept_lines begun)
kept-each [] all = refl
kept-each (line ∷ begun) all = ap (λ s. s ∷ []) (sym (fields-each (line ∷ begun) all))

kept-fields : (begun : List Line) (gathered : Gathered) → Sees begun gathered → kept gathered.open_stanza ≡ each fields_of (kept_lines begun)
kept-fields begun gathered sees = ap kept sees.fields ∙ kept-each begun sees.colons

-- the reader took all lines, which have no fault, or it found the least of their faults
abbrev Found : List Fault → List Stanza → Result Gathered Fault → Type 0
Found faults out r = MatchResult r (λ t. (faults ≡ []) × (finished t ≡ out)) (λ f. least_of faults ≡ Some f)

-- ---- one line after another

sees_more : (begun : List Line) (line : Line) (gathered : Gathered) → has_colon line.text ≡ true → Sees begun gathered
    → Sees (begun ++ line ∷ []) (record gathered { open_stanza = gathered.open_stanza ++ field_in line ∷ []; keys = map.insert gathered.keys (field_in line).key tt })
sees_more begun line gathered colon sees = record {
  colons = all-append (λ l. has_colon l.text ≡ true) begun (line ∷ []) sees.colons (colon, tt);
  fields = ap (λ fs. fs ++ field_in line ∷ []) sees.fields ∙ sym (map-append field_in begun (line ∷ []));
  keys =
      ap (λ k. map.insert k (field_in line).key tt) sees.keys
      ∙ sym (set_of-push (each (λ field. field.key) gathered.open_stanza) (field_in line).key)
      ∙ ap set_of (sym (map-append (λ field. field.key) gathered.open_stanza (field_in line ∷ [])));
}

is_repeated : (begun : List Line) (line : Line) (gathered : Gathered) → Sees begun gathered
    → map.contains_key gathered.keys (field_in line).key ≡ list_any (λ field. bytes_eq field.key (field_in line).key) (fields_of begun)
is_repeated begun line gathered sees =
    ap (λ k. map.contains_key k (field_in line).key) sees.keys ∙ contains-keys gathered.open_stanza (field_in line).key
    ∙ ap (list_any (λ field. bytes_eq field.key (field_in line).key)) (sees.fields ∙ sym (fields-each begun sees.colons))

-- a first fault on this line is the least
first_least : (n : ℕ) (kind : ConfKind) (later : List Fault) → AllByRecursion (λ f. n ≤ f.line) later → least_of (fault n kind ∷ later) ≡ Some (fault n kind)
first_least n kind later above = least_keeps (fault n kind ∷ []) later (fault n kind) refl above

machine : (n : ℕ) (texts : List (List ℕ)) (begun : List Line) (gathered : Gathered) → Sees begun gathered
    → Found (rest_faults begun (numbered n texts)) (gathered.done ++ each fields_of (gather begun (numbered n texts))) (run (numbered n texts) gathered)
machine n [] begun gathered sees = (refl, ap (λ ss. gathered.done ++ ss) (ap kept sees.fields ∙ kept-each begun sees.colons))
machine n (text ∷ texts) begun gathered sees =
    let line : Line = record { number = n; text = text } in
    let lines : List Line = numbered (n + 1) texts in
    let more : List Line = begun ++ line ∷ [] in
    let is : Bool = list_any (λ field. bytes_eq field.key (field_in line).key) (fields_of begun) in
    let next : Gathered = record gathered { open_stanza = gathered.open_stanza ++ field_in line ∷ []; keys = map.insert gathered.keys (field_in line).key tt } in
    let above : AllByRecursion (λ f. n ≤ f.line) (rest_faults more lines) =
    all_each (λ f. n + 1 ≤ f.line) (λ f. n ≤ f.line) (λ f h. omega arith) (rest_faults more lines) (rest_above (n + 1) more texts) in
    elim (is_comment text) as (λ t. Found
    (cond t (rest_faults begun lines) (cond (is_blank text) (rest_faults [] lines) (line_faults begun line ++ rest_faults more lines)))
    (gathered.done ++ each fields_of (cond t (gather begun lines) (cond (is_blank text) (kept_lines begun ++ gather [] lines) (gather more lines))))
    (goes_on (cond t (Ok gathered) (cond (is_blank text) (Ok (ended gathered)) (cond (has_colon text) (with_field gathered (field_in line)) (Err (fault n NoColon))))) (run lines))) [
      | true ↦ machine (n + 1) texts begun gathered sees
      | false ↦ elim (is_blank text) as (λ t. Found
          (cond t (rest_faults [] lines) (line_faults begun line ++ rest_faults more lines))
          (gathered.done ++ each fields_of (cond t (kept_lines begun ++ gather [] lines) (gather more lines)))
          (goes_on (cond t (Ok (ended gathered)) (cond (has_colon text) (with_field gathered (field_in line)) (Err (fault n NoColon)))) (run lines))) [
            | true ↦ subst (λ out. Found (rest_faults [] lines) out (run lines (ended gathered)))
                (append_assoc gathered.done (kept gathered.open_stanza) (each fields_of (gather [] lines))
                ∙ ap (λ ss. gathered.done ++ ss) (ap (λ ss. ss ++ each fields_of (gather [] lines)) (ap kept sees.fields ∙ kept-each begun sees.colons) ∙ sym (map-append fields_of (kept_lines begun) (gather [] lines))))
                (machine (n + 1) texts [] (ended gathered) (record { colons = tt; fields = refl; keys = refl }))
            | false ↦ elim (has_colon text) as (λ t. has_colon text ≡ t → Found
                (cond t (fault_if is n Twice) (fault n NoColon ∷ []) ++ rest_faults more lines)
                (gathered.done ++ each fields_of (gather more lines))
                (goes_on (cond t (with_field gathered (field_in line)) (Err (fault n NoColon))) (run lines))) [
                  | true ↦ λ colon. elim (map.contains_key gathered.keys (field_in line).key) as (λ t. map.contains_key gathered.keys (field_in line).key ≡ t → Found
                      (fault_if is n Twice ++ rest_faults more lines)
                      (gathered.done ++ each fields_of (gather more lines))
                      (goes_on (cond t (Err (fault n Twice)) (Ok next)) (run lines))) [
                        | true ↦ λ e. subst (λ u. Found (fault_if u n Twice ++ rest_faults more lines) (gathered.done ++ each fields_of (gather more lines)) (Err (fault n Twice)))
                            (sym e ∙ is_repeated begun line gathered sees) (first_least n Twice (rest_faults more lines) above)
                        | false ↦ λ e. subst (λ u. Found (fault_if u n Twice ++ rest_faults more lines) (gathered.done ++ each fields_of (gather more lines)) (run lines next))
                            (sym e ∙ is_repeated begun line gathered sees) (machine (n + 1) texts more next (sees_more begun line gathered colon sees))
                      ] refl
                  | false ↦ λ colon. first_least n NoColon (rest_faults more lines) above
                ] refl
          ]
    ]

-- ---- the whole text

whole : (text : List ℕ) → Found (rest_faults [] (numbered 1 (lines_of text))) (each fields_of (gather [] (numbered 1 (lines_of text)))) (run (numbered 1 (lines_of text)) at_start)
whole text = machine 1 (lines_of text) [] at_start (record { colons = tt; fields = refl; keys = refl })

pub record IsRead (text : List ℕ) (read : List Stanza) : Type 0 where
  pub clean : first_pass (stanzas text) ≡ []
  pub are : read ≡ each fields_of (stanzas text)
  pub rise : Rise 1 read

-- the reader read the stanzas, or it found the fault that decides
pub read_is : (text : List ℕ) → MatchResult (stanzas_read text) (IsRead text) (λ f. least_of (first_pass (stanzas text)) ≡ Some f)
read_is text =
    let lines : List Line = numbered 1 (lines_of text) in
    elim (run lines at_start) as (λ r. Found (rest_faults [] lines) (each fields_of (gather [] lines)) r → MatchResult (goes_on r (λ gathered. Ok (finished gathered))) (IsRead text) (λ f. least_of (first_pass (stanzas text)) ≡ Some f)) [
      | Ok t ↦ λ h. record {
        clean = first_pass-rest text ∙ h.0;
        are = h.1 ∙ ap (each fields_of) (sym (stanzas-gather text));
        rise = subst (Rise 1) (sym h.1) (rise-gather 1 1 1 [] (lines_of text) (omega arith) (omega arith) tt h.0);
      }
      | Err f ↦ λ h. ap least_of (first_pass-rest text) ∙ h
    ] (whole text)
