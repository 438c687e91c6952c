-- The reader's state after some lines, and what it answers of a text.
use Rattle.std.proofs.Common.{◌≡◌, ℕ, Bool, true, false, cond, List, [], ◌∷◌, ◌++◌, Some, None, Option, Ok, Err, Result, refl, sym, ap, ◌∙◌, subst, append_assoc, inl, inr}
use Rattle.std.specs.Prelude.{◌≢◌, ◌⊎◌, ◌||◌, is_some, MatchResult}
use Rattle.std.specs.Option.{option_map_or}
use Rattle.std.specs.Ordering.{eq_by_cmp, is_eq}
use Rattle.std.specs.Cmp.Lexicographic.{nat_list_cmp_total}
use Rattle.std.proofs.lemmas.Cmp.{tied_itself}
use Rattle.std.specs.FinMap.{contains_key}
use Rattle.std.specs.List.{list_any, filter_map, AllByRecursion, cons_option}
use Rattle.std.proofs.lemmas.List.{append-nil}
use Rattle.std.proofs.lemmas.List.Elements.{filter_map-append}
use Rattle.std.proofs.lemmas.Result.{MatchResult-at_ok, MatchResult-at_err}
use Rattle.dc_text.specs.Faults.{AllStand, IsFirstFault}
use Rattle.dc_text.specs.Lines.{lines_of}
use Rattle.dc_text.specs.Maps.{AreDistinct, set_of, text_cmp}
use Rattle.dc_text.proofs.FaultLemmas.{run_finds}
use Rattle.dc_item.specs.Records.{is_blank, until_blank, since_blank, name_in, item_of, lines_said, records_of, numbered, Stands, LineStands, ReadsLines, HasReading, IsNew, IsAnswer, IsBad, EndsInVariables, OfOwners, OfFlags, OfVariables}
use Rattle.dc_item.specs.Reader.{added, entry_of, closed, with_current, begun, has_name, step, at_start, taken_or, line_step, read_all, Fails}
use Rattle.dc_item.specs.Table.{names_of}
use Rattle.dc_item.proofs.FirstBad.{HasFault, bad_from_fault, reading_from_all}
use Rattle.dc_item.proofs.Groups.{Line, lines_said-append, IsFurther, since_blank-blank, since_blank-push, records_of-closed, until_blank-body, tail_only, names-records_of}
use Rattle.dc_item.proofs.ItemLemmas.{same_key, contains_key-set_of}
use Rattle.dc_item.proofs.OpenRecord.{IsOpen, FitsGroup, Taken, added_taken, added_refused}
use Rattle.dc_item.specs.Grammar.{RecordLine, Blank, Name, Owners, Flags, Variables, Variable, Field, Nothing}
use Rattle.dc_item.specs.declared.entry.Entry.{Entry}
use Rattle.dc_item.specs.declared.reader.Open.{Open}
use Rattle.dc_item.specs.declared.reader.Reader.{Reader}
use Rattle.dc_item.specs.declared.records.RecordError.{RecordError}
use Rattle.dc_item.specs.declared.records.RecordError.TheVariants.{Bad, OutOfMemory}

-- nothing, or lines up to a blank one
abbrev IsClosed : List Line → Type 0
IsClosed front = (front ≡ []) ⊎ ((fs : List Line) × (n : ℕ) × (front ≡ fs ++ (n, Blank) ∷ []))

-- the lines of the group are those of the open record
record HasCurrent (group : List Line) (o : Open) : Type 0 where
  pub line : ℕ
  pub rest : List Line
  pub head : group ≡ (line, Name o.name) ∷ rest
  pub is_open : IsOpen (lines_said group) line o

abbrev IsCurrent : List Line → Option Open → Type 0
IsCurrent group None = group ≡ []
IsCurrent group (Some o) = HasCurrent group o

-- the reader has read these lines
record Holds (ls : List Line) (r : Reader) : Type 0 where
  pub front : List Line
  pub group : List Line
  pub whole : ls ≡ front ++ group
  pub since : since_blank (lines_said ls) ≡ lines_said group
  pub ended : (front ≡ []) ⊎ ((fs : List Line) × (n : ℕ) × (front ≡ fs ++ (n, Blank) ∷ []))
  pub done : r.done ≡ records_of front
  pub current : IsCurrent group r.current

-- the records of closed lines and of those after them
records-parted : (front gs : List Line) → IsClosed front → records_of (front ++ gs) ≡ records_of front ++ records_of gs
records-parted front gs ended = elim ended as (λ _. records_of (front ++ gs) ≡ records_of front ++ records_of gs) [
  | inl e ↦ subst (λ f. records_of (f ++ gs) ≡ records_of f ++ records_of gs) (sym e) refl
  | inr (fs, n, e) ↦ subst (λ f. records_of (f ++ gs) ≡ records_of f ++ records_of gs) (sym e) (records_of-closed fs gs n)
]

abbrev entries_of : Option Open → List Entry
entries_of current = option_map_or (λ o. entry_of o ∷ []) current []

same_rest : (group : List Line) (o : Open) → (h : HasCurrent group o) → lines_said h.rest ≡ h.is_open.rest
same_rest group o h =
    let a : lines_said group ≡ Name o.name ∷ lines_said h.rest = ap lines_said h.head in
    let b : lines_said group ≡ Name o.name ∷ h.is_open.rest = h.is_open.group_is in
    cc

-- what is open makes the last record
records-current : (group tail : List Line) (current : Option Open) → IsCurrent group current → until_blank (lines_said tail) ≡ [] → records_of tail ≡ [] → records_of (group ++ tail) ≡ entries_of current
records-current group tail None is ends none = ap (λ g. records_of (g ++ tail)) is ∙ none
records-current group tail (Some o) is ends none =
    let same : lines_said is.rest ≡ is.is_open.rest = same_rest group o is in
    let body : AllByRecursion IsFurther (lines_said is.rest) = subst (AllByRecursion IsFurther) (sym same) is.is_open.body in
    let rest : until_blank (lines_said (is.rest ++ tail)) ≡ is.is_open.rest
    = ap until_blank (lines_said-append is.rest tail) ∙ until_blank-body (lines_said is.rest) (lines_said tail) body ∙ ap (λ xs. lines_said is.rest ++ xs) ends ∙ append-nil (lines_said is.rest) ∙ same in
    let item : item_of (until_blank (lines_said (is.rest ++ tail))) ≡ o.item = ap item_of rest ∙ sym is.is_open.item_is in
    let line_is : is.line ≡ o.line = sym is.is_open.line_is in
    let first : ◌≡◌ {A = Entry} (record { name = o.name; item = item_of (until_blank (lines_said (is.rest ++ tail))); line = is.line }) (entry_of o) = λ i. record { name = o.name; item = item i; line = line_is i } in
    ap (λ g. records_of (g ++ tail)) is.head
    ∙ ap (λ es. record { name = o.name; item = item_of (until_blank (lines_said (is.rest ++ tail))); line = is.line } ∷ es) (tail_only is.rest tail body none)
    ∙ ap (λ (e : Entry). e ∷ []) first

closed-done : (r : Reader) → (closed r).done ≡ r.done ++ entries_of r.current
closed-done r = elim r.current as (λ c. Reader.done (option_map_or (λ o. record r { done = r.done ++ entry_of o ∷ []; current = None }) c r) ≡ r.done ++ entries_of c) [
  | None ↦ sym (append-nil r.done)
  | Some o ↦ refl
]

closed-current : (r : Reader) → (closed r).current ≡ None
closed-current r = elim r.current as (λ c. r.current ≡ c → Reader.current (option_map_or (λ o. record r { done = r.done ++ entry_of o ∷ []; current = None }) c r) ≡ None) [
  | None ↦ λ e. e
  | Some o ↦ λ e. refl
] refl

-- the reader's records, with what is open, are those of the lines
closed-records : (ls tail : List Line) (r : Reader) → Holds ls r → until_blank (lines_said tail) ≡ [] → records_of tail ≡ [] → (closed r).done ≡ records_of (ls ++ tail)
closed-records ls tail r h ends none =
    closed-done r ∙ ap (λ es. es ++ entries_of r.current) h.done
    ∙ ap (λ es. records_of h.front ++ es) (sym (records-current h.group tail r.current h.current ends none))
    ∙ sym (records-parted h.front (h.group ++ tail) h.ended)
    ∙ ap records_of (sym (append_assoc h.front h.group tail) ∙ ap (λ xs. xs ++ tail) (sym h.whole))

blank_taken : (ls : List Line) (n : ℕ) (r : Reader) → Holds ls r → Holds (ls ++ (n, Blank) ∷ []) (closed r)
blank_taken ls n r h = record {
  front = ls ++ (n, Blank) ∷ [];
  group = [];
  whole = sym (append-nil (ls ++ (n, Blank) ∷ []));
  since = ap since_blank (lines_said-append ls ((n, Blank) ∷ [])) ∙ since_blank-blank (lines_said ls);
  ended = inr (ls, n, refl);
  done = closed-records ls ((n, Blank) ∷ []) r h refl refl;
  current = subst (IsCurrent []) (sym (closed-current r)) refl;
}

-- one more line of the open record, or its first
whole_push : (ls : List Line) (r : Reader) (l : Line) → (h : Holds ls r) → ls ++ l ∷ [] ≡ h.front ++ (h.group ++ l ∷ [])
whole_push ls r l h = ap (λ xs. xs ++ l ∷ []) h.whole ∙ append_assoc h.front h.group (l ∷ [])

since_push : (ls : List Line) (r : Reader) (n : ℕ) (p : RecordLine) → (h : Holds ls r) → is_blank p ≡ false → since_blank (lines_said (ls ++ (n, p) ∷ [])) ≡ lines_said (h.group ++ (n, p) ∷ [])
since_push ls r n p h e =
    ap since_blank (lines_said-append ls ((n, p) ∷ [])) ∙ since_blank-push (lines_said ls) p e ∙ ap (λ xs. xs ++ p ∷ []) h.since ∙ sym (lines_said-append h.group ((n, p) ∷ []))

none_of : {X : Type 0} (o : Option X) → is_some o ≡ false → o ≡ None
none_of None e = refl
none_of (Some x) e = absurd (cc)

neither : {X : Type 0} (a b : Bool) (x y : X) → cond (a || b) None (Some x) ≡ Some y → (a ≡ false) × (b ≡ false) × (x ≡ y)
neither true b x y e = absurd (cc)
neither false true x y e = absurd (cc)
neither false false x y e = (refl, refl, cc)

either : {X : Type 0} (a b : Bool) (x : X) → cond (a || b) None (Some x) ≡ None → (a ≡ true) ⊎ ((a ≡ false) × (b ≡ true))
either true b x e = inl refl
either false true x e = inr (refl, refl)
either false false x e = absurd (cc)

-- ---- names

tied : (j k : List ℕ) → j ≡ k → eq_by_cmp text_cmp k j ≡ true
tied j k e = ap (λ i. is_eq (text_cmp k i)) e ∙ ap is_eq (tied_itself nat_list_cmp_total k)

none_is : (name : List ℕ) (names : List (List ℕ)) → list_any (eq_by_cmp text_cmp name) names ≡ false → AllByRecursion (λ n. n ≢ name) names
none_is name [] e = tt
none_is name (n ∷ names) e = elim (eq_by_cmp text_cmp name n) as (λ b. eq_by_cmp text_cmp name n ≡ b → (b || list_any (eq_by_cmp text_cmp name) names) ≡ false → (n ≢ name) × AllByRecursion (λ n. n ≢ name) names) [
  | true ↦ λ _ f. absurd (cc)
  | false ↦ λ s f. ((λ same. absurd (let t : eq_by_cmp text_cmp name n ≡ true = tied n name same in cc)), none_is name names f)
] refl e

one_is : (name : List ℕ) (names : List (List ℕ)) → list_any (eq_by_cmp text_cmp name) names ≡ true → AllByRecursion (λ n. n ≢ name) names → ⊥
one_is name [] e n = cc
one_is name (n ∷ names) e all = elim (eq_by_cmp text_cmp name n) as (λ b. eq_by_cmp text_cmp name n ≡ b → (b || list_any (eq_by_cmp text_cmp name) names) ≡ true → ⊥) [
  | true ↦ λ s _. all.0 (sym (same_key name n s))
  | false ↦ λ s f. one_is name names f all.1
] refl e

no_group : (ls : List Line) (r : Reader) → (h : Holds ls r) → r.current ≡ None → h.group ≡ []
no_group ls r h e = subst (IsCurrent h.group) e h.current

-- where no record is open, the names of the records are those of the lines
name_there : (ls : List Line) (r : Reader) (name : List ℕ) → Holds ls r → is_some r.current ≡ false → has_name r.done name ≡ list_any (eq_by_cmp text_cmp name) (filter_map name_in (lines_said ls))
name_there ls r name h c =
    let group : h.group ≡ [] = no_group ls r h (none_of r.current c) in
    let front : h.front ≡ ls = sym (h.whole ∙ ap (λ g. h.front ++ g) group ∙ append-nil h.front) in
    ap (λ es. has_name es name) (h.done ∙ ap records_of front) ∙ ap (λ names. contains_key (set_of names) name) (sym (names-records_of ls)) ∙ contains_key-set_of (filter_map name_in (lines_said ls)) name

name_taken : (ls : List Line) (n : ℕ) (r : Reader) (name : List ℕ) → Holds ls r → is_some r.current ≡ false → has_name r.done name ≡ false
    → Stands (lines_said ls) (Name name) × Holds (ls ++ (n, Name name) ∷ []) (record r { current = Some (begun name n) })
name_taken ls n r name h c new =
    let group : h.group ≡ [] = no_group ls r h (none_of r.current c) in
    let one : h.group ++ (n, Name name) ∷ [] ≡ (n, Name name) ∷ [] = ap (λ xs. xs ++ (n, Name name) ∷ []) group in
    let parts : lines_said (h.group ++ (n, Name name) ∷ []) ≡ Name name ∷ [] = ap lines_said one in (
      (h.since ∙ ap lines_said group, none_is name (filter_map name_in (lines_said ls)) (sym (name_there ls r name h c) ∙ new)),
      record {
        front = h.front;
        group = h.group ++ (n, Name name) ∷ [];
        whole = whole_push ls r (n, Name name) h;
        since = since_push ls r n (Name name) h refl;
        ended = h.ended;
        done = h.done;
        current = record {
          line = n;
          rest = [];
          head = one;
          is_open = record {
            rest = [];
            group_is = parts;
            item_is = refl;
            line_is = refl;
            body = tt;
            owners = subst (λ g. IsNew g OfOwners) (sym parts) ((λ e. cc), tt);
            flags = subst (λ g. IsNew g OfFlags) (sym parts) ((λ e. cc), tt);
            variables = subst (λ g. IsNew g OfVariables) (sym parts) ((λ e. cc), tt);
            under = λ e. subst EndsInVariables parts e;
          };
        };
      },
    )

nil_from_parts : (group : List Line) → lines_said group ≡ [] → group ≡ []
nil_from_parts [] e = refl
nil_from_parts (l ∷ group) e = absurd (cc)

-- no record is open where the group is empty
open_has_lines : (ls : List Line) (r : Reader) (o : Open) → (h : Holds ls r) → HasCurrent h.group o → since_blank (lines_said ls) ≡ [] → ⊥
open_has_lines ls r o h is none =
    let a : h.group ≡ [] = nil_from_parts h.group (sym h.since ∙ none) in
    let b : h.group ≡ (is.line, Name o.name) ∷ is.rest = is.head in
    cc

name_refused : (ls : List Line) (r : Reader) (name : List ℕ) → Holds ls r → (is_some r.current ≡ true) ⊎ ((is_some r.current ≡ false) × (has_name r.done name ≡ true)) → Stands (lines_said ls) (Name name) → ⊥
name_refused ls r name h why stands = elim why as (λ _. ⊥) [
  | inl c ↦ elim r.current as (λ o. is_some o ≡ true → IsCurrent h.group o → ⊥) [
    | None ↦ λ c _. cc
    | Some o ↦ λ _ is. open_has_lines ls r o h is stands.0
  ] c h.current
  | inr (c, n) ↦ one_is name (filter_map name_in (lines_said ls)) (sym (name_there ls r name h c) ∙ n) stands.1
]

-- a further line
inner_some : (r t : Reader) (d : Option Open) → option_map_or (λ p. Some (record r { current = Some p })) d None ≡ Some t → (q : Open) × (d ≡ Some q) × (record r { current = Some q } ≡ t)
inner_some r t None e = absurd (cc)
inner_some r t (Some q) e = (q, refl, cc)

with_some : (r t : Reader) (f : Open → Option Open) (c : Option Open) → option_map_or (λ o. option_map_or (λ p. Some (record r { current = Some p })) (f o) None) c None ≡ Some t
    → (o : Open) × (q : Open) × (c ≡ Some o) × (f o ≡ Some q) × (record r { current = Some q } ≡ t)
with_some r t f None e = absurd (cc)
with_some r t f (Some o) e = let i : (q : Open) × (f o ≡ Some q) × (record r { current = Some q } ≡ t) = inner_some r t (f o) e in (o, i.0, refl, i.1, i.2)

inner_none : (r : Reader) (d : Option Open) → option_map_or (λ p. Some (record r { current = Some p })) d None ≡ None → d ≡ None
inner_none r None e = refl
inner_none r (Some q) e = absurd (cc)

with_none : (r : Reader) (f : Open → Option Open) (c : Option Open) → option_map_or (λ o. option_map_or (λ p. Some (record r { current = Some p })) (f o) None) c None ≡ None
    → (c ≡ None) ⊎ ((o : Open) × (c ≡ Some o) × (f o ≡ None))
with_none r f None e = inl refl
with_none r f (Some o) e = inr (o, refl, inner_none r (f o) e)

-- an added line leaves the name
name_of_some : (p q : Open) → Some p ≡ Some q → p.name ≡ q.name
name_of_some p q e = let same : p ≡ q = cc in ap (λ (o : Open). o.name) same

name_if : (b : Bool) (n : List ℕ) (p q : Open) → p.name ≡ n → cond b None (Some p) ≡ Some q → n ≡ q.name
name_if true n p q is e = absurd (cc)
name_if false n p q is e = sym is ∙ name_of_some p q e

name_when : (u b : Bool) (n : List ℕ) (p q : Open) → p.name ≡ n → cond u (cond b None (Some p)) None ≡ Some q → n ≡ q.name
name_when true b n p q is e = name_if b n p q is e
name_when false b n p q is e = absurd (cc)

pub name_kept : (p : RecordLine) (o q : Open) → added o p ≡ Some q → o.name ≡ q.name
name_kept Blank o q e = absurd (cc)
name_kept (Name name) o q e = absurd (cc)
name_kept (Owners names) o q e = name_if o.has_owners o.name _ q refl e
name_kept (Flags names) o q e = name_if o.has_flags o.name _ q refl e
name_kept Variables o q e = name_if o.has_variables o.name _ q refl e
name_kept (Variable key value) o q e = name_when o.in_variables (contains_key o.item.variables key) o.name _ q refl e
name_kept (Field key value) o q e = name_if (contains_key o.item.fields key) o.name _ q refl e
name_kept Nothing o q e = absurd (cc)

record Goes (ls : List Line) (l : Line) (t : Reader) : Type 0 where
  pub fits : FitsGroup (since_blank (lines_said ls)) l.1
  pub some : since_blank (lines_said ls) ≢ []
  pub holds : Holds (ls ++ l ∷ []) t

further_taken : (ls : List Line) (n : ℕ) (r t : Reader) (p : RecordLine) → Holds ls r → is_blank p ≡ false → name_in p ≡ None → with_current r (λ o. added o p) ≡ Some t → Goes ls (n, p) t
further_taken ls n r t p h unblank nameless e =
    let w : (o : Open) × (q : Open) × (r.current ≡ Some o) × (added o p ≡ Some q) × (record r { current = Some q } ≡ t) = with_some r t (λ o. added o p) r.current e in
    let is : HasCurrent h.group w.0 = subst (IsCurrent h.group) w.2 h.current in
    let more : Taken (lines_said h.group) is.line p w.1 = added_taken p (lines_said h.group) is.line w.0 w.1 is.is_open w.3 in
    let same_name : (w.0).name ≡ (w.1).name = name_kept p w.0 w.1 w.3 in
    record {
      fits = subst (λ g. FitsGroup g p) (sym h.since) more.0;
      some = λ none. open_has_lines ls r w.0 h is none;
      holds = subst (Holds (ls ++ (n, p) ∷ [])) w.4 (record {
        front = h.front;
        group = h.group ++ (n, p) ∷ [];
        whole = whole_push ls r (n, p) h;
        since = since_push ls r n p h unblank;
        ended = h.ended;
        done = h.done;
        current = record {
          line = is.line;
          rest = is.rest ++ (n, p) ∷ [];
          head = ap (λ g. g ++ (n, p) ∷ []) is.head ∙ ap (λ m. (is.line, Name m) ∷ (is.rest ++ (n, p) ∷ [])) same_name;
          is_open = subst (λ g. IsOpen g is.line w.1) (sym (lines_said-append h.group ((n, p) ∷ []))) more.1;
        };
      });
    }

further_refused : (ls : List Line) (r : Reader) (p : RecordLine) → Holds ls r → with_current r (λ o. added o p) ≡ None → (Stands (lines_said ls) p → FitsGroup (since_blank (lines_said ls)) p) → (Stands (lines_said ls) p → since_blank (lines_said ls) ≡ [] → ⊥) → Stands (lines_said ls) p → ⊥
further_refused ls r p h e fits some stands = elim (with_none r (λ o. added o p) r.current e) as (λ _. ⊥) [
  | inl c ↦ some stands (h.since ∙ ap lines_said (no_group ls r h c))
  | inr (o, c, f) ↦
      let is : HasCurrent h.group o = subst (IsCurrent h.group) c h.current in
      added_refused p (lines_said h.group) is.line o is.is_open f (subst (λ g. FitsGroup g p) h.since (fits stands))
]

-- ---- a line that the reader takes stands, and one that it refuses does not

abbrev TakenLine : List Line → Line → Reader → Type 0
TakenLine ls l t = Stands (lines_said ls) l.1 × Holds (ls ++ l ∷ []) t

part_taken : (ls : List Line) (n : ℕ) (r : Reader) (p : RecordLine) (t : Reader) → Holds ls r → step r n p ≡ Some t → TakenLine ls (n, p) t
part_taken ls n r Blank t h e = let same : closed r ≡ t = cc in (tt, subst (Holds (ls ++ (n, Blank) ∷ [])) same (blank_taken ls n r h))
part_taken ls n r (Name name) t h e =
    let f : (is_some r.current ≡ false) × (has_name r.done name ≡ false) × (_ ≡ t) = neither (is_some r.current) (has_name r.done name) _ t e in
    let g : Stands (lines_said ls) (Name name) × Holds (ls ++ (n, Name name) ∷ []) (record r { current = Some (begun name n) }) = name_taken ls n r name h f.0 f.1 in
    (g.0, subst (Holds (ls ++ (n, Name name) ∷ [])) f.2 g.1)
part_taken ls n r (Owners names) t h e = let g : Goes ls (n, Owners names) t = further_taken ls n r t (Owners names) h refl refl e in ((g.some, g.fits), g.holds)
part_taken ls n r (Flags names) t h e = let g : Goes ls (n, Flags names) t = further_taken ls n r t (Flags names) h refl refl e in ((g.some, g.fits), g.holds)
part_taken ls n r Variables t h e = let g : Goes ls (n, Variables) t = further_taken ls n r t Variables h refl refl e in ((g.some, g.fits), g.holds)
part_taken ls n r (Variable key value) t h e = let g : Goes ls (n, Variable key value) t = further_taken ls n r t (Variable key value) h refl refl e in (g.fits, g.holds)
part_taken ls n r (Field key value) t h e = let g : Goes ls (n, Field key value) t = further_taken ls n r t (Field key value) h refl refl e in ((g.some, g.fits), g.holds)
part_taken ls n r Nothing t h e = absurd (cc)

part_refused : (ls : List Line) (n : ℕ) (r : Reader) (p : RecordLine) → Holds ls r → step r n p ≡ None → Stands (lines_said ls) p → ⊥
part_refused ls n r Blank h e s = cc
part_refused ls n r (Name name) h e s = name_refused ls r name h (either (is_some r.current) (has_name r.done name) _ e) s
part_refused ls n r (Owners names) h e s = further_refused ls r (Owners names) h e (λ x. x.1) (λ x. x.0) s
part_refused ls n r (Flags names) h e s = further_refused ls r (Flags names) h e (λ x. x.1) (λ x. x.0) s
part_refused ls n r Variables h e s = further_refused ls r Variables h e (λ x. x.1) (λ x. x.0) s
part_refused ls n r (Variable key value) h e s = further_refused ls r (Variable key value) h e (λ x. x) (λ x none. subst EndsInVariables none x.0) s
part_refused ls n r (Field key value) h e s = further_refused ls r (Field key value) h e (λ x. x.1) (λ x. x.0) s
part_refused ls n r Nothing h e s = s

from_ok : (line : Line) (o : Option Reader) (t : Reader) → taken_or line o ≡ Ok t → o ≡ Some t
from_ok line None t e = absurd (cc)
from_ok line (Some r) t e = let same : r ≡ t = cc in ap Some same

from_err : (line : Line) (o : Option Reader) (f : Line × Unit {0}) → taken_or line o ≡ Err f → (o ≡ None) × (f.0 ≡ line)
from_err line None f e = let same : (line, tt) ≡ f = cc in (refl, ap (λ (g : Line × Unit {0}). g.0) (sym same))
from_err line (Some r) f e = absurd (cc)

line_taken : (before : List Line) (r : Reader) (l : Line) (after : List Line) (t : Reader) → Holds before r → line_step r l after ≡ Ok t → LineStands before l after × Holds (before ++ l ∷ []) t
line_taken before r l after t h e = part_taken before l.0 r l.1 t h (from_ok l (step r l.0 l.1) t e)

line_refused : (before : List Line) (r : Reader) (l : Line) (after : List Line) (f : Line × Unit {0}) → Holds before r → line_step r l after ≡ Err f → (f.0 ≡ l) × HasFault before l after f.1
line_refused before r l after f h e = let g : (step r l.0 l.1 ≡ None) × (f.0 ≡ l) = from_err l (step r l.0 l.1) f e in (g.1, part_refused before l.0 r l.1 h g.0)

holds_start : Holds [] at_start
holds_start = record { front = []; group = []; whole = refl; since = refl; ended = inl refl; done = refl; current = refl }

-- ---- what the reader makes of the lines

abbrev WhenRead : List (List ℕ) → Reader → Type 0
WhenRead lines r = Holds (numbered lines) r × AllStand LineStands (numbered lines)

abbrev WhenRefused : List (List ℕ) → Line × Unit {0} → Type 0
WhenRefused lines f = IsFirstFault LineStands HasFault (numbered lines) f.0 f.1

machine : (lines : List (List ℕ)) → MatchResult (read_all lines) (WhenRead lines) (WhenRefused lines)
machine lines = run_finds line_step LineStands HasFault Holds line_taken line_refused (numbered lines) at_start holds_start

-- the records that the reader made, once the last is closed
pub records_read : (lines : List (List ℕ)) (r done : Reader) → read_all lines ≡ Ok r → done ≡ closed r → ReadsLines lines done.done
records_read lines r done e is =
    let m : WhenRead lines r = MatchResult-at_ok (WhenRead lines) (WhenRefused lines) r e (machine lines) in
    record {
      stand = m.1;
      are = ap (λ (d : Reader). d.done) is ∙ closed-records (numbered lines) [] r m.0 refl refl ∙ ap records_of (append-nil (numbered lines));
    }

-- an error of the reader is an answer
pub error_read : (text : List ℕ) (e : RecordError) → Fails e (read_all (lines_of text)) → IsAnswer text (Err e)
error_read text (Bad k) f = bad_from_fault (lines_of text) k f.0 (MatchResult-at_err (WhenRead (lines_of text)) (WhenRefused (lines_of text)) ((k, f.0), tt) f.1 (machine (lines_of text)))
error_read text OutOfMemory f = tt

answer_from : (text : List ℕ) (m : Result Reader (Line × Unit {0})) → MatchResult m (WhenRead (lines_of text)) (WhenRefused (lines_of text)) → HasReading (lines_of text) ⊎ ((k : ℕ) × IsBad text k)
answer_from text (Ok r) h = inl (reading_from_all (lines_of text) h.1)
answer_from text (Err ((k, p), u)) h = inr (k, bad_from_fault (lines_of text) k p h)

pub some_answer : (text : List ℕ) → HasReading (lines_of text) ⊎ ((k : ℕ) × IsBad text k)
some_answer text = answer_from text (read_all (lines_of text)) (machine (lines_of text))

-- ---- the names of the records

AreDistinct-push : (texts : List (List ℕ)) (text : List ℕ) → AreDistinct texts → AllByRecursion (λ other. other ≢ text) texts → AreDistinct (texts ++ text ∷ [])
AreDistinct-push [] text a n = (tt, tt)
AreDistinct-push (t ∷ texts) text a n = (others texts a.0, AreDistinct-push texts text a.1 n.1) where
  others : (xs : List (List ℕ)) → AllByRecursion (λ other. other ≢ t) xs → AllByRecursion (λ other. other ≢ t) (xs ++ text ∷ [])
  others [] h = ((λ e. n.0 (sym e)), tt)
  others (x ∷ xs) h = (h.0, others xs h.1)

apart_one : (ps : List RecordLine) (p : RecordLine) → AreDistinct (filter_map name_in ps) → Stands ps p → AreDistinct (filter_map name_in ps ++ cons_option (name_in p) [])
apart_one ps Blank a s = subst AreDistinct (sym (append-nil (filter_map name_in ps))) a
apart_one ps (Name name) a s = AreDistinct-push (filter_map name_in ps) name a s.1
apart_one ps (Owners names) a s = subst AreDistinct (sym (append-nil (filter_map name_in ps))) a
apart_one ps (Flags names) a s = subst AreDistinct (sym (append-nil (filter_map name_in ps))) a
apart_one ps Variables a s = subst AreDistinct (sym (append-nil (filter_map name_in ps))) a
apart_one ps (Variable key value) a s = subst AreDistinct (sym (append-nil (filter_map name_in ps))) a
apart_one ps (Field key value) a s = subst AreDistinct (sym (append-nil (filter_map name_in ps))) a
apart_one ps Nothing a s = absurd s

abbrev NamesApart : List Line → Type 0
NamesApart ls = AreDistinct (filter_map name_in (lines_said ls))

apart_all : (before rest : List Line) → NamesApart before → AllStand LineStands (before ++ rest) → NamesApart (before ++ rest)
apart_all before [] a all = subst NamesApart (sym (append-nil before)) a
apart_all before (l ∷ rest) a all =
    let here : Stands (lines_said before) l.1 = all before rest l refl in
    let next : NamesApart (before ++ l ∷ []) = subst AreDistinct (sym (ap (filter_map name_in) (lines_said-append before (l ∷ [])) ∙ filter_map-append name_in (lines_said before) (l.1 ∷ []))) (apart_one (lines_said before) l.1 a here) in
    subst NamesApart (append_assoc before (l ∷ []) rest) (apart_all (before ++ l ∷ []) rest next (subst (AllStand LineStands) (sym (append_assoc before (l ∷ []) rest)) all))

pub names_apart : (lines : List (List ℕ)) (records : List Entry) → ReadsLines lines records → AreDistinct (names_of records)
names_apart lines records r =
    subst AreDistinct (names-records_of (numbered lines) ∙ ap names_of (sym r.are)) (apart_all [] (numbered lines) tt r.stand)
