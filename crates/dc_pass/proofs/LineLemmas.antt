-- What a line says.
use Rattle.std.proofs.Common.{◌≡◌, ℕ, Bool, true, false, cond, List, [], ◌∷◌, ◌++◌, Some, None, Option, refl, sym, ap, ◌∙◌, append_assoc, subst, inl, inr, arith}
use Rattle.std.specs.Prelude.{option_map, ◌||◌, ◌==◌}
use Rattle.std.specs.List.{list_any, before_first, after_first}
use Rattle.std.proofs.lemmas.Bool.{cases_Bool}
use Rattle.std.proofs.lemmas.Bool.Decides.{nat_tests}
use Rattle.std.proofs.lemmas.List.{append-nil}
use Rattle.dc_text.proofs.FirstLemmas.{before_first-here, before_first-later, after_first-here, after_first-later}
use Rattle.dc_template.proofs.TestLemmas.{apart_at, neither}
use Rattle.dc_words.specs.Escaped.{escaped, escaped_byte}
use Rattle.dc_proto.specs.Replies.{told_text}
use Rattle.dc_pass.specs.declared.lines.WireLine.{WireLine}
use Rattle.dc_pass.specs.Wire.{wire_line}
use Rattle.dc_pass.specs.Machine.{unescaped, with_byte, escape_meant, saying, said, said_behind}

-- ---- a byte more

front_more : (text : List ℕ) (byte : ℕ) (o : Option (List ℕ)) → option_map (λ (more : List ℕ). (text ++ byte ∷ []) ++ more) o ≡ option_map (λ (more : List ℕ). text ++ more) (with_byte (Some byte) o)
front_more text byte None = refl
front_more text byte (Some more) = ap (λ (t : List ℕ). Some t) (append_assoc text (byte ∷ []) more)

pub meant_more : (text rest after : List ℕ) (byte : ℕ) (target : Option (List ℕ)) → unescaped rest ≡ with_byte (Some byte) (unescaped after)
    → option_map (λ (more : List ℕ). text ++ more) (unescaped rest) ≡ target → option_map (λ (more : List ℕ). (text ++ byte ∷ []) ++ more) (unescaped after) ≡ target
meant_more text rest after byte target e h = front_more text byte (unescaped after) ∙ ap (option_map (λ (more : List ℕ). text ++ more)) (sym e) ∙ h

-- ---- escapes

is_byte : (b c : ℕ) → (b == c) ≡ true → b ≡ c
is_byte b c e = grind (arith, nat_tests)

-- what is escaped is unescaped again
plain_first : (b : ℕ) (bytes : List ℕ) → (b == 92) ≡ false → (b == 10) ≡ false → unescaped (b ∷ bytes) ≡ with_byte (Some b) (unescaped bytes)
plain_first b [] s n = rw (s, n) refl
plain_first b (next ∷ bytes) s n = rw (s, n) refl

pub unescaped-escaped : (text : List ℕ) → unescaped (escaped text) ≡ Some text
unescaped-escaped [] = refl
unescaped-escaped (b ∷ text) = elim (cases_Bool (b == 92)) [
  | inl slash ↦
      let here : b ≡ 92 = is_byte b 92 slash in
      subst (λ d. unescaped (escaped (d ∷ text)) ≡ Some (d ∷ text)) (sym here) (ap (with_byte (Some 92)) (unescaped-escaped text))
  | inr other ↦ elim (cases_Bool (b == 10)) [
    | inl line ↦
        let here : b ≡ 10 = is_byte b 10 line in
        subst (λ d. unescaped (escaped (d ∷ text)) ≡ Some (d ∷ text)) (sym here) (ap (with_byte (Some 10)) (unescaped-escaped text))
    | inr plain ↦
        let one : escaped_byte b ≡ b ∷ [] = rw (other, plain) refl in
        ap (λ (e : List ℕ). unescaped (e ++ escaped text)) one ∙ plain_first b (escaped text) other plain ∙ ap (with_byte (Some b)) (unescaped-escaped text)
  ]
]

with_byte-some : (byte : ℕ) (o : Option (List ℕ)) (text : List ℕ) → with_byte (Some byte) o ≡ Some text → (more : List ℕ) × (o ≡ Some more) × (text ≡ byte ∷ more)
with_byte-some byte None text e = absurd (cc)
with_byte-some byte (Some more) text e = (more, refl, cc)

-- a backslash and a byte stand for one
by_meant : (b next : ℕ) (bytes text : List ℕ) → b ≡ 92 → ((more : List ℕ) → unescaped bytes ≡ Some more → bytes ≡ escaped more)
    → (o : Option ℕ) → with_byte o (unescaped bytes) ≡ Some text → escape_meant next ≡ o → b ∷ next ∷ bytes ≡ escaped text
by_meant b next bytes text slash again None e m = absurd (cc)
by_meant b next bytes text slash again (Some byte) e m =
    let p : (more : List ℕ) × (unescaped bytes ≡ Some more) × (text ≡ byte ∷ more) = with_byte-some byte (unescaped bytes) text e in
    let rest : bytes ≡ escaped p.0 = again p.0 p.1 in
    elim (cases_Bool (next == 92)) [
      | inl twice ↦
          let got : Some 92 ≡ Some byte = rw twice at m in
          let is : 92 ≡ byte = cc in
          let same : next ≡ 92 = is_byte next 92 twice in
          (λ i. slash i ∷ same i ∷ rest i) ∙ ap (λ d. escaped (d ∷ p.0)) is ∙ ap escaped (sym p.2)
      | inr not_slash ↦ elim (cases_Bool (next == 110)) [
        | inl letter ↦
            let got : Some 10 ≡ Some byte = rw (not_slash, letter) at m in
            let is : 10 ≡ byte = cc in
            let same : next ≡ 110 = is_byte next 110 letter in
            (λ i. slash i ∷ same i ∷ rest i) ∙ ap (λ d. escaped (d ∷ p.0)) is ∙ ap escaped (sym p.2)
        | inr neither ↦ absurd (let off : None ≡ Some byte = rw (not_slash, neither) at m in cc)
      ]
    ]

paired : (b next : ℕ) (bytes text : List ℕ) → b ≡ 92 → ((more : List ℕ) → unescaped bytes ≡ Some more → bytes ≡ escaped more)
    → with_byte (escape_meant next) (unescaped bytes) ≡ Some text → b ∷ next ∷ bytes ≡ escaped text
paired b next bytes text slash again e = by_meant b next bytes text slash again (escape_meant next) e refl

-- what is unescaped was escaped so
pub escaped-unescaped : (bytes text : List ℕ) → unescaped bytes ≡ Some text → bytes ≡ escaped text
escaped-unescaped [] text e = let none : text ≡ [] = cc in ap escaped (sym none)
escaped-unescaped (b ∷ []) text e = last b text e where
  last : (b : ℕ) (text : List ℕ) → unescaped (b ∷ []) ≡ Some text → b ∷ [] ≡ escaped text
  last b text e = elim (cases_Bool (b == 92)) [
    | inl slash ↦ absurd (let off : None ≡ Some text = rw slash at e in cc)
    | inr other ↦ elim (cases_Bool (b == 10)) [
      | inl line ↦ absurd (let off : None ≡ Some text = rw (other, line) at e in cc)
      | inr plain ↦
          let got : Some (b ∷ []) ≡ Some text = rw (other, plain) at e in
          let is : b ∷ [] ≡ text = cc in
          let one : escaped_byte b ≡ b ∷ [] = rw (other, plain) refl in
          sym (ap escaped (sym is) ∙ ap (λ (x : List ℕ). x ++ []) one)
    ]
  ]
escaped-unescaped (b ∷ next ∷ bytes) text e = elim (cases_Bool (b == 92)) [
  | inl slash ↦ paired b next bytes text (is_byte b 92 slash) (λ more is. escaped-unescaped bytes more is) (rw slash at e)
  | inr other ↦ elim (cases_Bool (b == 10)) [
    | inl line ↦ absurd (let off : None ≡ Some text = rw (other, line) at e in cc)
    | inr plain ↦
        let got : with_byte (Some b) (unescaped (next ∷ bytes)) ≡ Some text = rw (other, plain) at e in
        let p : (more : List ℕ) × (unescaped (next ∷ bytes) ≡ Some more) × (text ≡ b ∷ more) = with_byte-some b (unescaped (next ∷ bytes)) text got in
        let one : escaped_byte b ≡ b ∷ [] = rw (other, plain) refl in
        ap (λ (x : List ℕ). b ∷ x) (escaped-unescaped (next ∷ bytes) p.0 p.1) ∙ sym (ap escaped p.2 ∙ ap (λ (x : List ℕ). x ++ escaped p.0) one)
  ]
]

-- ---- a line

abbrev pub is_space_byte : ℕ → Bool
is_space_byte b = b == 32

word_before : (word rest : List ℕ) → list_any is_space_byte word ≡ false
    → (list_any is_space_byte (word ++ 32 ∷ rest) ≡ true) × (before_first is_space_byte (word ++ 32 ∷ rest) ≡ word) × (after_first is_space_byte (word ++ 32 ∷ rest) ≡ rest)
word_before [] rest h = (refl, before_first-here is_space_byte 32 rest refl, after_first-here is_space_byte 32 rest refl)
word_before (b ∷ word) rest h =
    let p : (is_space_byte b ≡ false) × (list_any is_space_byte word ≡ false) = neither _ _ h in
    let more = word_before word rest p.1 in (
      ap (λ t. t || list_any is_space_byte (word ++ 32 ∷ rest)) p.0 ∙ more.0,
      before_first-later is_space_byte b (word ++ 32 ∷ rest) p.0 ∙ ap (λ (w : List ℕ). b ∷ w) more.1,
      after_first-later is_space_byte b (word ++ 32 ∷ rest) p.0 ∙ more.2,
    )

behind_some : (word bytes text : List ℕ) → unescaped bytes ≡ Some text → (bytes ≡ [] → text ≡ []) → said_behind word bytes ≡ cond (list_any (λ _. true) bytes) (Some (saying word text)) None
behind_some word [] text e h = refl
behind_some word (b ∷ bytes) text e h = ap (option_map (saying word)) e

escaped_some : (b : ℕ) (text : List ℕ) → list_any (λ _. true) (escaped (b ∷ text)) ≡ true
escaped_some b text = elim (b == 92) as (λ s. list_any (λ _. true) (cond s (92 ∷ 92 ∷ []) (cond (b == 10) (92 ∷ 110 ∷ []) (b ∷ [])) ++ escaped text) ≡ true) [
  | true ↦ refl
  | false ↦ elim (b == 10) as (λ s. list_any (λ _. true) (cond s (92 ∷ 110 ∷ []) (b ∷ []) ++ escaped text) ≡ true) [ true ↦ refl | false ↦ refl ]
]

behind-escaped : (word : List ℕ) (b : ℕ) (text : List ℕ) → said_behind word (escaped (b ∷ text)) ≡ Some (saying word (b ∷ text))
behind-escaped word b text =
    behind_some word (escaped (b ∷ text)) (b ∷ text) (unescaped-escaped (b ∷ text)) (λ none. absurd (let off : false ≡ true = sym (ap (list_any (λ _. true)) none) ∙ escaped_some b text in cc))
    ∙ ap (λ t. cond t (Some (saying word (b ∷ text))) None) (escaped_some b text)

-- a line of the wire says its word and its text
pub said-wire_line : (word text : List ℕ) → list_any is_space_byte word ≡ false → said (wire_line word text) ≡ Some (saying word text)
said-wire_line word [] h = alone word h where
  alone : (word : List ℕ) → list_any is_space_byte word ≡ false → said (word ++ []) ≡ Some (saying word [])
  alone word h = ap said (append-nil word) ∙ ap (λ t. cond t (said_behind (before_first is_space_byte word) (after_first is_space_byte word)) (Some (saying word []))) h
said-wire_line word (b ∷ text) h =
    let f = word_before word (escaped (b ∷ text)) h in
    ap (λ t. cond t (said_behind (before_first is_space_byte (word ++ 32 ∷ escaped (b ∷ text))) (after_first is_space_byte (word ++ 32 ∷ escaped (b ∷ text)))) (Some (saying (word ++ 32 ∷ escaped (b ∷ text)) []))) f.0
    ∙ (λ i. said_behind (f.1 i) (f.2 i)) ∙ behind-escaped word b text

behind_is : (word bytes : List ℕ) (said : WireLine) → said_behind word bytes ≡ Some said → (said.word ≡ word) × (told_text true said.text ≡ 32 ∷ bytes)
behind_is word [] said e = absurd (cc)
behind_is word (b ∷ bytes) said e = by_text (unescaped (b ∷ bytes)) refl e where
  told : (text : List ℕ) → b ∷ bytes ≡ escaped text → told_text true text ≡ 32 ∷ b ∷ bytes
  told [] is = absurd (cc)
  told (c ∷ text) is = ap (λ (l : List ℕ). 32 ∷ l) (sym is)

  by_text : (o : Option (List ℕ)) → unescaped (b ∷ bytes) ≡ o → option_map (saying word) o ≡ Some said → (said.word ≡ word) × (told_text true said.text ≡ 32 ∷ b ∷ bytes)
  by_text None is e = absurd (cc)
  by_text (Some text) is e =
      let same : saying word text ≡ said = cc in
      (sym (ap (λ (s : WireLine). s.word) same), ap (λ (s : WireLine). told_text true s.text) (sym same) ∙ told text (escaped-unescaped (b ∷ bytes) text is))

-- what says this is that line
pub wire_line-said : (line : List ℕ) (found : WireLine) → said line ≡ Some found → line ≡ wire_line found.word found.text
wire_line-said line found e = elim (cases_Bool (list_any is_space_byte line)) [
  | inl has ↦
      let got : said_behind (before_first is_space_byte line) (after_first is_space_byte line) ≡ Some found = rw has at e in
      let p : (found.word ≡ before_first is_space_byte line) × (told_text true found.text ≡ 32 ∷ after_first is_space_byte line) = behind_is (before_first is_space_byte line) (after_first is_space_byte line) found got in
      (apart_at 32 line has).0 ∙ sym (λ i. p.0 i ++ p.1 i)
  | inr none ↦
      let got : Some (saying line []) ≡ Some found = rw none at e in
      let same : saying line [] ≡ found = cc in
      sym (append-nil line) ∙ ap (λ (s : WireLine). wire_line s.word s.text) same
]
