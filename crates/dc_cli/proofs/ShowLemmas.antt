-- The words behind `show`: which of them name it.
use Rattle.std.proofs.Common.{◌≡◌, ◌≢◌, ◌⊎◌, ◌≤◌, ◌+◌, ℕ, Bool, true, false, List, [], ◌∷◌, ◌++◌, length, drop, refl, sym, ◌∙◌, ap, subst, inl, inr}
use Rattle.std.proofs.lemmas.List.{append-nil, append_assoc}
use Rattle.std.proofs.lemmas.List.Folds.{list_all-append}
use Rattle.std.specs.Prelude.{◌&&◌, not, Option, None, Some, option_map, codes, if◌then◌else◌}
use Rattle.std.specs.List.{list_all, cons_option}
use Rattle.std.specs.Str.{bytes_eq}
use Rattle.std.specs.Cmp.Lexicographic.{same_text, other_text}
use Rattle.dc_text.specs.Names.{is_name}
use Rattle.dc_cli.specs.DatabaseWords.{behind_front, is_option, GivesDatabase, is_package, NamesShow, placed_from, values_behind, IsGivenOnce}
use Rattle.dc_cli.specs.DatabaseReading.{after, nothing_shown, with_database, with_package, show_step, show_next, is_asked, is_show, shown_of}
use Rattle.dc_cli.specs.Tools.{Names, IsToolWords}
use Rattle.dc_cli.specs.declared.show_words.ShowSeen.{ShowSeen}
use Rattle.dc_cli.specs.declared.show_words.Asked.{Asked}
use Rattle.dc_cli.specs.declared.show_words.Asked.TheVariants.{Nothing, Packages, Owners, Databases}
use Rattle.dc_cli.specs.declared.tool.PlacedWord.{PlacedWord}
use Rattle.dc_cli.specs.declared.tool.Shown.{Shown}
use Rattle.dc_cli.specs.declared.tool.Shown.TheVariants.{Questions, Owners as ForOwners, Databases as ForDatabases}
use Rattle.dc_cli.specs.declared.tool.Tool.{Tool}
use Rattle.dc_cli.specs.declared.tool.Tool.TheVariants.{Show}
use Rattle.dc_cli.proofs.FrontLemmas.{front_is, both_of, not_true, one_given, once_few}
use Rattle.dc_cli.proofs.ReadingLemmas.{ends_words, IsReadBy, after_none}
use Rattle.dc_cli.proofs.ToolLemmas.{word_of}

-- ---- what was seen of words, and the words

-- the words of a database, where one was seen
abbrev pub Begins : Bool → List (List ℕ) → Type 0
Begins true given = (name : List ℕ) × (given ≡ (codes "--db=" ++ name) ∷ [])
Begins false given = given ≡ []

pub record HasPackages (words : List (List ℕ)) (database : Bool) : Type 0 where
  pub given : List (List ℕ)
  pub packages : List (List ℕ)
  pub begins : Begins database given
  pub words_are : words ≡ given ++ packages
  pub some : packages ≢ []
  pub are_packages : list_all is_package packages ≡ true

pub record HasOwners (words : List (List ℕ)) (database : Bool) : Type 0 where
  pub given : List (List ℕ)
  pub begins : Begins database given
  pub words_are : (words ≡ given ++ codes "--listowners" ∷ []) ⊎ (words ≡ codes "--listowners" ∷ given)

-- the words after which this is seen
abbrev pub AreSeen : List (List ℕ) → Bool → Asked → Type 0
AreSeen words database Nothing = Begins database words
AreSeen words database Packages = HasPackages words database
AreSeen words database Owners = HasOwners words database
AreSeen words database Databases = (words ≡ codes "--listdbs" ∷ []) × (database ≡ false)

some_packages : (packages : List (List ℕ)) (word : List ℕ) → packages ++ word ∷ [] ≢ []
some_packages [] word e = cc
some_packages (one ∷ packages) word e = cc

-- what is seen after one more word
seen_with : (database : Bool) (asked : Asked) (words : List (List ℕ)) (word : List ℕ) (more : ShowSeen) → AreSeen words database asked
    → show_next (record { database = database; asked = asked }) word ≡ Some more → AreSeen (words ++ word ∷ []) more.database more.asked
seen_with database asked words word more seen to =
    by (behind_front (codes "--db=") word) (bytes_eq word (codes "--listowners")) (bytes_eq word (codes "--listdbs")) (is_package word) refl refl refl refl to where
      found : (one : ShowSeen) → Some one ≡ Some more → AreSeen (words ++ word ∷ []) one.database one.asked → AreSeen (words ++ word ∷ []) more.database more.asked
      found one same are = let this : one ≡ more = cc in subst (λ (s : ShowSeen). AreSeen (words ++ word ∷ []) s.database s.asked) this are

      only_owners : (given : List (List ℕ)) → given ≡ [] → (words ≡ given ++ codes "--listowners" ∷ []) ⊎ (words ≡ codes "--listowners" ∷ given) → words ≡ codes "--listowners" ∷ []
      only_owners given none (inl e) = e ∙ ap (λ ws. ws ++ codes "--listowners" ∷ []) none
      only_owners given none (inr e) = e ∙ ap (λ ws. codes "--listowners" ∷ ws) none

      given_database : (name : List ℕ) (database : Bool) (asked : Asked) → AreSeen words database asked → word ≡ codes "--db=" ++ name → with_database database asked ≡ Some more
          → AreSeen (words ++ word ∷ []) more.database more.asked
      given_database name true Nothing are is same = cc
      given_database name false Nothing are is same =
          found (record { database = true; asked = Nothing }) same (name, ap (λ ws. ws ++ word ∷ []) are ∙ ap (λ w. w ∷ []) is)
      given_database name true Owners are is same = cc
      given_database name false Owners are is same =
          found (record { database = true; asked = Owners }) same (record {
            given = word ∷ [];
            begins = (name, ap (λ w. w ∷ []) is);
            words_are = inr (ap (λ ws. ws ++ word ∷ []) (only_owners are.given are.begins are.words_are));
          })
      given_database name database Packages are is same = cc
      given_database name database Databases are is same = cc

      by_package : (database : Bool) (asked : Asked) → AreSeen words database asked → is_package word ≡ true → show_step database asked None false false true ≡ Some more
          → AreSeen (words ++ word ∷ []) more.database more.asked
      by_package database Nothing are is same =
          found (record { database = database; asked = Packages }) same (record { given = words; packages = word ∷ []; begins = are; words_are = refl; some = λ e. cc; are_packages = ap (λ b. b && true) is })
      by_package database Packages are is same =
          found (record { database = database; asked = Packages }) same (record {
            given = are.given;
            packages = are.packages ++ word ∷ [];
            begins = are.begins;
            words_are = ap (λ ws. ws ++ word ∷ []) are.words_are ∙ append_assoc are.given are.packages (word ∷ []);
            some = some_packages are.packages word;
            are_packages = list_all-append is_package are.packages (word ∷ []) ∙ ap (λ b. b && (is_package word && true)) are.are_packages ∙ ap (λ b. b && true) is;
          })
      by_package database Owners are is same = cc
      by_package database Databases are is same = cc

      by_owners : (database : Bool) (asked : Asked) → AreSeen words database asked → word ≡ codes "--listowners" → show_step database asked None true false false ≡ Some more
          → AreSeen (words ++ word ∷ []) more.database more.asked
      by_owners database Nothing are is same =
          found (record { database = database; asked = Owners }) same (record { given = words; begins = are; words_are = inl (ap (λ w. words ++ w ∷ []) is) })
      by_owners database Packages are is same = cc
      by_owners database Owners are is same = cc
      by_owners database Databases are is same = cc

      by_databases : (database : Bool) (asked : Asked) → AreSeen words database asked → word ≡ codes "--listdbs" → show_step database asked None false true false ≡ Some more
          → AreSeen (words ++ word ∷ []) more.database more.asked
      by_databases true Nothing are is same = cc
      by_databases false Nothing are is same =
          found (record { database = false; asked = Databases }) same (ap (λ ws. ws ++ word ∷ []) are ∙ ap (λ w. w ∷ []) is, refl)
      by_databases database Packages are is same = cc
      by_databases database Owners are is same = cc
      by_databases database Databases are is same = cc

      by : (given : Option (List ℕ)) (owners databases one : Bool) → behind_front (codes "--db=") word ≡ given → bytes_eq word (codes "--listowners") ≡ owners
          → bytes_eq word (codes "--listdbs") ≡ databases → is_package word ≡ one → show_step database asked given owners databases one ≡ Some more
          → AreSeen (words ++ word ∷ []) more.database more.asked
      by (Some name) owners databases one d o b p same = given_database name database asked seen (front_is (codes "--db=") word name d) same
      by None true databases one d o b p same = by_owners database asked seen (same_text word (codes "--listowners") (sym o)) same
      by None false true one d o b p same = by_databases database asked seen (same_text word (codes "--listdbs") (sym b)) same
      by None false false true d o b p same = by_package database asked seen p same
      by None false false false d o b p same = cc

-- what is seen after all words
seen_after : (rest words : List (List ℕ)) (seen final : ShowSeen) → AreSeen words seen.database seen.asked → after show_next (Some seen) rest ≡ Some final → AreSeen (words ++ rest) final.database final.asked
seen_after [] words seen final are to =
    let same : seen ≡ final = cc in
    subst (λ ws. AreSeen ws final.database final.asked) (sym (append-nil words)) (subst (λ (s : ShowSeen). AreSeen words s.database s.asked) same are)
seen_after (word ∷ rest) words seen final are to = by (show_next seen word) refl to (λ more are_more. seen_after rest (words ++ word ∷ []) more final are_more) where
  by : (one : Option ShowSeen) → show_next seen word ≡ one → after show_next one rest ≡ Some final
      → ((more : ShowSeen) → AreSeen (words ++ word ∷ []) more.database more.asked → after show_next (Some more) rest ≡ Some final → AreSeen ((words ++ word ∷ []) ++ rest) final.database final.asked)
      → AreSeen (words ++ word ∷ rest) final.database final.asked
  by None e to later = let lost : None ≡ Some final = sym (after_none show_next rest) ∙ to in cc
  by (Some more) e to later =
      subst (λ ws. AreSeen ws final.database final.asked) (append_assoc words (word ∷ []) rest) (later more (seen_with seen.database seen.asked words word more are e) to)

pub are_seen : (words : List (List ℕ)) (seen : ShowSeen) → after show_next (Some nothing_shown) words ≡ Some seen → AreSeen words seen.database seen.asked
are_seen words seen to = seen_after words [] nothing_shown seen refl to

-- ---- words of packages

package_plain : (word : List ℕ) → is_package word ≡ true → is_option word ≡ false
package_plain word is = not_true (is_option word) (both_of (is_name word) (not (is_option word)) is).1

package_front : (word : List ℕ) → is_package word ≡ true → behind_front (codes "--db=") word ≡ None
package_front word is = by (behind_front (codes "--db=") word) refl where
  by : (given : Option (List ℕ)) → behind_front (codes "--db=") word ≡ given → given ≡ None
  by None e = refl
  by (Some name) e = let both : false ≡ true = sym (package_plain word is) ∙ ap is_option (front_is (codes "--db=") word name e) in cc

-- a word that is no option isn't this one
other_option : (word option : List ℕ) → is_option word ≡ false → is_option option ≡ true → bytes_eq word option ≡ false
other_option word option plain is = by (bytes_eq word option) refl where
  by : (same : Bool) → bytes_eq word option ≡ same → same ≡ false
  by false e = refl
  by true e = let both : false ≡ true = sym plain ∙ ap is_option (same_text word option (sym e)) ∙ is in cc

package_next : (database : Bool) (asked : Asked) (word : List ℕ) → is_package word ≡ true → show_next (record { database = database; asked = asked }) word ≡ with_package database asked
package_next database asked word is =
    ap (λ given. show_step database asked given (bytes_eq word (codes "--listowners")) (bytes_eq word (codes "--listdbs")) (is_package word)) (package_front word is)
    ∙ ap (λ owners. show_step database asked None owners (bytes_eq word (codes "--listdbs")) (is_package word)) (other_option word (codes "--listowners") (package_plain word is) refl)
    ∙ ap (λ databases. show_step database asked None false databases (is_package word)) (other_option word (codes "--listdbs") (package_plain word is) refl)
    ∙ ap (λ one. show_step database asked None false false one) is

more_packages : (database : Bool) (packages : List (List ℕ)) → list_all is_package packages ≡ true
    → after show_next (Some (record { database = database; asked = Packages })) packages ≡ Some (record { database = database; asked = Packages })
more_packages database [] are = refl
more_packages database (one ∷ packages) are =
    let both = both_of (is_package one) (list_all is_package packages) are in
    ap (λ seen. after show_next seen packages) (package_next database Packages one both.0) ∙ more_packages database packages both.1

all_packages : (database : Bool) (packages : List (List ℕ)) → packages ≢ [] → list_all is_package packages ≡ true
    → after show_next (Some (record { database = database; asked = Nothing })) packages ≡ Some (record { database = database; asked = Packages })
all_packages database [] some are = absurd (some refl)
all_packages database (one ∷ packages) some are =
    let both = both_of (is_package one) (list_all is_package packages) are in
    ap (λ seen. after show_next seen packages) (package_next database Nothing one both.0) ∙ more_packages database packages both.1

no_values : (place : ℕ) (packages : List (List ℕ)) → list_all is_package packages ≡ true → values_behind (codes "--db=") (placed_from place packages) ≡ []
no_values place [] are = refl
no_values place (one ∷ packages) are =
    let both = both_of (is_package one) (list_all is_package packages) are in
    ap (λ given. cons_option (option_map (λ value. record { word = value; place = place }) given) (values_behind (codes "--db=") (placed_from (place + 1) packages))) (package_front one both.0)
    ∙ no_values (place + 1) packages both.1

-- ---- what the words name after which something is seen

pub record Told (words : List (List ℕ)) (database : Bool) (asked : Asked) : Type 0 where
  pub given : Option PlacedWord
  pub once : IsGivenOnce (values_behind (codes "--db=") (placed_from 1 words)) given
  pub named : NamesShow words given (shown_of words database asked)

told_packages : (database : Bool) (given packages : List (List ℕ)) → Begins database given → packages ≢ [] → list_all is_package packages ≡ true → Told (given ++ packages) database Packages
told_packages false given packages begins some are =
    subst (λ g. Told (g ++ packages) false Packages) (sym begins) (record {
      given = None;
      once = subst (λ (values : List PlacedWord). IsGivenOnce values None) (sym (no_values 1 packages are)) refl;
      named = record { given = []; words_are = refl; database_is = refl; some = some; are_packages = are };
    })
told_packages true given packages begins some are =
    subst (λ g. Told (g ++ packages) true Packages) (sym begins.1) (record {
      given = Some (record { word = begins.0; place = 1 });
      once = subst (λ (values : List PlacedWord). IsGivenOnce (record { word = begins.0; place = 1 } ∷ values) (Some (record { word = begins.0; place = 1 }))) (sym (no_values 2 packages are)) refl;
      named = record { given = (codes "--db=" ++ begins.0) ∷ []; words_are = refl; database_is = (begins.0, refl, refl); some = some; are_packages = are };
    })

told_owners : (database : Bool) (given words : List (List ℕ)) → Begins database given → (words ≡ given ++ codes "--listowners" ∷ []) ⊎ (words ≡ codes "--listowners" ∷ given) → Told words database Owners
told_owners false given words begins (inl is) =
    subst (λ ws. Told ws false Owners) (sym (is ∙ ap (λ g. g ++ codes "--listowners" ∷ []) begins))
    (record { given = None; once = refl; named = record { given = []; database_is = inl (refl, refl) } })
told_owners false given words begins (inr is) =
    subst (λ ws. Told ws false Owners) (sym (is ∙ ap (λ g. codes "--listowners" ∷ g) begins))
    (record { given = None; once = refl; named = record { given = []; database_is = inl (refl, refl) } })
told_owners true given words begins (inl is) =
    subst (λ ws. Told ws true Owners) (sym (is ∙ ap (λ g. g ++ codes "--listowners" ∷ []) begins.1))
    (record {
      given = Some (record { word = begins.0; place = 1 });
      once = refl;
      named = record { given = (codes "--db=" ++ begins.0) ∷ []; database_is = inl (refl, (begins.0, refl, refl)) };
    })
told_owners true given words begins (inr is) =
    subst (λ ws. Told ws true Owners) (sym (is ∙ ap (λ g. codes "--listowners" ∷ g) begins.1))
    (record {
      given = Some (record { word = begins.0; place = 2 });
      once = refl;
      named = record { given = (codes "--db=" ++ begins.0) ∷ []; database_is = inr (refl, (begins.0, refl, refl)) };
    })

told_by : (words : List (List ℕ)) (database : Bool) (asked : Asked) → AreSeen words database asked → is_asked asked ≡ true → Told words database asked
told_by words database Nothing are is = cc
told_by words database Packages are is =
    subst (λ ws. Told ws database Packages) (sym are.words_are) (told_packages database are.given are.packages are.begins are.some are.are_packages)
told_by words database Owners are is = told_owners database are.given words are.begins are.words_are
told_by words database Databases are is = subst (λ ws. Told ws database Databases) (sym are.0) (record { given = None; once = refl; named = (refl, refl) })

pub told : (words : List (List ℕ)) (seen : ShowSeen) → after show_next (Some nothing_shown) words ≡ Some seen → is_asked seen.asked ≡ true → Told words seen.database seen.asked
told words seen to is = told_by words seen.database seen.asked (are_seen words seen to) is

pub names_show : (words : List (List ℕ)) (seen : ShowSeen) (given : Option PlacedWord) → after show_next (Some nothing_shown) words ≡ Some seen → is_asked seen.asked ≡ true
    → IsGivenOnce (values_behind (codes "--db=") (placed_from 1 words)) given → NamesShow words given (shown_of words seen.database seen.asked)
names_show words seen given to is once =
    let this = told words seen to is in
    subst (λ (g : Option PlacedWord). NamesShow words g (shown_of words seen.database seen.asked)) (one_given (values_behind (codes "--db=") (placed_from 1 words)) this.given given this.once once) this.named

pub few_given : (words : List (List ℕ)) (seen : ShowSeen) → after show_next (Some nothing_shown) words ≡ Some seen → is_asked seen.asked ≡ true
    → length (values_behind (codes "--db=") (placed_from 1 words)) ≤ 1
few_given words seen to is = let this = told words seen to is in once_few (values_behind (codes "--db=") (placed_from 1 words)) this.given this.once

-- the words behind that of a database are packages
pub packages_behind : (words : List (List ℕ)) (seen : ShowSeen) → after show_next (Some nothing_shown) words ≡ Some seen → seen.asked ≡ Packages
    → list_all is_package (if seen.database then drop 1 words else words) ≡ true
packages_behind words seen to is = by seen.database (subst (AreSeen words seen.database) is (are_seen words seen to)) where
  by : (database : Bool) → HasPackages words database → list_all is_package (if database then drop 1 words else words) ≡ true
  by false has = ap (list_all is_package) (has.words_are ∙ ap (λ g. g ++ has.packages) has.begins) ∙ has.are_packages
  by true has = ap (λ ws. list_all is_package (drop 1 ws)) (has.words_are ∙ ap (λ g. g ++ has.packages) has.begins.1) ∙ has.are_packages

pub only_packages : (asked : Asked) → is_asked asked ≡ true → asked ≢ Owners → asked ≢ Databases → asked ≡ Packages
only_packages Nothing is owners databases = cc
only_packages Packages is owners databases = refl
only_packages Owners is owners databases = absurd (owners refl)
only_packages Databases is owners databases = absurd (databases refl)

pub shows_named : (words : List (List ℕ)) (seen : ShowSeen) (values : List PlacedWord) (given : Option PlacedWord) (shown : Shown) → after show_next (Some nothing_shown) words ≡ Some seen
    → is_asked seen.asked ≡ true → values ≡ values_behind (codes "--db=") (placed_from 1 words) → IsGivenOnce values given → shown ≡ shown_of words seen.database seen.asked → NamesShow words given shown
shows_named words seen values given shown to is values_are once shown_is =
    subst (NamesShow words given) (sym shown_is) (names_show words seen given to is (subst (λ (vs : List PlacedWord). IsGivenOnce vs given) values_are once))

-- ---- what is seen of words that name the tool

pub record IsRead (words : List (List ℕ)) (given : Option PlacedWord) (shown : Shown) : Type 0 where
  pub seen : ShowSeen
  pub seen_is : after show_next (Some nothing_shown) words ≡ Some seen
  pub asked : is_asked seen.asked ≡ true
  pub shown_is : shown ≡ shown_of words seen.database seen.asked
  pub once : IsGivenOnce (values_behind (codes "--db=") (placed_from 1 words)) given

read_packages : (begin packages : List (List ℕ)) (given : Option PlacedWord) → GivesDatabase begin 1 given → packages ≢ [] → list_all is_package packages ≡ true
    → IsRead (begin ++ packages) given (Questions packages)
read_packages [] packages given gives some are = record {
  seen = record { database = false; asked = Packages };
  seen_is = all_packages false packages some are;
  asked = refl;
  shown_is = refl;
  once = subst (λ (values : List PlacedWord). IsGivenOnce values given) (sym (no_values 1 packages are)) gives;
}
read_packages (word ∷ []) packages given gives some are =
    subst (λ w. IsRead (w ∷ packages) given (Questions packages)) (sym gives.1) (record {
      seen = record { database = true; asked = Packages };
      seen_is = all_packages true packages some are;
      asked = refl;
      shown_is = refl;
      once = subst (λ (values : List PlacedWord). IsGivenOnce (record { word = gives.0; place = 1 } ∷ values) given) (sym (no_values 2 packages are)) gives.2;
    })
read_packages (word ∷ other ∷ begin) packages given gives some are = absurd gives

read_owners_last : (begin : List (List ℕ)) (given : Option PlacedWord) → GivesDatabase begin 1 given → IsRead (begin ++ codes "--listowners" ∷ []) given ForOwners
read_owners_last [] given gives = record { seen = record { database = false; asked = Owners }; seen_is = refl; asked = refl; shown_is = refl; once = gives }
read_owners_last (word ∷ []) given gives =
    subst (λ w. IsRead (w ∷ codes "--listowners" ∷ []) given ForOwners) (sym gives.1)
    (record { seen = record { database = true; asked = Owners }; seen_is = refl; asked = refl; shown_is = refl; once = gives.2 })
read_owners_last (word ∷ other ∷ begin) given gives = absurd gives

read_owners_first : (begin : List (List ℕ)) (given : Option PlacedWord) → GivesDatabase begin 2 given → IsRead (codes "--listowners" ∷ begin) given ForOwners
read_owners_first [] given gives = record { seen = record { database = false; asked = Owners }; seen_is = refl; asked = refl; shown_is = refl; once = gives }
read_owners_first (word ∷ []) given gives =
    subst (λ w. IsRead (codes "--listowners" ∷ w ∷ []) given ForOwners) (sym gives.1)
    (record { seen = record { database = true; asked = Owners }; seen_is = refl; asked = refl; shown_is = refl; once = gives.2 })
read_owners_first (word ∷ other ∷ begin) given gives = absurd gives

pub show_read : (words : List (List ℕ)) (given : Option PlacedWord) (shown : Shown) → NamesShow words given shown → IsRead words given shown
show_read words given (Questions packages) named =
    subst (λ ws. IsRead ws given (Questions packages)) (sym named.words_are) (read_packages named.given packages given named.database_is named.some named.are_packages)
show_read words given ForOwners named = by named.database_is where
  by : ((words ≡ named.given ++ codes "--listowners" ∷ []) × GivesDatabase named.given 1 given) ⊎ ((words ≡ codes "--listowners" ∷ named.given) × GivesDatabase named.given 2 given) → IsRead words given ForOwners
  by (inl is) = subst (λ ws. IsRead ws given ForOwners) (sym is.0) (read_owners_last named.given given is.1)
  by (inr is) = subst (λ ws. IsRead ws given ForOwners) (sym is.0) (read_owners_first named.given given is.1)
show_read words given ForDatabases named =
    subst (λ ws. IsRead ws given ForDatabases) (sym named.0) (record { seen = record { database = false; asked = Databases }; seen_is = refl; asked = refl; shown_is = refl; once = named.1 })

-- ---- the tool is read so

show_by : (words : List (List ℕ)) (tool : Tool) → Names (codes "show" ∷ words) tool → (given : Option PlacedWord) × (shown : Shown) × NamesShow words given shown
show_by words (Show given shown) named = (given, shown, named.1)
show_by words other named = absurd (other_text (codes "show") (word_of other) refl named.0)

something : (database : Bool) (asked : Asked) → (more : List (List ℕ)) × (ends_words is_show (after show_next (Some (record { database = database; asked = asked })) more) ≡ true)
something database Nothing = (codes "a" ∷ [], refl)
something database Packages = ([], refl)
something database Owners = ([], refl)
something database Databases = ([], refl)

is_seen : (words : List (List ℕ)) → ends_words is_show (after show_next (Some nothing_shown) words) ≡ true → IsToolWords (codes "show" ∷ words)
is_seen words e = by (after show_next (Some nothing_shown) words) refl e where
  by : (seen : Option ShowSeen) → after show_next (Some nothing_shown) words ≡ seen → ends_words is_show seen ≡ true → IsToolWords (codes "show" ∷ words)
  by None to is = cc
  by (Some seen) to is = let this = told words seen to is in (Show this.given (shown_of words seen.database seen.asked), (refl, this.named))

pub read_shown : IsReadBy (codes "show") show_next nothing_shown is_show
read_shown = record {
  whole = λ words is. let named = show_by words is.0 is.1 in let read = show_read words named.0 named.1 named.2 in ap (ends_words is_show) read.seen_is ∙ read.asked;
  named = is_seen;
  goes_on = λ seen. something seen.database seen.asked;
}
