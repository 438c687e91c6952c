-- What comes through a pipe, one piece after another, and what is made of it.
use Rattle.std.proofs.Common.{◌≡◌, ◌≢◌, ◌≤◌, ◌⊎◌, inl, inr, ℕ, List, [], ◌∷◌, ◌++◌, length, take, map as each, Option, None, Some, Result, Ok, Err, refl, sym, ap, subst, ◌∙◌, append_assoc, ◌<◌, ◌+◌, arith}
use Rattle.std.proofs.lemmas.Bool.{ne_eqb}
use Rattle.std.proofs.lemmas.List.{append-nil, map-append, length-append, length-take-le}
use Rattle.std.proofs.lemmas.List.Folds.{concat-append}
use Rattle.std.specs.Io.KnownBytes.{prepend_known, IsAtEnd}
use Rattle.dc_outside.specs.LinkCalls.{Comes, IsLostAt, IsRefused}
use Rattle.dc_outside.specs.State.{LinkState}
use Rattle.dc_outside.specs.Talk.{then_pieces}
use Rattle.dc_outside.specs.declared.link.Piece.{Piece}
use Rattle.dc_outside.specs.declared.link.Piece.TheVariants.{Got}
use Rattle.dc_conf.specs.declared.spec.LayerSpec.{LayerSpec}
use Rattle.dc_layer.specs.State.{Table, LayerState}
use Rattle.dc_save.specs.PipeLoading.{most_piped, HasCome, IsReadWhole, IsReadBroken, IsReadTooLong, IsReadShort, ReadsPipe}
use Rattle.dc_save.specs.PipeTurns.{ComesBehind, ComesOver, ComesUnkept, TakesPiped, PassesOverPipe}
use Rattle.dc_save.specs.declared.pipe_loading.PipeLoaded.{PipeLoaded}
use Rattle.dc_save.specs.declared.pipe_loading.PipeLoaded.TheVariants.{Here, LeftOut}
use Rattle.dc_save.specs.declared.pipe_loading.PipeError.{PipeError}
use Rattle.dc_save.specs.declared.pipe_loading.PipeError.TheVariants.{Failed, Damaged, TooLong, OutOfMemory}

then_none : (talk : Option (List Piece)) → talk ≡ then_pieces talk []
then_none None = refl
then_none (Some pieces) = ap (λ (l : List Piece). Some l) (sym (append-nil pieces))

then_more : (talk : Option (List Piece)) (a b : List Piece) → then_pieces (then_pieces talk a) b ≡ then_pieces talk (a ++ b)
then_more None a b = refl
then_more (Some pieces) a b = ap (λ (l : List Piece). Some l) (append_assoc pieces a b)

known_none : (left : Option (List ℕ)) → left ≡ prepend_known [] left
known_none None = refl
known_none (Some bytes) = refl

known_more : (a b : List ℕ) (left : Option (List ℕ)) → prepend_known a (prepend_known b left) ≡ prepend_known (a ++ b) left
known_more a b None = refl
known_more a b (Some bytes) = ap (λ (l : List ℕ). Some l) (sym (append_assoc a b bytes))

-- ---- pieces

pub none_came : (now : LinkState) → HasCome [] now now
none_came now = record {
  parts = [];
  text_is = refl;
  took = known_none now.input;
  state = ap (λ (t : Option (List Piece)). record now { talk = t }) (then_none now.talk);
}

pub one_came : (count : ℕ) (buf : List ℕ) (old new : LinkState) → count ≢ 0 → Comes count buf old new → HasCome (take count buf) old new
one_came count buf old new some comes =
    let test = ne_eqb count 0 some in
    let took = rw test at comes.took in
    let state = rw test at comes.state in
    record {
      parts = take count buf ∷ [];
      text_is = sym (append-nil (take count buf));
      took = took ∙ ap (λ (bytes : List ℕ). prepend_known bytes new.input) (append-nil (take count buf));
      state = state;
    }

pub end_came : (buf : List ℕ) (old new : LinkState) → Comes 0 buf old new → HasCome [] old new × IsAtEnd new.input
end_came buf old new comes = (record { parts = []; text_is = refl; took = comes.took; state = comes.state }, comes.end refl)

came_more : (a b : List ℕ) (old mid new : LinkState) → HasCome a old mid → HasCome b mid new → HasCome (a ++ b) old new
came_more a b old mid new first second = record {
  parts = first.parts ++ second.parts;
  text_is = (λ i. first.text_is i ++ second.text_is i) ∙ sym (concat-append first.parts second.parts);
  took = first.took ∙ ap (λ (left : Option (List ℕ)). prepend_known a left) second.took ∙ known_more a b new.input;
  state =
      second.state
      ∙ ap (λ (s : LinkState). record s { talk = then_pieces s.talk (each Got second.parts); input = new.input }) first.state
      ∙ ap (λ (t : Option (List Piece)). record old { talk = t; input = new.input })
      (then_more old.talk (each Got first.parts) (each Got second.parts) ∙ ap (λ (l : List Piece). then_pieces old.talk l) (sym (map-append Got first.parts second.parts)));
}

module _ (text : List ℕ) (start now : LinkState) (so_far : HasCome text start now) (fits : length text ≤ most_piped) where
  pub goes_on : (more : List ℕ) (new : LinkState) → ComesBehind text more now new → HasCome more start new
  goes_on more new comes = subst (λ (t : List ℕ). HasCome t start new) (sym comes.more_is) (came_more text comes.part start now new so_far comes.came)

  pub ends_whole : (more : List ℕ) (new : LinkState) → (more ≡ text) × HasCome [] now new × IsAtEnd new.input → IsReadWhole more start new
  ends_whole more new ended =
      subst (λ (t : List ℕ). IsReadWhole t start new) (sym ended.0)
      (record { came = subst (λ (t : List ℕ). HasCome t start new) (append-nil text) (came_more text [] start now new so_far ended.1); at_end = ended.2; fits = fits })

  pub ends_broken : (new : LinkState) → IsLostAt now new → IsReadBroken start new
  ends_broken new lost = record { text = text; mid = now; came = so_far; fits = fits; lost = lost }

  pub ends_over : (new : LinkState) → ComesOver text now new → IsReadTooLong start new
  ends_over new comes = record { text = text ++ comes.part; came = came_more text comes.part start now new so_far comes.came; over = comes.over }

  pub ends_short : (new : LinkState) → IsRefused now new ⊎ ComesUnkept text now new → IsReadShort start new
  ends_short new (inl refused) = record { text = text; mid = now; came = so_far; fits = fits; ran_out = inr refused }
  ends_short new (inr comes) = record { text = text ++ comes.part; mid = new; came = came_more text comes.part start now new so_far comes.came; fits = comes.fits; ran_out = inl refl }

-- memory ran out before the first read
pub short_at_once : (now : LinkState) → IsReadShort now now
short_at_once now = record { text = []; mid = now; came = none_came now; fits = omega arith; ran_out = inl refl }

-- ---- the layer

pub same_table : (layer new : LayerState) → new ≡ layer → new ≡ record layer { table = new.table }
same_table layer new is = is ∙ ap (λ (t : Table). record layer { table = t }) (sym (ap (λ (s : LayerState). s.table) is))

module _ (spec : LayerSpec) (layer new : LayerState) (old_link new_link : LinkState) where
  pub taken_whole : (text : List ℕ) (result : Result PipeLoaded PipeError) → IsReadWhole text old_link new_link → TakesPiped text layer new result → ReadsPipe spec layer new old_link new_link result
  taken_whole text (Ok Here) read takes = record { text = text; read = read; records = takes.0; reads = takes.1; layer_is = takes.2 }
  taken_whole text (Ok LeftOut) read takes = absurd takes
  taken_whole text (Err Failed) read takes = absurd takes
  taken_whole text (Err (Damaged line)) read takes = (record { text = text; read = read; bad = takes.0 }, takes.1)
  taken_whole text (Err TooLong) read takes = absurd takes
  taken_whole text (Err OutOfMemory) read same =
      (record { text = text; mid = new_link; came = read.came; fits = read.fits; ran_out = inl refl }, same_table layer new same)

  pub passed_over : (result : Result PipeLoaded PipeError) → IsReadBroken old_link new_link → PassesOverPipe spec.required layer new result → ReadsPipe spec layer new old_link new_link result
  passed_over (Ok Here) broken passes = absurd passes
  passed_over (Ok LeftOut) broken passes = (passes.0, broken, passes.1)
  passed_over (Err Failed) broken passes = (passes.0, broken, passes.1)
  passed_over (Err (Damaged line)) broken passes = absurd passes
  passed_over (Err TooLong) broken passes = absurd passes
  passed_over (Err OutOfMemory) broken passes = absurd passes

-- ---- what was read into the buffer, behind the text

pub length_behind : (text buf : List ℕ) (count : ℕ) → count ≤ length buf → length (text ++ take count buf) ≡ length text + count
length_behind text buf count bound = length-append text (take count buf) ∙ ap (λ (n : ℕ). length text + n) (length-take-le count buf bound)

module _ (text buf : List ℕ) (count : ℕ) (old new : LinkState) (some : count ≢ 0) (comes : Comes count buf old new) where
  pub piece_behind : (more : List ℕ) → more ≡ text ++ take count buf → length text + count ≤ most_piped → ComesBehind text more old new
  piece_behind more is few =
      let one : length (take count buf) ≡ count = length-take-le count buf comes.bound in
      let both : length (text ++ take count buf) ≡ length text + count = length_behind text buf count comes.bound in
      record {
        part = take count buf;
        some = rw one (omega arith);
        more_is = is;
        came = one_came count buf old new some comes;
        fits = rw (is, both) few;
      }

  pub piece_over : most_piped < length text + count → ComesOver text old new
  piece_over over = record { part = take count buf; came = one_came count buf old new some comes; over = rw (length_behind text buf count comes.bound) over }

  pub piece_unkept : length text + count ≤ most_piped → ComesUnkept text old new
  piece_unkept few = record { part = take count buf; came = one_came count buf old new some comes; fits = rw (length_behind text buf count comes.bound) few }
