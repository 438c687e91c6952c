-- What writes in turn do to what a writer holds.
use Rattle.std.proofs.Common.{ℕ, List, ◌++◌, Option, Some, None, sym, ap, ◌∙◌, append_assoc}
use Rattle.std.specs.Io.KnownBytes.{Appends}
use Rattle.dc_pipes.specs.Streams.{IsWritten}

appends-appends : (a b c : Option (List ℕ)) (xs ys : List ℕ) → Appends a b xs → Appends b c ys → Appends a c (xs ++ ys)
appends-appends None b c xs ys first second = tt
appends-appends (Some us) None c xs ys first second = absurd first
appends-appends (Some us) (Some vs) None xs ys first second = absurd second
appends-appends (Some us) (Some vs) (Some ws) xs ys first second = second ∙ ap (λ (l : List ℕ). l ++ ys) first ∙ append_assoc us xs ys

pub written-more : (a b c : Option (List ℕ)) (bytes rest last : List ℕ) → IsWritten a b bytes rest → IsWritten b c rest last → IsWritten a c bytes last
written-more a b c bytes rest last first second = record {
  front = first.front ++ second.front;
  whole = first.whole ∙ ap (λ (l : List ℕ). first.front ++ l) second.whole ∙ sym (append_assoc first.front second.front last);
  written = appends-appends a b c first.front second.front first.written second.written;
}
