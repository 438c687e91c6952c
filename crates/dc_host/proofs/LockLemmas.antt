-- The locks that are held.
use Rattle.std.proofs.Common.{◌≡◌, ◌⊎◌, inl, inr, ℕ, Bool, true, false, cond, List, [], ◌∷◌, ◌++◌, Option, Some, None, is_some, IfSome, Result, Ok, Err, OnOk, OnErr, subst, refl, sym, ap, ◌∙◌, map as each}
use Rattle.std.specs.Prelude.{◌||◌}
use Rattle.std.specs.FinMap as map
use Rattle.std.specs.List.{list_any}
use Rattle.std.proofs.lemmas.List.Elements.{Contains-append_left}
use Rattle.std.specs.Ordering.{eq_by_cmp}
use Rattle.std.specs.Cmp.Lexicographic.{nat_list_cmp_total}
use Rattle.std.specs.FinMap.{get-insert}
use Rattle.dc_text.specs.Maps.{Texts, text_cmp}
use Rattle.dc_host.specs.Locks.{IsHeld, KeepsLocks, KeepsLocksBut}
use Rattle.dc_host.specs.declared.locks.Lock.{Lock}
use Rattle.dc_host.specs.declared.locks.Locks.{Locks}
use Rattle.dc_host.proofs.EntryLemmas.{get_put, put_back, same}

pub keeps_locks_same : {H : Type 0} (locks : Locks H) → KeepsLocks locks locks
unfolding KeepsLocks KeepsLocksBut
keeps_locks_same locks lock held = held

pub keeps_locks_on : {H : Type 0} (first second third : Locks H) → KeepsLocks first second → KeepsLocks second third → KeepsLocks first third
unfolding KeepsLocks KeepsLocksBut
keeps_locks_on first second third early late lock held = late lock (early lock held)

pub keeps_but : {H : Type 0} (path : List ℕ) (before now : Locks H) → KeepsLocks before now → KeepsLocksBut path before now
unfolding KeepsLocks KeepsLocksBut
keeps_but path before now keeps lock held = inl (keeps lock held)

pub keeps_but_same : {H : Type 0} (path : List ℕ) (before now : Locks H) → now ≡ before → KeepsLocksBut path before now
unfolding KeepsLocksBut
keeps_but_same path before now same lock held = inl (rw same held)

-- the same locks, part by part
pub keeps_alike : {H : Type 0} (before now : Locks H) → now.read ≡ before.read → now.placed ≡ before.placed → KeepsLocks before now
unfolding KeepsLocks
keeps_alike before now read placed lock (inl held) = inl (rw read held)
keeps_alike before now read placed lock (inr (path, held)) = inr (path, ap (λ locks. map.get locks path) placed ∙ held)

-- one more lock of what was read
pub keeps_with_read : {H : Type 0} (before now : Locks H) (lock : Lock H) → now.read ≡ before.read ++ lock ∷ [] → now.placed ≡ before.placed → KeepsLocks before now
unfolding KeepsLocks KeepsLocksBut
keeps_with_read before now lock more same other (inl held) = inl (rw more (Contains-append_left before.read (lock ∷ []) other held))
keeps_with_read before now lock more same other (inr (path, held)) = inr (path, ap (λ locks. map.get locks path) same ∙ held)

none_missing : {L : Type 0} (found : Option L) → is_some found ≡ false → None ≡ found
none_missing None missing = refl
none_missing (Some lock) missing = absurd (cc)

pub no_lock : {L : Type 0} (locks : Texts L) (path : List ℕ) → map.contains_key locks path ≡ false → None ≡ map.get locks path
no_lock locks path missing = none_missing (map.get locks path) missing

-- a test of the values of the entries, and of the entries
pub any_value : {K M X : Type 0} (p : X → Bool) (f : K → M) (es : List (K × X)) → list_any (λ (e : K × X). p e.1) es ≡ list_any p (each (λ (e : M × X). e.1) (each (λ (e : K × X). (f e.0, e.1)) es))
any_value p f [] = refl
any_value p f (e ∷ es) = ap (λ b. p e.1 || b) (any_value p f es)

-- a lock that is put at a path leaves those at the others
other_path : {L : Type 0} (m : Texts L) (path other : List ℕ) (lock held : L) → map.get m other ≡ Some held
    → (map.get (map.insert m path lock) other ≡ Some held) ⊎ (map.get m path ≡ Some held)
other_path m path other lock held there = elim (eq_by_cmp text_cmp other path) as (λ b. eq_by_cmp text_cmp other path ≡ b
    → (map.get (map.insert m path lock) other ≡ Some held) ⊎ (map.get m path ≡ Some held)) [
      | true ↦ λ t. inr (ap (map.get m) (sym (same other path t)) ∙ there)
      | false ↦ λ t. inl (get-insert nat_list_cmp_total m path lock other ∙ ap (λ b. cond b (Some lock) (map.get m other)) t ∙ there)
    ] refl

-- a lock that is put at a path lets go that of the file that was put there before
pub keeps_but_placed : {H : Type 0} (before now : Locks H) (path : List ℕ) (lock : Lock H) → now.read ≡ before.read → now.placed ≡ map.insert before.placed path lock
    → KeepsLocksBut path before now
unfolding KeepsLocks KeepsLocksBut
keeps_but_placed before now path lock read placed held (inl was) = inl (inl (rw read was))
keeps_but_placed before now path lock read placed held (inr (other, was)) = elim (other_path before.placed path other lock held was) as (λ _. IsHeld now held ⊎ (map.get before.placed path ≡ Some held)) [
  | inl still ↦ inl (inr (other, ap (λ locks. map.get locks other) placed ∙ still))
  | inr gone ↦ inr gone
]

no_some : {L : Type 0} (lock : L) → None ≡ Some lock → ⊥
no_some lock e = absurd (cc)

-- and none where none was
pub keeps_with_placed : {H : Type 0} (before now : Locks H) (path : List ℕ) (lock : Lock H) → now.read ≡ before.read → now.placed ≡ map.insert before.placed path lock
    → None ≡ map.get before.placed path → KeepsLocks before now
unfolding KeepsLocks KeepsLocksBut
keeps_with_placed before now path lock read placed none held was = elim (keeps_but_placed before now path lock read placed held was) as (λ _. IsHeld now held) [
  | inl still ↦ still
  | inr gone ↦ absurd (no_some held (none ∙ gone))
]

-- a lock that is put and taken away again for the one before leaves all as they were
pub placed_back : {H : Type 0} (before put now : Locks H) (path : List ℕ) (lock last : Lock H) → put.read ≡ before.read → put.placed ≡ map.insert before.placed path lock
    → Some last ≡ map.get before.placed path → now.read ≡ put.read → now.placed ≡ map.insert put.placed path last → KeepsLocks before now
unfolding KeepsLocks KeepsLocksBut
placed_back before put now path lock last read placed there read2 placed2 held (inl was) = inl (rw read2 (rw read was))
placed_back before put now path lock last read placed there read2 placed2 held (inr (other, was)) =
    inr (other, ap (λ locks. map.get locks other) (placed2 ∙ ap (λ m. map.insert m path last) placed ∙ put_back before.placed path last lock (sym there)) ∙ was)

-- the same where it is taken away only if the rename fails
pub placed_over : {H E : Type 0} (before put now : Locks H) (path : List ℕ) (lock last : Lock H) (result : Result (Unit {0}) E) → put.read ≡ before.read
    → put.placed ≡ map.insert before.placed path lock → Some last ≡ map.get before.placed path → now.read ≡ put.read → OnOk result (now ≡ put)
    → OnErr result (now.placed ≡ map.insert put.placed path last) → KeepsLocksBut path before now
placed_over before put now path lock last (Ok done) read placed there read2 as_put back = keeps_but_placed before now path lock (read2 ∙ read) (ap (λ locks. locks.placed) as_put ∙ placed)
placed_over before put now path lock last (Err failed) read placed there read2 as_put back = keeps_but path before now (placed_back before put now path lock last read placed there read2 back)

-- the lock that was put last at the path is held
pub placed_there : {H : Type 0} (now : Locks H) (before : Texts (Lock H)) (path : List ℕ) (lock : Lock H) → now.placed ≡ map.insert before path lock → map.get now.placed path ≡ Some lock
placed_there now before path lock placed = ap (λ locks. map.get locks path) placed ∙ get_put before path lock

-- a path at which something was put is there
pub path_there : {L : Type 0} (now before : Texts L) (path : List ℕ) (lock : L) → now ≡ map.insert before path lock → map.contains_key now path ≡ true
path_there now before path lock placed = ap (λ locks. map.contains_key locks path) placed ∙ ap is_some (get_put before path lock)

-- what was written is known by the lock that was put for it
pub written_still : {L W : Type 0} (now before : Texts L) (path : List ℕ) (lock : L) (made : L → W) (found : Option W) → now ≡ map.insert before path lock
    → IfSome (map.get now path) (λ put. found ≡ Some (made put)) → found ≡ Some (made lock)
written_still now before path lock made found placed still = subst (λ held. IfSome held (λ put. found ≡ Some (made put)))
    (ap (λ locks. map.get locks path) placed ∙ get_put before path lock) still
