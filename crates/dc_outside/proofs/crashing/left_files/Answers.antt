use Rattle.std.proofs.Common.{◌≡◌, ◌∙◌, sym, ap, subst, ℕ, List, map as each}
use Rattle.std.specs.FinMap as map
use Rattle.dc_text.specs.Maps.{Texts}
use Rattle.dc_outside.specs.Disk.{File, CrashOutcome, DiskState, Disk, with_entry}
use Rattle.dc_outside.specs.Crash.{IsLeftBy}
use Rattle.dc_outside.proofs.LeftFiles.{IsLeft, none_left, one_left}
use Rattle.dc_outside.proofs.crashing.left_files.Goals as goal

pub loop-path-init : goal.loop-path-init
loop-path-init c = λ q.
    let disk : Disk = record { current = c.args.current.now; past = c.args.past.now } in
    let files : c.in_ok-files.files ≡ disk.current.files = c.in_ok-files.ensures ∙ ap (λ (s : DiskState). s.files) c.current.view_is in
    let keys : each (λ (e : List ℕ × CrashOutcome). e.0) (each (λ e. (e.0.items, e.1)) c.into_iter-path-iterator.result) ≡ map.keys disk.current.pending =
    ap (λ es. each (λ (e : List ℕ × CrashOutcome). e.0) (each (λ e. (e.0.items, e.1)) es)) c.into_iter-path-iterator.ensures.into_iter_gives
    ∙ ap (λ es. each (λ (e : List ℕ × CrashOutcome). e.0) es) c.iter-path-items.ensures ∙ ap (λ (s : DiskState). map.keys s.pending) c.current.view_is in
    subst (λ (ks : List (List ℕ)). IsLeft c.args.pick disk c.in_ok-files.files ks q) (sym keys) (subst (λ (f : Texts File). IsLeft c.args.pick disk f (map.keys disk.current.pending) q) (sym files) (none_left c.args.pick disk q))

pub loop-path-preserved : goal.loop-path-preserved
loop-path-preserved c = λ q.
    let disk : Disk = record { current = c.args.current.now; past = c.args.past.now } in
    let path : List ℕ = c.in-Some.path.now.items in
    let rest : List (List ℕ) = each (λ (e : List ℕ × CrashOutcome). e.0) (each (λ e. (e.0.items, e.1)) c.next.new.self) in
    let may : IsLeftBy c.args.pick disk path c.in_ok-entry.entry = subst (λ (p : List ℕ). IsLeftBy c.args.pick disk p c.in_ok-entry.entry) c.deref.ensures.value c.in_ok-entry.ensures in
    let put : c.put.new.files ≡ with_entry c.loop-path.files path c.in_ok-entry.entry =
    c.in_ok-put.ensures ∙ ap (λ (p : List ℕ). with_entry c.loop-path.files p c.in_ok-entry.entry) (c.in_ok-from_bytes.ensures ∙ c.deref-in-loop-path.ensures.value) in
    subst (λ (f : Texts File). IsLeft c.args.pick disk f rest q) (sym put)
    (one_left c.args.pick disk c.loop-path.files path rest c.in_ok-entry.entry may
    (λ r. subst (λ es. IsLeft c.args.pick disk c.loop-path.files (each (λ (e : List ℕ × CrashOutcome). e.0) (each (λ e. (e.0.items, e.1)) es)) r) c.in-Some.ensures.steps (c.loop-path.invariant r)) q)
