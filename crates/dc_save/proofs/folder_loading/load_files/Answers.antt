use Rattle.std.proofs.Common.{ℕ, List, [], ◌∷◌, ◌++◌, map as each, Err, refl, sym, ap, ◌∙◌, subst, append_assoc}
use Rattle.dc_outside.specs.Counts.{Counts}
use Rattle.dc_layer.specs.State.{LayerState}
use Rattle.dc_save.specs.FileTurns.{FileTurnCounts}
use Rattle.dc_save.proofs.FolderLemmas.{keys_shown, nothing_yet, turn_at, told_at, layer_after, told_after, held_after, next_file}
use Rattle.dc_save.proofs.folder_loading.load_files.Goals as goal

pub loop-file-init : goal.loop-file-init
loop-file-init g c = (
  [],
  [],
  record {
    files = ap (each (λ e. e.0.items)) c.into_iter-file-iterator.ensures.into_iter_gives ∙ keys_shown _ _ c.iter-file-items.ensures;
    hold = refl;
    layer_is = nothing_yet _ c.requires.empty;
    told_is = refl;
    counts_are = refl;
  },
)

pub loop-file-preserved : goal.loop-file-preserved
loop-file-preserved g c =
    let inv = c.loop-file.invariant in
    let facts = inv.2 in
    let file : List ℕ = c.deref.result.now in
    let turn = c.in-Ok.ensures.turn in
    let first : LayerState = (goal.Layer-dyn g (c.args.layer.now.vtable, c.args.layer.now.value)).state c.args.layer.now.value in
    let now : LayerState = (goal.Layer-dyn g (c.loop-file.layer.vtable, c.loop-file.layer.value)).state c.loop-file.layer.value in
    let new : LayerState = (goal.Layer-dyn g (c.load_file.new.layer.vtable, c.load_file.new.layer.value)).state c.load_file.new.layer.value in
    let told = (g.F.Files.files c.args.files.now).view in
    let told_now = (g.F.Files.files c.loop-file.files).view in
    let told_new = (g.F.Files.files c.load_file.new.files).view in (
      inv.0 ++ file ∷ [],
      inv.1 ++ turn.1,
      record {
        files = append_assoc inv.0 (file ∷ []) (each (λ e. e.0.items) c.next.new.self) ∙ next_file inv.0 file _ _ c.next.new.self _ _ c.deref.ensures.value c.in-Some.ensures.steps facts.files;
        hold = held_after c.args.spec.now told told_now inv.0 file facts.told_is inv.1 turn.1 turn.0 facts.hold turn.2 turn.3;
        layer_is = layer_after first now new inv.1 turn.1 facts.layer_is turn.4;
        told_is = told_after c.args.spec.now told told_now inv.0 file facts.told_is told_new c.in-Ok.ensures.told;
        counts_are = c.in-Ok.ensures.counts ∙ facts.counts_are;
      },
    )

pub returns-in-Err : goal.returns-in-Err
returns-in-Err g c =
    let inv = c.loop-file.invariant in
    let facts = inv.2 in
    let file : List ℕ = c.deref.result.now in
    let first : LayerState = (goal.Layer-dyn g (c.args.layer.now.vtable, c.args.layer.now.value)).state c.args.layer.now.value in
    let now : LayerState = (goal.Layer-dyn g (c.loop-file.layer.vtable, c.loop-file.layer.value)).state c.loop-file.layer.value in
    let new : LayerState = (goal.Layer-dyn g (c.load_file.new.layer.vtable, c.load_file.new.layer.value)).state c.load_file.new.layer.value in
    let told = (g.F.Files.files c.args.files.now).view in
    let told_now = (g.F.Files.files c.loop-file.files).view in
    let told_new = (g.F.Files.files c.load_file.new.files).view in
    record {
      before = inv.0;
      file = file;
      after = each (λ e. e.0.items) c.next.new.self;
      whole = sym (next_file inv.0 file _ _ c.next.new.self _ _ c.deref.ensures.value c.in-Some.ensures.steps facts.files);
      entries = inv.1;
      hold = facts.hold;
      turn = turn_at c.args.spec.now told told_now inv.0 file facts.told_is first now new inv.1 facts.layer_is (Err c.in-Err.error) c.in-Err.ensures.turn;
      told_is = told_at c.args.spec.now told told_now inv.0 file facts.told_is told_new (Err c.in-Err.error) c.in-Err.ensures.told;
      counted = subst (λ (n : Counts). FileTurnCounts (Err c.in-Err.error) n (g.F.Files.files c.load_file.new.files).counts) facts.counts_are c.in-Err.ensures.counts;
    }
