-- How the loads of a run are counted on its link.
use Rattle.std.proofs.Common.{◌≡◌, inl, inr, ℕ, Bool, true, false, List, [], ◌∷◌, refl, sym, subst, ap, ◌∙◌, arith}
use Rattle.std.specs.Prelude.{Ok, Err, Result}
use Rattle.dc_outside.specs.Counts.{Counts, FaultRose, RefusalRose}
use Rattle.dc_outside.specs.declared.link.LinkError.TheVariants.{Failed, OutOfMemory}
use Rattle.dc_layer.specs.State.{LayerState}
use Rattle.dc_conf.specs.declared.spec.LayerSpec.{LayerSpec}
use Rattle.dc_save.specs.PipeLoading.{HasCome, IsReadBroken, IsReadShort, LoadsWhere, ReadsPipe}
use Rattle.dc_save.specs.declared.pipe_loading.PipeError.{PipeError}
use Rattle.dc_save.specs.declared.pipe_loading.PipeError.TheVariants as pipe
use Rattle.dc_save.specs.declared.pipe_loading.PipeLoaded.{PipeLoaded}
use Rattle.dc_save.specs.declared.pipe_loading.PipeLoaded.TheVariants as piped
use Rattle.dc_shelf.specs.Shelves.{GoesOn, LoadAnswer, LoadsAll, LoadsOne, Sources}
use Rattle.dc_shelf.specs.declared.loading.SourceError.{SourceError}
use Rattle.dc_shelf.specs.declared.loading.SourceError.TheVariants as source
use Rattle.dc_serve.specs.declared.outcome.LinkEnd.TheVariants as link
use Rattle.dc_outside.specs.State.{LinkState}
use Rattle.dc_run.specs.Ends.{Stays, MayRise, CountsLoads}

-- how the link counted the read of a pipe, by the answer of the load
abbrev pub PipeCounts : Result PipeLoaded PipeError → Counts → Counts → Type 0
PipeCounts (Ok piped.Here) before now = Stays before now
PipeCounts (Ok piped.LeftOut) before now = FaultRose before now
PipeCounts (Err pipe.Failed) before now = FaultRose before now
PipeCounts (Err (pipe.Damaged line)) before now = Stays before now
PipeCounts (Err pipe.TooLong) before now = Stays before now
PipeCounts (Err pipe.OutOfMemory) before now = MayRise before now

come_counts : (text : List ℕ) (old new : LinkState) → HasCome text old new → new.counts ≡ old.counts
come_counts text old new came = ap (λ (l : LinkState). l.counts) came.state

broken_counts : (old new : LinkState) → IsReadBroken old new → FaultRose old.counts new.counts
broken_counts old new is = subst (λ (c : Counts). FaultRose c new.counts) (come_counts is.text old is.mid is.came) is.lost.rose

short_counts : (old new : LinkState) → IsReadShort old new → MayRise old.counts new.counts
short_counts old new is = elim is.ran_out [
  | inl same ↦ inl (ap (λ (l : LinkState). l.counts) same ∙ come_counts is.text old is.mid is.came)
  | inr refused ↦ inr (inr (subst (λ (c : Counts). RefusalRose c new.counts) (come_counts is.text old is.mid is.came) refused.rose))
]

read_counts : (spec : LayerSpec) (layer made : LayerState) (old new : LinkState) (result : Result PipeLoaded PipeError) → ReadsPipe spec layer made old new result → PipeCounts result old.counts new.counts
read_counts spec layer made old new (Ok piped.Here) is = come_counts is.text old new is.read.came
read_counts spec layer made old new (Ok piped.LeftOut) is = broken_counts old new is.1
read_counts spec layer made old new (Err pipe.Failed) is = broken_counts old new is.1
read_counts spec layer made old new (Err (pipe.Damaged line)) is = come_counts is.0.text old new is.0.read.came
read_counts spec layer made old new (Err pipe.TooLong) is = come_counts is.0.text old new is.0.came
read_counts spec layer made old new (Err pipe.OutOfMemory) is = short_counts old new is.0

pub pipe_counts : (infd : Bool) (spec : LayerSpec) (layer made : LayerState) (old new : LinkState) (result : Result PipeLoaded PipeError) → LoadsWhere infd spec layer made old new result → PipeCounts result old.counts new.counts
pipe_counts true spec layer made old new result is = read_counts spec layer made old new result is
pipe_counts false spec layer made old new result is = rw is.0 (ap (λ (l : LinkState). l.counts) is.2)

-- how the link counted the last load, by the answer of them all
abbrev pub LastCounts : Result (Unit {0}) SourceError → Counts → Counts → Type 0
LastCounts (Ok done) before now = Stays before now
LastCounts (Err (source.Files error)) before now = Stays before now
LastCounts (Err (source.Pipe pipe.Failed)) before now = FaultRose before now
LastCounts (Err (source.Pipe (pipe.Damaged line))) before now = Stays before now
LastCounts (Err (source.Pipe pipe.TooLong)) before now = Stays before now
LastCounts (Err (source.Pipe pipe.OutOfMemory)) before now = MayRise before now

-- and those before it
pub record LoadCounts (result : Result (Unit {0}) SourceError) (before now : LinkState) : Type 0 where
  pub mid : LinkState
  pub loads : CountsLoads before.counts mid.counts
  pub last : LastCounts result mid.counts now.counts

fault_twice : (before mid now : Counts) → FaultRose before mid → FaultRose mid now → FaultRose before now
fault_twice before mid now first second = record {
  faults = record { later = omega (arith, first.faults.later, second.faults.later); rose = omega (arith, first.faults.rose, second.faults.later) };
  refusals = second.refusals ∙ first.refusals;
}

loads_twice : (before mid now : Counts) → CountsLoads before mid → CountsLoads mid now → CountsLoads before now
loads_twice before mid now (inl same) second = subst (λ (c : Counts). CountsLoads c now) same second
loads_twice before mid now (inr first) (inl same) = inr (subst (λ (c : Counts). FaultRose before c) (sym same) first)
loads_twice before mid now (inr first) (inr second) = inr (fault_twice before mid now first second)

more_loads : (result : Result (Unit {0}) SourceError) (before mid now : LinkState) → CountsLoads before.counts mid.counts → LoadCounts result mid now → LoadCounts result before now
more_loads result before mid now first more = record { mid = more.mid; loads = loads_twice before.counts mid.counts more.mid.counts first more.loads; last = more.last }

last_load : (result other : Result (Unit {0}) SourceError) (before now : LinkState) → result ≡ other → LastCounts other before.counts now.counts → LoadCounts result before now
last_load result other before now is last = subst (λ (r : Result (Unit {0}) SourceError). LoadCounts r before now) (sym is) (record { mid = before; loads = inl refl; last = last })

module _ (spec : LayerSpec) (layer made : LayerState) (from mid left : Sources) (result : Result (Unit {0}) SourceError) (more last : Type 0) (after : more → LoadCounts result mid.link left.link) (end : last → left ≡ mid) where
  ended_there : last → left.link.counts ≡ mid.link.counts
  ended_there is = ap (λ (s : Sources). s.link.counts) (end is)

  failed_pipe : (error : PipeError) → PipeCounts (Err error) from.link.counts mid.link.counts → last → LastCounts (Err (source.Pipe error)) from.link.counts left.link.counts
  failed_pipe pipe.Failed counts is = subst (λ (c : Counts). FaultRose from.link.counts c) (sym (ended_there is)) counts
  failed_pipe (pipe.Damaged line) counts is = ended_there is ∙ counts
  failed_pipe pipe.TooLong counts is = ended_there is ∙ counts
  failed_pipe pipe.OutOfMemory counts is = subst (λ (c : Counts). MayRise from.link.counts c) (sym (ended_there is)) counts

  one_load : (first : LoadAnswer) → LoadsOne spec layer made from mid first → GoesOn first result more last → LoadCounts result from.link left.link
  one_load (LoadAnswer.OfFiles (Ok loaded)) is on = more_loads result from.link mid.link left.link (inl (ap (λ (l : LinkState). l.counts) is.3)) (after on)
  one_load (LoadAnswer.OfFiles (Err error)) is at =
      last_load result (Err (source.Files error)) from.link left.link at.0 (ended_there at.1 ∙ ap (λ (l : LinkState). l.counts) is.3)
  one_load (LoadAnswer.OfPipe (Ok piped.Here)) is on =
      more_loads result from.link mid.link left.link (inl (pipe_counts spec.infd spec layer made from.link mid.link (Ok piped.Here) is.1)) (after on)
  one_load (LoadAnswer.OfPipe (Ok piped.LeftOut)) is on =
      more_loads result from.link mid.link left.link (inr (pipe_counts spec.infd spec layer made from.link mid.link (Ok piped.LeftOut) is.1)) (after on)
  one_load (LoadAnswer.OfPipe (Err error)) is at =
      last_load result (Err (source.Pipe error)) from.link left.link at.0 (failed_pipe error (pipe_counts spec.infd spec layer made from.link mid.link (Err error) is.1) at.1)

pub load_counts : (specs : List LayerSpec) (old new : List LayerState) (from left : Sources) (result : Result (Unit {0}) SourceError) → LoadsAll specs old new from left result → LoadCounts result from.link left.link
load_counts [] old new from left result is = last_load result (Ok tt) from.link left.link is.0 (ap (λ (s : Sources). s.link.counts) is.2)
load_counts (spec ∷ specs) [] new from left result is = absurd is
load_counts (spec ∷ specs) (layer ∷ old) [] from left result is = absurd is
load_counts (spec ∷ specs) (layer ∷ old) (made ∷ new) from left result is =
    one_load spec layer made from is.1 left result (LoadsAll specs old new is.1 left result) ((new ≡ old) × (left ≡ is.1))
    (load_counts specs old new is.1 left result) (λ last. last.1) is.0 is.2 is.3

-- where all were answered
pub loads_counted : (before now : LinkState) → LoadCounts (Ok tt) before now → CountsLoads before.counts now.counts
loads_counted before now is = subst (λ (c : Counts). CountsLoads before.counts c) (sym is.last) is.loads
