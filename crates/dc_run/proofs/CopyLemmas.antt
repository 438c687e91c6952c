-- What a copy leaves and tells.
use Rattle.std.proofs.Common.{◌≡◌, ℕ, List, [], refl, sym, subst}
use Rattle.std.specs.Prelude.{Result, Ok, Err, IfOk}
use Rattle.dc_layer.specs.State.{LayerState}
use Rattle.dc_outside.specs.State.{LinkState}
use Rattle.dc_store.specs.Plans.{StoreState, names, stored}
use Rattle.dc_store.specs.StoreLaws.{IsSameStoreButAll}
use Rattle.dc_tools.specs.Copying.{Copying, IsCopied}
use Rattle.dc_tools.specs.declared.report.CopyReport.{CopyReport}
use Rattle.dc_run.specs.EndLines.{HasSaid}
use Rattle.dc_run.specs.Inside.{HasCopiedOver, TellsCopied}
use Rattle.dc_run.specs.declared.outcome.ToolAnswer.{ToolAnswer}
use Rattle.dc_run.proofs.Saying.{none_said}

module _ {E : Type 0} (copy : Copying) (old new : StoreState) (err err_new : LinkState) (before : ℕ) (answer : ToolAnswer) (layers : List LayerState) (at : old ≡ stored layers []) (same : IsSameStoreButAll (names old.layers copy.source) old new) where
  pub copied_over : (result : Result CopyReport E) → IfOk result (λ report. IsCopied copy old new report) → TellsCopied result err err_new before answer → HasCopiedOver copy layers new.layers err err_new before answer
  copied_over (Ok report) copied told =
      subst (λ (a : ToolAnswer). HasCopiedOver copy layers new.layers err err_new before a) (sym told.1)
      (record {
        said = report.lines;
        copies = (report, new, subst (λ (s : StoreState). IsCopied copy s new report) at copied, refl, refl, refl);
        others = subst (λ (s : StoreState). Rattle.dc_store.specs.StoreLaws.AreSameButAll (names s.layers copy.source) s.layers new.layers) at same.others;
        telling = told.0;
        code_is = refl;
        waits = refl;
      })
  copied_over (Err error) copied told =
      subst (λ (a : ToolAnswer). HasCopiedOver copy layers new.layers err err_new before a) (sym told.1)
      (record {
        said = [];
        copies = refl;
        others = subst (λ (s : StoreState). Rattle.dc_store.specs.StoreLaws.AreSameButAll (names s.layers copy.source) s.layers new.layers) at same.others;
        telling = subst (HasSaid [] err) (sym told.0) (none_said err);
        code_is = refl;
        waits = refl;
      })
