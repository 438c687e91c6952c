use Rattle.std.proofs.Common.{inr}
use Rattle.dc_save.proofs.FolderLemmas.{failed_at, passes_files, damaged_files, memory_files}
use Rattle.dc_save.proofs.folder_loading.load_folder.Goals as goal

pub returns-in-Err-Failed-load_files-clause-files : goal.returns-in-Err-Failed-load_files-clause-files
returns-in-Err-Failed-load_files-clause-files g c =
    passes_files _ _ c.args.spec.now _ _ _ _ c.pass_over-in-Err-Failed-load_files.result c.pass_over-in-Err-Failed-load_files.ensures
    (inr (failed_at c.args.spec.now c.in-Ok.listed _ _ _ _ _ _ _ _ c.in-Ok.ensures.view c.in-Ok.ensures.value c.in_ok-its.ensures c.in-Err-Failed-load_files.path c.in-Err-Failed-load_files.field-0 c.in-Err-Failed-load_files.field-0-is c.in-Err-Failed-load_files.ensures))

pub returns-in-Err-Damaged-clause-files : goal.returns-in-Err-Damaged-clause-files
returns-in-Err-Damaged-clause-files g c =
    damaged_files c.args.spec.now c.in-Ok.listed _ _ _ _ _ _ _ _ c.in-Ok.ensures.view c.in-Ok.ensures.value c.in_ok-its.ensures c.in-Err-Damaged.path c.in-Err-Damaged.line c.in-Err-Damaged.field-0 c.in-Err-Damaged.field-0-is c.in-Err-Damaged.ensures

pub returns-clause-files : goal.returns-clause-files
returns-clause-files g c = memory_files c.args.spec.now c.in-Ok.listed _ _ _ _ _ _ _ _ c.in-Ok.ensures.view c.in-Ok.ensures.value c.in_ok-its.ensures c.in-Err-OutOfMemory-load_files.field-0 c.in-Err-OutOfMemory-load_files.field-0-is c.in-Err-OutOfMemory-load_files.ensures
