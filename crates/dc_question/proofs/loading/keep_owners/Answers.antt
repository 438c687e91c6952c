use Rattle.std.proofs.Common.{◌≡◌, OnOk, ap, subst}
use Rattle.std.specs.Option.{option_copied}
use Rattle.dc_question.proofs.LoadLemmas.{kept_owners}
use Rattle.dc_question.proofs.loading.keep_owners.Goals as goal

pub returns-in-Some : goal.returns-in-Some
returns-in-Some c =
    subst (λ s. OnOk c.put_owners_of.result (c.put_owners_of.new.self ≡ record c.args.builder.now { owners = s }))
    (kept_owners (option_copied c.args.old) c.in-Some.old.now (ap option_copied c.in-Some.is)) c.put_owners_of.ensures
