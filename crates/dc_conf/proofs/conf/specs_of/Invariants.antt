use Rattle.std.proofs.Common.{◌≡◌, length, ◌++◌, map as each}
use Rattle.std.specs.Prelude.{not}
use Rattle.std.specs.List.{AllByRecursion, filter}
use Rattle.dc_conf.specs.ConfFaults.{is_made}
use Rattle.dc_conf.specs.Configuration.{spec_of}
use Rattle.dc_conf.specs.Machine.{HasMode}
use Rattle.dc_conf.proofs.conf.specs_of.Given as goal

abbrev pub invariant-loop-rest : goal.invariant-loop-rest
invariant-loop-rest l = record {
  built : l.specs ++ each spec_of (filter (λ stanza. not (is_made stanza)) l.rest) ≡ each spec_of (filter (λ stanza. not (is_made stanza)) l.databases);
  modes : AllByRecursion HasMode l.rest;
}

abbrev pub decreases-loop-rest : goal.decreases-loop-rest
decreases-loop-rest l = length l.rest
