-- How counts of calls are told apart.
use Rattle.std.specs.Prelude.{ℕ, refl}
use Rattle.std.specs.Coded.{Coded, code_by, coded×, coded_ℕ}
use Rattle.dc_outside.specs.Counts.{Counts}

abbrev pub counts_code : Coded Counts
counts_code = code_by (ℕ × ℕ) (coded× coded_ℕ coded_ℕ) (λ c. (c.faults, c.refusals)) (λ p. record { faults = p.0; refusals = p.1 }) (λ _. refl)
