use Rattle.std.proofs.Common.{◌≡◌, ◌≤◌, length, IfSome, subst, rules, arith}
use Rattle.dc_host.proofs.ReadingLemmas.{whole}
use Rattle.dc_host.proofs.files.read_all.Goals as goal

pub returns-in-Ok-clause-whole : goal.returns-in-Ok-clause-whole
returns-in-Ok-clause-whole g c =
    let small : length c.from_vec.result ≤ 67108864 = search rules in
    subst (λ f. IfSome (g.F.Read.remaining f) (λ all. c.from_vec.result ≡ all)) c.take-start.ensures.inner
    (whole (g.F.Read.remaining c.take-start.result.inner) c.take-start.result.limit c.in_ok-bytes.bytes.items c.read_to_end.new.buf.items c.from_vec.result
    c.in_ok-bytes.ensures c.from_vec.ensures c.in-Ok.ensures.bytes (omega (arith, small, c.take-start.ensures.limit)))
