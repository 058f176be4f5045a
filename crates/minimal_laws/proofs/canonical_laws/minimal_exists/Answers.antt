use Rattle.minimal_laws.proofs.CanonicalPresenting.{canonical_cancelled}
use Rattle.minimal_laws.proofs.Searching.{cancellation_exists}
use Rattle.minimal_laws.specs.Gradings.{graded_by_leads}
use Rattle.minimal_laws.proofs.canonical_laws.minimal_exists.Goals as goal

pub returns : goal.returns
returns c = λ n S ws rows degrees A maps lawful len hom h.
    let d = cancellation_exists S.modulus lawful.domain (record { positions = rows; maps = graded_by_leads ws rows maps }) in
    let m = canonical_cancelled S lawful ws rows degrees A len hom maps h d.0 d.1 in
    (d.0, d.1, m.0, m.1)
