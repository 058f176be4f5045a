use Rattle.std.proofs.Common.{ap, subst, ◌∙◌}
use Rattle.residues.specs.Residues.{IsDomain}
use Rattle.basis_core.specs.Members.{Shared, shared_of}
use Rattle.basis_core.proofs.members.Members.domain.Goals as goal

pub returns : goal.returns
returns c = subst (λ (z : Shared). IsDomain z.ring.modulus.value) (ap shared_of c.deref.ensures ∙ c.shared.ensures) c.domain.ensures.domain
