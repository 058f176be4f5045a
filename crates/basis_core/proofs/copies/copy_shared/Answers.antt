use Rattle.std.proofs.Common.{ap, ◌∙◌, ◌≡◌}
use Rattle.basis_core.specs.Members.{Shared, shared_of}
use Rattle.basis_core.proofs.copies.copy_shared.Goals as goal

pub returns-clause-ring : goal.returns-clause-ring
returns-clause-ring c =
    let e : shared_of c.deref.result.now ≡ c.args.members.now.shared = ap shared_of c.deref.ensures ∙ c.shared-shared.ensures in
    c.in_ok-ring.ensures ∙ ap (λ (x : Shared). x.ring) e

pub returns-clause-generators : goal.returns-clause-generators
returns-clause-generators c =
    let e : shared_of c.deref-2.result.now ≡ c.args.members.now.shared = ap shared_of c.deref-2.ensures ∙ c.shared-shared.ensures in
    c.in_ok-generators.ensures ∙ ap (λ (x : Shared). x.generators) e
