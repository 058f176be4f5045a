use Rattle.std.proofs.Common.{ap, refl, ◌∙◌, ◌≡◌}
use Rattle.basis_core.specs.Members.{Shared, shared_of}
use Rattle.basis_core.proofs.copies.trail_over.Goals as goal

pub returns : goal.returns
returns c =
    let e : shared_of c.deref.result.now ≡ c.args.members.now.shared = ap shared_of c.deref.ensures ∙ c.shared.ensures in
    record {
      ring = c.in_ok-ring.ensures.ring;
      rank = ap (λ (x : Shared). x.rank) e;
      generators = c.in_ok-ring.ensures.generators;
      below = c.new.ensures.items;
      start_is = refl;
      vector_is = refl;
      members = c.in_ok-vectors.ensures;
      products_are = refl;
      last_is = refl;
    }
