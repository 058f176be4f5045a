-- What a trail keeps of the members
use Rattle.std.specs.Prelude.{List, [], ℕ, ◌≡◌}
use Rattle.monomial_orders.specs.Kept.{Monomial}
use Rattle.term_lists.specs.declared.key.Key.{Key as CodeKey}
use Rattle.module_vectors.specs.Trails.{KeptProduct}
use Rattle.module_vectors.specs.declared.trail.KeptTrail.{KeptTrail}
use Rattle.module_vectors.specs.declared.trail.TrailStart.{TrailStart}
use Rattle.basis_core.specs.Members.{MembersShown}
use Rattle.basis_core.specs.Rows.{vectors_in}

-- the trail is over these members, begins with this start and vector, and has these products and this last monomial
pub record IsOverMembers (m : MembersShown) (start : TrailStart) (v : List (CodeKey × ℕ)) (ss : List KeptProduct) (last : Monomial) (t : KeptTrail) : Type 0 where
  pub ring : t.ring ≡ m.shared.ring
  pub rank : t.rank ≡ m.shared.rank
  pub generators : t.generators ≡ m.shared.generators
  pub below : t.below.items ≡ []
  pub start_is : t.start ≡ start
  pub vector_is : t.vector ≡ v
  pub members : t.members ≡ vectors_in m.list
  pub products_are : t.products.items ≡ ss
  pub last_is : t.last ≡ last
