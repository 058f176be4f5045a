-- When two trails are one
use Rattle.std.specs.Prelude.{◌≡◌}
use Rattle.module_vectors.specs.declared.trail.KeptTrail.{KeptTrail}

-- all that the one has stands in the other
pub record IsSameTrail (t u : KeptTrail) : Type 0 where
  pub ring : u.ring ≡ t.ring
  pub rank : u.rank ≡ t.rank
  pub generators : u.generators ≡ t.generators
  pub below : u.below.items ≡ t.below.items
  pub start : u.start ≡ t.start
  pub vector : u.vector ≡ t.vector
  pub members : u.members ≡ t.members
  pub products : u.products.items ≡ t.products.items
  pub last : u.last ≡ t.last
