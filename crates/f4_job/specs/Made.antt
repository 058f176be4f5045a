-- A row of a matrix as a row of an outcome
use Rattle.std.specs.Prelude.{List, None, Option, Some, [], get_or, map, ⊤, ℕ, ◌∷◌, ◌≡◌}
use Rattle.formal_sums.specs.FormalSums.{Each}
use Rattle.monomial_orders.specs.Kept.{IsWeighed}
use Rattle.term_lists.specs.Rings.{variables}
use Rattle.term_lists.specs.Vectors.{StandsFor, sum_of}
use Rattle.term_lists.specs.declared.key.Key.{Key as CodeKey}
use Rattle.term_lists.specs.declared.ring.Ring.{Ring}
use Rattle.module_vectors.specs.Trails.{KeptProduct, kept_at}
use Rattle.member_products.specs.Generators.{IsVectorOf}
use Rattle.member_products.specs.declared.member.Reduct.{Reduct as CodeReduct}
use Rattle.row_matrix.specs.Hashes.{no_key}
use Rattle.row_matrix.specs.Rows.{Entry, RowShown, vector_of}
use Rattle.vector_division.specs.Reductions.{cofactors_of}
use Rattle.vector_division.specs.declared.reduction.ScaledProduct.{ScaledProduct}

-- the term of an entry, whose column is this key
abbrev pub entry_term : List CodeKey → Entry → CodeKey × ℕ
entry_term columns e = (get_or columns e.0 no_key, e.1)

-- a residue times a product
abbrev pub source_part : List KeptProduct → Entry → ScaledProduct
source_part ps e = record { index = (kept_at ps e.0).0; residue = e.1; monomial = (kept_at ps e.0).1 }

-- each of them
abbrev pub source_parts : List KeptProduct → List Entry → List ScaledProduct
source_parts ps sources = map (λ e. source_part ps e) sources

-- the sources that stand at places, in their order
abbrev pub placed_entries : List (Option Entry) → List Entry
placed_entries [] = []
placed_entries (None ∷ slots) = placed_entries slots
placed_entries (Some s ∷ slots) = s ∷ placed_entries slots

-- the row has this vector, and the products that its sources name
pub record IsMadeRow (ring : Ring) (columns : List CodeKey) (ps : List KeptProduct) (r : RowShown) (row : CodeReduct) : Type 0 where
  pub vector : IsVectorOf ring row.vector
  pub sum : sum_of (variables ring) row.vector ≡ vector_of (variables ring) columns r
  pub products : IsVectorOf ring row.products
  pub made : StandsFor ring row.products (cofactors_of (variables ring) (source_parts ps r.sources))

-- each row in turn
abbrev pub AreMadeRows : Ring → List CodeKey → List KeptProduct → List RowShown → List CodeReduct → Type 0
AreMadeRows ring columns ps [] [] = ⊤
AreMadeRows ring columns ps [] (row ∷ rows) = ⊥
AreMadeRows ring columns ps (r ∷ rs) [] = ⊥
AreMadeRows ring columns ps (r ∷ rs) (row ∷ rows) = IsMadeRow ring columns ps r row × AreMadeRows ring columns ps rs rows

-- the products are by monomials in n variables of these weights
abbrev pub AreWeighedProducts : (n : ℕ) → List ℕ → List KeptProduct → Type 0
AreWeighedProducts n ws ps = Each (λ s. IsWeighed n ws s.1) ps
