-- How one comes from a pair of a job to the last of some products: each has its lead from a pair or from an earlier product
use Rattle.std.specs.Prelude.{List, [], length, ℕ, ◌-◌, ◌∷◌, ◌≡◌}
use Rattle.formal_sums.specs.FormalSums.{Each}
use Rattle.term_lists.specs.declared.key.Key.{Key as CodeKey}
use Rattle.module_vectors.specs.Trails.{AreMet, IsKeptProduct, KeptProduct, last_product, kept_product_lead, kept_at}
use Rattle.pair_criteria.specs.Pairs.{IsLcmOf}
use Rattle.pair_criteria.specs.declared.pair.Pair.{Pair as CodePair}
use Rattle.basis_core.specs.Jobs.{index_pair_of}

-- a chain of products of these vectors from this one to the last of the list: the lead of each later one is a key of an earlier one
pub record IsChainTo (n : ℕ) (ws : List ℕ) (vs : List (List (CodeKey × ℕ))) (all : List KeptProduct) (first : KeptProduct) (chain : List KeptProduct) : Type 0 where
  pub later : List KeptProduct
  pub products : chain ≡ first ∷ later
  pub known : Each (IsKeptProduct n ws vs) (first ∷ later)
  pub met : AreMet n [] vs (first ∷ []) later
  pub last : last_product first later ≡ kept_at all (length all - 1)

-- a chain that begins with a pair of the job, of which these are the indices
pub record IsTracedTo (n : ℕ) (ws : List ℕ) (vs : List (List (CodeKey × ℕ))) (pairs : List CodePair) (all chain : List KeptProduct) (i j : ℕ) : Type 0 where
  pub first : KeptProduct
  pub chain_is : IsChainTo n ws vs all first chain
  pub pair : CodePair
  pub indices : index_pair_of pair ≡ (i, j)
  pub lcm : IsLcmOf n pairs (kept_product_lead n vs first) pair
