-- Products of members that come from pairs, one after another
use Rattle.std.specs.Prelude.{List, [], ℕ}
use Rattle.formal_sums.specs.FormalSums.{Key}
use Rattle.bases.specs.Meeting.{AreMetInTurn}
use Rattle.term_lists.specs.declared.key.Key.{Key as CodeKey}
use Rattle.module_vectors.specs.Trails.{IsInProduct, KeptProduct, kept_product_lead}
use Rattle.pair_criteria.specs.Pairs.{IsLcmOf}
use Rattle.pair_criteria.specs.declared.pair.Pair.{Pair}

-- the lead of each product is the least common multiple of a pair, or a key of an earlier product
abbrev pub AreTraced : (n : ℕ) → List (List (CodeKey × ℕ)) → List Pair → List KeptProduct → Type 0
AreTraced n list pairs products =
    AreMetInTurn (λ (k : Key n). (x : Pair) × IsLcmOf n pairs k x) (IsInProduct n list) (kept_product_lead n list) [] products
