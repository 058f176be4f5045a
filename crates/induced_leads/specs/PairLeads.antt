-- The least leads of the syzygies of pairs (Eisenbud, Commutative Algebra, section 15.5; UAG chapter 5, section 3)
use Rattle.std.specs.Prelude.{List, get_or, length, ℕ, ◌<◌, ◌≡◌}
use Rattle.std.specs.declared.cmp.Ordering.{Ordering}
use Rattle.std.specs.declared.cmp.Ordering.TheVariants.{Greater}
use Rattle.monomials.specs.Exponents.{unit}
use Rattle.formal_sums.specs.FormalSums.{FormalSum, Key}
use Rattle.orders.specs.KeyOrders.{KeyDivides, pot}
use Rattle.orders.specs.MonomialOrders.{lex}
use Rattle.bases.specs.Bases.{IsGroebnerBasis}
use Rattle.bases.specs.Leads.{IsMonicList, leads}
use Rattle.syzygy_laws.specs.Syzygies.{pair_lead_key}
use Rattle.term_lists.specs.Rings.{setting, variables}
use Rattle.term_lists.specs.Vectors.{sums_of}
use Rattle.term_lists.specs.declared.key.Key.{Key as CodeKey}
use Rattle.term_lists.specs.declared.ring.Ring.{Ring}

-- the columns are monic, and a Gröbner basis of their module
pub record IsBase (ring : Ring) (compare : (n : ℕ) → Key n → Key n → Ordering) (columns : List (List (CodeKey × ℕ))) : Type 0 where
  pub rank : ℕ
  pub monic :
      let n = variables ring in
      IsMonicList (setting ring n (compare n) rank) (sums_of n columns)
  pub basis :
      let n = variables ring in
      IsGroebnerBasis (setting ring n (compare n) rank) (sums_of n columns) (sums_of n columns)

-- k is the lead of the syzygy of its member and a later one (UAG chapter 5, section 3)
pub record IsPairKey {n : ℕ} (F : List (FormalSum n)) (k : Key n) : Type 0 where
  pub later : ℕ
  pub after : k.0 < later
  pub inside : later < length F
  pub position : (leads F k.0).0 ≡ (leads F later).0
  pub is : k ≡ pair_lead_key F k.0 later

-- the key with this number
abbrev pub key_at : {n : ℕ} → List (Key n) → ℕ → Key n
key_at {n} keys c = get_or keys c (0, unit n)

-- the least leads of the pairs' syzygies: none divides another, and each is a multiple of one. They stand by position
-- ascending, then by lex-descending monomial
pub record ArePairLeads {n : ℕ} (F : List (FormalSum n)) (keys : List (Key n)) : Type 0 where
  pub each : (c : ℕ) → c < length keys → IsPairKey F (key_at keys c)
  pub covers :
      (i j : ℕ)
      → i < j → j < length F → (leads F i).0 ≡ (leads F j).0
      → (c : ℕ) × (c < length keys) × KeyDivides (key_at keys c) (pair_lead_key F i j)
  pub apart : (c d : ℕ) → c < length keys → d < length keys → (c ≡ d → ⊥) → KeyDivides (key_at keys d) (key_at keys c) → ⊥
  pub sorted : (c d : ℕ) → c < d → d < length keys → pot lex (key_at keys c) (key_at keys d) ≡ Greater
