-- The least leads of the pairs' syzygies, by the code's lists
use Rattle.std.specs.Prelude.{Contains, List, [], length, ⊤, ℕ, ◌++◌, ◌<◌, ◌∷◌, ◌≡◌, ◌⊎◌}
use Rattle.std.specs.declared.cmp.Ordering.TheVariants.{Greater, Less}
use Rattle.monomials.specs.Exponents.{Divides, exponents_of, lcm, quotient}
use Rattle.formal_sums.specs.FormalSums.{Each}
use Rattle.orders.specs.KeyOrders.{KeyDivides, pot}
use Rattle.orders.specs.MonomialOrders.{lex}
use Rattle.syzygy_laws.specs.Syzygies.{pair_lead_key}
use Rattle.monomial_orders.specs.Kept.{IsWeighed, Monomial}
use Rattle.term_lists.specs.Vectors.{key_of, sums_of}
use Rattle.term_lists.specs.declared.key.Key.{Key as CodeKey}
use Rattle.module_vectors.specs.Trails.{lead_at}
use Rattle.induced_leads.specs.PairLeads.{IsPairKey}

-- m is the cofactor of member i in its pair with member j
pub record IsPairMonomial (n : ℕ) (ws : List ℕ) (cols : List (List (CodeKey × ℕ))) (i j : ℕ) (m : Monomial) : Type 0 where
  pub weighed : IsWeighed n ws m
  pub position : (lead_at n cols i).0 ≡ (lead_at n cols j).0
  pub quotient_is : exponents_of n m.exponents ≡ quotient (lcm (lead_at n cols i).1 (lead_at n cols j).1) (lead_at n cols i).1

-- the cofactors of member i in its pairs with the later members before j
pub record ArePairMonomials (n : ℕ) (ws : List ℕ) (cols : List (List (CodeKey × ℕ))) (i j : ℕ) (ms : List Monomial) : Type 0 where
  pub each : (m : Monomial) → Contains ms m → (l : ℕ) × (i < l) × (l < j) × IsPairMonomial n ws cols i l m
  pub all :
      (l : ℕ)
      → i < l → l < j → (lead_at n cols i).0 ≡ (lead_at n cols l).0 → (m : Monomial) × Contains ms m × IsPairMonomial n ws cols i l m

-- none is lex-above a later one
abbrev pub RisesLex : ℕ → List Monomial → Type 0
RisesLex n [] = ⊤
RisesLex n (m ∷ ms) = Each (λ l. lex (exponents_of n m.exponents) (exponents_of n l.exponents) ≡ Greater → ⊥) ms × RisesLex n ms

-- they strictly ascend, and none divides a later one
abbrev pub AreMinimalMonomials : ℕ → List Monomial → Type 0
AreMinimalMonomials n [] = ⊤
AreMinimalMonomials n (m ∷ ms) =
    Each (λ l. (lex (exponents_of n m.exponents) (exponents_of n l.exponents) ≡ Less)
    × (Divides (exponents_of n m.exponents) (exponents_of n l.exponents) → ⊥)) ms
    × AreMinimalMonomials n ms

-- of those that are done the choice has a divisor of each; the others, which are still to come, are not below it
pub record AreLeastSoFar (n : ℕ) (done rest kept : List Monomial) : Type 0 where
  pub inside : (m : Monomial) → Contains kept m → Contains done m
  pub covers : (m : Monomial) → Contains done m → (k : Monomial) × Contains kept k × Divides (exponents_of n k.exponents) (exponents_of n m.exponents)
  pub apart : AreMinimalMonomials n kept
  pub up_to : Each (λ k. Each (λ m. lex (exponents_of n k.exponents) (exponents_of n m.exponents) ≡ Greater → ⊥) rest) kept
  pub rises : RisesLex n rest

-- two keys in the order of columns, neither of which divides the other
pub record IsBefore (n : ℕ) (k l : CodeKey) : Type 0 where
  pub greater : pot lex (key_of n k) (key_of n l) ≡ Greater
  pub free : KeyDivides (key_of n k) (key_of n l) → ⊥
  pub not_free : KeyDivides (key_of n l) (key_of n k) → ⊥

-- each key stands before all later ones
abbrev pub KeysFall : ℕ → List CodeKey → Type 0
KeysFall n [] = ⊤
KeysFall n (k ∷ ks) = Each (IsBefore n k) ks × KeysFall n ks

-- the least leads of the pairs of the members before i
pub record ArePairLeadsTo (n : ℕ) (ws : List ℕ) (cols : List (List (CodeKey × ℕ))) (i : ℕ) (keys : List CodeKey) : Type 0 where
  pub each : Each (λ k. IsPairKey (sums_of n cols) (key_of n k) × (k.position < i) × IsWeighed n ws k.monomial) keys
  pub covers :
      (a b : ℕ)
      → a < i → a < b → b < length cols → (lead_at n cols a).0 ≡ (lead_at n cols b).0
      → (k : CodeKey) × Contains keys k × KeyDivides (key_of n k) (pair_lead_key (sums_of n cols) a b)
  pub falls : KeysFall n keys

-- each vector has a lead: it is not zero
abbrev pub AreNonzero : List (List (CodeKey × ℕ)) → Type 0
AreNonzero cols = Each (λ v. 0 < length v) cols

-- where the keys stand at one position, the monomial of their pair was put behind the others
abbrev pub IsPairPut : ℕ → List ℕ → CodeKey → CodeKey → List Monomial → List Monomial → Type 0
IsPairPut n ws a b old new =
    ((a.position ≡ b.position → ⊥) × (new ≡ old))
    ⊎ ((a.position ≡ b.position) × ((m : Monomial) × (new ≡ old ++ m ∷ []) × IsWeighed n ws m
    × (exponents_of n m.exponents
    ≡ quotient (lcm (exponents_of n a.monomial.exponents) (exponents_of n b.monomial.exponents)) (exponents_of n a.monomial.exponents))))

-- the monomial was put behind the others, unless one of them divides it
abbrev pub IsPutUnlessCovered : ℕ → Monomial → List Monomial → List Monomial → Type 0
IsPutUnlessCovered n m old new =
    (((k : Monomial) × Contains old k × Divides (exponents_of n k.exponents) (exponents_of n m.exponents)) × (new ≡ old))
    ⊎ (((k : Monomial) → Contains old k → Divides (exponents_of n k.exponents) (exponents_of n m.exponents) → ⊥) × (new ≡ old ++ m ∷ []))

-- the key of a monomial at a position
abbrev pub key_at_position : ℕ → Monomial → CodeKey
key_at_position i m = record { position = i; monomial = m }
