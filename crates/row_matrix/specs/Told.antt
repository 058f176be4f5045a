-- Keys that are told by their hashes alone
use Rattle.std.specs.Prelude.{List, get_or, length, ℕ, ◌*◌, ◌+◌, ◌<◌, ◌^◌, ◌≡◌, ◌≤◌}
use Rattle.formal_sums.specs.FormalSums.{Each}
use Rattle.monomial_orders.specs.Kept.{Monomial}
use Rattle.term_lists.specs.declared.key.Key.{Key}
use Rattle.row_matrix.specs.Hashes.{digit_base, hash_of, key_product, no_key, term_hashes}

-- what contracts see of the hashes of terms: the hashes, and a position and a degree that none of the keys is above
pub record HashesShown : Type 0 where
  pub hashes : List ℕ
  pub position : ℕ
  pub degree : ℕ

-- the key stands at no later position, and neither its degree nor an exponent is greater
pub record IsKeyUpTo (position degree : ℕ) (key : Key) : Type 0 where
  pub place : key.position ≤ position
  pub few : key.monomial.degree ≤ degree
  pub exponents : (k : ℕ) → get_or key.monomial.exponents k 0 ≤ degree

-- the hashes of the keys of these terms, and their bounds
pub record AreHashesOf (h : HashesShown) (v : List (Key × ℕ)) : Type 0 where
  pub hashes : h.hashes ≡ term_hashes v
  pub bounded : Each (λ u. IsKeyUpTo h.position h.degree u.0) v

-- the digits of so many exponents behind the position are a number of 64 bits
abbrev pub FitsDigits : ℕ → ℕ → Type 0
FitsDigits n position = (position + 1) * digit_base n ^ n ≤ 2 ^ 64

-- among keys in as many variables the hash tells this one: its position and exponents are the digits of a number of 64 bits
abbrev pub IsToldKey : Key → Type 0
IsToldKey key = let n = length key.monomial.exponents in FitsDigits n key.position × Each (λ x. x < digit_base n) key.monomial.exponents

-- they are such keys
abbrev pub AreTold : List Key → Type 0
AreTold keys = Each IsToldKey keys

-- the hashes tell the keys and the products of the monomial with keys up to this position and degree
pub record AreToldWith (keys : List Key) (t : Monomial) (position degree : ℕ) : Type 0 where
  pub told : AreTold keys
  pub fits : FitsDigits (length t.exponents) position
  pub low : t.degree + degree < digit_base (length t.exponents)
  pub exponents : (k : ℕ) → get_or t.exponents k 0 ≤ t.degree

-- a key with the hash of the product is the product, which is not of too great a degree
pub record TellsProduct (keys : List Key) (t : Monomial) (key : Key) : Type 0 where
  pub told : (i : ℕ) → i < length keys → hash_of (get_or keys i no_key) ≡ hash_of (key_product t key) → get_or keys i no_key ≡ key_product t key
  pub small : t.degree + key.monomial.degree ≤ 65535
