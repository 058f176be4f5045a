-- Keys that are found by their hashes
use Rattle.std.specs.Prelude.{List, [], cond, fold, get_or, length, ltb, map, ℕ, ◌%◌, ◌&&◌, ◌*◌, ◌+◌, ◌++◌, ◌-◌, ◌/◌, ◌<◌, ◌∷◌, ◌^◌, ◌≡◌, ◌≤◌, ◌⊎◌}
use Rattle.std.specs.Simd.Lanes.{zip2}
use Rattle.monomial_orders.specs.Kept.{Monomial}
use Rattle.term_lists.specs.declared.key.Key.{Key}

-- the monomial 1 of no variables, where a list has no key
abbrev pub no_key : Key
no_key = record { position = 0; monomial = record { exponents = []; degree = 0 } }

-- the sums of two lists of exponents, place by place
abbrev pub sums : List ℕ → List ℕ → List ℕ
sums left right = zip2 (λ a b. a + b) left right

-- the product of a monomial and a key
abbrev pub key_product : Monomial → Key → Key
key_product t key = record {
  position = key.position;
  monomial = record { exponents = sums t.exponents key.monomial.exponents; degree = t.degree + key.monomial.degree };
}

-- to which base exponents are hashed as digits, in so many variables: with 13 to 15 of them 7, whose digits have 3 bits, else 31
unfoldable pub digit_base : ℕ → ℕ
digit_base n = cond (ltb 12 n && ltb n 16) 7 31

-- one exponent after another, as digits to a base
abbrev pub hash_step : ℕ → ℕ → ℕ → ℕ
hash_step base hash exponent = ((hash * base) % 2 ^ 64 + exponent) % 2 ^ 64

-- exponents as digits behind a number
abbrev pub hash_behind : ℕ → List ℕ → ℕ
hash_behind start exponents = fold (hash_step (digit_base (length exponents))) start exponents

-- the hash of a key
abbrev pub hash_of : Key → ℕ
hash_of key = hash_behind key.position key.monomial.exponents

-- what a monomial adds to the hash of a key that it multiplies
abbrev pub factor_hash : Monomial → ℕ
factor_hash t = hash_behind 0 t.exponents

-- the hashes of the keys of terms
abbrev pub term_hashes : List (Key × ℕ) → List ℕ
term_hashes v = map (λ u. hash_of u.0) v

-- the bucket of a hash, of so many: its bits are spread
abbrev pub bucket_of : ℕ → ℕ → ℕ
bucket_of count hash = (hash * 11400714819323198485) % 2 ^ 64 * count / 2 ^ 64

-- the bucket of the key with this number
abbrev pub bucket_at : ℕ → List ℕ → ℕ → ℕ
bucket_at count hashes i = bucket_of count (get_or hashes i 0)

-- 1 and the number of a key before `limit` in the bucket, or 0
pub record IsLink (count limit : ℕ) (hashes : List ℕ) (bucket link : ℕ) : Type 0 where
  pub within : link ≤ limit
  pub together : 0 < link → bucket_at count hashes (link - 1) ≡ bucket

-- the first keys, so many, are chained: from each bucket's last one over those before it one comes to all of the bucket
pub record IsChained (count limit : ℕ) (hashes earlier last : List ℕ) : Type 0 where
  pub last_all : (j : ℕ) → j < limit → j < get_or last (bucket_at count hashes j) 0
  pub last_link : (b : ℕ) → b < count → IsLink count limit hashes b (get_or last b 0)
  pub earlier_all : (i j : ℕ) → i < limit → j < i → bucket_at count hashes j ≡ bucket_at count hashes i → j < get_or earlier i 0
  pub earlier_link : (i : ℕ) → i < limit → IsLink count i hashes (bucket_at count hashes i) (get_or earlier i 0)

-- no key of the list is this one
abbrev pub Lacks : List Key → Key → Type 0
Lacks keys key = (i : ℕ) → i < length keys → get_or keys i no_key ≡ key → ⊥

-- no key of the list has two numbers
abbrev pub AreDistinctKeys : List Key → Type 0
AreDistinctKeys keys = (i j : ℕ) → i < j → j < length keys → get_or keys i no_key ≡ get_or keys j no_key → ⊥

-- the keys are apart, and found by their hashes
pub record IsTable (keys : List Key) (hashes earlier last : List ℕ) : Type 0 where
  pub apart : AreDistinctKeys keys
  pub hashed : hashes ≡ map hash_of keys
  pub lengths : length earlier ≡ length keys
  pub few : length keys ≤ 4294967295
  pub some : 0 < length last
  pub chained : IsChained (length last) (length keys) hashes earlier last

-- the key has this number, and may have been put at the end
pub record IsNumbered (old new : List Key) (key : Key) (i : ℕ) : Type 0 where
  pub within : i < length new
  pub there : get_or new i no_key ≡ key
  pub grown : (new ≡ old) ⊎ ((new ≡ old ++ key ∷ []) × (i ≡ length old))
