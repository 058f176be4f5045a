-- Lists of generators that are parted into two
use Rattle.std.proofs.Common.{Bool, List, [], ap, ap₂, arith, false, get_or, length, refl, subst, sym, take, true, ℕ, ◌+◌, ◌<◌, ◌∙◌, ◌∷◌, ◌≡◌, ◌||◌, ◌++◌}
use Rattle.std.specs.Prelude.{if◌then◌else◌}
use Rattle.monomials.specs.Exponents.{Exponents, exponents_of}
use Rattle.monomial_counts.specs.Counts.{has_divisor, is_divisor}
use Rattle.monomial_orders.specs.Kept.{IsWeighed, Monomial, monomials}
use Rattle.hilbert_series.proofs.Apart.{are_apart_append}
use Rattle.hilbert_series.proofs.Lists.{Each_append, has_divisor-last, length_monomials, monomials-append}
use Rattle.hilbert_series.proofs.Loops.{apart_more, each_item, take_item}
use Rattle.hilbert_series.proofs.Same.{has_divisor-append}
use Rattle.hilbert_series.specs.Generators.{AreCoprimeToAll, AreMonomialGenerators, IsCoprimeToAll, IsParted, IsSieved}

-- the first i generators are those of `first` and of `other`
pub record IsSieving (n : ℕ) (ws : List ℕ) (gs first other : List Monomial) (i : ℕ) : Type 0 where
  pub first_generators : AreMonomialGenerators n ws first
  pub other_generators : AreMonomialGenerators n ws other
  pub long : length first + length other ≡ i
  pub first_apart : (ms : List (Exponents n)) → AreCoprimeToAll n ms gs → AreCoprimeToAll n ms first
  pub other_apart : (ms : List (Exponents n)) → AreCoprimeToAll n ms gs → AreCoprimeToAll n ms other
  pub same : (v : Exponents n) → has_divisor (monomials n first) v || has_divisor (monomials n other) v ≡ has_divisor (monomials n (take i gs)) v

pub sieving_begins : (n : ℕ) (ws : List ℕ) (gs first other : List Monomial) → first ≡ [] → other ≡ [] → IsSieving n ws gs first other 0
sieving_begins n ws gs first other e f =
    subst (λ x. IsSieving n ws gs x other 0) (sym e) (subst (λ y. IsSieving n ws gs [] y 0) (sym f) (record {
      first_generators = tt;
      other_generators = tt;
      long = omega arith;
      first_apart = λ ms h. tt;
      other_apart = λ ms h. tt;
      same = λ v. refl;
    }))

length_more : (xs : List Monomial) (m : Monomial) → length (xs ++ (m ∷ [])) ≡ length xs + 1
length_more [] m = refl
length_more (x ∷ xs) m = let r = length_more xs m in omega (arith, r)

left_more : (x a b : Bool) → (x || a) || b ≡ x || (a || b)
left_more true a b = refl
left_more false a b = refl

right_more : (x a b : Bool) → a || (x || b) ≡ x || (a || b)
right_more true true b = refl
right_more true false b = refl
right_more false true b = refl
right_more false false b = refl

next_multiples :
    (n : ℕ) (gs : List Monomial) (i : ℕ) (x : Monomial) (v : Exponents n) → i < length gs → x ≡ get_or gs i x
    → is_divisor (exponents_of n x.exponents) v || has_divisor (monomials n (take i gs)) v ≡ has_divisor (monomials n (take (i + 1) gs)) v
next_multiples n gs i x v lt e = sym (has_divisor-last n (take i gs) x v) ∙ ap (λ z. has_divisor (monomials n z) v) (sym (take_item gs i x lt e))

pub sieving_first :
    (n : ℕ) (ws : List ℕ) (gs first other more : List Monomial) (i : ℕ) (x : Monomial) → i < length gs → x ≡ get_or gs i x → AreMonomialGenerators n ws gs
    → more ≡ first ++ (x ∷ []) → IsSieving n ws gs first other i → IsSieving n ws gs more other (i + 1)
sieving_first n ws gs first other more i x lt e g grown s = record {
  first_generators = subst (AreMonomialGenerators n ws) (sym grown)
      (Each_append (IsWeighed n ws) first (x ∷ []) s.first_generators (each_item n ws gs i x g lt e, tt));
  other_generators = s.other_generators;
  long = let a : length more ≡ length (first ++ (x ∷ [])) = ap length grown in let b = length_more first x in let c = s.long in omega (arith, a, b, c);
  first_apart = λ ms h. apart_more n ms gs first more i x x lt e refl grown h (s.first_apart ms h);
  other_apart = s.other_apart;
  same = λ v.
      ap (λ z. has_divisor (monomials n z) v || has_divisor (monomials n other) v) grown
      ∙ ap (λ b. b || has_divisor (monomials n other) v) (has_divisor-last n first x v)
      ∙ left_more (is_divisor (exponents_of n x.exponents) v) (has_divisor (monomials n first) v) (has_divisor (monomials n other) v)
      ∙ ap (λ b. is_divisor (exponents_of n x.exponents) v || b) (s.same v) ∙ next_multiples n gs i x v lt e;
}

pub sieving_other :
    (n : ℕ) (ws : List ℕ) (gs first other more : List Monomial) (i : ℕ) (x : Monomial) → i < length gs → x ≡ get_or gs i x → AreMonomialGenerators n ws gs
    → more ≡ other ++ (x ∷ []) → IsSieving n ws gs first other i → IsSieving n ws gs first more (i + 1)
sieving_other n ws gs first other more i x lt e g grown s = record {
  first_generators = s.first_generators;
  other_generators = subst (AreMonomialGenerators n ws) (sym grown)
      (Each_append (IsWeighed n ws) other (x ∷ []) s.other_generators (each_item n ws gs i x g lt e, tt));
  long = let a : length more ≡ length (other ++ (x ∷ [])) = ap length grown in let b = length_more other x in let c = s.long in omega (arith, a, b, c);
  first_apart = s.first_apart;
  other_apart = λ ms h. apart_more n ms gs other more i x x lt e refl grown h (s.other_apart ms h);
  same = λ v.
      ap (λ z. has_divisor (monomials n first) v || has_divisor (monomials n z) v) grown
      ∙ ap (λ b. has_divisor (monomials n first) v || b) (has_divisor-last n other x v)
      ∙ right_more (is_divisor (exponents_of n x.exponents) v) (has_divisor (monomials n first) v) (has_divisor (monomials n other) v)
      ∙ ap (λ b. is_divisor (exponents_of n x.exponents) v || b) (s.same v) ∙ next_multiples n gs i x v lt e;
}

pub sieving_more :
    (n : ℕ) (ws : List ℕ) (gs first other first' other' : List Monomial) (i : ℕ) (x : Monomial) (b : Bool) → i < length gs → x ≡ get_or gs i x
    → AreMonomialGenerators n ws gs → first' ≡ (if b then first ++ (x ∷ []) else first) → other' ≡ (if b then other else other ++ (x ∷ []))
    → IsSieving n ws gs first other i → IsSieving n ws gs first' other' (i + 1)
sieving_more n ws gs first other first' other' i x true lt e g p q s =
    subst (λ o. IsSieving n ws gs first' o (i + 1)) (sym q) (sieving_first n ws gs first other first' i x lt e g p s)
sieving_more n ws gs first other first' other' i x false lt e g p q s =
    subst (λ f. IsSieving n ws gs f other' (i + 1)) (sym p) (sieving_other n ws gs first other other' i x lt e g q s)

take_length : (xs : List Monomial) → take (length xs) xs ≡ xs
take_length [] = refl
take_length (x ∷ xs) = ap (λ z. x ∷ z) (take_length xs)

take_whole : (xs : List Monomial) (i : ℕ) → i ≡ length xs → take i xs ≡ xs
take_whole xs i e = ap (λ k. take k xs) e ∙ take_length xs

pub sieving_ends :
    (n : ℕ) (ws : List ℕ) (gs first other : List Monomial) (i : ℕ) → i ≡ length gs → IsSieving n ws gs first other i → IsSieved n ws gs first other
sieving_ends n ws gs first other i e s = record {
  first_generators = s.first_generators;
  other_generators = s.other_generators;
  long = s.long ∙ e;
  first_apart = s.first_apart;
  other_apart = s.other_apart;
  same = λ v. s.same v ∙ ap (λ z. has_divisor (monomials n z) v) (take_whole gs i e);
}

-- one monomial of the other list more has no variable in common with the first
pub apart_so_far :
    (n : ℕ) (first other : List Monomial) (i : ℕ) (x : Monomial) → i < length other → x ≡ get_or other i x
    → IsCoprimeToAll (monomials n first) (exponents_of n x.exponents) → AreCoprimeToAll n (monomials n first) (take i other)
    → AreCoprimeToAll n (monomials n first) (take (i + 1) other)
apart_so_far n first other i x lt e a h =
    subst (AreCoprimeToAll n (monomials n first)) (sym (take_item other i x lt e))
    (Each_append (λ y. IsCoprimeToAll (monomials n first) (exponents_of n y.exponents)) (take i other) (x ∷ []) h (a, tt))

pub apart_all :
    (n : ℕ) (first other : List Monomial) (i : ℕ) → i ≡ length other → AreCoprimeToAll n (monomials n first) (take i other) → AreCoprimeToAll n (monomials n first) other
apart_all n first other i e h = subst (AreCoprimeToAll n (monomials n first)) (take_whole other i e) h

four : (a b c d : Bool) → b || c ≡ d → (a || b) || c ≡ a || d
four true b c d e = refl
four false b c d e = e

pub parted_is :
    (n : ℕ) (ws : List ℕ) (done gs first both other : List Monomial) → AreMonomialGenerators n ws done → AreCoprimeToAll n (monomials n done) gs
    → IsSieved n ws gs first other → AreCoprimeToAll n (monomials n first) other → both ≡ done ++ first → IsParted n ws (monomials n done) gs first both other
parted_is n ws done gs first both other g a s apart e = record {
  first_generators = s.first_generators;
  both_generators = subst (AreMonomialGenerators n ws) (sym e) (Each_append (IsWeighed n ws) done first g s.first_generators);
  other_generators = s.other_generators;
  long = s.long;
  both_long = ap length e ∙ long done ∙ ap (λ k. k + length first) (sym (length_monomials n done));
  both_items = items;
  first_apart = s.first_apart (monomials n done) a;
  other_apart = subst (λ ms. AreCoprimeToAll n ms other) (sym items)
      (are_apart_append n (monomials n done) (monomials n first) other (s.other_apart (monomials n done) a) apart);
  same = λ v.
      ap (λ ms. has_divisor (ms ++ monomials n other) v) items
      ∙ has_divisor-append (monomials n done ++ monomials n first) (monomials n other) v
      ∙ ap (λ b. b || has_divisor (monomials n other) v) (has_divisor-append (monomials n done) (monomials n first) v)
      ∙ four (has_divisor (monomials n done) v) (has_divisor (monomials n first) v) (has_divisor (monomials n other) v) (has_divisor (monomials n gs) v) (s.same v)
      ∙ sym (has_divisor-append (monomials n done) (monomials n gs) v);
}
  where
    items : monomials n both ≡ monomials n done ++ monomials n first
    items = ap (monomials n) e ∙ monomials-append n done first

    long : (xs : List Monomial) → length (xs ++ first) ≡ length xs + length first
    long [] = omega arith
    long (x ∷ xs) = let r = long xs in omega (arith, r)

-- the same, as the code has them
pub parted_from :
    (n : ℕ) (ws : List ℕ) (done gs first other third fourth fifth start copied both : List Monomial) → AreMonomialGenerators n ws done
    → AreCoprimeToAll n (monomials n done) gs → IsSieved n ws gs first other → third ≡ first → fourth ≡ other → AreCoprimeToAll n (monomials n third) fourth
    → start ≡ [] → copied ≡ start ++ done → fifth ≡ first → both ≡ copied ++ fifth → IsParted n ws (monomials n done) gs first both other
parted_from n ws done gs first other third fourth fifth start copied both g a s e f apart none one more two =
    parted_is n ws done gs first both other g a s
    (subst (AreCoprimeToAll n (monomials n first)) f (subst (λ x. AreCoprimeToAll n (monomials n x) fourth) e apart))
    (two ∙ ap₂ ◌++◌ (one ∙ ap (λ x. x ++ done) none) more)
