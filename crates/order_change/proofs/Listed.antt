-- Standard monomials as they are listed
use Rattle.std.proofs.Common.{List, [], ap, arith, get_or, inl, inr, length, length-append, subst, sym, ℕ, ◌*◌, ◌++◌, ◌+◌, ◌<◌, ◌∙◌, ◌∷◌, ◌≡◌, ◌≤◌, ◌⊎◌}
use Rattle.std.proofs.Math.Seq.{get_or-append_seam}
use Rattle.std.proofs.lemmas.Bool.{cases_lt}
use Rattle.std.proofs.lemmas.List.{get_or_append_left}
use Rattle.monomials.specs.Exponents.{Exponents, exponents_of, times, unit}
use Rattle.monomial_orders.specs.Kept.{IsWeighed, Monomial, monomials}
use Rattle.change_laws.proofs.Listing.{all_listed, few_listed}
use Rattle.change_laws.proofs.Pushing.{AreDistinct_none, AreDistinct_push, Has_cases, Has_new, Has_old, at_old, length_push}
use Rattle.change_laws.specs.Standard.{AreDistinct, AreStandard, Has, HasMany, IsInfinite, IsStandard, power}
use Rattle.order_change.proofs.Items.{has_or_not, item_at, length_monomials, monomials_push, one_more}
use Rattle.order_change.specs.Lists.{AreListed, AreMonomials, AreMultiplied, HaveDegrees, IsMultiplied, IsMultiplying, IsNew}
use Rattle.order_change.specs.Stops.{AreFew}

-- an item of a list with one more behind
item_cases :
    (P : ℕ → Monomial → Type 0) (xs : List Monomial) (y : Monomial)
    → ((k : ℕ) (m : Monomial) → k < length xs → get_or xs k m ≡ m → P k m) → P (length xs) y
    → (k : ℕ) (m : Monomial) → k < length (xs ++ y ∷ []) → get_or (xs ++ y ∷ []) k m ≡ m → P k m
item_cases P xs y old new k m lt e = go (cases_lt k (length xs))
  where
    go : (k < length xs) ⊎ (length xs ≤ k) → P k m
    go (inl l) = old k m l (sym (get_or_append_left xs (y ∷ []) m k l) ∙ e)
    go (inr g) =
        let same : k ≡ length xs = omega (arith, length-append xs (y ∷ [])) in
        let is : y ≡ m = sym (get_or-append_seam xs y [] m) ∙ ap (λ z. get_or (xs ++ y ∷ []) z m) (sym same) ∙ e in
        subst (λ z. P z m) (sym same) (subst (P (length xs)) is new)

pub AreMonomials_push : (n : ℕ) (ws : List ℕ) (xs : List Monomial) (y : Monomial) → AreMonomials n ws xs → IsWeighed n ws y → AreMonomials n ws (xs ++ y ∷ [])
AreMonomials_push n ws xs y h w = item_cases (λ k m. IsWeighed n ws m) xs y h w

pub HaveDegrees_push : (xs : List Monomial) (y : Monomial) → HaveDegrees xs → y.degree ≤ 255 * length xs → HaveDegrees (xs ++ y ∷ [])
HaveDegrees_push xs y h d = item_cases (λ k m. m.degree ≤ 255 * k) xs y h d

-- one more is listed
pub AreListed_push :
    (n : ℕ) (ws : List ℕ) (L : List (Exponents n)) (xs : List Monomial) (y : Monomial) → AreListed n ws L xs
    → IsWeighed n ws y → y.degree ≤ 255 * length xs → length xs < 256 → IsNew L (monomials n xs) (exponents_of n y.exponents)
    → AreListed n ws L (xs ++ y ∷ [])
AreListed_push n ws L xs y h w d lt (std, free) = record {
  monomials_of = AreMonomials_push n ws xs y h.monomials_of w;
  degrees = HaveDegrees_push xs y h.degrees d;
  few = omega (arith, length-append xs (y ∷ []));
  distinct = subst AreDistinct (sym (monomials_push n xs y)) (AreDistinct_push (monomials n xs) (exponents_of n y.exponents) h.distinct free);
  standard = λ m has. by m (Has_cases (monomials n xs) (exponents_of n y.exponents) m (subst (λ z. Has z m) (monomials_push n xs y) has));
  first = λ one. subst (λ z. Has z (unit n)) (sym (monomials_push n xs y)) (Has_old (monomials n xs) (exponents_of n y.exponents) (unit n) (h.first one));
}
  where
    by : (m : Exponents n) → Has (monomials n xs) m ⊎ (exponents_of n y.exponents ≡ m) → IsStandard L m
    by m (inl has) = h.standard m has
    by m (inr e) = subst (IsStandard L) e std

-- what is multiplied stays so
pub IsMultiplied_push :
    (n : ℕ) (L : List (Exponents n)) (xs : List Monomial) (y : Monomial) (k v : ℕ) → k < length xs
    → IsMultiplied n L xs k v → IsMultiplied n L (xs ++ y ∷ []) k v
IsMultiplied_push n L xs y k v lt h =
    subst (λ z. IsStandard L (times (power n v 1) (get_or z k (unit n))) → Has z (times (power n v 1) (get_or z k (unit n)))) (sym (monomials_push n xs y))
    (subst (λ z. IsStandard L (times (power n v 1) z) → Has (monomials n xs ++ exponents_of n y.exponents ∷ []) (times (power n v 1) z)) (sym (at_old (monomials n xs) (exponents_of n y.exponents) k (omega (arith, length_monomials n xs, lt))))
    (λ s. Has_old (monomials n xs) (exponents_of n y.exponents) _ (h s)))

-- the multiple is listed now
pub IsMultiplied_new :
    (n : ℕ) (L : List (Exponents n)) (xs : List Monomial) (y : Monomial) (k v : ℕ) → k < length xs
    → exponents_of n y.exponents ≡ times (power n v 1) (get_or (monomials n xs) k (unit n))
    → IsMultiplied n L (xs ++ y ∷ []) k v
IsMultiplied_new n L xs y k v lt e =
    subst (λ z. IsStandard L (times (power n v 1) (get_or z k (unit n))) → Has z (times (power n v 1) (get_or z k (unit n)))) (sym (monomials_push n xs y))
    (subst (λ z. IsStandard L (times (power n v 1) z) → Has (monomials n xs ++ exponents_of n y.exponents ∷ []) (times (power n v 1) z)) (sym (at_old (monomials n xs) (exponents_of n y.exponents) k (omega (arith, length_monomials n xs, lt))))
    (λ s. subst (Has (monomials n xs ++ exponents_of n y.exponents ∷ [])) e (Has_new (monomials n xs) (exponents_of n y.exponents))))

-- where it is not new, it is listed already
pub IsMultiplied_old :
    (n : ℕ) (L : List (Exponents n)) (xs : List Monomial) (k v : ℕ)
    → (IsNew L (monomials n xs) (times (power n v 1) (get_or (monomials n xs) k (unit n))) → ⊥)
    → IsMultiplied n L xs k v
IsMultiplied_old n L xs k v none s = by (has_or_not (monomials n xs) (times (power n v 1) (get_or (monomials n xs) k (unit n))))
  where
    by : Has (monomials n xs) (times (power n v 1) (get_or (monomials n xs) k (unit n))) ⊎ (Has (monomials n xs) (times (power n v 1) (get_or (monomials n xs) k (unit n))) → ⊥)
        → Has (monomials n xs) (times (power n v 1) (get_or (monomials n xs) k (unit n)))
    by (inl h) = h
    by (inr free) = absurd (none (s, free))

-- one too many
pub many :
    (n : ℕ) (ws : List ℕ) (L : List (Exponents n)) (xs : List Monomial) (y : Monomial) → AreListed n ws L xs → 256 ≤ length xs
    → IsNew L (monomials n xs) (exponents_of n y.exponents) → HasMany L
many n ws L xs y h le (std, free) = record {
  monomials = monomials n xs ++ exponents_of n y.exponents ∷ [];
  distinct = AreDistinct_push (monomials n xs) (exponents_of n y.exponents) h.distinct free;
  standard = λ m has. by m (Has_cases (monomials n xs) (exponents_of n y.exponents) m has);
  more = omega (arith, length_push (monomials n xs) (exponents_of n y.exponents), length_monomials n xs);
}
  where
    by : (m : Exponents n) → Has (monomials n xs) m ⊎ (exponents_of n y.exponents ≡ m) → IsStandard L m
    by m (inl has) = h.standard m has
    by m (inr e) = subst (IsStandard L) e std

-- all are listed
pub AreStandard_listed :
    (n : ℕ) (ws : List ℕ) (L : List (Exponents n)) (xs : List Monomial) → AreListed n ws L xs
    → AreMultiplied n L xs (length xs) → AreStandard L (monomials n xs)
AreStandard_listed n ws L xs h multiplied = record {
  distinct = h.distinct;
  standard = h.standard;
  all = all_listed L (monomials n xs) h.first (λ k v lt vn. let kl : k < length xs = omega (arith, length_monomials n xs, lt) in multiplied k v kl kl vn);
}

pub AreFew_listed :
    (n : ℕ) (ws : List ℕ) (L : List (Exponents n)) (xs : List Monomial) → AreListed n ws L xs
    → AreMultiplied n L xs (length xs) → (IsInfinite L → ⊥) → AreFew L
AreFew_listed n ws L xs h multiplied finite = record {
  finite = finite;
  few = few_listed L (monomials n xs) (AreStandard_listed n ws L xs h multiplied) (omega (arith, length_monomials n xs, h.few));
}

-- the multiple by one more variable is pushed
pub IsMultiplying_push :
    (n : ℕ) (ws : List ℕ) (L : List (Exponents n)) (xs : List Monomial) (at i : ℕ) (m y : Monomial)
    → IsMultiplying n ws L xs at i → get_or xs at m ≡ m → IsWeighed n ws y → y.degree ≤ m.degree + 255 → length xs < 256
    → IsNew L (monomials n xs) (exponents_of n y.exponents) → exponents_of n y.exponents ≡ times (power n i 1) (exponents_of n m.exponents)
    → IsMultiplying n ws L (xs ++ y ∷ []) at (i + 1)
IsMultiplying_push n ws L xs at i m y h is w d few new e = record {
  listed = AreListed_push n ws L xs y h.listed w degree few new;
  multiplied = λ k v ka kl vn. let old : k < length xs = omega (arith, ka, h.index) in IsMultiplied_push n L xs y k v old (h.multiplied k v ka old vn);
  here = one_more (λ v. IsMultiplied n L (xs ++ y ∷ []) at v) i (λ v lt. IsMultiplied_push n L xs y at v h.index (h.here v lt))
      (IsMultiplied_new n L xs y at i h.index (e ∙ ap (times (power n i 1)) (sym (item_at n xs at m h.index (sym is)))));
  index = omega (arith, h.index, length-append xs (y ∷ []));
}
  where
    degree : y.degree ≤ 255 * length xs
    degree = let a = h.listed.degrees at m h.index is in omega (arith, a, d, h.index)

-- or is not new
pub IsMultiplying_skip :
    (n : ℕ) (ws : List ℕ) (L : List (Exponents n)) (xs : List Monomial) (at i : ℕ) (m y : Monomial)
    → IsMultiplying n ws L xs at i → get_or xs at m ≡ m
    → (IsNew L (monomials n xs) (exponents_of n y.exponents) → ⊥) → exponents_of n y.exponents ≡ times (power n i 1) (exponents_of n m.exponents)
    → IsMultiplying n ws L xs at (i + 1)
IsMultiplying_skip n ws L xs at i m y h is old e = record {
  listed = h.listed;
  multiplied = h.multiplied;
  here = one_more (λ v. IsMultiplied n L xs at v) i h.here
      (IsMultiplied_old n L xs at i (subst (λ z. IsNew L (monomials n xs) z → ⊥) (e ∙ ap (times (power n i 1)) (sym (item_at n xs at m h.index (sym is)))) old));
  index = h.index;
}

-- by all variables
pub IsMultiplying_done :
    (n : ℕ) (ws : List ℕ) (L : List (Exponents n)) (xs : List Monomial) (at i : ℕ) → IsMultiplying n ws L xs at i → n ≤ i
    → AreMultiplied n L xs (at + 1)
IsMultiplying_done n ws L xs at i h le k v lt kl vn =
    one_more (λ j. j < length xs → IsMultiplied n L xs j v) at (λ j ja jl. h.multiplied j v ja jl vn) (λ jl. h.here v (omega (arith, vn, le))) k lt kl

-- behind the last item there is nothing to do
pub AreMultiplied_past :
    (n : ℕ) (L : List (Exponents n)) (xs : List Monomial) (at : ℕ) → length xs ≤ at → AreMultiplied n L xs at → AreMultiplied n L xs (at + 1)
AreMultiplied_past n L xs at le h k v lt kl vn = h k v (omega (arith, kl, le)) kl vn

pub AreMultiplied_all :
    (n : ℕ) (L : List (Exponents n)) (xs : List Monomial) (at : ℕ) → length xs ≤ at → AreMultiplied n L xs at → AreMultiplied n L xs (length xs)
AreMultiplied_all n L xs at le h k v lt kl vn = h k v (omega (arith, kl, le)) kl vn

-- nothing is listed where 1 is not standard
pub AreListed_none : (n : ℕ) (ws : List ℕ) (L : List (Exponents n)) → (IsStandard L (unit n) → ⊥) → AreListed n ws L []
AreListed_none n ws L none = record {
  monomials_of = λ k m lt e. absurd (omega (arith, lt));
  degrees = λ k m lt e. absurd (omega (arith, lt));
  few = omega arith;
  distinct = AreDistinct_none n;
  standard = λ m has. absurd (let lt = has.1 in omega (arith, lt));
  first = λ s. absurd (none s);
}

-- and 1 where it is
pub AreListed_one :
    (n : ℕ) (ws : List ℕ) (L : List (Exponents n)) (one : Monomial) → IsStandard L (unit n) → IsWeighed n ws one
    → exponents_of n one.exponents ≡ unit n → one.degree ≡ 0 → AreListed n ws L (one ∷ [])
AreListed_one n ws L one s w e d = record {
  monomials_of = AreMonomials_push n ws [] one (λ k m lt q. absurd (omega (arith, lt))) w;
  degrees = HaveDegrees_push [] one (λ k m lt q. absurd (omega (arith, lt))) (omega (arith, d));
  few = omega arith;
  distinct = AreDistinct_push [] (exponents_of n one.exponents) (AreDistinct_none n) (λ has. let lt = has.1 in omega (arith, lt));
  standard = λ m has. by m (Has_cases [] (exponents_of n one.exponents) m has);
  first = λ q. (0, omega arith, e);
}
  where
    by : (m : Exponents n) → Has [] m ⊎ (exponents_of n one.exponents ≡ m) → IsStandard L m
    by m (inl has) = absurd (let lt = has.1 in omega (arith, lt))
    by m (inr q) = subst (IsStandard L) (sym e ∙ q) s
