-- A chain of products from a pair of a job
use Rattle.std.proofs.Common.{List, [], ap, ap₂, arith, get_or, inl, inr, length, refl, reverse, subst, suc}
use Rattle.std.proofs.Common.{sym, zero, ℕ, ◌++◌, ◌+◌, ◌-◌, ◌<◌, ◌∙◌, ◌∷◌, ◌≡◌, ◌⊎◌}
use Rattle.std.proofs.Common.{◌≤◌}
use Rattle.std.proofs.lemmas.Bool.{cases_lt}
use Rattle.std.proofs.lemmas.List.{reverse-append}
use Rattle.formal_sums.specs.FormalSums.{Each, Key, shift}
use Rattle.bases.proofs.Meeting.{met_behind}
use Rattle.bases.specs.Leads.{head_key}
use Rattle.term_lists.specs.Rings.{variables}
use Rattle.term_lists.specs.Vectors.{IsTerm, key_of, sum_of}
use Rattle.term_lists.specs.declared.key.Key.{Key as CodeKey}
use Rattle.module_vectors.specs.Trails.{HasKey, IsInProduct, IsKeptProduct, KeptProduct, kept_product_lead, kept_at}
use Rattle.basis_core.specs.Chains.{IsChainTo}
use Rattle.basis_core.specs.Members.{Shared, MemberShown}
use Rattle.basis_core.specs.Members.{IsMemberShown}
use Rattle.basis_core.specs.Rows.{vectors_in}
use Rattle.monomials.specs.Exponents.{cons, exponents_of, head, tail, times, unit}
use Rattle.monomials.proofs.Monomials.{times-unit}

-- products are the same where the sums of the exponents are
pub times_same :
    (n : ℕ) (a b c d : List ℕ)
    → length a ≡ n → length b ≡ n → length c ≡ n → length d ≡ n
    → ((k : ℕ) → k < n → get_or a k 0 + get_or b k 0 ≡ get_or c k 0 + get_or d k 0)
    → times (exponents_of n a) (exponents_of n b) ≡ times (exponents_of n c) (exponents_of n d)
times_same zero a b c d la lb lc ld h = refl
times_same (suc n) [] b c d la lb lc ld h = absurd (omega arith)
times_same (suc n) (x ∷ a) [] c d la lb lc ld h = absurd (omega arith)
times_same (suc n) (x ∷ a) (y ∷ b) [] d la lb lc ld h = absurd (omega arith)
times_same (suc n) (x ∷ a) (y ∷ b) (z ∷ c) [] la lb lc ld h = absurd (omega arith)
times_same (suc n) (x ∷ a) (y ∷ b) (z ∷ c) (w ∷ d) la lb lc ld h =
    ap₂ (λ e v. cons e v) (h 0 (omega arith)) (times_same n a b c d (omega arith) (omega arith) (omega arith) (omega arith) (λ k l. h (suc k) (omega arith)))

pub times_apart :
    (n : ℕ) (a b c d : List ℕ)
    → length a ≡ n → length b ≡ n → length c ≡ n → length d ≡ n
    → times (exponents_of n a) (exponents_of n b) ≡ times (exponents_of n c) (exponents_of n d)
    → (k : ℕ) → k < n → get_or a k 0 + get_or b k 0 ≡ get_or c k 0 + get_or d k 0
times_apart zero a b c d la lb lc ld e k l = absurd (omega arith)
times_apart (suc n) [] b c d la lb lc ld e k l = absurd (omega arith)
times_apart (suc n) (x ∷ a) [] c d la lb lc ld e k l = absurd (omega arith)
times_apart (suc n) (x ∷ a) (y ∷ b) [] d la lb lc ld e k l = absurd (omega arith)
times_apart (suc n) (x ∷ a) (y ∷ b) (z ∷ c) [] la lb lc ld e k l = absurd (omega arith)
times_apart (suc n) (x ∷ a) (y ∷ b) (z ∷ c) (w ∷ d) la lb lc ld e zero l = ap head e
times_apart (suc n) (x ∷ a) (y ∷ b) (z ∷ c) (w ∷ d) la lb lc ld e (suc k) l =
    times_apart n a b c d (omega arith) (omega arith) (omega arith) (omega arith) (ap tail e) k (omega arith)

-- ---- terms of the members
pub nonzero_at : (ms : List MemberShown) (i : ℕ) → Each (λ m. 0 < length m.vector) ms → i < length (vectors_in ms) → 0 < length (get_or (vectors_in ms) i [])
nonzero_at [] i h l = absurd (omega arith)
nonzero_at (m ∷ ms) zero h l = h.0
nonzero_at (m ∷ ms) (suc i) h l = nonzero_at ms i h.1 (omega arith)

term_variables :
    (n : ℕ) (ws : List ℕ) (p : ℕ) (v : List (CodeKey × ℕ)) (k : ℕ) (t : CodeKey × ℕ)
    → Each (IsTerm n ws p) v → k < length v → t ≡ get_or v k t → length t.0.monomial.exponents ≡ n
term_variables n ws p [] k t h l e = absurd (omega arith)
term_variables n ws p (u ∷ v) zero t h l e = ap (λ (z : CodeKey × ℕ). length z.0.monomial.exponents) e ∙ h.0.weighed.variables
term_variables n ws p (u ∷ v) (suc k) t h l e = term_variables n ws p v k t h.1 (omega arith) e

-- each term of a member has the variables of the ring
pub variables_at :
    (shared : Shared) (ms : List MemberShown) (i : ℕ) (v : List (CodeKey × ℕ)) (k : ℕ) (t : CodeKey × ℕ)
    → Each (IsMemberShown shared) ms → v ≡ get_or (vectors_in ms) i [] → k < length v → t ≡ get_or v k t → length t.0.monomial.exponents ≡ variables shared.ring
variables_at shared ms i v k t h e l is =
    term_variables (variables shared.ring) shared.ring.weights shared.ring.modulus.value v k t
    (subst (Each (IsTerm (variables shared.ring) shared.ring.weights shared.ring.modulus.value)) (sym e) (go ms i h)) l is
  where
    go :
        (ms : List MemberShown) (i : ℕ) → Each (IsMemberShown shared) ms
        → Each (IsTerm (variables shared.ring) shared.ring.weights shared.ring.modulus.value) (get_or (vectors_in ms) i [])
    go [] i h = tt
    go (m ∷ ms) zero h = h.0.vector.vector.each
    go (m ∷ ms) (suc i) h = go ms i h.1

-- the lead of a product is that of the first term
pub lead_is :
    (n : ℕ) (vs : List (List (CodeKey × ℕ))) (s : KeptProduct) (v : List (CodeKey × ℕ)) (t : CodeKey × ℕ)
    → v ≡ get_or vs s.0 [] → 0 < length v → t ≡ get_or v 0 t → kept_product_lead n vs s ≡ shift (exponents_of n s.1.exponents) (key_of n t.0)
lead_is n vs s v t e l is = ap (λ w. shift (exponents_of n s.1.exponents) (head_key (sum_of n w))) (sym e) ∙ go v l is
  where
    go :
        (v : List (CodeKey × ℕ)) → 0 < length v → t ≡ get_or v 0 t
        → shift (exponents_of n s.1.exponents) (head_key (sum_of n v)) ≡ shift (exponents_of n s.1.exponents) (key_of n t.0)
    go [] l is = absurd (omega arith)
    go (u ∷ v) l is = ap (λ (z : CodeKey × ℕ). shift (exponents_of n s.1.exponents) (key_of n z.0)) (sym is)

pub key_there : (n : ℕ) (v : List (CodeKey × ℕ)) (k : ℕ) (t : CodeKey × ℕ) → k < length v → t ≡ get_or v k t → HasKey (sum_of n v) (key_of n t.0)
key_there n [] k t l e = absurd (omega arith)
key_there n (u ∷ v) zero t l e = (0, omega arith, ap (λ (z : CodeKey × ℕ). key_of n z.0) (sym e))
key_there n (u ∷ v) (suc k) t l e =
    let h = key_there n v k t (omega arith) e in
    (suc h.0, omega (arith, h.1), h.2)

pub key_index :
    (n : ℕ) (v : List (CodeKey × ℕ)) (l : Key n) → HasKey (sum_of n v) l
    → (k : ℕ) × (t : CodeKey × ℕ) × (k < length v) × (t ≡ get_or v k t) × (l ≡ key_of n t.0)
key_index n [] l (i, lt, e) = absurd (omega arith)
key_index n (u ∷ v) l (zero, lt, e) = (0, u, omega arith, refl, sym e)
key_index n (u ∷ v) l (suc i, lt, e) =
    let h = key_index n v l (i, omega arith, e) in
    (suc h.0, h.1, omega (arith, h.2), h.3, h.4)

-- the same in another number of variables
pub same_in :
    (n m : ℕ) (a c : List ℕ) (b d : CodeKey) → m ≡ n
    → shift (exponents_of m a) (key_of m b) ≡ shift (exponents_of m c) (key_of m d)
    → shift (exponents_of n a) (key_of n b) ≡ shift (exponents_of n c) (key_of n d)
same_in n m a c b d e h = subst (λ k. shift (exponents_of k a) (key_of k b) ≡ shift (exponents_of k c) (key_of k d)) e h

-- the keys so far and one more
pub none_more :
    {X : Type 0} (P : X → Type 0) (xs : List X) (i : ℕ) (x : X)
    → ((k : ℕ) (t : X) → k < i → t ≡ get_or xs k t → P t → ⊥) → i < length xs → x ≡ get_or xs i x → (P x → ⊥)
    → (k : ℕ) (t : X) → k < i + 1 → t ≡ get_or xs k t → P t → ⊥
none_more {X} P xs i x before l is here k t m e = go (cases_lt k i)
  where
    other : (xs : List X) (i : ℕ) → i < length xs → t ≡ get_or xs i t → x ≡ get_or xs i x → t ≡ x
    other [] i l e is = absurd (omega arith)
    other (y ∷ xs) zero l e is = e ∙ sym is
    other (y ∷ xs) (suc i) l e is = other xs i (omega arith) e is

    go : (k < i) ⊎ (i ≤ k) → P t → ⊥
    go (inl q) = before k t q e
    go (inr q) =
        let same : k ≡ i = omega arith in
        let t_is : t ≡ x = other xs i l (e ∙ ap (λ j. get_or xs j t) same) is in
        λ p. here (subst P t_is p)

pub times_one : (n : ℕ) (one : List ℕ) (k : Key n) → exponents_of n one ≡ unit n → shift (exponents_of n one) k ≡ k
times_one n one k e = ap (λ m. (k.0, times m k.1)) e ∙ ap (λ m. (k.0, m)) (times-unit k.1)

pub each_item : {X : Type 0} (P : X → Type 0) (xs : List X) (i : ℕ) (x : X) → Each P xs → i < length xs → x ≡ get_or xs i x → P x
each_item P [] i x h l e = absurd (omega arith)
each_item P (y ∷ xs) zero x h l e = subst P (sym e) h.0
each_item P (y ∷ xs) (suc i) x h l e = each_item P xs i x h.1 (omega arith) e

-- the step that stands there
pub step_is : (all : List KeptProduct) (i : ℕ) (s : KeptProduct) → i < length all → s ≡ get_or all i s → s ≡ kept_at all i
step_is [] i s l e = absurd (omega arith)
step_is (t ∷ all) zero s l e = e
step_is (t ∷ all) (suc i) s l e = step_is all i s (omega arith) e

pub none_below :
    (P : KeptProduct → Type 0) (all : List KeptProduct) (i : ℕ)
    → ((j : ℕ) → j < i → P (kept_at all j) → ⊥) → (P (kept_at all i) → ⊥)
    → (j : ℕ) → j < i + 1 → P (kept_at all j) → ⊥
none_below P all i before here j l = go (cases_lt j i)
  where
    go : (j < i) ⊎ (i ≤ j) → P (kept_at all j) → ⊥
    go (inl q) = before j q
    go (inr q) =
        let same : j ≡ i = omega arith in
        λ p. here (subst (λ k. P (kept_at all k)) same p)

-- each product that is there
pub kept_item : (P : KeptProduct → Type 0) (all : List KeptProduct) (i : ℕ) → Each P all → i < length all → P (kept_at all i)
kept_item P [] i h l = absurd (omega arith)
kept_item P (x ∷ all) zero h l = h.0
kept_item P (x ∷ all) (suc i) h l = kept_item P all i h.1 (omega arith)

-- the last product alone
pub last_chain :
    (n : ℕ) (ws : List ℕ) (vs : List (List (CodeKey × ℕ))) (all : List KeptProduct)
    → Each (IsKeptProduct n ws vs) all → 0 < length all → IsChainTo n ws vs all (kept_at all (length all - 1)) (kept_at all (length all - 1) ∷ [])
last_chain n ws vs all each some = record {
  later = [];
  products = refl;
  known = (kept_item (IsKeptProduct n ws vs) all (length all - 1) each (omega arith), tt);
  met = tt;
  last = refl;
}

-- the product at hand is put behind the others
pub pushed_chain :
    (n : ℕ) (ws : List ℕ) (vs : List (List (CodeKey × ℕ))) (all : List KeptProduct) (at : ℕ) (product : KeptProduct) (old new : List KeptProduct)
    → at < length all → product ≡ get_or all at product → new ≡ old ++ product ∷ []
    → IsChainTo n ws vs all (kept_at all at) (kept_at all at ∷ reverse old) → IsChainTo n ws vs all (kept_at all at) (reverse new)
pushed_chain n ws vs all at product old new lt is pushed h =
    let there : product ≡ kept_at all at = step_is all at product lt is in
    let longer : reverse new ≡ kept_at all at ∷ reverse old =
    ap reverse pushed ∙ reverse-append old (product ∷ []) ∙ ap (λ (s : KeptProduct). s ∷ reverse old) there in
    subst (IsChainTo n ws vs all (kept_at all at)) (sym longer) h

-- a chain, and a product before it that has the lead of its first one as a key
pub chain_before :
    (n : ℕ) (ws : List ℕ) (vs : List (List (CodeKey × ℕ))) (all : List KeptProduct) (first s : KeptProduct) (chain : List KeptProduct)
    → IsChainTo n ws vs all first chain → IsKeptProduct n ws vs s → IsInProduct n vs (kept_product_lead n vs first) s → IsChainTo n ws vs all s (s ∷ chain)
chain_before n ws vs all first s chain c known there = record {
  later = first ∷ c.later;
  products = ap (λ l. s ∷ l) c.products;
  known = (known, c.known);
  met = (
    inr (s, (0, omega arith, refl), there),
    met_behind (HasKey {n = n} []) (IsInProduct n vs) (kept_product_lead n vs) (s ∷ []) (first ∷ []) c.later c.met,
  );
  last = c.last;
}
