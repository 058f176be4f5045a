-- A row that is cleared term by term, and taken out
use Rattle.std.specs.Prelude.{Contains, Err, IfErr, IfOk, Ok, OnOk, Result, nat_eq}
use Rattle.std.proofs.Common.{Bool, List, [], ap, append-nil, ap₂, arith, cond, drop, eq-eqb, eqb-true, false, get_or, inl, inr, length, mod-lt, refl, subst}
use Rattle.std.proofs.Common.{suc, sym, take, true, zero, ℕ, ◌%◌, ◌*◌, ◌++◌, ◌+◌, ◌-◌, ◌<◌, ◌∙◌, ◌∷◌, ◌≡◌, ◌⊎◌}
use Rattle.std.proofs.lemmas.Bool.{cases_eq}
use Rattle.std.proofs.lemmas.List.{append_assoc, map-append, take-append-drop, take_more}
use Rattle.std.proofs.lemmas.List.Elements.{Contains-append_left, Contains-append_right}
use Rattle.residues.proofs.Congruences.{IsCongruent_add, IsCongruent_cancel, IsCongruent_minus, IsCongruent_mod, IsCongruent_multiply}
use Rattle.residues.proofs.Congruences.{IsCongruent_of, IsCongruent_refl, IsCongruent_sym, IsCongruent_trans}
use Rattle.residues.specs.Residues.{IsCongruent}
use Rattle.monomials.proofs.Monomials.{times-unit}
use Rattle.monomials.specs.Exponents.{Exponents, exponents_of, times, unit}
use Rattle.formal_sums.proofs.Linear.{linear_after, linear_append, linear_product, linear_times}
use Rattle.formal_sums.proofs.Sameness.{IsSame_append, IsSame_of, IsSame_refl, IsSame_sym, IsSame_trans}
use Rattle.formal_sums.proofs.WeightedSums.{weighted_sum-scale}
use Rattle.formal_sums.specs.FormalSums.{Each, FormalSum, IsSame, indicator, product, scale, shift, weighted_sum}
use Rattle.minimal_laws.proofs.Rows.{linear_component}
use Rattle.minimal_laws.specs.Cancellation.{cleared, component}
use Rattle.term_lists.proofs.Scaling.{Each_at}
use Rattle.term_lists.specs.Rings.{variables}
use Rattle.term_lists.specs.Stops.{ScaledStops}
use Rattle.term_lists.specs.Vectors.{AreTermsOver, IsMonomialOver, StandsFor, sum_of}
use Rattle.term_lists.specs.declared.key.Key.{Key as CodeKey}
use Rattle.term_lists.specs.declared.ring.Ring.{Ring}
use Rattle.term_lists.specs.declared.stop.VectStop.{VectStop}
use Rattle.term_lists.specs.declared.stop.VectStop.TheVariants.{Degree, Memory}
use Rattle.column_passes.specs.Clearing.{ClearingStops, IsMonomialAt, MakeEntry, multiple_of}
use Rattle.column_passes.proofs.Lists.{all_append, each_in}

abbrev Terms : Type 0
Terms = List (CodeKey × ℕ)

-- ---- the rows of one term
pub nat_eq-other : (a b : ℕ) → (a ≡ b → ⊥) → nat_eq a b ≡ false
nat_eq-other a b ne = go (nat_eq a b) refl
  where
    go : (c : Bool) → nat_eq a b ≡ c → nat_eq a b ≡ false
    go false e = e
    go true e = absurd (ne (eqb-true a b e))

component-one : {n : ℕ} (r : ℕ) (t : CodeKey × ℕ) → t.0.position ≡ r → component r (sum_of n (t ∷ [])) ≡ ((0, exponents_of n t.0.monomial.exponents), t.1) ∷ []
component-one {n} r t e = let q : nat_eq t.0.position r ≡ true = eq-eqb t.0.position r e in
    ap (λ b. cond b (((0, exponents_of n t.0.monomial.exponents), t.1) ∷ []) []) q

component-other : {n : ℕ} (r : ℕ) (t : CodeKey × ℕ) → (t.0.position ≡ r → ⊥) → component r (sum_of n (t ∷ [])) ≡ []
component-other {n} r t ne =
    ap (λ b. cond b (((0, exponents_of n t.0.monomial.exponents), t.1) ∷ []) []) (nat_eq-other t.0.position r ne)

-- minus the product of two residues
pub minus_product : (p s c f : ℕ) → 0 < p → f ≡ (p - (s * c) % p) % p → IsCongruent p f ((p - 1) * s * c)
minus_product p s c f pos e =
    IsCongruent_cancel pos (s * c)
    (IsCongruent_trans (IsCongruent_trans
    (IsCongruent_add (IsCongruent_sym (IsCongruent_mod p (s * c))) (IsCongruent_trans (IsCongruent_of p f _ e) (IsCongruent_mod p (p - (s * c) % p))))
    (whole (s * c) pos))
    (IsCongruent_sym (IsCongruent_trans (IsCongruent_of p (s * c + (p - 1) * s * c) (s * c + (p - 1) * (s * c)) (omega arith))
    (IsCongruent_minus p (s * c) pos))))
  where
    whole : (x : ℕ) → 0 < p → IsCongruent p (x % p + (p - x % p)) 0
    whole x pos =
        let lt : x % p < p = mod-lt x pos in
        IsCongruent_trans (IsCongruent_of p (x % p + (p - x % p)) (1 + (p - 1) * 1) (omega (arith, lt, pos))) (IsCongruent_minus p 1 pos)

pub scale_congruent : {n p : ℕ} (c d : ℕ) (m : Exponents n) (v : FormalSum n) → IsCongruent p c d → IsSame p (scale c m v) (scale d m v)
scale_congruent {n} {p} c d m v h = record {
  by_key = λ k.
      IsCongruent_trans (IsCongruent_of p _ _ (weighted_sum-scale (indicator k) c m v))
      (IsCongruent_trans (IsCongruent_multiply h (IsCongruent_refl p (weighted_sum (λ l. indicator k (shift m l)) v)))
      (IsCongruent_of p _ _ (sym (weighted_sum-scale (indicator k) d m v))));
}

module _ (ring : Ring) (r s : ℕ) (w : Terms) where
  -- a term in another row
  pub multiple_other : (t : CodeKey × ℕ) → (t.0.position ≡ r → ⊥) → multiple_of ring r s w (t ∷ []) ≡ []
  multiple_other t ne = ap (λ u. product (scale ((ring.modulus.value - 1) * s) (unit (variables ring)) u) (sum_of (variables ring) w)) (component-other r t ne)

  pub clear_other :
      (t : CodeKey × ℕ) (out : Terms) → (t.0.position ≡ r → ⊥)
      → StandsFor ring out (sum_of (variables ring) out ++ multiple_of ring r s w (t ∷ []))
  clear_other t out ne =
      IsSame_of ring.modulus.value _ _ (sym (ap (λ z. sum_of (variables ring) out ++ z) (multiple_other t ne) ∙ append-nil (sum_of (variables ring) out)))

  -- a term in the row
  pub clear_here :
      (t : CodeKey × ℕ) (out new : Terms) (f : ℕ) → 0 < ring.modulus.value → t.0.position ≡ r
      → f ≡ (ring.modulus.value - (s * t.1) % ring.modulus.value) % ring.modulus.value
      → StandsFor ring new (sum_of (variables ring) out ++ scale f (exponents_of (variables ring) t.0.monomial.exponents) (sum_of (variables ring) w))
      → StandsFor ring new (sum_of (variables ring) out ++ multiple_of ring r s w (t ∷ []))
  clear_here t out new f pos at is h =
      let n = variables ring in
      let p = ring.modulus.value in
      let m = exponents_of n t.0.monomial.exponents in
      let W = sum_of n w in
      let c = (p - 1) * s * t.1 in
      let one : multiple_of ring r s w (t ∷ []) ≡ scale c m W =
      ap (λ u. product (scale ((p - 1) * s) (unit n) u) W) (component-one r t at)
      ∙ append-nil (scale ((p - 1) * s * t.1) (times (unit n) m) W)
      ∙ ap (λ x. scale c x W) (times-unit m)
      in
      IsSame_trans h (IsSame_append (IsSame_refl p (sum_of n out))
      (IsSame_trans (scale_congruent f c m W (minus_product p s t.1 f pos is)) (IsSame_of p _ _ (sym one))))

  -- one more term
  pub clear_more :
      (v out new : Terms) (i : ℕ) (t : CodeKey × ℕ) (V : FormalSum (variables ring))
      → i < length v → t ≡ get_or v i t
      → StandsFor ring out (V ++ multiple_of ring r s w (take i v))
      → StandsFor ring new (sum_of (variables ring) out ++ multiple_of ring r s w (t ∷ []))
      → StandsFor ring new (V ++ multiple_of ring r s w (take (i + 1) v))
  clear_more v out new i t V lt is h step =
      let n = variables ring in
      let p = ring.modulus.value in
      let T = λ (u : FormalSum n). product (scale ((p - 1) * s) (unit n) (component r u)) (sum_of n w) in
      let split : sum_of n (take (i + 1) v) ≡ sum_of n (take i v) ++ sum_of n (t ∷ []) =
      ap (sum_of n) (take_more v i t lt ∙ ap (λ x. take i v ++ x ∷ []) (sym is)) ∙ map-append _ (take i v) (t ∷ [])
      in
      let more : IsSame p (T (sum_of n (take i v) ++ sum_of n (t ∷ []))) (T (sum_of n (take i v)) ++ T (sum_of n (t ∷ []))) =
      linear_append (linear_after (linear_product (sum_of n w)) (linear_after (linear_times ((p - 1) * s)) (linear_component r))) (sum_of n (take i v))
      (sum_of n (t ∷ []))
      in
      IsSame_trans step (IsSame_trans (IsSame_append h (IsSame_refl p (multiple_of ring r s w (t ∷ []))))
      (IsSame_trans (IsSame_of p _ _ (append_assoc V (multiple_of ring r s w (take i v)) (multiple_of ring r s w (t ∷ []))))
      (IsSame_append (IsSame_refl p V) (IsSame_trans (IsSame_sym more) (IsSame_of p _ _ (sym (ap T split)))))))

-- ---- halves of the terms
module _ (ring : Ring) (r s : ℕ) (w : Terms) where
  multiple_append :
      (u v : Terms) → IsSame ring.modulus.value (multiple_of ring r s w (u ++ v)) (multiple_of ring r s w u ++ multiple_of ring r s w v)
  multiple_append u v =
      let n = variables ring in
      let T = λ (x : FormalSum n). product (scale ((ring.modulus.value - 1) * s) (unit n) (component r x)) (sum_of n w) in
      IsSame_trans (IsSame_of ring.modulus.value _ _ (ap T (map-append _ u v)))
      (linear_append (linear_after (linear_product (sum_of n w)) (linear_after (linear_times ((ring.modulus.value - 1) * s)) (linear_component r)))
      (sum_of n u) (sum_of n v))

  pub multiple_halves :
      (i : ℕ) (v front back left right out : Terms) → front ≡ take i v → back ≡ drop i v
      → StandsFor ring left (multiple_of ring r s w front) → StandsFor ring right (multiple_of ring r s w back)
      → StandsFor ring out (sum_of (variables ring) left ++ sum_of (variables ring) right)
      → StandsFor ring out (multiple_of ring r s w v)
  multiple_halves i v front back left right out ef eb h g o =
      let whole : front ++ back ≡ v = ap₂ ◌++◌ ef eb ∙ take-append-drop i v in
      IsSame_trans o (IsSame_trans (IsSame_append h g)
      (IsSame_trans (IsSame_sym (multiple_append front back)) (IsSame_of ring.modulus.value _ _ (ap (multiple_of ring r s w) whole))))

pub stop_front : (r i : ℕ) (w v front : Terms) (stop : VectStop) → front ≡ take i v → ClearingStops r w front stop → ClearingStops r w v stop
stop_front r i w v front Memory e h = tt
stop_front r i w v front (Degree a b) e h = (in_front h.0, h.1, h.2)
  where
    in_front : IsMonomialAt r front a → IsMonomialAt r v a
    in_front (t, c, p, m) =
        (t, subst (λ z. Contains z t) (take-append-drop i v) (Contains-append_left (take i v) (drop i v) t (subst (λ z. Contains z t) e c)), p, m)

pub stop_back : (r i : ℕ) (w v back : Terms) (stop : VectStop) → back ≡ drop i v → ClearingStops r w back stop → ClearingStops r w v stop
stop_back r i w v back Memory e h = tt
stop_back r i w v back (Degree a b) e h = (in_back h.0, h.1, h.2)
  where
    in_back : IsMonomialAt r back a → IsMonomialAt r v a
    in_back (t, c, p, m) =
        (t, subst (λ z. Contains z t) (take-append-drop i v) (Contains-append_right (take i v) (drop i v) t (subst (λ z. Contains z t) e c)), p, m)

-- ---- nothing is taken away
component_none : (n r : ℕ) (v : Terms) → Each (λ t. t.0.position ≡ r → ⊥) v → component r (sum_of n v) ≡ []
component_none n r [] h = refl
component_none n r (t ∷ v) h =
    ap (λ b. cond b (((0, exponents_of n t.0.monomial.exponents), t.1) ∷ component r (sum_of n v)) (component r (sum_of n v)))
    (nat_eq-other t.0.position r h.0)
    ∙ component_none n r v h.1

pub cleared_other : (n p r s : ℕ) (w : FormalSum n) (v : Terms) → Each (λ t. t.0.position ≡ r → ⊥) v → cleared p r s w (sum_of n v) ≡ sum_of n v
cleared_other n p r s w v h = ap (λ u. sum_of n v ++ product (scale ((p - 1) * s) (unit n) u) w) (component_none n r v h) ∙ append-nil (sum_of n v)

-- ---- the terms of one row
component-append : {n : ℕ} (r : ℕ) (u v : FormalSum n) → component r (u ++ v) ≡ component r u ++ component r v
component-append r [] v = refl
component-append {n} r (t ∷ u) v = go (nat_eq t.0.0 r) (component-append r u v)
  where
    go :
        (b : Bool) → component r (u ++ v) ≡ component r u ++ component r v
        → cond b (((0, t.0.1), t.1) ∷ component r (u ++ v)) (component r (u ++ v))
        ≡ cond b (((0, t.0.1), t.1) ∷ component r u) (component r u) ++ component r v
    go true e = ap (λ z. ((0, t.0.1), t.1) ∷ z) e
    go false e = e

module _ (ring : Ring) (r : ℕ) (v : Terms) (i : ℕ) (t : CodeKey × ℕ) (lt : i < length v) (is : t ≡ get_or v i t) where
  split_component :
      component r (sum_of (variables ring) (take (i + 1) v))
      ≡ component r (sum_of (variables ring) (take i v)) ++ component r (sum_of (variables ring) (t ∷ []))
  split_component =
      let n = variables ring in
      ap (λ z. component r (sum_of n z)) (take_more v i t lt ∙ ap (λ x. take i v ++ x ∷ []) (sym is))
      ∙ ap (component r) (map-append _ (take i v) (t ∷ [])) ∙ component-append r (sum_of n (take i v)) (sum_of n (t ∷ []))

  -- one more term of the row
  entry_here :
      (old new : Terms) → new ≡ old ++ t ∷ [] → AreTermsOver ring v → Each (λ x. Contains v x) old → AreTermsOver ring old
      → component r (sum_of (variables ring) old) ≡ component r (sum_of (variables ring) (take i v))
      → AreTermsOver ring new × Each (λ x. Contains v x) new
      × (component r (sum_of (variables ring) new) ≡ component r (sum_of (variables ring) (take (i + 1) v)))
  entry_here old new e over inside terms same =
      let n = variables ring in (
        subst (AreTermsOver ring) (sym e)
            (all_append _ old (t ∷ []) terms (Each_at (λ x. IsMonomialOver ring x.0.monomial × (x.1 < ring.modulus.value)) v i t over lt is, tt)),
        subst (Each (λ x. Contains v x)) (sym e) (all_append _ old (t ∷ []) inside ((i, lt, sym is), tt)),
        ap (λ z. component r (sum_of n z)) e ∙ ap (component r) (map-append _ old (t ∷ [])) ∙ component-append r (sum_of n old) (sum_of n (t ∷ []))
            ∙ ap (λ z. z ++ component r (sum_of n (t ∷ []))) same ∙ sym split_component,
      )

  -- a term of another row
  entry_other :
      (old : Terms) → (t.0.position ≡ r → ⊥)
      → component r (sum_of (variables ring) old) ≡ component r (sum_of (variables ring) (take i v))
      → component r (sum_of (variables ring) old) ≡ component r (sum_of (variables ring) (take (i + 1) v))
  entry_other old ne same =
      let n = variables ring in
      same ∙ sym (split_component ∙ ap (λ z. component r (sum_of n (take i v)) ++ z) (component-other r t ne) ∙ append-nil (component r (sum_of n (take i v))))

  pub entry_more :
      (old new : Terms) → (t.0.position ≡ r → new ≡ old ++ t ∷ []) → ((t.0.position ≡ r → ⊥) → new ≡ old)
      → AreTermsOver ring v → Each (λ x. Contains v x) old → AreTermsOver ring old
      → component r (sum_of (variables ring) old) ≡ component r (sum_of (variables ring) (take i v))
      → AreTermsOver ring new × Each (λ x. Contains v x) new
      × (component r (sum_of (variables ring) new) ≡ component r (sum_of (variables ring) (take (i + 1) v)))
  entry_more old new here other over inside terms same = go (cases_eq t.0.position r)
    where
      go :
          (t.0.position ≡ r) ⊎ (t.0.position ≡ r → ⊥)
          → AreTermsOver ring new × Each (λ x. Contains v x) new
          × (component r (sum_of (variables ring) new) ≡ component r (sum_of (variables ring) (take (i + 1) v)))
      go (inl e) = entry_here old new (here e) over inside terms same
      go (inr ne) = let e = sym (other ne) in (
        subst (AreTermsOver ring) e terms,
        subst (Each (λ x. Contains v x)) e inside,
        ap (λ z. component r (sum_of (variables ring) z)) (other ne) ∙ entry_other old ne same,
      )

-- what the terms of the row take away is what all terms do
pub of_entry :
    (ring : Ring) (r s : ℕ) (w v entry taken : Terms) → MakeEntry ring r v entry → StandsFor ring taken (multiple_of ring r s w entry)
    → StandsFor ring taken (multiple_of ring r s w v)
of_entry ring r s w v entry taken h e =
    let n = variables ring in
    subst (λ u. StandsFor ring taken (product (scale ((ring.modulus.value - 1) * s) (unit n) u) (sum_of n w))) h.component e

pub entry_stop :
    (ring : Ring) (r : ℕ) (w v entry : Terms) (stop : VectStop) → MakeEntry ring r v entry → ClearingStops r w entry stop → ClearingStops r w v stop
entry_stop ring r w v entry Memory h s = tt
entry_stop ring r w v entry (Degree a b) h s = (at s.0, s.1, s.2)
  where
    at : IsMonomialAt r entry a → IsMonomialAt r v a
    at (t, c, p, m) = (t, each_in (λ x. Contains v x) entry t h.contained c, p, m)

-- ---- why a term is not cleared
pub clear_stop : (r : ℕ) (w : Terms) (t : CodeKey × ℕ) (f : ℕ) (stop : VectStop) → t.0.position ≡ r → ScaledStops f t.0.monomial w stop
    → ClearingStops r w (t ∷ []) stop
clear_stop r w t f Memory e h = tt
clear_stop r w t f (Degree a b) e h = ((t, (0, omega arith, refl), e, sym h.1), h.2, h.3)

pub on_err : {X E : Type 0} (r : Result X E) (P Q : E → Type 0) → ((e : E) → P e → Q e) → IfErr r P → IfErr r Q
on_err (Ok x) P Q f h = tt
on_err (Err e) P Q f h = f e h

pub stop_of : (r : ℕ) (w v : Terms) (t : CodeKey × ℕ) (stop : VectStop) → Contains v t → ClearingStops r w (t ∷ []) stop → ClearingStops r w v stop
stop_of r w v t Memory c h = tt
stop_of r w v t (Degree a b) c h = (at h.0, h.1, h.2)
  where
    at : IsMonomialAt r (t ∷ []) a → IsMonomialAt r v a
    at (u, (zero, lt, e), p, m) = (t, c, ap (λ (z : CodeKey × ℕ). z.0.position) e ∙ p, ap (λ (z : CodeKey × ℕ). z.0.monomial) e ∙ m)
    at (u, (suc i, lt, e), p, m) = absurd (omega (arith, lt))

-- ---- the start and the end of a loop
pub clear_start : (ring : Ring) (r s : ℕ) (w v out : Terms) → out ≡ v → StandsFor ring out (sum_of (variables ring) v ++ multiple_of ring r s w [])
clear_start ring r s w v out e = IsSame_of ring.modulus.value _ _ (ap (sum_of (variables ring)) e ∙ sym (append-nil (sum_of (variables ring) v)))

pub over_more : (P : CodeKey × ℕ → Type 0) (v : Terms) (i : ℕ) (t : CodeKey × ℕ) → Each P v → i < length v → t ≡ get_or v i t → P t
over_more P [] i t h lt e = absurd (omega (arith, lt))
over_more P (x ∷ v) zero t h lt e = subst P (sym e) h.0
over_more P (x ∷ v) (suc i) t h lt e = over_more P v i t h.1 (omega (arith, lt)) e

pub each_more :
    {X : Type 0} (P : X → Type 0) (xs : List X) (i : ℕ) (x : X) → i < length xs → x ≡ get_or xs i x → Each P (take i xs) → P x
    → Each P (take (i + 1) xs)
each_more P xs i x lt is h q = subst (Each P) (sym (take_more xs i x lt ∙ ap (λ y. take i xs ++ y ∷ []) (sym is)))
    (all_append P (take i xs) (x ∷ []) h (q, tt))

pub on_ok : {X E : Type 0} (r : Result X E) (P Q : Type 0) → (P → Q) → OnOk r P → OnOk r Q
on_ok (Ok x) P Q f h = f h
on_ok (Err e) P Q f h = tt

pub if_ok : {X E : Type 0} (r : Result X E) (P Q : X → Type 0) → ((x : X) → P x → Q x) → IfOk r P → IfOk r Q
if_ok (Ok x) P Q f h = f x h
if_ok (Err e) P Q f h = tt
