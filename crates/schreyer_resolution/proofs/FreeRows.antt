-- Rows of products without entries whose keys no lead of the columns divides
use Rattle.std.proofs.Common.{Bool, List, [], ap, append-nil, arith, drop, false, get_or, inl, inr, length, refl, subst, sym, take, true, ℕ, ◌*◌, ◌+◌, ◌++◌, ◌-◌, ◌<◌, ◌∙◌, ◌∷◌, ◌≡◌, ◌≤◌, ◌⊎◌}
use Rattle.std.proofs.lemmas.Bool.{cases_lt, true≢false}
use Rattle.std.proofs.lemmas.List.{append_assoc, drop-append-le, get_or_append_left, get_or_default, get_or_past, length-append, length-drop, map-append, take-append-le}
use Rattle.monomials.specs.Exponents.{exponents_of}
use Rattle.residues.proofs.Congruences.{IsCongruent_add, IsCongruent_of, IsCongruent_refl, IsCongruent_trans}
use Rattle.formal_sums.proofs.Sameness.{IsSame_append, IsSame_of, IsSame_refl, IsSame_trans}
use Rattle.formal_sums.proofs.WeightedSums.{Each_append, coefficient-append}
use Rattle.formal_sums.specs.FormalSums.{FormalSum, IsSame, Key, coefficient, scale, shift}
use Rattle.monomial_orders.specs.Kept.{Monomial}
use Rattle.term_lists.proofs.Scaling.{take_item}
use Rattle.term_lists.specs.Rings.{variables}
use Rattle.term_lists.specs.Vectors.{key_of, sum_of, sums_of}
use Rattle.term_lists.specs.declared.key.Key.{Key as CodeKey}
use Rattle.term_lists.specs.declared.ring.Ring.{Ring}
use Rattle.vector_division.specs.Divisions.{IsUncovered}
use Rattle.row_matrix.proofs.Names.{named_more}
use Rattle.row_matrix.specs.Hashes.{no_key}
use Rattle.row_matrix.specs.Rows.{Entry, column_key, row_sum}
use Rattle.induced_leads.proofs.Pushing.{length-pushed, pushed_default}
use Rattle.numbered_sums.proofs.ProductRows.{known, wider}
use Rattle.numbered_sums.specs.ProductEntries.{multiple_at}
use Rattle.schreyer_resolution.specs.FreeKeys.{AreFreeNumbers, HasMore, IsUpToFree}
use Rattle.schreyer_resolution.specs.Sharing.{AreStarts, IsRowOf, no_stretch, row_at}
use Rattle.schreyer_resolution.specs.declared.products.Stretch.{Stretch}

abbrev Terms : Type 0
Terms = List (CodeKey × ℕ)

-- ---- lists that grow
pub more_none : {X : Type 0} (xs : List X) → HasMore xs xs
more_none xs = record { added = []; is = sym (append-nil xs) }

pub more_trans : {X : Type 0} (xs ys zs : List X) → HasMore xs ys → HasMore ys zs → HasMore xs zs
more_trans xs ys zs g h = record {
  added = g.added ++ h.added;
  is = h.is ∙ ap (λ u. u ++ h.added) g.is ∙ append_assoc xs g.added h.added;
}

pub more_length : {X : Type 0} (xs ys : List X) → HasMore xs ys → length xs ≤ length ys
more_length xs ys g = omega (arith, ap length g.is, length-append xs g.added)

pub more_at : {X : Type 0} (xs ys : List X) (d : X) (i : ℕ) → i < length xs → HasMore xs ys → get_or ys i d ≡ get_or xs i d
more_at xs ys d i lt g = ap (λ u. get_or u i d) g.is ∙ get_or_append_left xs g.added d i lt

-- ---- flags
module _ (n : ℕ) (columns : List Terms) where
  pub flags_more : (old new : List CodeKey) (flags : List Bool) → HasMore old new → AreFreeNumbers n columns old flags → AreFreeNumbers n columns new flags
  flags_more old new flags g h = record {
    within = let w = h.within in omega (arith, w, ap length g.is, length-append old g.added);
    free = λ i t. go i t (cases_lt i (length flags));
  }
    where
      go : (i : ℕ) → get_or flags i false ≡ true → (i < length flags) ⊎ (length flags ≤ i) → IsUncovered (sums_of n columns) (column_key n new i)
      go i t (inl l) =
          let w = h.within in
          subst (λ k. IsUncovered (sums_of n columns) (key_of n k))
          (sym (ap (λ ks. get_or ks i no_key) g.is ∙ get_or_append_left old g.added no_key i (omega (arith, l, w)))) (h.free i t)
      go i t (inr ge) = absurd (true≢false (sym t ∙ get_or_past flags i false ge))

  pub flags_push :
      (keys : List CodeKey) (flags : List Bool) (flag : Bool) → length flags < length keys → AreFreeNumbers n columns keys flags
      → (flag ≡ true → IsUncovered (sums_of n columns) (column_key n keys (length flags))) → AreFreeNumbers n columns keys (flags ++ flag ∷ [])
  flags_push keys flags flag lt h here = record {
    within = omega (arith, lt, length-pushed flags flag);
    free = λ i t. go i t (cases_lt i (length flags + 1));
  }
    where
      go : (i : ℕ) → get_or (flags ++ flag ∷ []) i false ≡ true → (i < length flags + 1) ⊎ (length flags + 1 ≤ i)
          → IsUncovered (sums_of n columns) (column_key n keys i)
      go i t (inl l) =
          pushed_default (λ j b. b ≡ true → IsUncovered (sums_of n columns) (column_key n keys j)) false flags flag (length flags) refl
          (λ j l' x. h.free j x) here i l t
      go i t (inr ge) = absurd (true≢false (sym t ∙ get_or_past (flags ++ flag ∷ []) i false (omega (arith, ge, length-pushed flags flag))))

-- ---- rows
-- what is put behind the sum stands before the rest
same_before : {n : ℕ} (p : ℕ) (v a r t : FormalSum n) → IsSame p v (a ++ r) → IsSame p (v ++ t) ((a ++ t) ++ r)
same_before p v a r t h = record {
  by_key = λ k.
      let x = coefficient a k in
      let y = coefficient r k in
      let z = coefficient t k in
      let whole : coefficient ((a ++ t) ++ r) k ≡ (x + z) + y = coefficient-append (a ++ t) r k ∙ ap (λ u. u + y) (coefficient-append a t k) in
      IsCongruent_trans (IsCongruent_of p _ _ (coefficient-append v t k))
      (IsCongruent_trans (IsCongruent_add (IsCongruent_trans (h.by_key k) (IsCongruent_of p _ _ (coefficient-append a r k))) (IsCongruent_refl p z))
      (IsCongruent_of p _ _ (shuffled x y z ∙ sym whole)));
}
  where
    shuffled : (x y z : ℕ) → (x + y) + z ≡ (x + z) + y
    shuffled x y z = omega arith

module _ (ring : Ring) (cols : List Terms) where
  -- no entries
  pub up_to_none : (keys : List CodeKey) → IsUpToFree ring cols keys [] []
  up_to_none keys = record { within = tt; rest = []; free = tt; sum = IsSame_refl ring.modulus.value [] }

  -- an entry more
  pub up_to_entry :
      (keys : List CodeKey) (v : FormalSum (variables ring)) (entries : List Entry) (i r : ℕ) (k : Key (variables ring)) → IsUpToFree ring cols keys v entries
      → i < length keys → r < ring.modulus.value → column_key (variables ring) keys i ≡ k
      → IsUpToFree ring cols keys (v ++ (k, r) ∷ []) (entries ++ (i, r) ∷ [])
  up_to_entry keys v entries i r k h lt low is =
      let n = variables ring in
      let K = column_key n keys in
      let view : Entry → Key n × ℕ = λ e. (K e.0, e.1) in
      record {
        within = Each_append _ entries ((i, r) ∷ []) h.within ((lt, low), tt);
        rest = h.rest;
        free = h.free;
        sum = subst (λ (b : FormalSum n). IsSame ring.modulus.value (v ++ (k, r) ∷ []) (b ++ h.rest))
            (ap (λ (x : Key n). row_sum K entries ++ (x, r) ∷ []) (sym is) ∙ sym (map-append view entries ((i, r) ∷ [])))
            (same_before ring.modulus.value v (row_sum K entries) h.rest ((k, r) ∷ []) h.sum);
      }

  -- a term more whose key no lead divides
  pub up_to_free :
      (keys : List CodeKey) (v : FormalSum (variables ring)) (entries : List Entry) (k : Key (variables ring)) (r : ℕ) → IsUpToFree ring cols keys v entries
      → IsUncovered (sums_of (variables ring) cols) k → IsUpToFree ring cols keys (v ++ (k, r) ∷ []) entries
  up_to_free keys v entries k r h free =
      let n = variables ring in
      let R = row_sum (column_key n keys) entries in
      record {
        within = h.within;
        rest = h.rest ++ (k, r) ∷ [];
        free = Each_append _ h.rest ((k, r) ∷ []) h.free (free, tt);
        sum = IsSame_trans (IsSame_append h.sum (IsSame_refl ring.modulus.value ((k, r) ∷ [])))
            (IsSame_of ring.modulus.value _ _ (append_assoc R h.rest ((k, r) ∷ [])));
      }

  -- more keys keep it
  pub up_to_more :
      (old new : List CodeKey) (v : FormalSum (variables ring)) (entries : List Entry) → HasMore old new
      → IsUpToFree ring cols old v entries → IsUpToFree ring cols new v entries
  up_to_more old new v entries g h =
      let n = variables ring in
      let row = row_sum (column_key n old) entries in
      let more = named_more n old g.added entries row (record { known = known ring cols old g.added entries h.within; sum = refl }) in
      subst (λ ks. IsUpToFree ring cols ks v entries) (sym g.is) (record {
        within = wider ring cols old g.added entries h.within;
        rest = h.rest;
        free = h.free;
        sum = IsSame_trans h.sum (IsSame_of ring.modulus.value _ _ (ap (λ u. u ++ h.rest) (sym more.sum)));
      })

-- the product of a monomial and one term more
pub scaled_more :
    (n : ℕ) (t : List ℕ) (v : Terms) (i : ℕ) (x : CodeKey × ℕ) → i < length v → x ≡ get_or v i x
    → scale 1 (exponents_of n t) (sum_of n (take (i + 1) v))
    ≡ scale 1 (exponents_of n t) (sum_of n (take i v)) ++ (shift (exponents_of n t) (key_of n x.0), x.1) ∷ []
scaled_more n t v i x lt at =
    let m = exponents_of n t in
    let view : CodeKey × ℕ → Key n × ℕ = λ u. (key_of n u.0, u.1) in
    let scaled : Key n × ℕ → Key n × ℕ = λ u. (shift m u.0, 1 * u.1) in
    ap (λ xs. scale 1 m (sum_of n xs)) (take_item v i x lt at) ∙ ap (scale 1 m) (map-append view (take i v) (x ∷ []))
    ∙ map-append scaled (sum_of n (take i v)) ((key_of n x.0, x.1) ∷ [])
    ∙ ap (λ r. scale 1 m (sum_of n (take i v)) ++ (shift m (key_of n x.0), r) ∷ []) (one_times x.1)
  where
    one_times : (r : ℕ) → 1 * r ≡ r
    one_times r = omega arith

-- ---- rows among others
-- what stands there still does where there are more
pub row_kept : (old new : List Entry) (s : Stretch) → s.from ≤ s.to → s.to ≤ length old → HasMore old new → row_at new s ≡ row_at old s
row_kept old new s le inside g =
    ap (λ es. take (s.to - s.from) (drop s.from es)) g.is
    ∙ ap (take (s.to - s.from)) (drop-append-le s.from old g.added (omega (arith, le, inside)))
    ∙ take-append-le (s.to - s.from) (drop s.from old) g.added (omega (arith, inside, length-drop s.from old))

module _ (ring : Ring) (cols : List Terms) where
  pub row_more :
      (old new : List CodeKey) (before after : List Entry) (index : ℕ) (m : Monomial) (s : Stretch) → HasMore old new → HasMore before after
      → IsRowOf ring cols old before index m s → IsRowOf ring cols new after index m s
  row_more old new before after index m s g e h = record {
    from = h.from;
    inside = let w = more_length before after e in let i = h.inside in omega (arith, i, w);
    row = subst (λ es. IsUpToFree ring cols new (multiple_at ring cols index m) es) (sym (row_kept before after s h.from h.inside e)) (up_to_more ring cols old new _ (row_at before s) g h.row);
  }

  -- ---- the products with which columns start
  pub starts_more :
      (old new : List CodeKey) (before after : List Entry) (keys : List CodeKey) (count : ℕ) (rows : List Stretch) → HasMore old new → HasMore before after
      → AreStarts ring cols old before keys count rows → AreStarts ring cols new after keys count rows
  starts_more old new before after keys count rows g e h = record {
    sized = h.sized;
    each = λ c k lt is. row_more old new before after k.position k.monomial (get_or rows c no_stretch) g e (h.each c k lt is);
  }

  pub starts_next :
      (numbers : List CodeKey) (entries : List Entry) (keys : List CodeKey) (count : ℕ) (rows : List Stretch) (row : Stretch) (key : CodeKey)
      → AreStarts ring cols numbers entries keys count rows → count < length keys → key ≡ get_or keys count key
      → IsRowOf ring cols numbers entries key.position key.monomial row
      → AreStarts ring cols numbers entries keys (count + 1) (rows ++ row ∷ [])
  starts_next numbers entries keys count rows row key h lt is m = record {
    sized = length-pushed rows row ∙ ap (λ z. z + 1) h.sized;
    each = λ c x l e.
        pushed_default (λ i w. (y : CodeKey) → y ≡ get_or keys i y → IsRowOf ring cols numbers entries y.position y.monomial w) no_stretch rows row count h.sized
        (λ i l' y e'. h.each i y l' e')
        (λ y e'. subst (λ z. IsRowOf ring cols numbers entries z.position z.monomial row) (is ∙ get_or_default keys count key y lt ∙ sym e') m) c l x e;
  }
