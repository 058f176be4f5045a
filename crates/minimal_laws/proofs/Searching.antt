-- The first constant of a list of maps is found, or there is none; so each list has its cancellation
use Rattle.std.proofs.Common.{List, [], ap, arith, get_or, inl, inr, length, refl, subst, suc, sym, zero, max, ℕ, ◌*◌, ◌<◌, ◌∷◌, ◌≡◌, ◌≤◌, ◌⊎◌}
use Rattle.std.specs.Prelude.{drop}
use Rattle.std.proofs.lemmas.Bool.{cases_lt}
use Rattle.residues.proofs.Congruences.{IsCongruent_decide, IsCongruent_of, IsCongruent_trans}
use Rattle.residues.proofs.Inverting.{IsDomain_inverse}
use Rattle.residues.specs.Residues.{IsCongruent, IsDomain}
use Rattle.monomials.specs.Exponents.{unit}
use Rattle.formal_sums.proofs.Combining.{Each_map}
use Rattle.formal_sums.proofs.OfRank.{coefficient_past}
use Rattle.formal_sums.proofs.Sameness.{IsSame_refl}
use Rattle.formal_sums.proofs.WeightedSums.{indicator_other, key_cases}
use Rattle.formal_sums.specs.FormalSums.{Each, FormalSum, HasRank, Key, coefficient, indicator}
use Rattle.minimal_laws.proofs.Falling.{split_falls}
use Rattle.minimal_laws.specs.Cancellation.{AreSameMaps, IsCancelled, IsFirstConstant, columns_in_all, done, split, step, trimmed}
use Rattle.minimal_laws.specs.Gradings.{GradedMap, GradedMaps, first_columns}
use Rattle.minimal_laws.specs.Minimal.{HasConstant, IsConstantAt}

-- a proposition that holds or does not
abbrev Decided : Type 0 → Type 0
Decided P = P ⊎ (P → ⊥)

decided_each : {X : Type 0} (P : X → Type 0) → ((x : X) → Decided (P x)) → (xs : List X) → Decided (Each P xs)
decided_each P d [] = inl tt
decided_each P d (x ∷ xs) = go (d x) (decided_each P d xs)
  where
    go : Decided (P x) → Decided (Each P xs) → Decided (P x × Each P xs)
    go (inl a) (inl b) = inl (a, b)
    go (inl a) (inr b) = inr (λ h. b h.1)
    go (inr a) b = inr (λ h. a h.0)

-- the least number of which the property holds
abbrev Least : (ℕ → Type 0) → ℕ → Type 0
Least P i = P i × ((j : ℕ) → j < i → P j → ⊥)

least : (P : ℕ → Type 0) → ((i : ℕ) → Decided (P i)) → (m : ℕ) → ((i : ℕ) × Least P i) ⊎ ((i : ℕ) → i < m → P i → ⊥)
least P d zero = inr (λ i h. absurd (omega arith))
least P d (suc m) = go (least P d m) (d m)
  where
    go : ((i : ℕ) × Least P i) ⊎ ((i : ℕ) → i < m → P i → ⊥) → Decided (P m) → ((i : ℕ) × Least P i) ⊎ ((i : ℕ) → i < suc m → P i → ⊥)
    go (inl a) b = inl a
    go (inr a) (inl b) = inl (m, (b, a))
    go (inr a) (inr b) = inr (λ i h q. at i q (cases i h))
      where
        cases : (i : ℕ) → i < suc m → (i < m) ⊎ (i ≡ m)
        cases i h = grind arith

        at : (i : ℕ) → P i → (i < m) ⊎ (i ≡ m) → ⊥
        at i q (inl lt) = a i lt q
        at i q (inr e) = b (subst P e q)

-- what holds at the keys of v, and where v has nothing, holds at each key
at_keys : {n : ℕ} (P : Key n → Type 0) (v : FormalSum n) → Each (λ t. P t.0) v → ((k : Key n) → coefficient v k ≡ 0 → P k) → (k : Key n) → P k
at_keys {n} P v h none k = go (found v h)
  where
    found : (w : FormalSum n) → Each (λ t. P t.0) w → P k ⊎ (coefficient w k ≡ 0)
    found [] h = inr (omega arith)
    found (t ∷ w) h = at (key_cases k t.0) (found w h.1)
      where
        at : (k ≡ t.0) ⊎ (k ≡ t.0 → ⊥) → P k ⊎ (coefficient w k ≡ 0) → P k ⊎ (coefficient (t ∷ w) k ≡ 0)
        at (inl e) r = inl (subst P (sym e) h.0)
        at (inr ne) (inl p) = inl p
        at (inr ne) (inr z) = inr (let d : indicator k t.0 ≡ 0 = indicator_other k t.0 ne in rw (d, z) (omega arith))

    go : P k ⊎ (coefficient v k ≡ 0) → P k
    go (inl p) = p
    go (inr z) = none k z

-- a bound of the positions of v
row_bound : {n : ℕ} → FormalSum n → ℕ
row_bound [] = 0
row_bound (t ∷ v) = max (suc t.0.0) (row_bound v)

HasRank_bound : {n : ℕ} (v : FormalSum n) → HasRank (row_bound v) v
unfolding row_bound
HasRank_bound [] = tt
HasRank_bound (t ∷ v) = (omega arith, Each_map (λ u. u.0.0 < row_bound v) (λ u. u.0.0 < max (suc t.0.0) (row_bound v)) v (λ u h. omega (arith, h)) (HasRank_bound v))

module _ {n : ℕ} (p : ℕ) where
  -- nothing stands beside the constant
  abbrev Alone : FormalSum n → ℕ → Key n → Type 0
  Alone v r k = k.0 ≡ r → (k.1 ≡ unit n → ⊥) → IsCongruent p (coefficient v k) 0

  decided_alone : (v : FormalSum n) (r : ℕ) (k : Key n) → Decided (Alone v r k)
  decided_alone v r k = go (IsCongruent_decide p (coefficient v k)) (rows k.0 r) (key_cases k (k.0, unit n))
    where
      rows : (a b : ℕ) → (a ≡ b) ⊎ (a ≡ b → ⊥)
      rows a b = at (cases a b)
        where
          cases : (a b : ℕ) → (a ≡ b) ⊎ ((a < b) ⊎ (b < a))
          cases a b = grind arith

          at : (a ≡ b) ⊎ ((a < b) ⊎ (b < a)) → (a ≡ b) ⊎ (a ≡ b → ⊥)
          at (inl e) = inl e
          at (inr (inl h)) = inr (λ e. omega (arith, e, h))
          at (inr (inr h)) = inr (λ e. omega (arith, e, h))

      go : Decided (IsCongruent p (coefficient v k) 0) → (k.0 ≡ r) ⊎ (k.0 ≡ r → ⊥) → (k ≡ (k.0, unit n)) ⊎ (k ≡ (k.0, unit n) → ⊥) → Decided (k.0 ≡ r → (k.1 ≡ unit n → ⊥) → IsCongruent p (coefficient v k) 0)
      go (inl z) e u = inl (λ a b. z)
      go (inr nz) (inr ne) u = inl (λ a b. absurd (ne a))
      go (inr nz) (inl e) (inl u) = inl (λ a b. absurd (b (ap (λ x. x.1) u)))
      go (inr nz) (inl e) (inr nu) = inr (λ f. nz (f e (λ d. nu (ap (λ m. (k.0, m)) d))))

  decided_constant : (v : FormalSum n) (r : ℕ) → Decided (IsConstantAt p v r)
  decided_constant v r = go (IsCongruent_decide p (coefficient v (r, unit n))) (decided_each (λ t. Alone v r t.0) (λ t. decided_alone v r t.0) v)
    where
      go : Decided (IsCongruent p (coefficient v (r, unit n)) 0) → Decided (Each (λ t. Alone v r t.0) v) → Decided (IsConstantAt p v r)
      go (inl z) d = inr (λ h. h.nonzero z)
      go (inr nz) (inl each) = inl (record { nonzero = nz; alone = λ m ne. at_keys (Alone v r) v each (λ k z a b. IsCongruent_of p _ 0 z) (r, m) refl ne })
      go (inr nz) (inr bad) = inr (λ h. bad (every h v))
        where
          every : IsConstantAt p v r → (w : FormalSum n) → Each (λ t. Alone v r t.0) w
          every h [] = tt
          every h (t ∷ w) = (λ a b. subst (λ x. IsCongruent p (coefficient v (x, t.0.1)) 0) (sym a) (h.alone t.0.1 b), every h w)

  -- the first row of a column with a constant
  first_row : (v : FormalSum n) → ((r : ℕ) × Least (IsConstantAt p v) r) ⊎ ((r : ℕ) → IsConstantAt p v r → ⊥)
  first_row v = go (least (IsConstantAt p v) (decided_constant v) (row_bound v))
    where
      go : ((r : ℕ) × Least (IsConstantAt p v) r) ⊎ ((r : ℕ) → r < row_bound v → IsConstantAt p v r → ⊥) → ((r : ℕ) × Least (IsConstantAt p v) r) ⊎ ((r : ℕ) → IsConstantAt p v r → ⊥)
      go (inl a) = inl a
      go (inr a) = inr (λ r h. at r h (cases_lt r (row_bound v)))
        where
          at : (r : ℕ) → IsConstantAt p v r → (r < row_bound v) ⊎ (row_bound v ≤ r) → ⊥
          at r h (inl lt) = a r lt h
          at r h (inr ge) = h.nonzero (IsCongruent_of p _ 0 (coefficient_past (row_bound v) v (HasRank_bound v) (r, unit n) ge))

  -- a column of F with a constant
  abbrev Marked : List (FormalSum n) → ℕ → Type 0
  Marked F c = (c < length F) × ((r : ℕ) × Least (IsConstantAt p (get_or F c [])) r)

  decided_column : (F : List (FormalSum n)) (c : ℕ) → Decided (Marked F c)
  decided_column F c = go (cases_lt c (length F)) (first_row (get_or F c []))
    where
      go : (c < length F) ⊎ (length F ≤ c) → ((r : ℕ) × Least (IsConstantAt p (get_or F c [])) r) ⊎ ((r : ℕ) → IsConstantAt p (get_or F c []) r → ⊥) → Decided ((c < length F) × ((r : ℕ) × Least (IsConstantAt p (get_or F c [])) r))
      go (inl lt) (inl a) = inl (lt, a)
      go (inl lt) (inr a) = inr (λ h. a h.1.0 h.1.1.0)
      go (inr ge) a = inr (λ h. let lt = h.0 in omega (arith, lt, ge))

  -- the first constant of a map
  record FirstIn (F : List (FormalSum n)) (c r : ℕ) : Type 0 where
    inside : c < length F
    constant : IsConstantAt p (get_or F c []) r
    column : (b q : ℕ) → b < c → b < length F → IsConstantAt p (get_or F b []) q → ⊥
    row : (q : ℕ) → q < r → IsConstantAt p (get_or F c []) q → ⊥

  first_in : (F : List (FormalSum n)) → ((c : ℕ) × (r : ℕ) × FirstIn F c r) ⊎ ((c r : ℕ) → c < length F → IsConstantAt p (get_or F c []) r → ⊥)
  first_in F = go (least (Marked F) (decided_column F) (length F))
    where
      marks : (c q : ℕ) → c < length F → IsConstantAt p (get_or F c []) q → Marked F c
      marks c q lt h = at (first_row (get_or F c []))
        where
          at : ((r : ℕ) × Least (IsConstantAt p (get_or F c [])) r) ⊎ ((r : ℕ) → IsConstantAt p (get_or F c []) r → ⊥) → (c < length F) × ((r : ℕ) × Least (IsConstantAt p (get_or F c [])) r)
          at (inl a) = (lt, a)
          at (inr a) = absurd (a q h)

      go : ((c : ℕ) × Least (Marked F) c) ⊎ ((c : ℕ) → c < length F → Marked F c → ⊥) → ((c : ℕ) × (r : ℕ) × FirstIn F c r) ⊎ ((c r : ℕ) → c < length F → IsConstantAt p (get_or F c []) r → ⊥)
      go (inl (c, (m, before))) = inl (
        c,
        m.1.0,
        record {
          inside = m.0;
          constant = m.1.1.0;
          column = λ b q lt hb h. before b lt (marks b q hb h);
          row = λ q lt h. m.1.1.1 q lt h;
        },
      )
      go (inr none) = inr (λ c r lt h. none c lt (marks c r lt h))

  -- the first constant of the maps
  pub first_constant : (maps : List (GradedMap n)) → ((k : ℕ) × (c : ℕ) × (r : ℕ) × IsFirstConstant p maps k c r) ⊎ ((k c r : ℕ) → HasConstant p maps k c r → ⊥)
  first_constant [] = inr (λ k c r h. elim h [ ])
  first_constant (M ∷ maps) = go (first_in M.columns) (first_constant maps)
    where
      go : ((c : ℕ) × (r : ℕ) × FirstIn M.columns c r) ⊎ ((c r : ℕ) → c < length M.columns → IsConstantAt p (get_or M.columns c []) r → ⊥)
          → ((k : ℕ) × (c : ℕ) × (r : ℕ) × IsFirstConstant p maps k c r) ⊎ ((k c r : ℕ) → HasConstant p maps k c r → ⊥)
          → ((k : ℕ) × (c : ℕ) × (r : ℕ) × IsFirstConstant p (M ∷ maps) k c r) ⊎ ((k c r : ℕ) → HasConstant p (M ∷ maps) k c r → ⊥)
      go (inl (c, r, f)) more = inl (
        0,
        c,
        r,
        record {
          constant = (f.inside, f.constant);
          first_map = λ l b q lt h. absurd (omega (arith, lt));
          first_column = λ b q lt h. f.column b q lt h.0 h.1;
          first_row = λ q lt h. f.row q lt h.1;
        },
      )
      go (inr none) (inl (k, c, r, f)) = inl (
        suc k,
        c,
        r,
        record {
          constant = f.constant;
          first_map = before;
          first_column = f.first_column;
          first_row = f.first_row;
        },
      )
        where
          before : (l b q : ℕ) → l < suc k → HasConstant p (M ∷ maps) l b q → ⊥
          before zero b q lt h = none b q h.0 h.1
          before (suc l) b q lt h = f.first_map l b q (omega (arith, lt)) h
      go (inr none) (inr more) = inr at
        where
          at : (k c r : ℕ) → HasConstant p (M ∷ maps) k c r → ⊥
          at zero c r h = none c r h.0 h.1
          at (suc k) c r h = more k c r h

  pub constant_at : (k c r : ℕ) (maps : List (GradedMap n)) → HasConstant p maps k c r → IsConstantAt p (get_or (first_columns (drop k maps)) c []) r
  constant_at k c r [] h = elim h [ ]
  constant_at zero c r (M ∷ maps) h = h.1
  constant_at (suc k) c r (M ∷ maps) h = constant_at k c r maps h

  pub same_maps_itself : (maps : List (GradedMap n)) → AreSameMaps p maps maps
  same_maps_itself [] = tt
  same_maps_itself (M ∷ maps) = (refl, record { count = refl; each = λ i. IsSame_refl p _ }, same_maps_itself maps)

  -- each list has its cancellation: the columns fall
  cancel : IsDomain p → (fuel : ℕ) (rows : List ℕ) (maps : List (GradedMap n)) → columns_in_all maps < fuel → (D : GradedMaps n) × IsCancelled p (record { positions = rows; maps = maps }) D
  cancel domain zero rows maps lt = absurd (omega (arith, lt))
  cancel domain (suc fuel) rows maps lt = go (first_constant maps) (λ up others h. cancel domain fuel up others h)
    where
      go : ((k : ℕ) × (c : ℕ) × (r : ℕ) × IsFirstConstant p maps k c r) ⊎ ((k c r : ℕ) → HasConstant p maps k c r → ⊥)
          → ((up : List ℕ) (others : List (GradedMap n)) → columns_in_all others < fuel → (D : GradedMaps n) × IsCancelled p (record { positions = up; maps = others }) D)
          → (D : GradedMaps n) × IsCancelled p (record { positions = rows; maps = maps }) D
      go (inr none) rest = (record { positions = rows; maps = trimmed maps }, done rows maps none)
      go (inl (k, c, r, f)) rest =
          let x = coefficient (get_or (first_columns (drop k maps)) c []) (r, unit n) in
          let s = IsDomain_inverse p domain x (constant_at k c r maps f.constant).nonzero in
          let falls = split_falls p k c r s.0 rows maps f.constant in
          let more = rest (split p k r c s.0 rows maps).0 (split p k r c s.0 rows maps).1 (omega (arith, falls, lt)) in
          (more.0, step rows maps (split p k r c s.0 rows maps).1 more.0 k c r s.0 f (IsCongruent_trans (IsCongruent_of p (s.0 * x) (x * s.0) (omega arith)) s.1) (same_maps_itself (split p k r c s.0 rows maps).1) more.1)

  pub cancellation_exists : IsDomain p → (C : GradedMaps n) → (D : GradedMaps n) × IsCancelled p C D
  cancellation_exists domain C = cancel domain (suc (columns_in_all C.maps)) C.positions C.maps (omega arith)
