-- The members of a list that pass a test, by their places in it
use Rattle.std.proofs.Common.{Bool, List, [], ap, arith, cond, false, get_or, length, map, refl, suc, sym, true, true≢false, zero, ℕ, ◌<◌, ◌∙◌, ◌∷◌, ◌≡◌}
use Rattle.std.specs.List.{filter}

-- where the members of R stand in G
pub record Choice {X : Type 0} (test : X → Bool) (d : X) (G R : List X) : Type 0 where
  pub place : ℕ → ℕ
  pub inside : (i : ℕ) → i < length R → place i < length G
  pub passes : (i : ℕ) → i < length R → test (get_or G (place i) d) ≡ true
  pub same : (i : ℕ) → i < length R → get_or R i d ≡ get_or G (place i) d
  pub rising : (i j : ℕ) → i < j → j < length R → place i < place j
  pub all : (j : ℕ) → j < length G → test (get_or G j d) ≡ true → (i : ℕ) × (i < length R) × (get_or R i d ≡ get_or G j d)

abbrev above : (ℕ → ℕ) → ℕ → ℕ
above f zero = zero
above f (suc i) = suc (f i)

pub choice : {X : Type 0} (test : X → Bool) (d : X) (G : List X) → Choice test d G (filter test G)
choice test d [] = record {
  place = λ i. i;
  inside = λ i h. h;
  passes = λ i h. absurd (omega arith);
  same = λ i h. refl;
  rising = λ i j lt h. lt;
  all = λ j h e. absurd (omega arith);
}
choice {X} test d (g ∷ G) = go (test g) refl (choice test d G)
  where
    taken : test g ≡ true → (R : List X) → Choice test d G R → Choice test d (g ∷ G) (g ∷ R)
    taken e R c = record { place = above c.place; inside = inside; passes = passes; same = same; rising = rising; all = all }
      where
        inside : (i : ℕ) → i < length (g ∷ R) → above c.place i < length (g ∷ G)
        inside zero h = omega arith
        inside (suc i) h = let q = c.inside i (omega arith) in omega (arith, q)

        passes : (i : ℕ) → i < length (g ∷ R) → test (get_or (g ∷ G) (above c.place i) d) ≡ true
        passes zero h = e
        passes (suc i) h = c.passes i (omega arith)

        same : (i : ℕ) → i < length (g ∷ R) → get_or (g ∷ R) i d ≡ get_or (g ∷ G) (above c.place i) d
        same zero h = refl
        same (suc i) h = c.same i (omega arith)

        rising : (i j : ℕ) → i < j → j < length (g ∷ R) → above c.place i < above c.place j
        rising i zero lt h = absurd (omega arith)
        rising zero (suc j) lt h = omega arith
        rising (suc i) (suc j) lt h = let q = c.rising i j (omega arith) (omega arith) in omega (arith, q)

        all : (j : ℕ) → j < length (g ∷ G) → test (get_or (g ∷ G) j d) ≡ true
            → (i : ℕ) × (i < length (g ∷ R)) × (get_or (g ∷ R) i d ≡ get_or (g ∷ G) j d)
        all zero h q = (0, omega arith, refl)
        all (suc j) h q = let r = c.all j (omega arith) q in (suc r.0, (let lt = r.1 in omega (arith, lt)), r.2)

    left : test g ≡ false → (R : List X) → Choice test d G R → Choice test d (g ∷ G) R
    left e R c = record {
      place = λ i. suc (c.place i);
      inside = λ i h. let q = c.inside i h in omega (arith, q);
      passes = c.passes;
      same = c.same;
      rising = λ i j lt h. let q = c.rising i j lt h in omega (arith, q);
      all = all;
    }
      where
        all : (j : ℕ) → j < length (g ∷ G) → test (get_or (g ∷ G) j d) ≡ true → (i : ℕ) × (i < length R) × (get_or R i d ≡ get_or (g ∷ G) j d)
        all zero h q = absurd (true≢false (sym q ∙ e))
        all (suc j) h q = c.all j (omega arith) q

    go : (b : Bool) → test g ≡ b → Choice test d G (filter test G) → Choice test d (g ∷ G) (cond b (g ∷ filter test G) (filter test G))
    go true e c = taken e (filter test G) c
    go false e c = left e (filter test G) c

pub length-map : {X Y : Type 0} (w : X → Y) (xs : List X) → length (map w xs) ≡ length xs
length-map w [] = refl
length-map w (x ∷ xs) = ap suc (length-map w xs)

pub get_or-map : {X Y : Type 0} (w : X → Y) (d : X) (xs : List X) (i : ℕ) → get_or (map w xs) i (w d) ≡ w (get_or xs i d)
get_or-map w d [] i = refl
get_or-map w d (x ∷ xs) zero = refl
get_or-map w d (x ∷ xs) (suc i) = get_or-map w d xs i
