-- Sums and flags stay what they are as more keys get numbers
use Rattle.std.proofs.Common.{List, [], ap, append-nil, arith, get_or, inl, inr, length, refl, replicate, suc, sym, take, ℕ, ◌+◌, ◌++◌, ◌-◌, ◌<◌, ◌∙◌, ◌∷◌, ◌≡◌, ◌≤◌, ◌⊎◌}
use Rattle.std.proofs.Math.Seq.{get_or-append_right}
use Rattle.std.proofs.lemmas.Bool.{cases_lt}
use Rattle.std.proofs.lemmas.List.{get_or-replicate, get_or_append_left, get_or_past, length-append, length-replicate, take_all}
use Rattle.formal_sums.proofs.Sameness.{IsSame_append, IsSame_of, IsSame_refl, IsSame_sym, IsSame_trans}
use Rattle.formal_sums.specs.FormalSums.{IsSame, Key}
use Rattle.numbered_sums.proofs.NumberedSums.{idle_sums, idle_zeros}
use Rattle.numbered_sums.specs.KeySums.{numbered_sum}

-- what was filled up with x reads as before
module _ {X : Type 0} (x : X) (c m : ℕ) (old new : List X) (here : m ≡ length old) (le : length old ≤ c) (is : new ≡ take c old ++ replicate (c - m) x) where
  pub padded : new ≡ old ++ replicate (c - length old) x
  padded = is ∙ ap (λ xs. xs ++ replicate (c - m) x) (take_all c old le) ∙ ap (λ k. old ++ replicate (c - k) x) here

  pub padded_length : length new ≡ c
  padded_length = ap length padded ∙ omega (arith, le, length-append old (replicate (c - length old) x), length-replicate (c - length old) x)

  pub padded_get : (i : ℕ) → get_or new i x ≡ get_or old i x
  padded_get i = ap (λ xs. get_or xs i x) padded ∙ go (cases_lt i (length old)) (cases_lt i c)
    where
      go : (i < length old) ⊎ (length old ≤ i) → (i < c) ⊎ (c ≤ i) → get_or (old ++ replicate (c - length old) x) i x ≡ get_or old i x
      go (inl l) o = get_or_append_left old (replicate (c - length old) x) x i l
      go (inr g) (inl l) =
          get_or-append_right old (replicate (c - length old) x) i x g
          ∙ get_or-replicate (c - length old) (i - length old) x x (omega (arith, g, l)) ∙ sym (get_or_past old i x g)
      go (inr g) (inr h) =
          get_or_past (old ++ replicate (c - length old) x) i x (omega (arith, h, le, length-append old (replicate (c - length old) x), length-replicate (c - length old) x))
          ∙ sym (get_or_past old i x g)

-- sums behind others
numbered_append :
    {n : ℕ} (key : ℕ → Key n) (i : ℕ) (a b : List ℕ) → numbered_sum key i (a ++ b) ≡ numbered_sum key i a ++ numbered_sum key (i + length a) b
numbered_append key i [] b = let e : i + 0 ≡ i = omega arith in ap (λ j. numbered_sum key j b) (sym e)
numbered_append key i (x ∷ a) b =
    let e : (i + 1) + length a ≡ i + suc (length a) = omega arith in
    ap (λ s. (key i, x) ∷ s) (numbered_append key (i + 1) a b ∙ ap (λ j. numbered_sum key (i + 1) a ++ numbered_sum key j b) e)

-- the same keys
numbered_same :
    {n : ℕ} (key other : ℕ → Key n) (i : ℕ) (a : List ℕ) → ((j : ℕ) → j < i + length a → key j ≡ other j) → numbered_sum key i a ≡ numbered_sum other i a
numbered_same key other i [] h = refl
numbered_same key other i (x ∷ a) h =
    ap (λ k. (k, x) ∷ numbered_sum key (i + 1) a) (h i (omega arith))
    ∙ ap (λ s. (other i, x) ∷ s) (numbered_same key other (i + 1) a (λ j lt. h j (omega (arith, lt))))

-- sums over more keys, whose sums are 0
pub padded_sum :
    {n : ℕ} (p : ℕ) (key other : ℕ → Key n) (sums : List ℕ) (k : ℕ) → ((j : ℕ) → j < length sums → key j ≡ other j)
    → IsSame p (numbered_sum key 0 sums) (numbered_sum other 0 (sums ++ replicate k 0))
padded_sum p key other sums k h =
    let zeros : List ℕ = replicate k 0 in
    let one : numbered_sum key 0 sums ≡ numbered_sum other 0 sums ++ [] =
    numbered_same key other 0 sums (λ j lt. h j (omega (arith, lt))) ∙ sym (append-nil (numbered_sum other 0 sums)) in
    IsSame_trans (IsSame_of p _ _ one)
    (IsSame_trans (IsSame_append (IsSame_refl p (numbered_sum other 0 sums)) (IsSame_sym (idle_sums p other (0 + length sums) zeros (idle_zeros k))))
    (IsSame_of p _ _ (sym (numbered_append other 0 sums zeros))))

-- what was filled up from nothing
pub filled : {X : Type 0} (x : X) (c m : ℕ) (old new : List X) → m ≡ length old → old ≡ [] → new ≡ take c old ++ replicate (c - m) x → new ≡ replicate c x
filled {X} x c m old new here e is =
    let none : length old ≡ 0 = ap length e in
    let less : c - length old ≡ c = omega (arith, none) in
    padded x c m old new here (omega (arith, none)) is ∙ ap (λ xs. xs ++ replicate (c - length old) x) e ∙ ap (λ k. replicate k x) less

pub filled_length : {X : Type 0} (x : X) (c : ℕ) (new : List X) → new ≡ replicate c x → length new ≡ c
filled_length x c new e = ap length e ∙ length-replicate c x
