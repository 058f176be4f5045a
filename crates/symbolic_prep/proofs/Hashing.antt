-- The hashes of the members' keys
use Rattle.std.proofs.Common.{List, [], ap, arith, get_or, get_or-set_other, get_or-set_same, inl, inr, length, set, subst, subst₂, sym, ℕ, ◌<◌, ◌∙◌, ◌∷◌, ◌≡◌, ◌⊎◌}
use Rattle.std.proofs.lemmas.Bool.{cases_eq}
use Rattle.std.proofs.lemmas.List.{get_or_default, length-set}
use Rattle.formal_sums.specs.FormalSums.{Each}
use Rattle.term_lists.proofs.Scaling.{Each_at}
use Rattle.term_lists.specs.declared.key.Key.{Key as CodeKey}
use Rattle.row_matrix.specs.Told.{AreHashesOf, HashesShown}
use Rattle.symbolic_prep.specs.Hashed.{AreHashed, IsHashedAt}

-- no hashes for each vector
pub hashed_none :
    (list : List (List (CodeKey × ℕ))) (hashes : List HashesShown)
    → length hashes ≡ length list → Each (λ (h : HashesShown). h.hashes ≡ []) hashes → AreHashed list hashes
hashed_none list hashes e h = record {
  count = e;
  each = λ i x lt is. inl (Each_at (λ (x : HashesShown). x.hashes ≡ []) hashes i x h (omega (arith, e, lt)) is);
}

-- where there are as many hashes as terms they are theirs
all_made : (v : List (CodeKey × ℕ)) (h : HashesShown) → (h.hashes ≡ []) ⊎ AreHashesOf h v → length h.hashes ≡ length v → AreHashesOf h v
all_made v h (inr e) s = e
all_made [] h (inl e) s = record { hashes = e; bounded = tt }
all_made (t ∷ v) h (inl e) s = absurd (let q : length h.hashes ≡ 0 = ap length e in omega (arith, q, s))

pub made_already :
    (list : List (List (CodeKey × ℕ))) (hashes : List HashesShown) (i : ℕ) (h : HashesShown) (v : List (CodeKey × ℕ))
    → AreHashed list hashes → i < length list → h ≡ get_or hashes i h → v ≡ get_or list i [] → length h.hashes ≡ length v
    → IsHashedAt hashes i (get_or list i [])
made_already list hashes i h v a lt is at same = record {
  within = omega (arith, a.count, lt);
  there = λ x e.
      let z : x ≡ h = e ∙ sym (get_or_default hashes i h x (omega (arith, a.count, lt))) ∙ sym is in
      subst (λ y. AreHashesOf y (get_or list i [])) (sym z) (all_made (get_or list i []) h (a.each i h lt is) (same ∙ ap length at));
}

-- those of one more vector
pub hashed_set :
    (list : List (List (CodeKey × ℕ))) (hashes : List HashesShown) (i : ℕ) (h : HashesShown) (v : List (CodeKey × ℕ))
    → AreHashed list hashes → i < length list → v ≡ get_or list i [] → AreHashesOf h v → AreHashed list (set hashes i h)
hashed_set list hashes i h v a lt at made = record {
  count = length-set hashes i h ∙ a.count;
  each = λ j x l is. elim (cases_eq j i) [
    | inl e ↦
        let z : x ≡ h = is ∙ ap (λ k. get_or (set hashes i h) k x) e ∙ get_or-set_same hashes i h x (omega (arith, a.count, lt)) in
        inr (subst₂ AreHashesOf (sym z) (at ∙ ap (λ k. get_or list k []) (sym e)) made)
    | inr ne ↦ a.each j x l (is ∙ get_or-set_other hashes i j h x ne)
  ];
}

pub made_now :
    (list : List (List (CodeKey × ℕ))) (hashes : List HashesShown) (i : ℕ) (h : HashesShown) (v : List (CodeKey × ℕ))
    → AreHashed list hashes → i < length list → v ≡ get_or list i [] → AreHashesOf h v → IsHashedAt (set hashes i h) i (get_or list i [])
made_now list hashes i h v a lt at made = record {
  within = omega (arith, length-set hashes i h, a.count, lt);
  there = λ x e. subst₂ AreHashesOf (sym (e ∙ get_or-set_same hashes i h x (omega (arith, a.count, lt)))) at made;
}
