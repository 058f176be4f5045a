-- What is known of keys stays so as more keys get numbers
use Rattle.std.proofs.Common.{Bool, List, [], ap, append-nil, arith, false, get_or, get_or-set_other, inl, inr, length, replicate, set, subst, sym, true, ℕ, ◌++◌, ◌<◌, ◌∙◌, ◌≡◌, ◌≤◌, ◌⊎◌}
use Rattle.std.proofs.lemmas.Bool.{cases_eq, cases_lt, true≢false}
use Rattle.std.proofs.lemmas.List.{append_assoc, get_or-replicate, get_or_append_left, get_or_past, length-append, length-replicate, length-set}
use Rattle.term_lists.specs.Vectors.{key_of, sums_of}
use Rattle.term_lists.specs.declared.key.Key.{Key as CodeKey}
use Rattle.vector_division.specs.Divisions.{IsUncovered}
use Rattle.row_matrix.specs.Hashes.{no_key}
use Rattle.row_matrix.specs.Naming.{IsGrown}
use Rattle.row_matrix.specs.Rows.{Entry, column_key}
use Rattle.remainders.specs.Leaving.{AreFreeFlags, IsLonger}

abbrev Terms : Type 0
Terms = List (CodeKey × ℕ)

pub longer_itself : (keys : List CodeKey) → IsLonger keys keys
longer_itself keys = record { added = []; is = sym (append-nil keys) }

pub longer_still : (a b c : List CodeKey) → IsLonger a b → IsLonger b c → IsLonger a c
longer_still a b c x y = record {
  added = x.added ++ y.added;
  is = y.is ∙ ap (λ z. z ++ y.added) x.is ∙ append_assoc a x.added y.added;
}

pub longer_grown : (old new : List CodeKey) (entries : List Entry) → IsGrown old new entries → IsLonger old new
longer_grown old new entries g = record { added = g.added; is = g.grown }

pub length_longer : (old new : List CodeKey) → IsLonger old new → length old ≤ length new
length_longer old new g = omega (arith, ap length g.is, length-append old g.added)

module _ (n : ℕ) (list : List Terms) where
  -- nothing is known
  pub flags_none : (keys : List CodeKey) (k : ℕ) → k ≡ length keys → AreFreeFlags n list keys (replicate k false)
  flags_none keys k e = record {
    within = omega (arith, e, length-replicate k false);
    free = λ i t. absurd (true≢false (sym t ∙ go i (cases_lt i k)));
  }
    where
      go : (i : ℕ) → (i < k) ⊎ (k ≤ i) → get_or (replicate k false) i false ≡ false
      go i (inl l) = get_or-replicate k i false false l
      go i (inr ge) = get_or_past (replicate k false) i false (omega (arith, ge, length-replicate k false))

  -- more keys, of which nothing is known
  pub flags_over :
      (old new : List CodeKey) (flags more : List Bool) → IsLonger old new → AreFreeFlags n list old flags → length more ≡ length new
      → ((i : ℕ) → get_or more i false ≡ get_or flags i false) → AreFreeFlags n list new more
  flags_over old new flags more g h e same = record {
    within = omega (arith, e);
    free = λ i t. go i (sym (same i) ∙ t) (cases_lt i (length flags));
  }
    where
      go : (i : ℕ) → get_or flags i false ≡ true → (i < length flags) ⊎ (length flags ≤ i) → IsUncovered (sums_of n list) (column_key n new i)
      go i t (inl l) =
          let w = h.within in
          subst (λ k. IsUncovered (sums_of n list) (key_of n k))
          (sym (ap (λ ks. get_or ks i no_key) g.is ∙ get_or_append_left old g.added no_key i (omega (arith, l, w)))) (h.free i t)
      go i t (inr ge) = absurd (true≢false (sym t ∙ get_or_past flags i false ge))

  -- one flag more
  pub flags_set :
      (keys : List CodeKey) (flags : List Bool) (i : ℕ) → AreFreeFlags n list keys flags → IsUncovered (sums_of n list) (column_key n keys i)
      → AreFreeFlags n list keys (set flags i true)
  flags_set keys flags i h u = record {
    within = let w = h.within in omega (arith, w, length-set flags i true);
    free = λ j t. go j t (cases_eq j i);
  }
    where
      go : (j : ℕ) → get_or (set flags i true) j false ≡ true → (j ≡ i) ⊎ (j ≡ i → ⊥) → IsUncovered (sums_of n list) (column_key n keys j)
      go j t (inl e) = subst (λ k. IsUncovered (sums_of n list) (column_key n keys k)) (sym e) u
      go j t (inr ne) = h.free j (sym (get_or-set_other flags i j true false ne) ∙ t)
