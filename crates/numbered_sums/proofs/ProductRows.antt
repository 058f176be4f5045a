-- Products of vectors, by numbers of keys
use Rattle.std.proofs.Common.{List, [], ap, arith, get_or, length, subst₂, ℕ, ◌*◌, ◌++◌, ◌<◌, ◌∷◌, ◌≡◌}
use Rattle.std.proofs.lemmas.List.{length-append}
use Rattle.monomials.specs.Exponents.{Exponents, exponents_of}
use Rattle.formal_sums.specs.FormalSums.{Each, FormalSum, Key, scale}
use Rattle.monomial_orders.specs.Kept.{Monomial}
use Rattle.term_lists.proofs.Parts.{Each_member}
use Rattle.term_lists.specs.Rings.{variables}
use Rattle.term_lists.specs.Vectors.{IsMonomialOver, sum_of}
use Rattle.term_lists.specs.declared.key.Key.{Key as CodeKey}
use Rattle.term_lists.specs.declared.ring.Ring.{Ring}
use Rattle.row_matrix.proofs.Names.{named_more}
use Rattle.row_matrix.specs.Naming.{AreNamed}
use Rattle.row_matrix.specs.Rows.{Entry, column_key, row_sum}
use Rattle.numbered_sums.specs.KeySums.{AreEntriesWithin}
use Rattle.numbered_sums.specs.ProductEntries.{AreReduced, IsProductEntries, multiple_at}

abbrev Terms : Type 0
Terms = List (CodeKey × ℕ)

-- the residues of a product are those of the vector
pub within_row :
    (n p count : ℕ) (keys : ℕ → Key n) (m : Exponents n) (entries : List Entry) (v : Terms) → Each (λ e. e.0 < count) entries → Each (λ t. t.1 < p) v
    → row_sum keys entries ≡ scale 1 m (sum_of n v) → AreEntriesWithin p count entries
within_row n p count keys m [] v known low is = tt
within_row n p count keys m (e ∷ es) [] known low is = absurd (cc)
within_row n p count keys m (e ∷ es) (t ∷ v) known low is =
    let one : e.1 ≡ 1 * t.1 = ap first is in
    let l = low.0 in
    ((known.0, omega (arith, one, l)), within_row n p count keys m es v known.1 low.1 (ap rest is))
  where
    first : FormalSum n → ℕ
    first [] = 0
    first (x ∷ xs) = x.1

    rest : FormalSum n → FormalSum n
    rest [] = []
    rest (x ∷ xs) = xs

-- the product's row
pub product_named :
    (ring : Ring) (cols : List Terms) (keys : List CodeKey) (index : ℕ) (m : Monomial) (entries : List Entry) (v : Terms) → IsMonomialOver ring m
    → index < length cols → AreReduced ring.modulus.value cols → v ≡ get_or cols index []
    → AreNamed (length m.exponents) keys entries (scale 1 (exponents_of (length m.exponents) m.exponents) (sum_of (length m.exponents) v))
    → IsProductEntries ring cols keys index m entries
product_named ring cols keys index m entries v w lt low is named =
    let n = variables ring in
    let here : AreNamed n keys entries (multiple_at ring cols index m) =
    subst₂ (λ (k : ℕ) (u : Terms). AreNamed k keys entries (scale 1 (exponents_of k m.exponents) (sum_of k u))) w.variables is named in
    record {
      within = within_row n ring.modulus.value (length keys) (column_key n keys) (exponents_of n m.exponents) entries (get_or cols index []) here.known
          (Each_member (λ u. Each (λ t. t.1 < ring.modulus.value) u) cols index [] low lt) here.sum;
      sum = here.sum;
    }

module _ (ring : Ring) (cols : List Terms) (keys added : List CodeKey) where
  -- more keys keep the entries of a product
  pub wider : (entries : List Entry) → AreEntriesWithin ring.modulus.value (length keys) entries → AreEntriesWithin ring.modulus.value (length (keys ++ added)) entries
  wider [] h = tt
  wider (e ∷ es) h = ((omega (arith, h.0.0, length-append keys added), h.0.1), wider es h.1)

  pub known : (entries : List Entry) → AreEntriesWithin ring.modulus.value (length keys) entries → Each (λ e. e.0 < length keys) entries
  known [] h = tt
  known (e ∷ es) h = (h.0.0, known es h.1)

  pub row_more : (index : ℕ) (m : Monomial) (entries : List Entry) → IsProductEntries ring cols keys index m entries → IsProductEntries ring cols (keys ++ added) index m entries
  row_more index m entries h = record {
    within = wider entries h.within;
    sum = (named_more (variables ring) keys added entries (multiple_at ring cols index m) (record { known = known entries h.within; sum = h.sum })).sum;
  }
