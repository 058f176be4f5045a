-- Vectors of a list as divisors, tried one after another
use Rattle.std.proofs.Common.{Contains, List, refl, [], ap, arith, get_or, inl, inr, length, min, subst, sym, w64, ℕ, ◌%◌, ◌*◌, ◌+◌, ◌++◌, ◌-◌, ◌^◌, ◌<◌, ◌∙◌, ◌∷◌, ◌≡◌, ◌≤◌, ◌⊎◌}
use Rattle.std.proofs.lemmas.Bool.{cases_eq, cases_lt}
use Rattle.std.proofs.lemmas.List.{get_or_default}
use Rattle.std.proofs.lemmas.List.Elements.{Contains-append_left, Contains-push}
use Rattle.std.proofs.lemmas.List.Sorted.{Contains-permutation}
use Rattle.std.proofs.lemmas.Nat.Bits.{bit_at-lt, bit_at-zero, bit_at_and, bit_at_not, same_from_bits}
use Rattle.std.specs.Int.{bit_at, bit_not}
use Rattle.std.specs.List.Sorted.{IsNonDecreasingBy, IsPartitionPoint, IsPermutation}
use Rattle.std.specs.Prelude.{bit_and}
use Rattle.bases.specs.Leads.{head_key}
use Rattle.formal_sums.proofs.WeightedSums.{Each_append}
use Rattle.formal_sums.specs.FormalSums.{Each, Key}
use Rattle.monomial_orders.specs.Kept.{IsWeighed}
use Rattle.term_lists.proofs.Gathers.{Each_permutation}
use Rattle.term_lists.proofs.Parts.{Each_member}
use Rattle.term_lists.proofs.Scaling.{Each_at}
use Rattle.term_lists.specs.Vectors.{key_of, sum_of, sums_of}
use Rattle.term_lists.specs.declared.key.Key.{Key as CodeKey}
use Rattle.orders.specs.KeyOrders.{KeyDivides}
use Rattle.symbolic_prep.proofs.Degrees.{not_divided}
use Rattle.symbolic_prep.specs.Divisors.{AreAll, AreGreaterFrom, AreLeadBits, AreSortedDivisors, HaveMissing, IsDivisorOf, position_of}
use Rattle.symbolic_prep.proofs.UnaryBits.{unary_within}
use Rattle.symbolic_prep.specs.Unary.{HasUnaryBits}
use Rattle.symbolic_prep.specs.declared.divisors.Divisor.{Divisor}
use Rattle.vector_division.proofs.Members.{uncovered}
use Rattle.vector_division.specs.Divisions.{IsUncovered}
use Rattle.vector_division.specs.Divisors.{IsNoHigher}
use Rattle.vector_division.specs.Marks.{IsMarkOf}
use Rattle.vector_division.specs.Progress.{AreWeighed}
use Rattle.vector_division.specs.declared.marks.Mark.{Mark}

abbrev Terms : Type 0
Terms = List (CodeKey × ℕ)

-- the default of a read
abbrev pub no_divisor : Divisor
no_divisor = record { member = 0; terms = 0; mark = record { position = 0; variables = 0 } }

-- the lead of none of the first divisors, so many, divides k
abbrev pub AreTriedTo : (n : ℕ) → List Terms → List Divisor → Key n → ℕ → Type 0
AreTriedTo n list ds k i =
    (j : ℕ) (d : Divisor) → j < i → j < length ds → d ≡ get_or ds j d → 0 < length (get_or list d.member [])
    → KeyDivides (head_key (sum_of n (get_or list d.member []))) k → ⊥

-- one more was tried
pub tried_more :
    (n : ℕ) (list : List Terms) (ds : List Divisor) (k : Key n) (i : ℕ) (d : Divisor)
    → AreTriedTo n list ds k i → d ≡ get_or ds i d → i < length ds
    → (0 < length (get_or list d.member []) → KeyDivides (head_key (sum_of n (get_or list d.member []))) k → ⊥)
    → AreTriedTo n list ds k (i + 1)
tried_more n list ds k i d h is lt here j e l m at = elim (cases_eq j i) [
  | inl f ↦
      let same : e ≡ d = at ∙ ap (λ x. get_or ds x e) f ∙ get_or_default ds i e d lt ∙ sym is in
      subst (λ (x : Divisor). 0 < length (get_or list x.member []) → KeyDivides (head_key (sum_of n (get_or list x.member []))) k → ⊥) (sym same) here
  | inr ne ↦ h j e (omega arith) m at
]

-- all were tried
pub tried_all :
    (n : ℕ) (list : List Terms) (ds : List Divisor) (k : Key n) (i : ℕ)
    → AreAll list ds → length ds ≤ i → AreTriedTo n list ds k i → IsUncovered (sums_of n list) k
tried_all n list ds k i h le tried = uncovered n list k (length list) refl (λ j lt.
    let d = h j lt in
    let at : d.0 ≡ get_or ds d.1.0 d.0 = sym d.1.2 in
    subst (λ x. 0 < length (get_or list x []) → KeyDivides (head_key (sum_of n (get_or list x []))) k → ⊥) d.2
    (tried d.1.0 d.0 (omega (arith, d.1.1)) d.1.1 at))

-- ---- those of other positions
elsewhere :
    (n : ℕ) (v : Terms) (mark : Mark) (key : CodeKey)
    → IsMarkOf v mark → (mark.position ≡ key.position → ⊥) → 0 < length v → KeyDivides (head_key (sum_of n v)) (key_of n key) → ⊥
elsewhere n [] mark key m other lt d = absurd (omega arith)
elsewhere n (t ∷ v) mark key m other lt d = other (m.position ∙ ap (λ z. z.0) d.1)

abbrev pub IsFrom : List Divisor → ℕ → ℕ → Type 0
IsFrom ds position from = IsPartitionPoint (λ d. position_of d < position) (λ d. position ≤ position_of d) ds from

-- those before the first of the key's position
pub tried_before :
    (n : ℕ) (list : List Terms) (ds : List Divisor) (bits least : List ℕ) (key : CodeKey) (from : ℕ)
    → AreSortedDivisors list ds bits least → IsFrom ds key.position from → AreTriedTo n list ds (key_of n key) from
tried_before n list ds bits least key from h point j e lt m at =
    let below : position_of e < key.position = subst (λ d. position_of d < key.position) (sym at) (point.0 j e (omega arith) lt) in
    elsewhere n (get_or list e.member []) e.mark key (Each_at (IsDivisorOf list) ds j e h.each m at).mark (λ same. omega (arith, same))

-- where the first has this position or one behind it
pub from_first :
    (ds : List Divisor) (position : ℕ) (d : Divisor)
    → IsNonDecreasingBy position_of ds → d ≡ get_or ds 0 d → position ≤ position_of d → IsFrom ds position 0
from_first ds position d up is le = (λ k e low h. absurd (omega arith), λ k e low h. at k e h)
  where
    at : (k : ℕ) (e : Divisor) → k < length ds → position ≤ position_of (get_or ds k e)
    at k e h =
        let first : get_or ds 0 e ≡ d = get_or_default ds 0 e d (omega arith) ∙ sym is in
        let least : position_of (get_or ds 0 e) ≤ position_of (get_or ds k e) = up 0 k e (omega arith) h in
        omega (arith, le, least, ap position_of first)

abbrev pub IsThrough : List Divisor → ℕ → ℕ → Type 0
IsThrough ds position end = IsPartitionPoint (λ d. position_of d ≤ position) (λ d. position < position_of d) ds end

-- where the last has this position or one before it
pub through_last :
    (ds : List Divisor) (position : ℕ) (d : Divisor)
    → IsNonDecreasingBy position_of ds → d ≡ get_or ds (length ds - 1) d → position_of d ≤ position
    → IsThrough ds position (length ds)
through_last ds position d up is le = (λ k e low h. at k e h, λ k e low h. absurd (omega arith))
  where
    at : (k : ℕ) (e : Divisor) → k < length ds → position_of (get_or ds k e) ≤ position
    at k e h =
        let last : get_or ds (length ds - 1) e ≡ d = get_or_default ds (length ds - 1) e d (omega arith) ∙ sym is in
        let most : position_of (get_or ds k e) ≤ position_of (get_or ds (length ds - 1) e) = up k (length ds - 1) e (omega arith) (omega arith) in
        omega (arith, le, most, ap position_of last)

-- the leads from `end` on, where each has a position behind the key's or a greater degree
pub none_behind :
    (n : ℕ) (weights : List ℕ) (list : List Terms) (ds : List Divisor) (bits least : List ℕ) (key : CodeKey) (end : ℕ)
    → AreSortedDivisors list ds bits least → AreWeighed n weights list → IsWeighed n weights key.monomial
    → AreGreaterFrom ds least key.position key.monomial.degree end → (j : ℕ) (d : Divisor) → end ≤ j → j < length ds → d ≡ get_or ds j d
    → 0 < length (get_or list d.member []) → KeyDivides (head_key (sum_of n (get_or list d.member []))) (key_of n key) → ⊥
none_behind n weights list ds bits least key end h weighed hk great j d le lt at = elim (great j d le lt at) [
  | inl behind ↦ elsewhere n v d.mark key good.mark (λ q. omega (arith, q, behind))
  | inr above ↦
      let terms = Each_member (λ v. Each (λ t. IsWeighed n weights t.0.monomial) v) list d.member [] weighed good.within in
      not_divided n weights v key (get_or least j 0) terms hk (h.degrees.leads.each j d lt at) above
]
  where
    v : Terms
    v = get_or list d.member []

    good : IsDivisorOf list d
    good = Each_at (IsDivisorOf list) ds j d h.each lt at

-- all, where none of those that were not tried divides the key
pub tried_behind :
    (n : ℕ) (weights : List ℕ) (list : List Terms) (ds : List Divisor) (bits least : List ℕ) (key : CodeKey) (end i : ℕ)
    → AreSortedDivisors list ds bits least → AreWeighed n weights list → IsWeighed n weights key.monomial
    → AreGreaterFrom ds least key.position key.monomial.degree end → end ≤ i → AreTriedTo n list ds (key_of n key) i
    → IsUncovered (sums_of n list) (key_of n key)
tried_behind n weights list ds bits least key end i h weighed hk great le tried = tried_all n list ds (key_of n key) (length ds) h.all (omega arith) all
  where
    all : AreTriedTo n list ds (key_of n key) (length ds)
    all j e lt m same = elim (cases_lt j i) [
      | inl before ↦ tried j e before m same
      | inr behind ↦ none_behind n weights list ds bits least key end h weighed hk great j e (omega arith) m same
    ]

-- ---- leads with a bit that the key lacks
one_lacks : (x y : ℕ) → y < 2 → min x y ≡ x → min x (1 - y) ≡ 0
one_lacks x y small e = omega (arith, e)

-- what is among the bits of the key has none of the others
none_missing : (b key : ℕ) → key < 2 ^ 64 → ((i : ℕ) → 64 ≤ i → bit_at key i ≡ 0) → bit_and b key ≡ b → bit_and b (bit_not w64 key) ≡ 0
none_missing b key fits high e = same_from_bits (bit_and b (bit_not w64 key)) 0
    (λ i. bit_at_and b (bit_not w64 key) i ∙ at i (cases_lt i 64) ∙ sym (bit_at-zero i))
  where
    own : (i : ℕ) → min (bit_at b i) (bit_at key i) ≡ bit_at b i
    own i = sym (bit_at_and b key i) ∙ ap (λ z. bit_at z i) e

    at : (i : ℕ) → (i < 64) ⊎ (64 ≤ i) → min (bit_at b i) (bit_at (bit_not w64 key) i) ≡ 0
    at i (inl lt) = rw (bit_at_not w64 key i fits lt) (one_lacks (bit_at b i) (bit_at key i) (bit_at-lt key i) (own i))
    at i (inr ge) =
        let none : bit_at key i ≡ 0 = high i ge in
        let zero : bit_at b i ≡ 0 = omega (arith, own i, none) in
        omega (arith, zero)

-- such a lead does not divide the key
pub lacking :
    (n : ℕ) (weights : List ℕ) (v : Terms) (key : CodeKey) (b word : ℕ)
    → AreLeadBits v b → Each (λ t. IsWeighed n weights t.0.monomial) v → length key.monomial.exponents ≡ n
    → HasUnaryBits key.monomial.exponents word → word < 2 ^ 64 → (bit_and b (bit_not w64 word) ≡ 0 → ⊥)
    → 0 < length v → KeyDivides (head_key (sum_of n v)) (key_of n key) → ⊥
lacking n weights [] key b word lead weighed len has fits lacks some divides = absurd (omega arith)
lacking n weights (t ∷ v) key b word lead weighed len has fits lacks some divides =
    lacks (none_missing b word fits has.high
    (unary_within n t.0.monomial.exponents key.monomial.exponents b word weighed.0.variables len lead has (divides.0, ap (λ z. z.1) divides.1)))

-- those from i up to j do not divide the key by their bits
pub passed :
    (n : ℕ) (weights : List ℕ) (list : List Terms) (ds : List Divisor) (bits least : List ℕ) (key : CodeKey) (i j word : ℕ)
    → AreSortedDivisors list ds bits least → AreWeighed n weights list → length key.monomial.exponents ≡ n
    → HasUnaryBits key.monomial.exponents word → word < 2 ^ 64
    → HaveMissing bits (bit_not w64 word) i j
    → AreTriedTo n list ds (key_of n key) i → AreTriedTo n list ds (key_of n key) j
passed n weights list ds bits least key i j word h weighed len has fits lacks tried k d lt m at some divides = elim (cases_lt k i) [
  | inl before ↦ tried k d before m at some divides
  | inr behind ↦
      let good = Each_at (IsDivisorOf list) ds k d h.each m at in
      lacking n weights (get_or list d.member []) key (get_or bits k 0) word (h.kept.each k d m at)
      (Each_member (λ v. Each (λ t. IsWeighed n weights t.0.monomial) v) list d.member [] weighed good.within) len has fits (lacks k behind lt) some divides
]

-- ---- the bits in turn
-- so many of them are those of the leads
abbrev pub AreBitsTo : List Terms → List Divisor → List ℕ → ℕ → Type 0
AreBitsTo list ds bits i =
    (k : ℕ) (d : Divisor) → k < i → d ≡ get_or ds k d → AreLeadBits (get_or list d.member []) (get_or bits k 0)

-- ---- the degrees in turn
-- so many of them are at most those of the leads
abbrev pub AreUpToLeadsTo : List Terms → List Divisor → List ℕ → ℕ → Type 0
AreUpToLeadsTo list ds degrees i =
    (k : ℕ) (d : Divisor) → k < i → d ≡ get_or ds k d → IsNoHigher (get_or degrees k 0) (get_or list d.member [])

-- ---- the list's vectors in turn
pub record AreListed (list : List Terms) (ds : List Divisor) (i : ℕ) : Type 0 where
  pub each : Each (IsDivisorOf list) ds
  pub all : (j : ℕ) → j < i → (d : Divisor) × Contains ds d × (d.member ≡ j)

pub listed_more :
    (list : List Terms) (ds : List Divisor) (i : ℕ) (d : Divisor)
    → AreListed list ds i → IsDivisorOf list d → d.member ≡ i → AreListed list (ds ++ d ∷ []) (i + 1)
listed_more list ds i d h good is = record {
  each = Each_append (IsDivisorOf list) ds (d ∷ []) h.each (good, tt);
  all = λ j lt. elim (cases_eq j i) [
    | inl e ↦ (d, Contains-push ds d, is ∙ sym e)
    | inr ne ↦ let o = h.all j (omega arith) in (o.0, Contains-append_left ds (d ∷ []) o.0 o.1, o.2)
  ];
}

-- in another order
pub all_permuted : (list : List Terms) (ds es : List Divisor) → IsPermutation ds es → AreAll list ds → AreAll list es
all_permuted list ds es same all i lt = let o = all i lt in (o.0, Contains-permutation ds es o.0 same o.1, o.2)

pub each_permuted :
    (list : List Terms) (ds es : List Divisor) → IsPermutation ds es → Each (IsDivisorOf list) ds → Each (IsDivisorOf list) es
each_permuted list ds es same each = Each_permutation (IsDivisorOf list) ds es same each

-- what is sorted by
abbrev pub rank_of : Divisor → ℕ
rank_of d = position_of d * 2 ^ 64 + d.terms % 2 ^ 64

lower_rank : (p q s t : ℕ) → p * 2 ^ 64 + s % 2 ^ 64 ≤ q * 2 ^ 64 + t % 2 ^ 64 → p ≤ q
lower_rank p q s t le = omega (arith, le)

-- by ranks the positions ascend
pub by_rank : (ds : List Divisor) → IsNonDecreasingBy rank_of ds → IsNonDecreasingBy position_of ds
by_rank ds h i j d le lt = lower_rank (position_of (get_or ds i d)) (position_of (get_or ds j d)) (get_or ds i d).terms (get_or ds j d).terms (h i j d le lt)
