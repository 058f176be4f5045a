-- Leads that reach an exponent, and leads that fall short of it
use Rattle.std.proofs.Common.{Bool, List, ap, false, ap₂, arith, cond, eq-eqb, eqb-true, get_or, get_or-set_other, get_or-set_same}
use Rattle.std.proofs.Common.{inl, inr, length, max, min, nat_eq, refl, replicate, set, subst, sym, take, true, ℕ, ◌%◌, ◌*◌, ◌++◌, ◌+◌, ◌-◌, ◌/◌, ◌<◌, ◌==◌, ◌∙◌, ◌≡◌, ◌≤◌, ◌⊎◌}
use Rattle.std.specs.Int.{bit_at}
use Rattle.std.specs.Prelude.{bit_and}
use Rattle.std.proofs.Math.Nat.{mul-le-mul_right}
use Rattle.std.proofs.lemmas.Bool.{cases_eq, cases_lt}
use Rattle.std.proofs.lemmas.List.{length-take-le, take_all}
use Rattle.std.proofs.lemmas.Nat.Bits.{bit_at-lt, bit_at_and}
use Rattle.formal_sums.specs.FormalSums.{FormalSum}
use Rattle.monomials.proofs.Monomials.{lcm_comm}
use Rattle.monomials.specs.Exponents.{Divides, Exponents, lcm}
use Rattle.bases.specs.Leads.{leads}
use Rattle.basis_steps.specs.Criteria.{lcm_of}
use Rattle.basis_steps.specs.Pairs.{pair_of}
use Rattle.term_lists.specs.Vectors.{key_of}
use Rattle.term_lists.specs.declared.key.Key.{Key as CodeKey}
use Rattle.pair_updates.proofs.RowMasks.{divisor_row, row_at}
use Rattle.pair_updates.specs.LeadCriteria.{DividesLcm}
use Rattle.pair_updates.specs.Leads.{LeadsShown, sums_shown}
use Rattle.pair_updates.specs.Rows.{row}
use Rattle.pair_queue.proofs.Adding.{leads_old}
use Rattle.pair_queue.proofs.Words.{words_more}
use Rattle.pair_queue.specs.Reaches.{BitsStay, FallsShort, IsReach, bit_of_member, exponent_of_lead, place_of_word}
use Rattle.pair_queue.specs.declared.reach.Reach.{Reach}

-- ---- the words
-- there is room for the words of a variable and 64 members, by what there is for as many members as stand in b times 64
pub room_at : (b n q v width : ℕ) → q < b → v < n → b * n * 15 ≤ width → place_of_word n q v 15 ≤ width
room_at b n q v width lq lv h =
    let rows : (q + 1) * n ≤ b * n = mul-le-mul_right n (omega (arith, lq)) in
    omega (arith, rows, lv, h)

pub resized_stay : (words new : List ℕ) (n k : ℕ) → length words ≤ n → new ≡ take n words ++ replicate k 0 → BitsStay words new
resized_stay words new n k few is i r l one =
    let all : new ≡ words ++ replicate k 0 = is ∙ ap (λ z. z ++ replicate k 0) (take_all n words few) in
    ap (λ z. bit_at (get_or z i 0) r) all ∙ ap (λ w. bit_at w r) (words_more words k i) ∙ one

-- one bit is set
module _ (words : List ℕ) (at place v : ℕ) (within : at < length words)
    (h : (r : ℕ) → r < 64 → (bit_at v r == 1) ≡ cond (nat_eq r place) true (bit_at (get_or words at 0) r == 1)) where
  pub marked_here : place < 64 → bit_at (get_or (set words at v) at 0) place ≡ 1
  marked_here low =
      ap (λ w. bit_at w place) (get_or-set_same words at v 0 within)
      ∙ eqb-true (bit_at v place) 1 (h place low ∙ ap (λ s. cond s true (bit_at (get_or words at 0) place == 1)) (eq-eqb place place refl))

  pub marked_stay : BitsStay words (set words at v)
  marked_stay i r l one = go (cases_eq i at)
    where
      or_true : (s b : Bool) → b ≡ true → cond s true b ≡ true
      or_true true b e = refl
      or_true false b e = e

      go : (i ≡ at) ⊎ (i ≡ at → ⊥) → bit_at (get_or (set words at v) i 0) r ≡ 1
      go (inl e) =
          let old : bit_at (get_or words at 0) r ≡ 1 = ap (λ j. bit_at (get_or words j 0) r) (sym e) ∙ one in
          let new : bit_at v r ≡ 1 = eqb-true (bit_at v r) 1
          (h r l ∙ or_true (nat_eq r place) (bit_at (get_or words at 0) r == 1) (eq-eqb (bit_at (get_or words at 0) r) 1 old)) in
          ap (λ j. bit_at (get_or (set words at v) j 0) r) e ∙ ap (λ w. bit_at w r) (get_or-set_same words at v 0 within) ∙ new
      go (inr d) = ap (λ w. bit_at w r) (get_or-set_other words at i v 0 d) ∙ one

-- a word is narrowed to the bits of another
module _ (found word new r : ℕ) (is : new ≡ bit_and found word) where
  pub narrowed_fewer : bit_at new r ≡ 1 → bit_at found r ≡ 1
  narrowed_fewer one =
      let both : bit_at new r ≡ min (bit_at found r) (bit_at word r) = ap (λ z. bit_at z r) is ∙ bit_at_and found word r in
      omega (arith, one, both, bit_at-lt found r)

  pub narrowed_short : bit_at found r ≡ 1 → bit_at new r ≡ 0 → bit_at word r ≡ 0
  narrowed_short one none =
      let both : bit_at new r ≡ min (bit_at found r) (bit_at word r) = ap (λ z. bit_at z r) is ∙ bit_at_and found word r in
      omega (arith, one, none, both)

pub no_bit_or_one : (word r : ℕ) → (bit_at word r ≡ 0) ⊎ (bit_at word r ≡ 1)
no_bit_or_one word r = go (cases_eq (bit_at word r) 1)
  where
    go : (bit_at word r ≡ 1) ⊎ (bit_at word r ≡ 1 → ⊥) → (bit_at word r ≡ 0) ⊎ (bit_at word r ≡ 1)
    go (inl e) = inr e
    go (inr d) = inl (omega (arith, d, bit_at-lt word r))

-- ---- the exponents of a lead
pub exponent_is : (m : LeadsShown) (c v : ℕ) (key : CodeKey)
    → key_of m.variables key ≡ leads (sums_shown m) c → length key.monomial.exponents ≡ m.variables → v < m.variables
    → exponent_of_lead m c v ≡ get_or key.monomial.exponents v 0
exponent_is m c v key h l lv = ap (λ z. get_or (row m.variables z.1) v 0) (sym h) ∙ row_at m.variables m.variables key.monomial.exponents v l lv

-- ---- fewer leads, and more
module _ (m : LeadsShown) (first : ℕ) (few : first ≤ length m.keys) (t : Reach) where
  exponent_old : (c v : ℕ) → c < first → exponent_of_lead (record m { keys = take first m.keys }) c v ≡ exponent_of_lead m c v
  exponent_old c v l = ap (λ z. get_or (row m.variables z.1) v 0) (leads_old m first few c l)

  pub fewer_reach : IsReach m t → IsReach (record m { keys = take first m.keys }) t
  fewer_reach h =
      let all = length-take-le first m.keys few in
      record {
        room = λ c v lc lv. h.room c v (omega (arith, lc, all, few)) lv;
        reached = λ c v e lc lv le more.
            h.reached c v e (omega (arith, lc, all, few)) lv le (omega (arith, more, exponent_old c v (omega (arith, lc, all))));
      }

  pub reached_more : (new : List ℕ) → IsReach (record m { keys = take first m.keys }) t → BitsStay t.words.items new
      → ((c v e : ℕ) → first ≤ c → c < length m.keys → v < m.variables → e < 15 → e < exponent_of_lead m c v → bit_of_member m.variables new c v e ≡ 1)
      → (c v e : ℕ) → c < length m.keys → v < m.variables → e < 15 → e < exponent_of_lead m c v → bit_of_member m.variables new c v e ≡ 1
  reached_more new old stay here c v e lc lv le more = go (cases_lt c first)
    where
      go : (c < first) ⊎ (first ≤ c) → bit_of_member m.variables new c v e ≡ 1
      go (inl l) = stay (place_of_word m.variables (c / 64) v e) (c % 64) (omega arith)
          (old.reached c v e (omega (arith, l, length-take-le first m.keys few)) lv le (omega (arith, more, exponent_old c v l)))
      go (inr l) = here c v e l lc lv le more

-- there are words with the index of a member
pub room_of_index : (m : LeadsShown) (t : Reach) (index v : ℕ) → IsReach m t → 64 * index < length m.keys → v < m.variables
    → place_of_word m.variables index v 15 ≤ length t.words.items
room_of_index m t index v h l lv =
    let quotient : 64 * index / 64 ≡ index = omega arith in
    subst (λ (q : ℕ). place_of_word m.variables q v 15 ≤ length t.words.items) quotient (h.room (64 * index) v l lv)

-- ---- a member that falls short
-- the lcm of the pair, in whichever order
join_of : {n : ℕ} (G : List (FormalSum n)) (a c : ℕ) → (lcm_of G (pair_of a c)).1 ≡ lcm (leads G a).1 (leads G c).1
join_of G a c = go (cases_lt a c)
  where
    go : (a < c) ⊎ (c ≤ a) → (lcm_of G (pair_of a c)).1 ≡ lcm (leads G a).1 (leads G c).1
    go (inl l) = ap₂ (λ i j. lcm (leads G i).1 (leads G j).1) (omega arith) (omega arith)
    go (inr l) = ap₂ (λ i j. lcm (leads G i).1 (leads G j).1) (omega arith) (omega arith) ∙ lcm_comm (leads G c).1 (leads G a).1

-- the leads of k and a, where c is the member with bit r of the words with this index
module _ (m : LeadsShown) (t : Reach) (reach : IsReach m t) (a k index : ℕ) (above below : CodeKey)
    (hk : key_of m.variables above ≡ leads (sums_shown m) k) (ha : key_of m.variables below ≡ leads (sums_shown m) a)
    (lk : length above.monomial.exponents ≡ m.variables) (la : length below.monomial.exponents ≡ m.variables) where
  pub short_fails : (r : ℕ) → r < 64 → 64 * index + r < length m.keys
      → FallsShort t.words.items above.monomial.exponents below.monomial.exponents index r → DividesLcm m (pair_of a (64 * index + r)) k → ⊥
  short_fails r low within (v, lv, more, none) d =
      let n = m.variables in
      let G = sums_shown m in
      let c = 64 * index + r in
      let words = t.words.items in
      let at : v < n = omega (arith, lv, lk) in
      let join : Divides (leads G k).1 (lcm (leads G a).1 (leads G c).1) =
      subst (λ (z : Exponents n). Divides (leads G k).1 z) (join_of G a c) (d.0, ap (λ z. z.1) d.1) in
      let most : exponent_of_lead m k v ≤ max (exponent_of_lead m a v) (exponent_of_lead m c v) =
      divisor_row n (leads G k).1 (leads G a).1 (leads G c).1 join v at in
      let e = min (get_or above.monomial.exponents v 0) 15 - 1 in
      let less : e < exponent_of_lead m c v = omega (arith, most, exponent_is m k v above hk lk at, exponent_is m a v below ha la at, more) in
      let bit : bit_of_member n words c v e ≡ 1 = reach.reached c v e within at (omega (arith, more)) less in
      let quotient : c / 64 ≡ index = omega (arith, low) in
      let rest : c % 64 ≡ r = omega (arith, low) in
      let here : bit_of_member n words c v e ≡ bit_at (get_or words (place_of_word n index v e) 0) r =
      λ i. bit_at (get_or words (place_of_word n (quotient i) v e) 0) (rest i) in
      let there : bit_at (get_or words (place_of_word (length above.monomial.exponents) index v e) 0) r
      ≡ bit_at (get_or words (place_of_word n index v e) 0) r = ap (λ z. bit_at (get_or words (place_of_word z index v e) 0) r) lk in
      omega (arith, bit, here, there, none)

  -- what is free of those that reach is free of all
  pub free_of_all : (found kept : ℕ) (P : ℕ → Type 0)
      → ((r : ℕ) → r < 64 → bit_at found r ≡ 1 → 64 * index + r < length m.keys)
      → ((r : ℕ) → bit_at found r ≡ 1 → bit_at kept r ≡ 0 → FallsShort t.words.items above.monomial.exponents below.monomial.exponents index r)
      → ((r : ℕ) → r < 64 → bit_at kept r ≡ 1 → P r → DividesLcm m (pair_of a (64 * index + r)) k → ⊥)
      → (r : ℕ) → r < 64 → bit_at found r ≡ 1 → P r → DividesLcm m (pair_of a (64 * index + r)) k → ⊥
  free_of_all found kept P members short free r low one p d = elim (no_bit_or_one kept r) [
    | inl e ↦ short_fails r low (members r low one) (short r one e) d
    | inr e ↦ free r low e p d
  ]
