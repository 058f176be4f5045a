-- The two parts of an S-vector
use Rattle.std.proofs.Common.{List, [], ap, ap₂, arith, get_or, length, mod-eq_of_lt, subst, sym, ℕ, ◌%◌, ◌-◌, ◌<◌, ◌∙◌, ◌∷◌, ◌≡◌}
use Rattle.std.proofs.lemmas.List.{length-map}
use Rattle.residues.proofs.Congruences.{IsCongruent_sym}
use Rattle.monomials.proofs.Monomials.{times-quotient, times-quotient_right}
use Rattle.monomials.specs.Exponents.{Divides, exponents_of, lcm, quotient}
use Rattle.formal_sums.specs.FormalSums.{Each}
use Rattle.bases.proofs.Leading.{one_not_zero}
use Rattle.bases.specs.Leads.{head_key, leads}
use Rattle.bases.specs.Settings.{IsLawful, Setting}
use Rattle.monomial_orders.specs.Laws.{key_comparison_order}
use Rattle.zp_field.proofs.TableFields.{is_modulus-domain}
use Rattle.term_lists.proofs.Parts.{Each_member}
use Rattle.term_lists.specs.Vectors.{sum_of, sums_of}
use Rattle.term_lists.specs.declared.key.Key.{Key as CodeKey}
use Rattle.module_vectors.specs.Trails.{lead_at}
use Rattle.pair_criteria.specs.declared.pair.Pair.{Pair as CodePair}
use Rattle.vector_division.proofs.Members.{sums_at}
use Rattle.vector_division.specs.declared.reduction.ScaledProduct.{ScaledProduct}
use Rattle.basis_steps.specs.Criteria.{IsPair}
use Rattle.basis_steps.specs.Divisions.{IsMonicMember}
use Rattle.basis_steps.specs.States.{vectors}
use Rattle.basis_core.specs.Jobs.{HasLcmOfMembers, index_pair_of}
use Rattle.basis_core.specs.Members.{Shared, MemberShown, members_of, setting_of}
use Rattle.basis_core.specs.Rows.{vectors_in}
use Rattle.s_vectors.proofs.Lists.{vectors_are}
use Rattle.pair_criteria.specs.Pairs.{IsFactorOf}
use Rattle.s_vectors.specs.Parts.{IsTopPart}

-- the setting of a run is lawful
pub shared_lawful : (n : ℕ) (shared : Shared) → IsLawful (setting_of n shared)
shared_lawful n shared = record {
  domain = is_modulus-domain shared.ring.modulus.value shared.ring.modulus.table;
  order = key_comparison_order shared.ring.module_order shared.ring.order shared.ring.weights n shared.rank;
}

-- a monic vector is not zero
pub monic_some : {n : ℕ} (S : Setting n) → IsLawful S → (v : List (CodeKey × ℕ)) → IsMonicMember S (sum_of n v) → 0 < length v
monic_some S lawful [] h = absurd (one_not_zero S lawful (IsCongruent_sym h.monic.one))
monic_some S lawful (t ∷ v) h = omega arith

-- the lead of a member, in both readings
pub lead_is : (n : ℕ) (ms : List MemberShown) (i : ℕ) → leads (vectors (members_of n ms)) i ≡ lead_at n (vectors_in ms) i
lead_is n ms i = ap (λ G. leads G i) (vectors_are n ms) ∙ ap head_key (sums_at n (vectors_in ms) i)

length_sums : (n : ℕ) (list : List (List (CodeKey × ℕ))) → length (sums_of n list) ≡ length list
length_sums n list = length-map list (λ v. sum_of n v)

-- what takes a lead to the lcm is a part of the S-vector
pub top_part :
    (n : ℕ) (ws : List ℕ) (list : List (List (CodeKey × ℕ))) (k : CodeKey) (index residue : ℕ) (v : List (CodeKey × ℕ)) (q : ScaledProduct)
    → v ≡ get_or list index [] → IsFactorOf n ws k v q.monomial → q.index ≡ index → q.residue ≡ residue
    → IsTopPart n ws list k index residue q
top_part n ws list k index residue v q is f at c =
    let g : IsFactorOf n ws k (get_or list index []) q.monomial = subst (λ w. IsFactorOf n ws k w q.monomial) is f in
    record { at = at; residue_is = c; weighed = g.weighed; exponents = g.exponents; product = g.product }

module _ (n : ℕ) (shared : Shared) (ms : List MemberShown) (x : CodePair) (monic : Each (IsMonicMember (setting_of n shared)) (vectors (members_of n ms))) (real : IsPair (vectors (members_of n ms)) (index_pair_of x)) {ws : List ℕ} (has : HasLcmOfMembers n ws ms x) where
  pub left_within : x.i < length (vectors_in ms)
  left_within = let a = real.ordered in let b = real.within in let e = ap length (vectors_are n ms) in let l = length_sums n (vectors_in ms) in omega arith

  pub right_within : x.j < length (vectors_in ms)
  right_within = let b = real.within in let e = ap length (vectors_are n ms) in let l = length_sums n (vectors_in ms) in omega arith

  -- a member of the list is monic
  pub member_monic : (i : ℕ) → i < length (vectors_in ms) → IsMonicMember (setting_of n shared) (sum_of n (get_or (vectors_in ms) i []))
  member_monic i lt =
      subst (IsMonicMember (setting_of n shared)) (sums_at n (vectors_in ms) i)
      (Each_member (IsMonicMember (setting_of n shared)) (sums_of n (vectors_in ms)) i [] (subst (Each (IsMonicMember (setting_of n shared))) (vectors_are n ms) monic) (let l = length_sums n (vectors_in ms) in omega arith))

  pub member_some : (i : ℕ) → i < length (vectors_in ms) → 0 < length (get_or (vectors_in ms) i [])
  member_some i lt = monic_some (setting_of n shared) (shared_lawful n shared) (get_or (vectors_in ms) i []) (member_monic i lt)

  -- the pair's lcm
  pub lcm_position : x.lcm.position ≡ (lead_at n (vectors_in ms) x.i).0
  lcm_position = ap (λ k. k.0) has.lcm ∙ ap (λ k. k.0) (lead_is n ms x.i)

  pub lcm_exponents : exponents_of n x.lcm.monomial.exponents ≡ lcm (lead_at n (vectors_in ms) x.i).1 (lead_at n (vectors_in ms) x.j).1
  lcm_exponents = ap (λ k. k.1) has.lcm ∙ ap₂ (λ a b. lcm a.1 b.1) (lead_is n ms x.i) (lead_is n ms x.j)

  pub same_position : (lead_at n (vectors_in ms) x.i).0 ≡ (lead_at n (vectors_in ms) x.j).0
  same_position = sym (ap (λ k. k.0) (lead_is n ms x.i)) ∙ real.position ∙ ap (λ k. k.0) (lead_is n ms x.j)

  -- which both leads divide
  pub left_divides : Divides (lead_at n (vectors_in ms) x.i).1 (exponents_of n x.lcm.monomial.exponents)
  left_divides =
      let a = (lead_at n (vectors_in ms) x.i).1 in
      let b = (lead_at n (vectors_in ms) x.j).1 in
      (quotient (lcm a b) a, times-quotient a b ∙ sym lcm_exponents)

  pub right_divides : Divides (lead_at n (vectors_in ms) x.j).1 (exponents_of n x.lcm.monomial.exponents)
  right_divides =
      let a = (lead_at n (vectors_in ms) x.i).1 in
      let b = (lead_at n (vectors_in ms) x.j).1 in
      (quotient (lcm a b) b, times-quotient_right a b ∙ sym lcm_exponents)

  -- what the code needs to know of such a member's vector
  pub factor_some : (i : ℕ) (v : List (CodeKey × ℕ)) → i < length (vectors_in ms) → v ≡ get_or (vectors_in ms) i [] → 0 < length v
  factor_some i v lt e = subst (λ w. 0 < length w) (sym e) (member_some i lt)

  pub factor_divides :
      (i : ℕ) (v : List (CodeKey × ℕ))
      → v ≡ get_or (vectors_in ms) i [] → Divides (lead_at n (vectors_in ms) i).1 (exponents_of n x.lcm.monomial.exponents)
      → Divides (head_key (sum_of n v)).1 (exponents_of n x.lcm.monomial.exponents)
  factor_divides i v is d = subst (λ w. Divides (head_key (sum_of n w)).1 (exponents_of n x.lcm.monomial.exponents)) (sym is) d

-- -1 modulo p
pub minus_one : (p c : ℕ) → 1 < p → c ≡ (p - 1) % p → c ≡ p - 1
minus_one p c h e = e ∙ mod-eq_of_lt (let lt : p - 1 < p = omega arith in lt)
