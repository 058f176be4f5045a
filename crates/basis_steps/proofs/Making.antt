-- The members that rows make: monic, with new leads, made of a generator and earlier members
use Rattle.std.proofs.Common.{Contains, List, [], ap, append-nil, append_assoc, arith, get_or, inl, inr, length, length-append, subst, suc, sym, zero, ℕ, ◌++◌, ◌+◌, ◌-◌, ◌<◌, ◌∙◌, ◌∷◌, ◌≡◌, ◌≤◌, ◌⊎◌}
use Rattle.std.proofs.Math.Seq.{get_or-append_seam}
use Rattle.std.proofs.lemmas.Bool.{cases_lt}
use Rattle.monomials.specs.Exponents.{unit}
use Rattle.formal_sums.proofs.Combining.{Each_map, IsMember_itself, IsMember_through, combination-append, combination-scale, scale-one}
use Rattle.formal_sums.proofs.OfRank.{IsMember_of, IsOfRank_append, IsOfRank_of, IsOfRank_same, IsOfRank_scale, IsOfRank_zero}
use Rattle.formal_sums.proofs.Sameness.{IsSame_append, IsSame_of, IsSame_refl, IsSame_scale, IsSame_sym, IsSame_trans, scale-append}
use Rattle.formal_sums.proofs.WeightedSums.{Each_append}
use Rattle.formal_sums.proofs.Combining.{IsSame_combination}
use Rattle.formal_sums.specs.Combinations.{IsMember, combination}
use Rattle.formal_sums.specs.FormalSums.{Each, FormalSum, IsOfRank, IsSame, scale}
use Rattle.orders.specs.KeyOrders.{KeyDivides}
use Rattle.bases.proofs.Leading.{IsLead_of_monic, positive}
use Rattle.bases.proofs.MoreMembers.{get_or-append_front}
use Rattle.bases.specs.Bases.{IsCovered}
use Rattle.bases.specs.Leads.{head_key, leads}
use Rattle.bases.specs.Representations.{place}
use Rattle.bases.specs.Settings.{IsLawful, Setting}
use Rattle.division_laws.specs.Standard.{HasStandardRepresentation}
use Rattle.basis_steps.proofs.Carrying.{combination_more}
use Rattle.basis_steps.proofs.Growing.{each_at, leads_front}
use Rattle.basis_steps.specs.Cofactors.{AreMade, IsMade}
use Rattle.basis_steps.specs.Divisions.{IsKeyAtMost, IsMonicMember, LeavesMember, MakesMembers, difference}
use Rattle.basis_steps.specs.Invariant.{HasNewLeads}
use Rattle.basis_steps.specs.Outcomes.{IsReduct}
use Rattle.basis_steps.specs.States.{Member, Product, vectors}
use Rattle.basis_steps.specs.Steps.{generator_rows}

module _ {n : ℕ} (S : Setting n) (lawful : IsLawful S) where
  -- ---- monic, of the rank
  pub makes_members :
      (G : List (FormalSum n)) (rows made : List (Member n))
      → MakesMembers S G rows made → Each (IsMonicMember S) G → Each (IsMonicMember S) (G ++ vectors made)
  makes_members G [] made e h = subst (λ m. Each (IsMonicMember S) (G ++ vectors m)) (sym e) (subst (Each (IsMonicMember S)) (sym (append-nil G)) h)
  makes_members G (row ∷ rows) made (inl (a, v, rest)) h = makes_members G rows made rest h
  makes_members G (row ∷ rows) made (inr (a, c, d, g, later, l, e, rest)) h =
      subst (Each (IsMonicMember S)) (append_assoc G (g.vector ∷ []) (vectors later) ∙ ap (λ x. G ++ vectors x) (sym e))
      (makes_members (G ++ (g.vector ∷ [])) rows later rest (Each_append (IsMonicMember S) G (g.vector ∷ []) h (l.member, tt)))

  -- ---- new leads
  leads_more :
      (G : List (FormalSum n)) (g : FormalSum n)
      → Each (IsMonicMember S) G → HasNewLeads G → (IsCovered S G (head_key g) → ⊥) → HasNewLeads (G ++ (g ∷ []))
  leads_more G g ms h free i j l m d = go (cases_lt j (length G))
    where
      long : length (G ++ (g ∷ [])) ≡ length G + 1
      long = length-append G (g ∷ [])

      old : (i : ℕ) → i < length G → leads (G ++ (g ∷ [])) i ≡ leads G i
      old i q = leads_front G (g ∷ []) i q

      last : leads (G ++ (g ∷ [])) (length G) ≡ head_key g
      last = ap head_key (get_or-append_seam G g [] [])

      go : (j < length G) ⊎ (length G ≤ j) → ⊥
      go (inl q) = h i j l q (subst (λ k. KeyDivides k (leads G j)) (old i (omega arith)) (subst (λ k. KeyDivides (leads (G ++ (g ∷ [])) i) k) (old j q) d))
      go (inr q) =
          let e : j ≡ length G = omega (arith, long) in
          let f : leads (G ++ (g ∷ [])) j ≡ head_key g = ap (leads (G ++ (g ∷ []))) e ∙ last in
          let at : i < length G = omega (arith, l, e) in
          free (i, at, IsLead_of_monic S lawful (each_at (IsMonicMember S) G i [] ms at).monic, subst (λ k. KeyDivides k (head_key g)) (old i (omega arith)) (subst (λ k. KeyDivides (leads (G ++ (g ∷ [])) i) k) f d))

  pub makes_new_leads :
      (G : List (FormalSum n)) (rows made : List (Member n))
      → MakesMembers S G rows made → Each (IsMonicMember S) G → HasNewLeads G → HasNewLeads (G ++ vectors made)
  makes_new_leads G [] made e ms h = subst (λ m. HasNewLeads (G ++ vectors m)) (sym e) (subst HasNewLeads (sym (append-nil G)) h)
  makes_new_leads G (row ∷ rows) made (inl (a, v, rest)) ms h = makes_new_leads G rows made rest ms h
  makes_new_leads G (row ∷ rows) made (inr (a, c, d, g, later, l, e, rest)) ms h =
      subst HasNewLeads (append_assoc G (g.vector ∷ []) (vectors later) ∙ ap (λ x. G ++ vectors x) (sym e))
      (makes_new_leads (G ++ (g.vector ∷ [])) rows later rest (Each_append (IsMonicMember S) G (g.vector ∷ []) ms (l.member, tt)) (leads_more G g.vector ms h l.free))

  -- ---- made of generators F and earlier members
  module _ (F : List (FormalSum n)) where
    -- what is made by members is made by more of them
    pub made_more : (G N : List (FormalSum n)) (m : Member n) → IsMade S.modulus F G m → IsMade S.modulus F (G ++ N) m
    made_more G N m h = record {
      generator = h.generator;
      earlier = record { past = λ k le. h.earlier.past k (omega (arith, le, length-append G N)) };
      sums = IsSame_trans (IsSame_append (IsSame_refl S.modulus (combination F m.multiple)) (combination_more S.modulus (positive S lawful) G N m.products h.earlier)) h.sums;
    }

    -- what is left of a row
    made_member :
        (G : List (FormalSum n)) (row g : Member n) (a : FormalSum n) (c d : ℕ)
        → IsMade S.modulus F G row → LeavesMember S G row a c d g → IsMade S.modulus F G g
    made_member G row g a c d h l =
        let p = S.modulus in
        let pos = positive S lawful in
        let ranked : IsOfRank p (length G) a = IsOfRank_of p (length G) a (Each_map (λ t. (t.0.0 < length G) × IsKeyAtMost S (place G t) (head_key row.vector)) (λ t. t.0.0 < length G) a (λ t q. q.0) l.quotients) in
        let less : FormalSum n = difference p row.products a in
        let same : IsSame p (combination G less) (difference p (combination G row.products) (combination G a)) =
        IsSame_of p _ _ (combination-append G row.products (scale (p - 1) (unit n) a) ∙ ap (λ x. combination G row.products ++ x) (combination-scale G (p - 1) (unit n) a)) in
        record {
          generator = IsOfRank_same (IsSame_sym l.multiple) (IsOfRank_scale d (unit n) row.multiple h.generator);
          earlier = IsOfRank_same (IsSame_sym l.products) (IsOfRank_scale d (unit n) less (IsOfRank_append row.products _ h.earlier (IsOfRank_scale (p - 1) (unit n) a ranked)));
          sums =
              IsSame_trans (IsSame_append (IsSame_trans (IsSame_combination pos F g.multiple _ l.multiple) (IsSame_of p _ _ (combination-scale F d (unit n) row.multiple)))
              (IsSame_trans (IsSame_combination pos G g.products _ l.products) (IsSame_trans (IsSame_of p _ _ (combination-scale G d (unit n) less)) (IsSame_scale pos d (unit n) same))))
              (IsSame_trans (IsSame_of p _ _ (sym (scale-append d (unit n) (combination F row.multiple) (difference p (combination G row.products) (combination G a)))))
              (IsSame_trans (IsSame_scale pos d (unit n) (IsSame_trans (IsSame_of p _ _ (sym (append_assoc (combination F row.multiple) (combination G row.products) (scale (p - 1) (unit n) (combination G a))))) (IsSame_append h.sums (IsSame_refl p (scale (p - 1) (unit n) (combination G a))))))
              (IsSame_sym l.vector)));
        }

    -- the members that rows make
    pub makes_made :
        (G : List (FormalSum n)) (rows made : List (Member n))
        → MakesMembers S G rows made → Each (IsMade S.modulus F G) rows → AreMade S.modulus F G made
    makes_made G [] made e h = subst (AreMade S.modulus F G) (sym e) tt
    makes_made G (row ∷ rows) made (inl (a, v, rest)) h = makes_made G rows made rest h.1
    makes_made G (row ∷ rows) made (inr (a, c, d, g, later, l, e, rest)) h =
        subst (AreMade S.modulus F G) (sym e) (
          made_member G row g a c d h.0 l,
          makes_made (G ++ (g.vector ∷ [])) rows later rest (Each_map (IsMade S.modulus F G) (IsMade S.modulus F (G ++ (g.vector ∷ []))) rows (λ m. made_more G (g.vector ∷ []) m) h.1),
        )

    -- the rows of an outcome
    pub rows_made :
        (B D : List (FormalSum n)) (rows : List (Member n)) (products : List (Product n))
        → ((t : Product n) → Contains products t → t.0 < length B)
        → Each (IsReduct S.modulus B products) rows → Each (IsMade S.modulus F (B ++ D)) rows
    rows_made B D [] products known h = tt
    rows_made B D (row ∷ rows) products known h = (
      made_more B D row (record {
        generator = subst (IsOfRank S.modulus (length F)) (sym h.0.alone) (IsOfRank_zero S.modulus (length F));
        earlier = IsOfRank_of S.modulus (length B) row.products (Each_map (λ t. Contains products t.0) (λ t. t.0.0 < length B) row.products (λ t. known t.0) h.0.listed);
        sums = subst (λ e. IsSame S.modulus (combination F e ++ combination B row.products) row.vector) (sym h.0.alone) h.0.sums;
      }),
      rows_made B D rows products known h.1,
    )

    -- each generator is 1 times itself
    pub generators_made :
        (fs : List (FormalSum n)) (k : ℕ)
        → k + length fs ≡ length F → ((i : ℕ) → get_or fs i [] ≡ get_or F (k + i) [])
        → Each (IsMade S.modulus F []) (generator_rows k fs)
    generators_made [] k long h = tt
    generators_made (f ∷ fs) k long h = (
      record {
        generator = IsOfRank_of S.modulus (length F) (((k, unit n), 1) ∷ []) (omega (arith, long), tt);
        earlier = IsOfRank_zero S.modulus 0;
        sums = IsSame_of S.modulus _ _ (append-nil _ ∙ append-nil _ ∙ scale-one (get_or F k []) ∙ (ap (λ i. get_or F i []) (omega arith) ∙ sym (h 0)));
      },
      generators_made fs (k + 1) (omega (arith, long)) (λ i. h (suc i) ∙ ap (λ j. get_or F j []) (omega arith)),
    )

  -- ---- the module of the members only grows
  pub module_more :
      (G N : List (FormalSum n)) (v : FormalSum n) → IsMember S.modulus G v → IsMember S.modulus (G ++ N) v
  module_more G N v m =
      IsMember_through (positive S lawful) (G ++ N) G
      (λ i h. subst (IsMember S.modulus (G ++ N)) (get_or-append_front G N i h) (IsMember_itself S.modulus (G ++ N) i (omega (arith, length-append G N)))) v m

  -- the generators are in the module of what they make
  pub generators_inside :
      (H fs : List (FormalSum n)) (k i : ℕ)
      → Each (λ m. HasStandardRepresentation S H (head_key m.vector) m.vector) (generator_rows k fs) → i < length fs
      → IsMember S.modulus H (get_or fs i [])
  generators_inside H [] k i h l = absurd (omega arith)
  generators_inside H (f ∷ fs) k zero h l = IsMember_of H h.0.cofactors f h.0.sums
  generators_inside H (f ∷ fs) k (suc i) h l = generators_inside H fs (k + 1) i h.1 (omega arith)
