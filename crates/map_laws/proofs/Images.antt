-- Preimages, kernels and images, read off a basis of the graph
use Rattle.std.proofs.Common.{Bool, Equal, Greater, Less, List, Ordering, [], ap, arith, false, inl, inr, refl, subst, sym, true, true≢false, ℕ, ◌*◌, ◌++◌, ◌+◌, ◌-◌, ◌∙◌, ◌≡◌, ◌≤◌}
use Rattle.std.specs.Prelude.{◌↔◌}
use Rattle.residues.proofs.Congruences.{IsCongruent_of, IsCongruent_trans}
use Rattle.residues.specs.Residues.{IsCongruent}
use Rattle.monomials.specs.Exponents.{unit}
use Rattle.formal_sums.proofs.Combining.{IsMember_same, IsMember_zero, combination-nothing}
use Rattle.formal_sums.proofs.OfRank.{IsOfRank_append, IsOfRank_member, IsOfRank_of, IsOfRank_scale}
use Rattle.formal_sums.proofs.Sameness.{IsSame_of, IsSame_sym, IsSame_trans}
use Rattle.formal_sums.specs.Combinations.{IsMember}
use Rattle.formal_sums.specs.FormalSums.{Each, FormalSum, HasRank, IsOfRank, IsSame, Key, coefficient, scale}
use Rattle.orders.proofs.KeyOrdering.{less_of_greater}
use Rattle.bases.proofs.Leading.{positive}
use Rattle.bases.proofs.Normalizing.{HasLead, has_lead}
use Rattle.bases.specs.Bases.{HasFreeTerms, IsReducedBasis}
use Rattle.bases.specs.Leads.{IsLead}
use Rattle.bases.specs.Settings.{IsLawful, Setting}
use Rattle.division_laws.proofs.Keeping.{IsDownClosed_elimination}
use Rattle.division_laws.proofs.Remainders.{remainder_unique}
use Rattle.division_laws.specs.Elimination.{IsDownClosed, has_none_of_first}
use Rattle.operation_laws.proofs.Linear.{Each_at, IsSame_linear}
use Rattle.operation_laws.proofs.RunFacts.{run_of}
use Rattle.operation_laws.proofs.Running.{lawful_elimination, run_generates, through}
use Rattle.operation_laws.specs.Lifts.{IsRemainder}
use Rattle.operation_laws.specs.Operations.{HasKeptKeys, IsRun, elimination_setting}
use Rattle.map_laws.proofs.Evaluating.{IsLinear_evaluated, IsLinear_in_first, evaluated, evaluated_first, evaluated_members, evaluated_second, graph_list_rank}
use Rattle.map_laws.proofs.GraphMembers.{graph_law, image_modulo}
use Rattle.map_laws.proofs.Modulo.{coefficient-less, less, less_same, less_zero, modulo_same, modulo_sym, modulo_trans}
use Rattle.map_laws.proofs.SecondVariables.{in_second_none, linear_less, same_of_less, second_again, second_from, second_rank, second_to}
use Rattle.map_laws.proofs.Substituting.{IsLinear_substituted}
use Rattle.map_laws.specs.Graphs.{from_second, graph_list, in_first, in_second, of_second}
use Rattle.map_laws.specs.Substitution.{substituted}

-- the module of no list is 0
pub IsMember_none : {n p : ℕ} (v : FormalSum n) → IsMember p [] v ↔ IsSame p v []
IsMember_none {n} {p} v = (
  λ a. IsSame_trans (IsSame_sym a.sums) (IsSame_of p _ _ (combination-nothing a.cofactors)),
  λ e. IsMember_same [] [] v (IsSame_sym e) (IsMember_zero p []),
)

pub twice_at_most : (n m : ℕ) → m ≡ n + n → n + n ≤ m
twice_at_most n m e = omega arith

once_at_most : (n m : ℕ) → m ≡ n + n → n ≤ m
once_at_most n m e = omega arith

module _ {n m : ℕ} (S : Setting n) (ws : List ℕ) (F : List (FormalSum n)) (lawful : IsLawful S) (rank : S.rank ≡ 1) (two : m ≡ n + n) (f : Each (HasRank 1) F) where
  -- a reduced basis of the graph is what a run gives
  pub graph_run :
      (L : List (FormalSum n)) (G : List (FormalSum m))
      → Each (HasRank 1) L → IsReducedBasis (elimination_setting ws m n S) (graph_list S.modulus m F L) G
      → IsRun (elimination_setting ws m n S) (graph_list S.modulus m F L) G
  graph_run L G l b =
      run_of (elimination_setting ws m n S) (lawful_elimination ws m n S lawful) (graph_list S.modulus m F L) G
      (subst (λ r. Each (HasRank r) (graph_list S.modulus m F L)) (sym rank) (graph_list_rank S.modulus m F L f l)) b

  -- the members with the second variables alone generate the preimage
  pub second_members :
      (L : List (FormalSum n)) (G : List (FormalSum m)) (v : FormalSum n)
      → Each (HasRank 1) L → IsReducedBasis (elimination_setting ws m n S) (graph_list S.modulus m F L) G
      → IsMember S.modulus (of_second n G) v ↔ (IsOfRank S.modulus 1 v × IsMember S.modulus L (substituted F v))
  second_members L G v l b =
      let run = graph_run L G l b in
      let law = graph_law (positive S lawful) F L (twice_at_most n m two) f v in (
        λ a.
            let r : IsOfRank S.modulus 1 v =
            subst (λ d. IsOfRank S.modulus d v) rank
            (IsOfRank_member S.rank (of_second n G) (λ i lt. IsOfRank_of S.modulus S.rank _ (Each_at (HasRank S.rank) [] (of_second n G) (second_rank S ws (graph_list S.modulus m F L) G lawful two run) i lt)) v a) in
            (r, (law r).0 (second_to S ws (graph_list S.modulus m F L) G lawful two run v a)),
        λ a. second_from S ws (graph_list S.modulus m F L) G lawful two run v ((law a.0).1 a.1),
      )

  pub preimage_law :
      (L R : List (FormalSum n)) (G : List (FormalSum m)) (v : FormalSum n)
      → Each (HasRank 1) L → IsReducedBasis (elimination_setting ws m n S) (graph_list S.modulus m F L) G → IsReducedBasis S (of_second n G) R
      → IsMember S.modulus R v ↔ (IsOfRank S.modulus 1 v × IsMember S.modulus L (substituted F v))
  preimage_law L R G v l b last =
      let run = graph_run L G l b in
      through
      (run_generates S lawful (of_second n G) R (run_of S lawful (of_second n G) R (second_rank S ws (graph_list S.modulus m F L) G lawful two run) last) v)
      (second_members L G v l b)

  -- ---- the kernel, and images
  module _ (G : List (FormalSum m)) (b : IsReducedBasis (elimination_setting ws m n S) (graph_list S.modulus m F []) G) where
    pub kernel_members : (v : FormalSum n) → IsMember S.modulus (of_second n G) v ↔ (IsOfRank S.modulus 1 v × IsSame S.modulus (substituted F v) [])
    kernel_members v =
        let q = second_members [] G v tt b in
        (λ a. let r = q.0 a in (r.0, (IsMember_none (substituted F v)).0 r.1), λ a. q.1 (a.0, (IsMember_none (substituted F v)).1 a.1))

    -- what differs by a member of the graph's basis differs by one of the graph
    in_graph : (v : FormalSum m) → IsMember S.modulus G v → IsMember S.modulus (graph_list S.modulus m F []) v
    in_graph v = (run_generates (elimination_setting ws m n S) (lawful_elimination ws m n S lawful) (graph_list S.modulus m F []) G (graph_run [] G tt b) v).0

    -- a remainder with the second variables alone has the image g
    pub image_law :
        (g : FormalSum n) (w : FormalSum m)
        → IsMember S.modulus G (in_first m g ++ scale (S.modulus - 1) (unit m) w) → HasKeptKeys S.modulus (has_none_of_first n) w
        → IsSame S.modulus (substituted F (from_second n w)) g
    image_law g w a kept =
        let p = S.modulus in
        let pos = positive S lawful in
        let le = twice_at_most n m two in
        let zero : IsSame p (evaluated F (less p (in_first m g) w)) [] = (IsMember_none _).0 (evaluated_members F pos [] (less p (in_first m g) w) le f (in_graph (less p (in_first m g) w) a)) in
        let value : IsSame p (evaluated F w) (substituted F (from_second n w)) =
        IsSame_trans (IsSame_linear pos (evaluated F) (IsLinear_evaluated F) w (in_second m (from_second n w)) (IsSame_sym (second_again pos n two w kept))) (evaluated_second F pos le (from_second n w)) in
        IsSame_sym
        (same_of_less pos g (substituted F (from_second n w))
        (IsSame_trans (less_same pos g (evaluated F (in_first m g)) (substituted F (from_second n w)) (evaluated F w) (IsSame_sym (evaluated_first F pos (once_at_most n m two) g)) (IsSame_sym value))
        (IsSame_trans (IsSame_sym (linear_less p (evaluated F) (IsLinear_evaluated F) (in_first m g) w)) zero)))

    -- where some polynomial has the image g, the remainder has the second variables alone
    pub found_law :
        (g v : FormalSum n) (w : FormalSum m)
        → IsRemainder (elimination_setting ws m n S) G (in_first m g) w → IsOfRank S.modulus 1 v → IsSame S.modulus (substituted F v) g
        → HasKeptKeys S.modulus (has_none_of_first n) w
    found_law g v w rest r e = λ k off. go k off (has_lead T (lawful_elimination ws m n S lawful) d)
      where
        T : Setting m
        T = elimination_setting ws m n S

        d : FormalSum m
        d = less S.modulus w (in_second m v)

        inside : IsMember S.modulus (graph_list S.modulus m F []) (less S.modulus w (in_second m v))
        inside =
            let pos = positive S lawful in
            let I : List (FormalSum m) = graph_list S.modulus m F [] in
            modulo_trans pos I w (in_first m g) (in_second m v)
            (modulo_sym pos I (in_first m g) w (in_graph (less S.modulus (in_first m g) w) rest.member))
            (modulo_trans pos I (in_first m g) (in_first m (substituted F v)) (in_second m v)
            (modulo_same pos I (in_first m g) (in_first m (substituted F v)) (IsSame_linear pos (in_first m) (IsLinear_in_first m) g (substituted F v) (IsSame_sym e)))
            (modulo_sym pos I (in_second m v) (in_first m (substituted F v)) (image_modulo pos F [] (twice_at_most n m two) f v r)))

        same_off : (k : Key m) → has_none_of_first n k ≡ false → coefficient d k ≡ coefficient w k
        same_off k off =
            let z : coefficient (in_second m v) k ≡ 0 = in_second_none m v k off in
            coefficient-less S.modulus w (in_second m v) k ∙ ap (λ x. coefficient w k + (S.modulus - 1) * x) z ∙ omega arith

        from : (k : Key m) → has_none_of_first n k ≡ false → IsCongruent S.modulus (coefficient d k) 0 → IsCongruent S.modulus (coefficient w k) 0
        from k off z = IsCongruent_trans (IsCongruent_of S.modulus _ _ (sym (same_off k off))) z

        closed : IsDownClosed T (has_none_of_first n)
        closed = IsDownClosed_elimination T ws n refl

        kept_lead : (k l : Key m) → has_none_of_first n k ≡ false → has_none_of_first n l ≡ true → IsLead T d l → (o : Ordering) → T.compare l k ≡ o → IsCongruent S.modulus (coefficient w k) 0
        kept_lead k l off on lead Less q = from k off (lead.above k q)
        kept_lead k l off on lead Equal q = absurd (true≢false (sym on ∙ ap (has_none_of_first n) ((lawful_elimination ws m n S lawful).order.exact l k q) ∙ off))
        kept_lead k l off on lead Greater q = absurd (true≢false (sym (closed l k (less_of_greater (lawful_elimination ws m n S lawful).order l k q) on) ∙ off))

        at : (k l : Key m) → has_none_of_first n k ≡ false → IsLead T d l → (c : Bool) → has_none_of_first n l ≡ c → IsCongruent S.modulus (coefficient w k) 0
        at k l off lead true on = kept_lead k l off on lead (T.compare l k) refl
        at k l off lead false out =
            absurd (lead.nonzero (IsCongruent_trans (IsCongruent_of S.modulus _ _ (same_off l out)) (rest.free l (b.reduced.basis.covers d l inside lead))))

        go : (k : Key m) → has_none_of_first n k ≡ false → HasLead T d → IsCongruent S.modulus (coefficient w k) 0
        go k off (inl z) = from k off (z.by_key k)
        go k off (inr (l, lead)) = at k l off lead (has_none_of_first n l) refl

-- one polynomial with an image at most
pub one_law :
    {n : ℕ} (S : Setting n) (F K : List (FormalSum n)) (u v : FormalSum n) → IsLawful S → IsReducedBasis S K K
    → ((a : FormalSum n) → IsMember S.modulus K a ↔ (IsOfRank S.modulus 1 a × IsSame S.modulus (substituted F a) []))
    → IsOfRank S.modulus 1 u → IsOfRank S.modulus 1 v → HasFreeTerms S K u → HasFreeTerms S K v
    → IsSame S.modulus (substituted F u) (substituted F v) → IsSame S.modulus u v
one_law {n} S F K u v lawful basis all ru rv fu fv e =
    let p = S.modulus in
    remainder_unique S lawful K K basis.reduced.basis u v
    ((all (less p u v)).1 (
      IsOfRank_append u (scale (p - 1) (unit n) v) ru (IsOfRank_scale (p - 1) (unit n) v rv),
      IsSame_trans (linear_less p (substituted F) (IsLinear_substituted F) u v) (less_zero (positive S lawful) (substituted F u) (substituted F v) e),
    )) fu fv
