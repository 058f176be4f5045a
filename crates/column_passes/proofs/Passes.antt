-- One pass over the columns of a map, by degree
use Rattle.std.specs.Prelude.{None, Option, Some, drop, set}
use Rattle.std.proofs.Common.{Bool, List, [], ap, append-nil, arith, false, get_or, inl, inr, length, map, refl, subst, suc, sym, take, true}
use Rattle.std.proofs.Common.{true≢false, zero, ℕ, ◌*◌, ◌++◌, ◌+◌, ◌<◌, ◌∙◌, ◌∷◌, ◌≡◌, ◌≤◌, ◌⊎◌}
use Rattle.std.proofs.lemmas.Bool.{cases_lt}
use Rattle.std.proofs.lemmas.List.{append_assoc, drop-append-le, get_or-set_other, get_or-set_same, get_or_past, length-map, length-set, map-append}
use Rattle.std.proofs.lemmas.List.{take_all, take_more}
use Rattle.residues.proofs.Congruences.{IsCongruent_of, IsCongruent_refl, IsCongruent_trans}
use Rattle.residues.specs.Residues.{IsCongruent}
use Rattle.monomials.specs.Exponents.{unit}
use Rattle.formal_sums.proofs.Sameness.{IsSame_of, IsSame_refl, IsSame_sym, IsSame_trans}
use Rattle.formal_sums.specs.FormalSums.{Each, FormalSum, IsSame, coefficient}
use Rattle.bases.specs.Settings.{IsLawful}
use Rattle.minimal_laws.specs.Cancellation.{AreSameColumns, cleared}
use Rattle.minimal_laws.specs.Gradings.{AreHomogeneous, IsHomogeneous}
use Rattle.minimal_laws.specs.Minimal.{IsConstantAt}
use Rattle.term_lists.proofs.Scaling.{Each_at}
use Rattle.term_lists.specs.Rings.{ring_comparison, setting, variables}
use Rattle.term_lists.specs.Vectors.{IsVectorOver, StandsFor, sum_of, sums_of}
use Rattle.term_lists.specs.declared.key.Key.{Key as CodeKey}
use Rattle.term_lists.specs.declared.ring.Ring.{Ring}
use Rattle.column_passes.specs.Constants.{IsLeastUnit}
use Rattle.column_passes.specs.Passing.{AreFinished, AreNumbered, HaveNoOthers, IsFreeOfSteps, IsGraded, IsMetOver, IsPassed, IsColumnSorted, IsStepOver}
use Rattle.column_passes.specs.Passing.{LeaveNumbered, Pivot, add_kept, cleared_all, finished_all, indices_in_turn, left_by_all, rows_in_turn}
use Rattle.column_passes.specs.Placing.{ArePlacesAfter, without_all}
use Rattle.column_passes.specs.Sorting.{AreByDegree, numbers_from}
use Rattle.column_passes.specs.declared.one_pass.Met.{Met}
use Rattle.column_passes.specs.declared.one_pass.Passed.{Passed}
use Rattle.column_passes.specs.declared.steps.Step.{Step}
use Rattle.column_passes.proofs.Apart.{chosen_apart, free_row}
use Rattle.column_passes.proofs.Applying.{columns_trans, constant_there, no_constant_at}
use Rattle.column_passes.proofs.ByDegree.{by_degree, each_by, order_is}
use Rattle.column_passes.proofs.Canonical.{AreLeft, canonical, choice_at, column_of, head_of, kept_of, left, none_left, not_met, same_first, tail}
use Rattle.column_passes.proofs.Canonical.{without_all_same}
use Rattle.column_passes.proofs.Lists.{all_append, all_map, drop_none, each_mapped, each_unmapped, map_same}
use Rattle.column_passes.proofs.Reordering.{AreChosen, AreDistinct, IsChosen, after_end, chosen_agree, chosen_end, chosen_graded}
use Rattle.column_passes.proofs.Reordering.{chosen_same, cleared_alike, distinct_order, each_unby, grown, homogeneous_through, numbers_inside}
use Rattle.column_passes.proofs.Reordering.{others_before, pivots_after, sorted_chosen, through, through_end}
use Rattle.column_passes.proofs.RowsTold.{rows_told}
use Rattle.column_passes.proofs.Units.{first_unit, no_constant}
use Rattle.column_passes.proofs.Zeros.{each_both, homogeneous_there}

abbrev Terms : Type 0
Terms = List (CodeKey × ℕ)

cleared_end :
    (ring : Ring) (steps : List Step) (s : Step) (v : FormalSum (variables ring))
    → cleared_all ring (steps ++ s ∷ []) v ≡ cleared ring.modulus.value s.row s.inverse (sum_of (variables ring) s.column) (cleared_all ring steps v)
cleared_end ring [] s v = refl
cleared_end ring (t ∷ steps) s v = cleared_end ring steps s (cleared ring.modulus.value t.row t.inverse (sum_of (variables ring) t.column) v)

-- the columns in their order by degree
pub number_inside :
    (degrees : List ℕ) (n : ℕ) (order : List ℕ) (k c : ℕ) → AreByDegree degrees n order → k < length order → c ≡ get_or order k c → c < n
number_inside degrees n order k c h lt is =
    Each_at (λ c. c < n) order k c
    (subst (Each (λ c. c < n)) (sym (order_is degrees n order h))
    (each_by (λ c. c < n) degrees (numbers_from 0 n) (numbers_inside 0 n n (omega arith)))) lt is

pub others_first :
    (degrees : List ℕ) (n : ℕ) (order : List ℕ) (k c : ℕ) → AreByDegree degrees n order → k < length order → c ≡ get_or order k c
    → Each (λ b. b ≡ c → ⊥) (take k order)
others_first degrees n order k c h lt is =
    others_before order k c (subst AreDistinct (sym (order_is degrees n order h)) (distinct_order degrees n)) lt is

same_between :
    {n : ℕ} (p : ℕ) (G H : List (FormalSum n)) (x y : FormalSum n) → IsSame p x y → AreSameColumns p (G ++ x ∷ H) (G ++ y ∷ H)
same_between p [] H x y e = same_first p H H x y e (record { count = refl; each = λ i. IsSame_refl p _ })
same_between p (v ∷ G) H x y e = same_first p _ _ v v (IsSame_refl p v) (same_between p G H x y e)

pub finish_more :
    (ring : Ring) (steps : List Step) (rows : List ℕ) (met rest rest' : List Met) (m : Met) (old new : List Terms) (u : Terms)
    → AreSameColumns ring.modulus.value (finished_all ring steps rows met) (sums_of (variables ring) old ++ finished_all ring steps rows rest)
    → rest ≡ m ∷ rest' → m.choice ≡ None
    → StandsFor ring u (without_all rows (cleared_all ring (drop m.since steps) (sum_of (variables ring) m.column))) → new ≡ old ++ u ∷ []
    → AreSameColumns ring.modulus.value (finished_all ring steps rows met) (sums_of (variables ring) new ++ finished_all ring steps rows rest')
finish_more ring steps rows met rest rest' m old new u h e none stands en =
    let p = ring.modulus.value in
    let n = variables ring in
    let A = finished_all ring steps rows met in
    let R = finished_all ring steps rows rest' in
    let x = without_all rows (cleared_all ring (drop m.since steps) (sum_of n m.column)) in
    let at : finished_all ring steps rows rest ≡ x ∷ R = ap (finished_all ring steps rows) e ∙ ap (λ z. add_kept z x R) none in
    let eq : sums_of n new ++ R ≡ sums_of n old ++ sum_of n u ∷ R =
    ap (λ z. sums_of n z ++ R) en ∙ ap (λ z. z ++ R) (map-append (λ w. sum_of n w) old (u ∷ [])) ∙ append_assoc (sums_of n old) (sum_of n u ∷ []) R
    in
    columns_trans p A (sums_of n old ++ x ∷ R) (sums_of n new ++ R) (subst (λ z. AreSameColumns p A (sums_of n old ++ z)) at h)
    (subst (λ z. AreSameColumns p (sums_of n old ++ x ∷ R) z) (sym eq) (same_between p (sums_of n old) R x (sum_of n u) (IsSame_sym stands)))

-- where the column is kept, what is kept of it comes to what the steps leave of it
abbrev pub IsKeptAt : (ring : Ring) → List (FormalSum (variables ring)) → List Step → List Met → ℕ → Type 0
IsKeptAt ring F steps met c =
    choice_at met c ≡ None
    → ((get_or met c not_met).since ≤ length steps)
    × IsSame ring.modulus.value (cleared_all ring (drop (get_or met c not_met).since steps) (sum_of (variables ring) (get_or met c not_met).column))
    (cleared_all ring steps (column_of F c))

-- after the first k columns of the order
pub record AreMet (ring : Ring) (columns : List Terms) (order : List ℕ) (k : ℕ) (steps : List Step) (met : List Met) : Type 0 where
  pub chosen : AreChosen ring.modulus.value (column_of (sums_of (variables ring) columns)) (choice_at met) [] (take k order)
  pub alike :
      (v : FormalSum (variables ring))
      → IsSame ring.modulus.value (cleared_all ring steps v)
      (through ring.modulus.value (pivots_after ring.modulus.value (column_of (sums_of (variables ring) columns)) (choice_at met) [] (take k order)) v)
  pub rows_are :
      map (λ (s : Step). s.row) steps
      ≡ map (λ (s : Pivot (variables ring)). s.row)
      (pivots_after ring.modulus.value (column_of (sums_of (variables ring) columns)) (choice_at met) [] (take k order))
  pub kept : Each (IsKeptAt ring (sums_of (variables ring) columns) steps met) (take k order)
  pub over : Each (IsMetOver ring steps) met
  pub steps_over : Each (IsStepOver ring) steps
  pub count : length met ≡ length columns

pub met_start :
    (ring : Ring) (columns : List Terms) (order : List ℕ) (steps : List Step) (met : List Met) → steps ≡ [] → length met ≡ length columns
    → Each (λ (m : Met). (m.column ≡ []) × (m.since ≡ 0)) met → AreMet ring columns order 0 steps met
met_start ring columns order steps met es count none =
    subst (λ z. AreMet ring columns order 0 z met) (sym es) (record {
      chosen = tt;
      alike = λ v. IsSame_refl ring.modulus.value v;
      rows_are = refl;
      kept = tt;
      over = all_map _ _ met
          (λ m h. (subst (IsVectorOver ring (ring_comparison ring)) (sym h.0) (record { each = tt; descends = tt }), (let e = h.1 in omega (arith, e)))) none;
      steps_over = tt;
      count = count;
    })

each_set : {X : Type 0} (P : X → Type 0) (xs : List X) (i : ℕ) (x : X) → Each P xs → P x → Each P (set xs i x)
each_set P [] i x h p = tt
each_set P (y ∷ xs) zero x h p = (p, h.1)
each_set P (y ∷ xs) (suc i) x h p = (h.0, each_set P xs i x h.1 p)

module _ (ring : Ring) (lawful : IsLawful (setting ring (variables ring) (ring_comparison ring (variables ring)) 0)) (columns : List Terms)
    (rows degrees : List ℕ)
    (graded : AreHomogeneous ring.weights ring.modulus.value rows degrees (sums_of (variables ring) columns)) where
  pos : 0 < ring.modulus.value
  pos = let o : 1 < ring.modulus.value = lawful.domain.above_one in omega (arith, o)

  abbrev F : List (FormalSum (variables ring))
  F = sums_of (variables ring) columns

  graded_at : (c : ℕ) → IsHomogeneous ring.weights ring.modulus.value rows (get_or degrees c 0) (column_of (sums_of (variables ring) columns) c)
  graded_at c = go (cases_lt c (length F))
    where
      go : (c < length (sums_of (variables ring) columns)) ⊎ (length (sums_of (variables ring) columns) ≤ c)
          → IsHomogeneous ring.weights ring.modulus.value rows (get_or degrees c 0) (column_of (sums_of (variables ring) columns) c)
      go (inl lt) = graded.each c lt
      go (inr le) = subst (IsHomogeneous ring.weights ring.modulus.value rows (get_or degrees c 0)) (sym (get_or_past F c [] le)) (record {
        rank = record { past = λ k l. IsCongruent_refl ring.modulus.value 0 };
        degrees = λ k nz. absurd (nz (IsCongruent_refl ring.modulus.value 0));
      })

  module _ (order : List ℕ) (k : ℕ) (steps : List Step) (met : List Met) (h : AreMet ring columns order k steps met) (c : ℕ) (lt : k < length order)
      (is : c ≡ get_or order k c)
      (inside : c < length columns) (others : Each (λ b. b ≡ c → ⊥) (take k order)) (u : Terms) (vector : IsVectorOver ring (ring_comparison ring) u)
      (stands : StandsFor ring u (cleared_all ring steps (column_of (sums_of (variables ring) columns) c))) where
    abbrev T : List (Pivot (variables ring))
    T = pivots_after ring.modulus.value (column_of (sums_of (variables ring) columns)) (choice_at met) [] (take k order)

    u_is : IsSame ring.modulus.value (sum_of (variables ring) u) (through ring.modulus.value T (column_of (sums_of (variables ring) columns) c))
    u_is = IsSame_trans stands (h.alike (column_of F c))

    pub graded_here : IsGraded ring u
    graded_here = (
      rows,
      get_or degrees c 0,
      homogeneous_there rows (get_or degrees c 0) _ _ (IsSame_sym u_is)
          (homogeneous_through ring.modulus.value pos ring.weights rows (get_or degrees c 0) T (column_of F c)
          (chosen_graded ring.modulus.value pos ring.weights rows degrees (column_of F) graded_at (choice_at met) (take k order) [] tt h.chosen)
          (graded_at c)),
    )

    pub free_here : IsFreeOfSteps u steps
    free_here a least =
        let p = ring.modulus.value in
        let f = first_unit ring lawful u vector graded_here a least in
        let t = free_row p pos T (column_of F c) a.0 (chosen_apart p pos (column_of F) (choice_at met) [] (take k order) tt h.chosen)
        (constant_there p _ _ a.0 u_is f.0) in
        each_unmapped (λ r. r ≡ a.0 → ⊥) (λ (s : Step). s.row) steps
        (subst (Each (λ r. r ≡ a.0 → ⊥)) (sym h.rows_are) (each_mapped (λ r. r ≡ a.0 → ⊥) (λ (s : Pivot (variables ring)). s.row) T t))

    to_more : take (k + 1) order ≡ take k order ++ c ∷ []
    to_more = take_more order k c lt ∙ ap (λ z. take k order ++ z ∷ []) (sym is)

    -- one column more
    module _ (x : Met) where
      met' : List Met
      met' = set met c x

      other_at : (b : ℕ) → (b ≡ c → ⊥) → get_or (set met c x) b not_met ≡ get_or met b not_met
      other_at b ne = get_or-set_other met c b x not_met ne

      here_at : get_or (set met c x) c not_met ≡ x
      here_at = get_or-set_same met c x not_met (let e = h.count in omega (arith, e, inside))

      agree : Each (λ b. choice_at met b ≡ choice_at (set met c x) b) (take k order)
      agree = all_map _ _ (take k order) (λ b ne. sym (ap (λ (z : Met). z.choice) (other_at b ne))) others

      before : AreChosen ring.modulus.value (column_of (sums_of (variables ring) columns)) (choice_at (set met c x)) [] (take k order)
          × (T ≡ pivots_after ring.modulus.value (column_of (sums_of (variables ring) columns)) (choice_at (set met c x)) [] (take k order))
      before = chosen_agree ring.modulus.value (column_of F) (choice_at met) (choice_at (set met c x)) [] (take k order) agree h.chosen

      chosen_more :
          IsChosen ring.modulus.value x.choice (sum_of (variables ring) u)
          → AreChosen ring.modulus.value (column_of (sums_of (variables ring) columns)) (choice_at (set met c x)) [] (take (k + 1) order)
      chosen_more one =
          let p = ring.modulus.value in
          subst (AreChosen p (column_of F) (choice_at (set met c x)) []) (sym to_more)
          (chosen_end p (column_of F) (choice_at (set met c x)) [] (take k order) c before.0
          (subst (λ z. IsChosen p (choice_at (set met c x) c) (through p z (column_of F c))) before.1
          (subst (λ z. IsChosen p z (through p T (column_of F c))) (sym (ap (λ (z : Met). z.choice) here_at)) (chosen_same p pos x.choice _ _ u_is one))))

      pivots_more :
          pivots_after ring.modulus.value (column_of (sums_of (variables ring) columns)) (choice_at (set met c x)) [] (take (k + 1) order)
          ≡ grown ring.modulus.value x.choice c (column_of (sums_of (variables ring) columns) c) T
      pivots_more =
          let p = ring.modulus.value in
          ap (pivots_after p (column_of F) (choice_at (set met c x)) []) to_more ∙ after_end p (column_of F) (choice_at (set met c x)) [] (take k order) c
          ∙ ap (λ z. grown p (choice_at (set met c x) c) c (column_of F c) z) (sym before.1)
          ∙ ap (λ z. grown p z c (column_of F c) T) (ap (λ (z : Met). z.choice) here_at)

    kept_more : IsLeastUnit u None → AreMet ring columns order (k + 1) steps (set met c (record { column = u; since = length steps; choice = None }))
    kept_more none =
        let p = ring.modulus.value in
        let x : Met = record { column = u; since = length steps; choice = None } in
        record {
          chosen = chosen_more x (no_constant ring lawful u vector none);
          alike = λ v. subst (λ z. IsSame p (cleared_all ring steps v) (through p z v)) (sym (pivots_more x)) (h.alike v);
          rows_are = h.rows_are ∙ ap (map (λ (s : Pivot (variables ring)). s.row)) (sym (pivots_more x));
          kept = subst (Each (IsKeptAt ring F steps (set met c x))) (sym to_more)
              (all_append _ (take k order) (c ∷ [])
              (each_both _ _ _ (take k order)
              (λ b ne q. subst (λ (m : Met). m.choice ≡ None
              → (m.since ≤ length steps)
              × IsSame p (cleared_all ring (drop m.since steps) (sum_of (variables ring) m.column)) (cleared_all ring steps (column_of F b)))
              (sym (other_at x b ne)) q) others h.kept) (
                subst (λ (m : Met). m.choice ≡ None
                    → (m.since ≤ length steps)
                    × IsSame p (cleared_all ring (drop m.since steps) (sum_of (variables ring) m.column)) (cleared_all ring steps (column_of F c)))
                    (sym (here_at x))
                    (λ e. (
                      omega arith,
                      subst (λ z. IsSame p (cleared_all ring z (sum_of (variables ring) u)) (cleared_all ring steps (column_of F c)))
                          (sym (drop_none steps (length steps) (omega arith))) stands,
                    )),
                tt,
              ));
          over = each_set _ met c x h.over (vector, omega arith);
          steps_over = h.steps_over;
          count = length-set met c x ∙ h.count;
        }

    module _ (row inverse residue : ℕ) (least : IsLeastUnit u (Some (row, residue))) (invert : IsCongruent ring.modulus.value (inverse * residue) 1)
        (below : inverse < ring.modulus.value) where
      abbrev S : Step
      S = record { row = row; inverse = inverse; column = u }

      abbrev M : Met
      M = record { column = []; since = 0; choice = Some (row, inverse) }

      first :
          IsConstantAt ring.modulus.value (sum_of (variables ring) u) row
          × ((coefficient (sum_of (variables ring) u) (row, unit (variables ring)) ≡ residue) × (0 < residue) × (residue < ring.modulus.value))
          × ((q : ℕ) → q < row → IsConstantAt ring.modulus.value (sum_of (variables ring) u) q → ⊥)
      first = first_unit ring lawful u vector graded_here (row, residue) least

      alike_more :
          (v : FormalSum (variables ring))
          → IsSame ring.modulus.value (cleared_all ring (steps ++ S ∷ []) v)
          (through ring.modulus.value (grown ring.modulus.value (Some (row, inverse)) c (column_of (sums_of (variables ring) columns) c) T) v)
      alike_more v =
          let p = ring.modulus.value in
          IsSame_trans (IsSame_of p _ _ (cleared_end ring steps S v))
          (IsSame_trans (cleared_alike p pos row inverse (sum_of (variables ring) u) (through p T (column_of F c)) (cleared_all ring steps v)
          (through p T v) u_is (h.alike v))
          (IsSame_of p _ _ (sym (through_end p pos T _ v))))

      -- what was kept before
      kept_before :
          (b : ℕ) → (b ≡ c → ⊥) → IsKeptAt ring (sums_of (variables ring) columns) steps met b
          → IsKeptAt ring (sums_of (variables ring) columns) (steps ++ S ∷ []) (set met c M) b
      kept_before b ne q =
          let p = ring.modulus.value in
          let more : (m : Met)
          → (m.choice ≡ None → (m.since ≤ length steps)
          × IsSame p (cleared_all ring (drop m.since steps) (sum_of (variables ring) m.column)) (cleared_all ring steps (column_of F b)))
          → m.choice ≡ None → (m.since ≤ length (steps ++ S ∷ []))
          × IsSame p (cleared_all ring (drop m.since (steps ++ S ∷ [])) (sum_of (variables ring) m.column))
          (cleared_all ring (steps ++ S ∷ []) (column_of F b)) =
          λ m g e.
          let o = g e in (
            longer m.since steps o.0,
            IsSame_trans (IsSame_of p _ _
                (ap (λ z. cleared_all ring z (sum_of (variables ring) m.column)) (drop-append-le m.since steps (S ∷ []) o.0)
                ∙ cleared_end ring (drop m.since steps) S (sum_of (variables ring) m.column)))
                (IsSame_trans (cleared_alike p pos row inverse (sum_of (variables ring) u) (sum_of (variables ring) u) _ _ (IsSame_refl p _) o.1)
                (IsSame_of p _ _ (sym (cleared_end ring steps S (column_of F b))))),
          )
          in
          subst (λ (m : Met). m.choice ≡ None
          → (m.since ≤ length (steps ++ S ∷ []))
          × IsSame p (cleared_all ring (drop m.since (steps ++ S ∷ [])) (sum_of (variables ring) m.column))
          (cleared_all ring (steps ++ S ∷ []) (column_of F b)))
          (sym (other_at M b ne)) (more (get_or met b not_met) q)
        where
          longer : (m : ℕ) (ts : List Step) → m ≤ length ts → m ≤ length (ts ++ S ∷ [])
          longer zero ts le = omega arith
          longer (suc m) [] le = absurd (omega (arith, le))
          longer (suc m) (t ∷ ts) le = let z = longer m ts (omega (arith, le)) in omega (arith, z)

      step_more : AreMet ring columns order (k + 1) (steps ++ S ∷ []) (set met c M)
      step_more =
          let p = ring.modulus.value in
          record {
            chosen = chosen_more M (first.0, first.2, IsCongruent_trans (IsCongruent_of p _ _ (ap (λ z. inverse * z) first.1.0)) invert);
            alike = λ v. subst (λ z. IsSame p (cleared_all ring (steps ++ S ∷ []) v) (through p z v)) (sym (pivots_more M)) (alike_more v);
            rows_are = map-append (λ (s : Step). s.row) steps (S ∷ []) ∙ ap (λ z. z ++ row ∷ []) h.rows_are
                ∙ sym (map-append (λ (s : Pivot (variables ring)). s.row) T (_ ∷ [])) ∙ ap (map (λ (s : Pivot (variables ring)). s.row)) (sym (pivots_more M));
            kept = subst (Each (IsKeptAt ring F (steps ++ S ∷ []) (set met c M))) (sym to_more)
                (all_append _ (take k order) (c ∷ []) (each_both _ _ _ (take k order) (λ b ne q. kept_before b ne q) others h.kept)
                (never, tt));
            over = each_set _ met c M (all_map _ _ met (λ m o. (o.0, longer m.since steps o.1)) h.over) (record { each = tt; descends = tt }, omega arith);
            steps_over = all_append _ steps (S ∷ []) h.steps_over ((vector, below), tt);
            count = length-set met c M ∙ h.count;
          }
        where
          longer : (m : ℕ) (ts : List Step) → m ≤ length ts → m ≤ length (ts ++ S ∷ [])
          longer zero ts le = omega arith
          longer (suc m) [] le = absurd (omega (arith, le))
          longer (suc m) (t ∷ ts) le = let z = longer m ts (omega (arith, le)) in omega (arith, z)

          is_some : Option (ℕ × ℕ) → Bool
          is_some None = false
          is_some (Some a) = true

          never : IsKeptAt ring (sums_of (variables ring) columns) (steps ++ S ∷ []) (set met c M) c
          never e = absurd (true≢false (sym (ap (λ (z : Met). is_some z.choice) (here_at M)) ∙ ap is_some e))

    pub meet_more : (steps' : List Step) (met' : List Met) → IsColumnSorted ring c u steps steps' met met' → AreMet ring columns order (k + 1) steps' met'
    meet_more steps' met' (inl (none, es, em)) =
        subst (λ z. AreMet ring columns order (k + 1) z met') (sym es) (subst (AreMet ring columns order (k + 1) steps) (sym em) (kept_more none))
    meet_more steps' met' (inr (row, inverse, residue, least, invert, below, es, em)) =
        subst (λ z. AreMet ring columns order (k + 1) z met') (sym es)
        (subst (AreMet ring columns order (k + 1) (steps ++ record { row = row; inverse = inverse; column = u } ∷ [])) (sym em)
        (step_more row inverse residue least invert below))

  -- ---- the end
  module _ (k : ℕ) (steps : List Step) (met : List Met) (h : AreMet ring columns (by_degree degrees (numbers_from 0 (length columns))) k steps met)
      (le : length (by_degree degrees (numbers_from 0 (length columns))) ≤ k) where
    abbrev order : List ℕ
    order = by_degree degrees (numbers_from 0 (length columns))

    abbrev C : List (Pivot (variables ring))
    C = pivots_after ring.modulus.value (column_of (sums_of (variables ring) columns)) (choice_at met) [] (numbers_from 0 (length met))

    all : take k order ≡ order
    all = take_all k order le

    sorted :
        AreChosen ring.modulus.value (column_of (sums_of (variables ring) columns)) (choice_at met) [] (numbers_from 0 (length met))
        × ((v : FormalSum (variables ring)) → IsSame ring.modulus.value (cleared_all ring steps v) (through ring.modulus.value C v))
    sorted =
        let p = ring.modulus.value in
        let q = sorted_chosen p pos ring.weights rows degrees (column_of F) graded_at (choice_at met) (numbers_from 0 (length columns)) [] tt
        (subst (AreChosen p (column_of F) (choice_at met) []) all h.chosen) in
        subst (λ n. AreChosen p (column_of F) (choice_at met) [] (numbers_from 0 n)
        × ((v : FormalSum (variables ring))
        → IsSame p (cleared_all ring steps v) (through p (pivots_after p (column_of F) (choice_at met) [] (numbers_from 0 n)) v)))
        (sym h.count) (
          q.0,
          λ v. IsSame_trans
              (subst (λ z. IsSame p (cleared_all ring steps v) (through p (pivots_after p (column_of F) (choice_at met) [] z) v)) all (h.alike v)) (q.1 v),
        )

    kept_all : Each (IsKeptAt ring (sums_of (variables ring) columns) steps met) (numbers_from 0 (length met))
    kept_all =
        subst (λ n. Each (IsKeptAt ring F steps met) (numbers_from 0 n)) (sym h.count)
        (each_unby _ degrees (numbers_from 0 (length columns)) (subst (Each (IsKeptAt ring F steps met)) all h.kept))

    finished_is :
        (out : List ℕ) (ms : List Met) (i : ℕ) → drop i met ≡ ms
        → Each (IsKeptAt ring (sums_of (variables ring) columns) steps met) (numbers_from i (length ms))
        → AreSameColumns ring.modulus.value (map (left ring C out) (kept_of (column_of (sums_of (variables ring) columns)) i ms))
        (finished_all ring steps out ms)
    finished_is out [] i e kept = record { count = refl; each = λ j. IsSame_refl ring.modulus.value _ }
    finished_is out (m ∷ ms) i e kept =
        let p = ring.modulus.value in
        let at : get_or met i not_met ≡ m = head_of met ms i m not_met e in
        go m.choice (subst (λ (z : Met). z.choice ≡ None
        → (z.since ≤ length steps)
        × IsSame p (cleared_all ring (drop z.since steps) (sum_of (variables ring) z.column)) (cleared_all ring steps (column_of F i))) at kept.0)
        refl (finished_is out ms (i + 1) (tail met ms i m e) kept.1)
      where
        go :
            (ch : Option (ℕ × ℕ))
            → (m.choice ≡ None → (m.since ≤ length steps)
            × IsSame ring.modulus.value (cleared_all ring (drop m.since steps) (sum_of (variables ring) m.column))
            (cleared_all ring steps (column_of (sums_of (variables ring) columns) i)))
            → m.choice ≡ ch → AreSameColumns ring.modulus.value (map (left ring C out) (kept_of (column_of (sums_of (variables ring) columns)) (i + 1) ms))
            (finished_all ring steps out ms)
            → AreSameColumns ring.modulus.value
            (map (left ring C out)
            (add_kept ch (column_of (sums_of (variables ring) columns) i) (kept_of (column_of (sums_of (variables ring) columns)) (i + 1) ms)))
            (add_kept ch (without_all out (cleared_all ring (drop m.since steps) (sum_of (variables ring) m.column))) (finished_all ring steps out ms))
        go (Some a) q e more = more
        go None q e more = same_first ring.modulus.value _ _ _ _
            (without_all_same pos out _ _ (IsSame_sym (IsSame_trans (q e).1 (sorted.1 (column_of F i))))) more

    -- the rows of the steps are those of the pivots by degree
    rows_by_degree :
        map (λ (s : Step). s.row) steps
        ≡ map (λ (s : Pivot (variables ring)). s.row)
        (pivots_after ring.modulus.value (column_of (sums_of (variables ring) columns)) (choice_at met) [] (by_degree degrees (numbers_from 0 (length met))))
    rows_by_degree =
        h.rows_are ∙ ap (λ z. map (λ (s : Pivot (variables ring)). s.row) (pivots_after ring.modulus.value (column_of F) (choice_at met) [] z))
        (all ∙ ap (λ i. by_degree degrees (numbers_from 0 i)) (sym h.count))

    pub pass_all :
        (passed : Passed) (numbers : List ℕ) → AreNumbered numbers 0 (map (λ (s : Step). s.row) steps)
        → HaveNoOthers numbers (map (λ (s : Step). s.row) steps) → length steps ≤ 18446744073709551615
        → LeaveNumbered numbers passed.rows → ((out : List ℕ) → ArePlacesAfter out passed.rows → AreFinished ring steps out met passed.columns)
        → ArePlacesAfter (indices_in_turn 0 met) passed.indices → IsPassed ring columns passed
    pass_all passed numbers numbered others few leave finish indices =
        let p = ring.modulus.value in
        let n = variables ring in
        let start : AreLeft ring F 0 [] [] [] [] = record {
          firsts = tt;
          same = subst (AreSameColumns p F) (sym (map_same F)) (record { count = refl; each = λ i. IsSame_refl p _ });
          none = tt;
          turned = tt;
          apart = tt;
          rows_are = refl;
        } in
        let size : 0 + length met ≡ length F = (let a = h.count in let b = length-map columns (λ w. sum_of n w) in omega (arith, a, b)) in
        let ends = canonical ring pos F met met 0 [] [] [] [] refl size start sorted.0 in
        let K = kept_of (column_of F) 0 met in
        let at = ends.kept_all in
        let turn = rows_told p (column_of F) (choice_at met) degrees (length met) (map (λ (s : Step). s.row) steps) rows_by_degree numbers numbered others
        (subst (λ z. z ≤ 18446744073709551615) (sym (length-map steps (λ (s : Step). s.row))) few) (rows_in_turn [] met) at.turned passed.rows leave in
        let f = finish (rows_in_turn [] met) turn in
        let through_end' : AreSameColumns p (left_by_all ring ends.pivots F) (map (left ring C (rows_in_turn [] met)) K) =
        subst (λ z. AreSameColumns p (left_by_all ring ends.pivots F) (map (left ring C (rows_in_turn [] met)) z))
        (ap (λ z. K ++ z) (drop_none F (length F) (omega arith)) ∙ append-nil K) at.same
        in
        let told = columns_trans p (map (left ring C (rows_in_turn [] met)) K) (finished_all ring steps (rows_in_turn [] met) met) (sums_of n passed.columns)
        (finished_is (rows_in_turn [] met) met 0 refl kept_all) f.same in
        let same = columns_trans p (left_by_all ring ends.pivots F) (map (left ring C (rows_in_turn [] met)) K) (sums_of n passed.columns) through_end' told in
        record {
          pivots = ends.pivots;
          firsts = at.firsts;
          same = same;
          vectors = f.vectors;
          none = λ c r q. no_constant_at p _ r (none_left ring pos F C (rows_in_turn [] met) K at.none c)
              (constant_there p _ _ r (IsSame_sym (told.each c)) q);
          rows = subst (λ z. ArePlacesAfter z passed.rows) (sym at.rows_are) turn;
          indices = subst (λ z. ArePlacesAfter z passed.indices) (sym ends.indices_are) indices;
        }
