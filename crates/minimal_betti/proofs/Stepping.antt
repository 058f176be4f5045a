-- Steps on a map, and what they leave of the maps before and after it
use Rattle.std.specs.Prelude.{drop}
use Rattle.std.proofs.Common.{List, [], ap, ap₂, arith, get_or, inl, inr, length, map, refl, reverse, subst, suc, sym, zero, ℕ, ◌*◌, ◌++◌, ◌<◌, ◌∙◌, ◌∷◌, ◌≡◌}
use Rattle.std.proofs.lemmas.List.{map-append, reverse-append}
use Rattle.residues.specs.Residues.{IsCongruent}
use Rattle.monomials.specs.Exponents.{unit}
use Rattle.formal_sums.proofs.Sameness.{IsSame_refl}
use Rattle.formal_sums.specs.FormalSums.{Each, coefficient}
use Rattle.minimal_laws.proofs.Clearing.{get_or-remove_at}
use Rattle.minimal_laws.proofs.Grading.{split_graded}
use Rattle.minimal_laws.proofs.OneCancellation.{same_maps_trans}
use Rattle.minimal_laws.proofs.Rows.{skip}
use Rattle.minimal_laws.proofs.SameMaps.{same_graded}
use Rattle.minimal_laws.proofs.Searching.{same_maps_itself}
use Rattle.minimal_laws.specs.Cancellation.{AreSameColumns, AreSameMaps, IsCancelled, IsFirstConstant, remove_at, split, split_map, step}
use Rattle.minimal_laws.specs.Cancellation.{without_row, without_rows}
use Rattle.minimal_laws.specs.Gradings.{AreGraded, GradedMap, GradedMaps, first_columns}
use Rattle.minimal_laws.specs.Minimal.{HasConstant, IsConstantAt}
use Rattle.term_lists.specs.Rings.{ring_comparison, variables}
use Rattle.term_lists.specs.Vectors.{AreVectorsOver, sum_of, sums_of}
use Rattle.term_lists.specs.declared.key.Key.{Key as CodeKey}
use Rattle.term_lists.specs.declared.ring.Ring.{Ring}
use Rattle.column_passes.proofs.Applying.{constant_there, split_columns_same}
use Rattle.column_passes.proofs.Lists.{all_append, each_left, each_mapped, each_right, each_unmapped, map_same}
use Rattle.column_passes.specs.Constants.{HasNoConstants}
use Rattle.column_passes.specs.Passing.{AreFirstSteps, IsFirstStep, Pivot, left_by, left_by_all}
use Rattle.column_passes.specs.Placing.{all_removed, without_all}
use Rattle.minimal_betti.specs.Carried.{AreOrdered, LeadsTo, graded_map, graded_maps}
use Rattle.minimal_betti.specs.Minimising.{IsCancellationReached}
use Rattle.minimal_betti.specs.Splitting.{IsCancellationUnderway, IsFormerLeft, IsNextLeft, in_turn}
use Rattle.minimal_betti.specs.declared.carried.Carried.{Carried}
use Rattle.minimal_betti.proofs.Reaching.{leads_itself, leads_on}

-- ---- lists
pub map_map : {X Y Z : Type 0} (g : Y → Z) (f : X → Y) (xs : List X) → map g (map f xs) ≡ map (λ x. g (f x)) xs
map_map g f [] = refl
map_map g f (x ∷ xs) = ap (λ ys. g (f x) ∷ ys) (map_map g f xs)

pub map-remove_at : {X Y : Type 0} (f : X → Y) (c : ℕ) (xs : List X) → map f (remove_at c xs) ≡ remove_at c (map f xs)
map-remove_at f c [] = refl
map-remove_at f zero (x ∷ xs) = refl
map-remove_at f (suc c) (x ∷ xs) = ap (λ r. f x ∷ r) (map-remove_at f c xs)

pub map-all_removed : {X Y : Type 0} (f : X → Y) (places : List ℕ) (xs : List X) → map f (all_removed places xs) ≡ all_removed places (map f xs)
map-all_removed f [] xs = refl
map-all_removed f (c ∷ places) xs = map-all_removed f places (remove_at c xs) ∙ ap (all_removed places) (map-remove_at f c xs)

each_removed : {X : Type 0} (P : X → Type 0) (c : ℕ) (xs : List X) → Each P xs → Each P (remove_at c xs)
each_removed P c [] h = tt
each_removed P zero (x ∷ xs) h = h.1
each_removed P (suc c) (x ∷ xs) h = (h.0, each_removed P c xs h.1)

pub each_all_removed : {X : Type 0} (P : X → Type 0) (places : List ℕ) (xs : List X) → Each P xs → Each P (all_removed places xs)
each_all_removed P [] xs h = h
each_all_removed P (c ∷ places) xs h = each_all_removed P places (remove_at c xs) (each_removed P c xs h)

-- ---- graded maps
module _ {n : ℕ} (p : ℕ) where
  -- the last map without its column r, or the positions without theirs
  abbrev pub fewer : ℕ → GradedMap n → GradedMap n
  fewer r M = record { columns = remove_at r M.columns; degrees = remove_at r M.degrees }

  abbrev pub lose_last : ℕ → GradedMap n → List (GradedMap n) → List (GradedMap n)
  lose_last r M [] = fewer r M ∷ []
  lose_last r M (L ∷ done) = M ∷ lose_last r L done

  abbrev pub lose : ℕ → List ℕ → List (GradedMap n) → List ℕ × List (GradedMap n)
  lose r rows [] = (remove_at r rows, [])
  lose r rows (M ∷ done) = (rows, lose_last r M done)

  abbrev pub lose_all : List ℕ → List ℕ → List (GradedMap n) → List ℕ × List (GradedMap n)
  lose_all [] rows done = (rows, done)
  lose_all (r ∷ rs) rows done = lose_all rs (lose r rows done).0 (lose r rows done).1

  -- the next map without rows in turn
  abbrev pub lower_all : List ℕ → List (GradedMap n) → List (GradedMap n)
  lower_all [] tail = tail
  lower_all (c ∷ cs) tail = lower_all cs (without_rows c tail)

  split_behind :
      (c r s : ℕ) (rows : List ℕ) (D : GradedMap n) (done : List (GradedMap n)) (M : GradedMap n) (tail : List (GradedMap n))
      → split p (suc (length done)) r c s rows (D ∷ (done ++ M ∷ tail)) ≡ (rows, lose_last r D done ++ split_map p r c s M ∷ without_rows c tail)
  split_behind c r s rows D [] M tail = refl
  split_behind c r s rows D (L ∷ done) M tail =
      ap (λ (z : List ℕ × List (GradedMap n)). (rows, record { columns = D.columns; degrees = z.0 } ∷ z.1)) (split_behind c r s D.degrees L done M tail)

  split_at :
      (c r s : ℕ) (rows : List ℕ) (done : List (GradedMap n)) (M : GradedMap n) (tail : List (GradedMap n))
      → split p (length done) r c s rows (done ++ M ∷ tail) ≡ ((lose r rows done).0, (lose r rows done).1 ++ split_map p r c s M ∷ without_rows c tail)
  split_at c r s rows [] M tail = refl
  split_at c r s rows (D ∷ done) M tail = split_behind c r s rows D done M tail

  pub same_maps_between :
      (xs : List (GradedMap n)) (A B : GradedMap n) (ys : List (GradedMap n)) → A.degrees ≡ B.degrees → AreSameColumns p A.columns B.columns
      → AreSameMaps p (xs ++ A ∷ ys) (xs ++ B ∷ ys)
  same_maps_between [] A B ys e h = (e, h, same_maps_itself p ys)
  same_maps_between (x ∷ xs) A B ys e h = (refl, record { count = refl; each = λ i. IsSame_refl p _ }, same_maps_between xs A B ys e h)

  -- ---- the first constant
  to_here : (done : List (GradedMap n)) (M : GradedMap n) (tail : List (GradedMap n)) (c r : ℕ) → HasConstant p (done ++ M ∷ tail) (length done) c r
      → IsConstantAt p (get_or M.columns c []) r
  to_here [] M tail c r h = h.1
  to_here (D ∷ done) M tail c r h = to_here done M tail c r h

  from_here : (done : List (GradedMap n)) (M : GradedMap n) (tail : List (GradedMap n)) (c r : ℕ) → c < length M.columns
      → IsConstantAt p (get_or M.columns c []) r → HasConstant p (done ++ M ∷ tail) (length done) c r
  from_here [] M tail c r lt h = (lt, h)
  from_here (D ∷ done) M tail c r lt h = from_here done M tail c r lt h

  none_before :
      (done : List (GradedMap n)) (M : GradedMap n) (tail : List (GradedMap n)) → Each (λ D. HasNoConstants p D.columns) done
      → (l b q : ℕ) → l < length done → HasConstant p (done ++ M ∷ tail) l b q → ⊥
  none_before [] M tail none l b q lt h = omega (arith, lt)
  none_before (D ∷ done) M tail none zero b q lt h = none.0 b q h.1
  none_before (D ∷ done) M tail none (suc l) b q lt h = none_before done M tail none.1 l b q (omega (arith, lt)) h

  pub first_in :
      (done : List (GradedMap n)) (M : GradedMap n) (tail : List (GradedMap n)) (c r : ℕ) → Each (λ D. HasNoConstants p D.columns) done
      → c < length M.columns → IsConstantAt p (get_or M.columns c []) r
      → ((b q : ℕ) → b < c → IsConstantAt p (get_or M.columns b []) q → ⊥) → ((q : ℕ) → q < r → IsConstantAt p (get_or M.columns c []) q → ⊥)
      → IsFirstConstant p (done ++ M ∷ tail) (length done) c r
  first_in done M tail c r none lt constant column row = record {
    constant = from_here done M tail c r lt constant;
    first_map = λ l b q less h. none_before done M tail none l b q less h;
    first_column = λ b q less h. column b q less (to_here done M tail b q h);
    first_row = λ q less h. row q less (to_here done M tail c q h);
  }

  pub columns_in : (done : List (GradedMap n)) (M : GradedMap n) (tail : List (GradedMap n))
      → first_columns (drop (length done) (done ++ M ∷ tail)) ≡ M.columns
  columns_in [] M tail = refl
  columns_in (D ∷ done) M tail = columns_in done M tail

  none_fewer : (r : ℕ) (M : GradedMap n) → HasNoConstants p M.columns → HasNoConstants p (remove_at r M.columns)
  none_fewer r M h c q k = h (skip r c) q (subst (λ v. IsConstantAt p v q) (get_or-remove_at r M.columns c []) k)

  none_last : (r : ℕ) (M : GradedMap n) (done : List (GradedMap n)) → HasNoConstants p M.columns → Each (λ D. HasNoConstants p D.columns) done
      → Each (λ D. HasNoConstants p D.columns) (lose_last r M done)
  none_last r M [] h none = (none_fewer r M h, tt)
  none_last r M (L ∷ done) h none = (h, none_last r L done none.0 none.1)

  none_lost : (r : ℕ) (rows : List ℕ) (done : List (GradedMap n)) → Each (λ D. HasNoConstants p D.columns) done → Each (λ D. HasNoConstants p D.columns) (lose r rows done).1
  none_lost r rows [] none = tt
  none_lost r rows (M ∷ done) none = none_last r M done none.0 none.1

  pub none_all_lost : (rs rows : List ℕ) (done : List (GradedMap n)) → Each (λ D. HasNoConstants p D.columns) done
      → Each (λ D. HasNoConstants p D.columns) (lose_all rs rows done).1
  none_all_lost [] rows done none = none
  none_all_lost (r ∷ rs) rows done none = none_all_lost rs (lose r rows done).0 (lose r rows done).1 (none_lost r rows done none)

  -- ---- what is lost in turn
  lose_last_end : (r : ℕ) (x : GradedMap n) (xs : List (GradedMap n)) (M : GradedMap n) → lose_last r x (xs ++ M ∷ []) ≡ x ∷ (xs ++ fewer r M ∷ [])
  lose_last_end r x [] M = refl
  lose_last_end r x (y ∷ xs) M = ap (λ z. x ∷ z) (lose_last_end r y xs M)

  lose_end : (r : ℕ) (rows : List ℕ) (xs : List (GradedMap n)) (M : GradedMap n) → lose r rows (xs ++ M ∷ []) ≡ (rows, xs ++ fewer r M ∷ [])
  lose_end r rows [] M = refl
  lose_end r rows (x ∷ xs) M = ap (λ z. (rows, z)) (lose_last_end r x xs M)

  pub lose_all_end :
      (rs rows : List ℕ) (xs : List (GradedMap n)) (M : GradedMap n)
      → lose_all rs rows (xs ++ M ∷ []) ≡ (rows, xs ++ record { columns = all_removed rs M.columns; degrees = all_removed rs M.degrees } ∷ [])
  lose_all_end [] rows xs M = refl
  lose_all_end (r ∷ rs) rows xs M = ap (λ (z : List ℕ × List (GradedMap n)). lose_all rs z.0 z.1) (lose_end r rows xs M) ∙ lose_all_end rs rows xs (fewer r M)

  pub lose_all_none : (rs rows : List ℕ) → lose_all rs rows [] ≡ (all_removed rs rows, [])
  lose_all_none [] rows = refl
  lose_all_none (r ∷ rs) rows = lose_all_none rs (remove_at r rows)

  pub lower_all_none : (cs : List ℕ) → lower_all cs [] ≡ []
  lower_all_none [] = refl
  lower_all_none (c ∷ cs) = lower_all_none cs

  pub lower_all_next :
      (cs : List ℕ) (M : GradedMap n) (tail : List (GradedMap n))
      → lower_all cs (M ∷ tail) ≡ record { columns = map (λ v. without_all cs v) M.columns; degrees = M.degrees } ∷ tail
  lower_all_next [] M tail = ap (λ F. record { columns = F; degrees = M.degrees } ∷ tail) (sym (map_same M.columns))
  lower_all_next (c ∷ cs) M tail =
      lower_all_next cs (record { columns = map (without_row c) M.columns; degrees = M.degrees }) tail
      ∙ ap (λ F. record { columns = F; degrees = M.degrees } ∷ tail) (map_map (λ v. without_all cs v) (without_row c) M.columns)

-- ---- the maps after steps
module _ (ring : Ring) where
  -- what one list of maps leads to, graded as it is
  abbrev pub Becomes : GradedMaps (variables ring) → GradedMaps (variables ring) → Type 0
  Becomes C E = LeadsTo ring.modulus.value C E
      × (AreGraded ring.weights ring.modulus.value C.positions C.maps → AreGraded ring.weights ring.modulus.value E.positions E.maps)

  one_step :
      0 < ring.modulus.value
      → (rows : List ℕ) (done : List (GradedMap (variables ring))) (M : GradedMap (variables ring)) (tail others : List (GradedMap (variables ring)))
      (s : Pivot (variables ring))
      → Each (λ D. HasNoConstants ring.modulus.value D.columns) done → IsFirstStep ring M.columns s
      → AreSameMaps ring.modulus.value
      ((lose ring.modulus.value s.row rows done).1 ++ record { columns = left_by ring s M.columns; degrees = remove_at s.index M.degrees } ∷ without_rows
      s.index tail) others
      → Becomes (record { positions = rows; maps = done ++ M ∷ tail }) (record { positions = (lose ring.modulus.value s.row rows done).0; maps = others })
  one_step pos rows done M tail others s none f same =
      let p = ring.modulus.value in
      let maps = done ++ M ∷ tail in
      let q = split_at p s.index s.row s.inverse rows done M tail in
      let lost = (lose p s.row rows done).1 in
      let places : (split p (length done) s.row s.index s.inverse rows maps).0 ≡ (lose p s.row rows done).0 =
      ap (λ (z : List ℕ × List (GradedMap (variables ring))). z.0) q in
      let through : AreSameMaps p (split p (length done) s.row s.index s.inverse rows maps).1 others =
      subst (λ z. AreSameMaps p z others) (sym (ap (λ (z : List ℕ × List (GradedMap (variables ring))). z.1) q))
      (same_maps_trans p _ _ others
      (same_maps_between p lost (split_map p s.row s.index s.inverse M)
      (record { columns = left_by ring s M.columns; degrees = remove_at s.index M.degrees }) (without_rows s.index tail) refl
      (split_columns_same ring pos s M.columns M.degrees f)) same)
      in
      let first = first_in p done M tail s.index s.row none f.inside f.constant f.first_column f.first_row in
      let inverse = subst (λ F. IsCongruent p (s.inverse * coefficient (get_or F s.index []) (s.row, unit (variables ring))) 1)
      (sym (columns_in p done M tail)) f.inverse in (
        record {
          cancelled = λ D more.
              step rows maps others D (length done) s.index s.row s.inverse first inverse through
              (subst (λ z. IsCancelled p (record { positions = z; maps = others }) D) (sym places) more);
          reached = λ E r.
              let on : IsCancellationReached p (record { positions = (split p (length done) s.row s.index s.inverse rows maps).0; maps = others }) E =
              subst (λ z. IsCancellationReached p (record { positions = z; maps = others }) E) (sym places) r in
              (on.0, step rows maps others on.0 (length done) s.index s.row s.inverse first inverse through on.1, inr on.2);
        },
        λ graded.
            subst (λ z. AreGraded ring.weights p z others) places
            (same_graded p pos ring.weights _ _ others through
            (split_graded p (length done) s.index s.row s.inverse ring.weights rows maps first.constant graded)),
      )

  all_steps :
      0 < ring.modulus.value
      → (s : Pivot (variables ring)) (steps : List (Pivot (variables ring))) (rows : List ℕ) (done : List (GradedMap (variables ring)))
      (M : GradedMap (variables ring)) (tail others : List (GradedMap (variables ring)))
      → Each (λ D. HasNoConstants ring.modulus.value D.columns) done → AreFirstSteps ring M.columns (s ∷ steps)
      → AreSameMaps ring.modulus.value
      ((lose_all ring.modulus.value (map (λ (t : Pivot (variables ring)). t.row) (s ∷ steps)) rows done).1
      ++ record {
        columns = left_by_all ring (s ∷ steps) M.columns;
        degrees =
            all_removed (map (λ (t : Pivot (variables ring)). t.index) (s ∷ steps)) M.degrees;
      }
      ∷ lower_all ring.modulus.value (map (λ (t : Pivot (variables ring)). t.index) (s ∷ steps)) tail) others
      → Becomes (record { positions = rows; maps = done ++ M ∷ tail })
      (record { positions = (lose_all ring.modulus.value (map (λ (t : Pivot (variables ring)). t.row) (s ∷ steps)) rows done).0; maps = others })
  all_steps pos s [] rows done M tail others none f same = one_step pos rows done M tail others s none f.0 same
  all_steps pos s (t ∷ steps) rows done M tail others none f same =
      let p = ring.modulus.value in
      let lost = lose p s.row rows done in
      let M' : GradedMap (variables ring) = record { columns = left_by ring s M.columns; degrees = remove_at s.index M.degrees } in
      let tail' = without_rows s.index tail in
      let a = one_step pos rows done M tail (lost.1 ++ M' ∷ tail') s none f.0 (same_maps_itself p (lost.1 ++ M' ∷ tail')) in
      let b = all_steps pos t steps lost.0 lost.1 M' tail' others (none_lost p s.row rows done none) f.1 same in
      (leads_on p _ _ _ a.0 b.0, λ g. b.1 (a.1 g))

  -- the same, of no step too
  pub any_steps :
      0 < ring.modulus.value
      → (steps : List (Pivot (variables ring))) (rows : List ℕ) (done : List (GradedMap (variables ring))) (M : GradedMap (variables ring))
      (tail : List (GradedMap (variables ring)))
      → Each (λ D. HasNoConstants ring.modulus.value D.columns) done → AreFirstSteps ring M.columns steps
      → Becomes (record { positions = rows; maps = done ++ M ∷ tail })
      (record {
        positions = (lose_all ring.modulus.value (map (λ (t : Pivot (variables ring)). t.row) steps) rows done).0;
        maps =
            (lose_all ring.modulus.value (map (λ (t : Pivot (variables ring)). t.row) steps) rows done).1
            ++ record {
              columns = left_by_all ring steps M.columns;
              degrees = all_removed (map (λ (t : Pivot (variables ring)). t.index) steps) M.degrees;
            }
            ∷ lower_all ring.modulus.value (map (λ (t : Pivot (variables ring)). t.index) steps) tail;
      })
  any_steps pos [] rows done M tail none f = (leads_itself ring.modulus.value (record { positions = rows; maps = done ++ M ∷ tail }), λ g. g)
  any_steps pos (s ∷ steps) rows done M tail none f = all_steps pos s steps rows done M tail _ none f (same_maps_itself ring.modulus.value _)

  -- ---- the maps in the code
  abbrev G : Carried → GradedMap (variables ring)
  G m = graded_map (variables ring) m

  former_lost :
      (rs rows rows' : List ℕ) (done done' : List Carried) → IsFormerLeft rs rows rows' done done'
      → lose_all ring.modulus.value rs rows (map (graded_map (variables ring)) done) ≡ (rows', map (graded_map (variables ring)) done')
  former_lost rs rows rows' done done' (inl (e, e', er)) =
      let p = ring.modulus.value in
      ap (λ z. lose_all p rs rows (map G z)) e ∙ lose_all_none p rs rows ∙ ap₂ (λ y z. (y, map G z)) (sym er) (sym e')
  former_lost rs rows rows' done done' (inr (before, last, last', e, e', f, er)) =
      let p = ring.modulus.value in
      let n = variables ring in
      let columns : sums_of n last'.columns ≡ all_removed rs (sums_of n last.columns) = ap (sums_of n) f.columns
      ∙ map-all_removed (λ v. sum_of n v) rs last.columns in
      let at : G last' ≡ record { columns = all_removed rs (sums_of n last.columns); degrees = all_removed rs last.degrees.items } =
      ap₂ (λ y z. record { columns = y; degrees = z }) columns f.degrees in
      ap (lose_all p rs rows) (ap (map G) e ∙ map-append G before (last ∷ [])) ∙ lose_all_end p rs rows (map G before) (G last)
      ∙ ap₂ (λ y z. (y, map G before ++ z ∷ [])) (sym er) (sym at) ∙ ap (λ z. (rows', z)) (sym (ap (map G) e' ∙ map-append G before (last' ∷ [])))

  next_lowered :
      (cs : List ℕ) (rest rest' : List Carried) → IsNextLeft ring cs rest rest'
      → lower_all ring.modulus.value cs (map (graded_map (variables ring)) (reverse rest)) ≡ map (graded_map (variables ring)) (reverse rest')
  next_lowered cs rest rest' (inl (e, e')) =
      let p = ring.modulus.value in
      ap (λ z. lower_all p cs (map G (reverse z))) e ∙ lower_all_none p cs ∙ ap (λ z. map G (reverse z)) (sym e')
  next_lowered cs rest rest' (inr (before, next, next', e, e', w, d)) =
      let p = ring.modulus.value in
      ap (λ z. lower_all p cs (map G z)) (ap reverse e ∙ reverse-append before (next ∷ [])) ∙ lower_all_next p cs (G next) (map G (reverse before))
      ∙ ap₂ (λ y (z : List ℕ). record { columns = y; degrees = z } ∷ map G (reverse before)) (sym w.same) (ap (λ z. z.items) (sym d))
      ∙ ap (map G) (sym (ap reverse e' ∙ reverse-append before (next' ∷ [])))

  abbrev HasVectors : Carried → Type 0
  HasVectors m = AreVectorsOver ring (ring_comparison ring) m.columns

  former_ordered : (rs rows rows' : List ℕ) (done done' : List Carried) → IsFormerLeft rs rows rows' done done' → AreOrdered ring done → AreOrdered ring done'
  former_ordered rs rows rows' done done' (inl (e, e', er)) o = subst (AreOrdered ring) (sym e') tt
  former_ordered rs rows rows' done done' (inr (before, last, last', e, e', f, er)) o =
      let q : Each HasVectors (before ++ last ∷ []) = subst (Each HasVectors) e o in
      subst (Each HasVectors) (sym e')
      (all_append HasVectors before (last' ∷ []) (each_left HasVectors before (last ∷ []) q) (
        subst (λ F. AreVectorsOver ring (ring_comparison ring) F) (sym f.columns)
            (each_all_removed _ rs last.columns (each_right HasVectors before (last ∷ []) q).0),
        tt,
      ))

  next_ordered : (cs : List ℕ) (rest rest' : List Carried) → IsNextLeft ring cs rest rest' → AreOrdered ring (reverse rest) → AreOrdered ring (reverse rest')
  next_ordered cs rest rest' (inl (e, e')) o = subst (λ z. AreOrdered ring (reverse z)) (sym e') tt
  next_ordered cs rest rest' (inr (before, next, next', e, e', w, d)) o =
      subst (Each HasVectors) (sym (ap reverse e' ∙ reverse-append before (next' ∷ [])))
      (w.vectors, (subst (Each HasVectors) (ap reverse e ∙ reverse-append before (next ∷ [])) o).1)

  -- ---- the maps after the steps on the map at hand
  module _ (pos : 0 < ring.modulus.value) (cur m : Carried) (s : Pivot (variables ring)) (steps : List (Pivot (variables ring)))
      (firsts : AreFirstSteps ring (sums_of (variables ring) cur.columns) (s ∷ steps))
      (same : AreSameColumns ring.modulus.value (left_by_all ring (s ∷ steps) (sums_of (variables ring) cur.columns)) (sums_of (variables ring) m.columns))
      (vectors : AreVectorsOver ring (ring_comparison ring) m.columns)
      (degrees : m.degrees.items ≡ all_removed (map (λ (t : Pivot (variables ring)). t.index) (s ∷ steps)) cur.degrees.items)
      (rows rows' : List ℕ) (done done' rest rest' : List Carried)
      (former : IsFormerLeft (map (λ (t : Pivot (variables ring)). t.row) (s ∷ steps)) rows rows' done done')
      (next : IsNextLeft ring (map (λ (t : Pivot (variables ring)). t.index) (s ∷ steps)) rest rest')
      (u : IsCancellationUnderway ring rows done (in_turn done cur rest)) where
    in_maps : (ds : List Carried) (c : Carried) (rs : List Carried)
        → map (graded_map (variables ring)) (in_turn ds c rs) ≡ map (graded_map (variables ring)) ds ++ graded_map (variables ring) c ∷ map
        (graded_map (variables ring)) (reverse rs)
    in_maps ds c rs = map-append G ds (c ∷ reverse rs)

    lost : lose_all ring.modulus.value (map (λ (t : Pivot (variables ring)). t.row) (s ∷ steps)) rows (map (graded_map (variables ring)) done) ≡
        (rows', map (graded_map (variables ring)) done')
    lost = former_lost (map (λ (t : Pivot (variables ring)). t.row) (s ∷ steps)) rows rows' done done' former

    none_graded : Each (λ (D : GradedMap (variables ring)). HasNoConstants ring.modulus.value D.columns) (map (graded_map (variables ring)) done)
    none_graded = each_mapped (λ (D : GradedMap (variables ring)). HasNoConstants ring.modulus.value D.columns) G done u.none

    all_same :
        AreSameMaps ring.modulus.value
        ((lose_all ring.modulus.value (map (λ (t : Pivot (variables ring)). t.row) (s ∷ steps)) rows (map (graded_map (variables ring)) done)).1
        ++ record {
          columns = left_by_all ring (s ∷ steps) (sums_of (variables ring) cur.columns);
          degrees =
              all_removed (map (λ (t : Pivot (variables ring)). t.index) (s ∷ steps)) cur.degrees.items;
        }
        ∷ lower_all ring.modulus.value (map (λ (t : Pivot (variables ring)). t.index) (s ∷ steps)) (map (graded_map (variables ring)) (reverse rest)))
        (map (graded_map (variables ring)) (in_turn done' m rest'))
    all_same =
        let p = ring.modulus.value in
        let cs = map (λ (t : Pivot (variables ring)). t.index) (s ∷ steps) in
        let A : GradedMap (variables ring) =
        record { columns = left_by_all ring (s ∷ steps) (sums_of (variables ring) cur.columns); degrees = all_removed cs cur.degrees.items } in
        subst (λ z. AreSameMaps p
        ((lose_all p (map (λ (t : Pivot (variables ring)). t.row) (s ∷ steps)) rows (map G done)).1 ++ A ∷ lower_all p cs (map G (reverse rest))) z)
        (sym (in_maps done' m rest'))
        (subst (λ (z : List ℕ × List (GradedMap (variables ring))). AreSameMaps p (z.1 ++ A ∷ lower_all p cs (map G (reverse rest)))
        (map G done' ++ G m ∷ map G (reverse rest'))) (sym lost)
        (subst (λ z. AreSameMaps p (map G done' ++ A ∷ z) (map G done' ++ G m ∷ map G (reverse rest'))) (sym (next_lowered cs rest rest' next))
        (same_maps_between p (map G done') A (G m) (map G (reverse rest')) (sym degrees) same)))

    become : Becomes (graded_maps ring rows (in_turn done cur rest)) (graded_maps ring rows' (in_turn done' m rest'))
    become =
        let p = ring.modulus.value in
        let E = map G (in_turn done' m rest') in
        subst (λ z. Becomes (record { positions = rows; maps = z }) (record { positions = rows'; maps = E })) (sym (in_maps done cur rest))
        (subst (λ z. Becomes (record { positions = rows; maps = map G done ++ G cur ∷ map G (reverse rest) }) (record { positions = z; maps = E }))
        (ap (λ (z : List ℕ × List (GradedMap (variables ring))). z.0) lost)
        (all_steps pos s steps rows (map G done) (G cur) (map G (reverse rest)) E none_graded firsts all_same))

    pub steps_lead : LeadsTo ring.modulus.value (graded_maps ring rows (in_turn done cur rest)) (graded_maps ring rows' (in_turn done' m rest'))
    steps_lead = become.0

    pub steps_underway : IsCancellationUnderway ring rows' done' (in_turn done' m rest')
    steps_underway = record {
      ordered = all_append HasVectors done' (m ∷ reverse rest')
          (former_ordered (map (λ (t : Pivot (variables ring)). t.row) (s ∷ steps)) rows rows' done done' former
          (each_left HasVectors done (cur ∷ reverse rest) u.ordered)) (
            vectors,
            next_ordered (map (λ (t : Pivot (variables ring)). t.index) (s ∷ steps)) rest rest' next
                (each_right HasVectors done (cur ∷ reverse rest) u.ordered).1,
          );
      graded = become.1 u.graded;
      none = each_unmapped (λ (D : GradedMap (variables ring)). HasNoConstants ring.modulus.value D.columns) G done'
          (subst (λ (z : List ℕ × List (GradedMap (variables ring))). Each (λ (D : GradedMap (variables ring)). HasNoConstants ring.modulus.value D.columns) z.1) lost
          (none_all_lost ring.modulus.value (map (λ (t : Pivot (variables ring)). t.row) (s ∷ steps)) rows (map G done) none_graded));
    }

  -- as the pass gives them
  pub passed_leads :
      0 < ring.modulus.value → (cur m : Carried) (steps : List (Pivot (variables ring))) → 0 < length steps
      → AreFirstSteps ring (sums_of (variables ring) cur.columns) steps
      → AreSameColumns ring.modulus.value (left_by_all ring steps (sums_of (variables ring) cur.columns)) (sums_of (variables ring) m.columns)
      → AreVectorsOver ring (ring_comparison ring) m.columns
      → m.degrees.items ≡ all_removed (map (λ (t : Pivot (variables ring)). t.index) steps) cur.degrees.items
      → (rows rows' : List ℕ) (done done' rest rest' : List Carried) → IsFormerLeft (map (λ (t : Pivot (variables ring)). t.row) steps) rows rows' done done'
      → IsNextLeft ring (map (λ (t : Pivot (variables ring)). t.index) steps) rest rest' → IsCancellationUnderway ring rows done (in_turn done cur rest)
      → LeadsTo ring.modulus.value (graded_maps ring rows (in_turn done cur rest)) (graded_maps ring rows' (in_turn done' m rest'))
      × IsCancellationUnderway ring rows' done' (in_turn done' m rest')
  passed_leads pos cur m [] lt firsts same vectors degrees rows rows' done done' rest rest' former next u = absurd (omega (arith, lt))
  passed_leads pos cur m (s ∷ steps) lt firsts same vectors degrees rows rows' done done' rest rest' former next u = (
    steps_lead pos cur m s steps firsts same vectors degrees rows rows' done done' rest rest' former next u,
    steps_underway pos cur m s steps firsts same vectors degrees rows rows' done done' rest rest' former next u,
  )

  -- a map without constants has no step
  pub no_step_none :
      (cur columns : List (List (CodeKey × ℕ))) (steps : List (Pivot (variables ring))) → steps ≡ []
      → AreSameColumns ring.modulus.value (left_by_all ring steps (sums_of (variables ring) cur)) (sums_of (variables ring) columns)
      → HasNoConstants ring.modulus.value (sums_of (variables ring) columns) → HasNoConstants ring.modulus.value (sums_of (variables ring) cur)
  no_step_none cur columns steps e same none =
      let n = variables ring in
      let q = subst (λ z. AreSameColumns ring.modulus.value (left_by_all ring z (sums_of n cur)) (sums_of n columns)) e same in
      λ c r h. none c r (constant_there ring.modulus.value _ _ r (q.each c) h)
