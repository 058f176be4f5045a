-- What a cancellation comes to
use Rattle.std.specs.Prelude.{drop}
use Rattle.std.proofs.Common.{List, [], inl, inr, refl, subst, suc, sym, zero, ℕ, ◌<◌, ◌∙◌, ◌∷◌, ◌≡◌}
use Rattle.residues.proofs.Congruences.{IsCongruent_multiply, IsCongruent_refl, IsCongruent_trans}
use Rattle.residues.specs.Residues.{IsDomain}
use Rattle.monomials.specs.Exponents.{unit}
use Rattle.formal_sums.proofs.Sameness.{IsSame_refl, IsSame_trans}
use Rattle.minimal_laws.proofs.OneCancellation.{same_maps_sym, same_maps_trans, split_same}
use Rattle.minimal_laws.proofs.Searching.{cancellation_exists, same_maps_itself}
use Rattle.minimal_laws.specs.Cancellation.{AreSameColumns, AreSameMaps, IsCancelled, IsFirstConstant, done, split, step}
use Rattle.minimal_laws.specs.Gradings.{GradedMap, GradedMaps, first_columns}
use Rattle.minimal_laws.specs.Minimal.{HasConstant}
use Rattle.term_lists.specs.Rings.{variables}
use Rattle.term_lists.specs.declared.ring.Ring.{Ring}
use Rattle.module_vectors.specs.declared.trail.WorkStop.{WorkStop}
use Rattle.module_vectors.specs.declared.trail.WorkStop.TheVariants.{Degree, Memory}
use Rattle.column_passes.proofs.Applying.{constant_there}
use Rattle.minimal_betti.specs.Carried.{LeadsTo}
use Rattle.minimal_betti.specs.Minimising.{CancellationStops, GoesThrough, IsCancellationReached}

module _ {n : ℕ} (p : ℕ) where
  starts : (C D : GradedMaps n) (c : IsCancelled p C D) → GoesThrough c C
  starts _ _ (done rows maps none) = refl
  starts _ _ (step rows maps others D k c r s first inverse same more) = inl refl

  -- each list of maps is reached from itself
  pub reached_itself : IsDomain p → (C : GradedMaps n) → IsCancellationReached p C C
  reached_itself domain C = let e = cancellation_exists p domain C in (e.0, e.1, starts C e.0 e.1)

  pub leads_itself : (C : GradedMaps n) → LeadsTo p C C
  leads_itself C = record { cancelled = λ D c. c; reached = λ maps r. r }

  pub leads_on : (B C E : GradedMaps n) → LeadsTo p B C → LeadsTo p C E → LeadsTo p B E
  leads_on B C E a b = record { cancelled = λ D c. a.cancelled D (b.cancelled D c); reached = λ maps r. a.reached maps (b.reached maps r) }

  -- ---- from the same maps
  pub has_there : (maps others : List (GradedMap n)) (k c r : ℕ) → AreSameMaps p maps others → HasConstant p maps k c r → HasConstant p others k c r
  has_there [] others k c r e h = elim h [ ]
  has_there (M ∷ maps) [] k c r e h = elim e [ ]
  has_there (M ∷ maps) (N ∷ others) zero c r e h = (subst (λ m. c < m) e.1.count h.0, constant_there p _ _ r (e.1.each c) h.1)
  has_there (M ∷ maps) (N ∷ others) (suc k) c r e h = has_there maps others k c r e.2 h

  first_there : (maps others : List (GradedMap n)) (k c r : ℕ) → AreSameMaps p maps others → IsFirstConstant p maps k c r → IsFirstConstant p others k c r
  first_there maps others k c r e f =
      let back = λ (l b q : ℕ). has_there others maps l b q (same_maps_sym p maps others e) in
      record {
        constant = has_there maps others k c r e f.constant;
        first_map = λ l b q lt h. f.first_map l b q lt (back l b q h);
        first_column = λ b q lt h. f.first_column b q lt (back k b q h);
        first_row = λ q lt h. f.first_row q lt (back k c q h);
      }

  columns_there :
      (k : ℕ) (maps others : List (GradedMap n)) → AreSameMaps p maps others
      → AreSameColumns p (first_columns (drop k maps)) (first_columns (drop k others))
  columns_there k [] [] h = record { count = refl; each = λ i. IsSame_refl p _ }
  columns_there k [] (N ∷ others) h = elim h [ ]
  columns_there k (M ∷ maps) [] h = elim h [ ]
  columns_there zero (M ∷ maps) (N ∷ others) h = h.1
  columns_there (suc k) (M ∷ maps) (N ∷ others) h = columns_there k maps others h.2

  module _ (pos : 0 < p) (domain : IsDomain p) where
    -- what the same maps come to, these do, up to the form of the vectors
    reached_there :
        (C S D : GradedMaps n) (c : IsCancelled p S D) → C.positions ≡ S.positions → AreSameMaps p C.maps S.maps
        → (X : GradedMaps n) → GoesThrough c X → (Y : GradedMaps n) × IsCancellationReached p C Y × AreSameMaps p Y.maps X.maps
    reached_there C _ _ (done rows maps none) e same X g = (C, reached_itself domain C, subst (λ (Z : GradedMaps n). AreSameMaps p C.maps Z.maps) (sym g) same)
    reached_there C _ _ (step rows maps others D k c r s first inverse split_is more) e same X (inl g) =
        (C, reached_itself domain C, subst (λ (Z : GradedMaps n). AreSameMaps p C.maps Z.maps) (sym g) same)
    reached_there C _ _ (step rows maps others D k c r s first inverse split_is more) e same X (inr g) =
        let both = split_same p pos k r c s s (IsCongruent_refl p s) C.positions rows C.maps maps e same in
        let on : IsCancellationReached p (record { positions = (split p k r c s rows maps).0; maps = others }) X = (D, more, g) in
        let moved : IsCancellationReached p (record { positions = (split p k r c s C.positions C.maps).0; maps = others }) X =
        subst (λ z. IsCancellationReached p (record { positions = z; maps = others }) X) (sym both.0) on
        in (
          X,
          (
            moved.0,
            step C.positions C.maps others moved.0 k c r s (first_there maps C.maps k c r (same_maps_sym p C.maps maps same) first)
                (IsCongruent_trans (IsCongruent_multiply (IsCongruent_refl p s) (((columns_there k C.maps maps same).each c).by_key (r, unit n))) inverse)
                (same_maps_trans p (split p k r c s C.positions C.maps).1 (split p k r c s rows maps).1 others both.1 split_is)
                moved.1,
            inr moved.2,
          ),
          same_maps_itself p X.maps,
        )

-- ---- stops
module _ (ring : Ring) (C E : GradedMaps (variables ring)) where
  -- a stop after some steps
  pub stops_before : LeadsTo ring.modulus.value C E → (stop : WorkStop) → CancellationStops ring E stop → CancellationStops ring C stop
  stops_before leads Memory h = tt
  stops_before leads (Degree t) h = record {
    maps = h.maps;
    reached = leads.reached h.maps h.reached;
    place = h.place;
    column = h.column;
    row = h.row;
    first = h.first;
    same = h.same;
    clearing = h.clearing;
  }

  -- a stop of the same maps
  pub stops_there :
      0 < ring.modulus.value → IsDomain ring.modulus.value → C.positions ≡ E.positions → AreSameMaps ring.modulus.value C.maps E.maps
      → (stop : WorkStop) → CancellationStops ring E stop → CancellationStops ring C stop
  stops_there pos domain e same Memory h = tt
  stops_there pos domain e same (Degree t) h =
      let p = ring.modulus.value in
      let y = reached_there p pos domain C E h.reached.0 h.reached.1 e same h.maps h.reached.2 in
      let columns = columns_there p h.place y.0.maps h.maps.maps y.2 in
      record {
        maps = y.0;
        reached = y.1;
        place = h.place;
        column = h.column;
        row = h.row;
        first = first_there p h.maps.maps y.0.maps h.place h.column h.row (same_maps_sym p y.0.maps h.maps.maps y.2) h.first;
        same = record { count = columns.count ∙ h.same.count; each = λ i. IsSame_trans (columns.each i) (h.same.each i) };
        clearing = h.clearing;
      }
