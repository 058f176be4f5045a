-- What `gb` prints of a value says its module
use Rattle.std.proofs.Common.{List, [], ap, arith, refl, subst, sym, ℕ, codes, length, ◌++◌, ◌<◌, ◌∙◌, ◌∷◌, ◌≡◌, ◌^◌}
use Rattle.std.specs.Prelude.{◌↔◌}
use Rattle.formal_sums.specs.FormalSums.{Each}
use Rattle.bases.specs.Settings.{IsLawful}
use Rattle.zp_field.proofs.TableFields.{is_modulus-below}
use Rattle.term_lists.specs.Rings.{ring_comparison, variables}
use Rattle.term_lists.specs.Vectors.{AreVectorsOver, HasPositions, IsTerm}
use Rattle.term_lists.specs.declared.key.Key.{Key}
use Rattle.term_lists.specs.declared.ring.Ring.{Ring}
use Rattle.poly_text.proofs.Values.{list_injective}
use Rattle.poly_text.specs.Names.{AreDistinctNames}
use Rattle.poly_text.specs.Printable.{IsPrintable, IsPrintableVector}
use Rattle.poly_text.specs.Texts.{list_text, names_of}
use Rattle.groebner_iface.specs.Runs.{IsReducedBasisOf}
use Rattle.script_parse.proofs.Working.{lawful}
use Rattle.session_values.proofs.OneModule.{equal_where_one}
use Rattle.session_values.specs.Answers.{AreMembersOf, HasSmallExponents, IsAnswer, IsOneModule, basis}
use Rattle.session_values.specs.Names.{Value}
use Rattle.session_values.specs.Texts.{heading}
use Rattle.session_lang.proofs.OneForm.{one_reduced}

-- terms of a ring with small exponents have texts of their own
printable_terms :
    (n : ℕ) (ws : List ℕ) (p : ℕ) (v : List (Key × ℕ)) → p < 2 ^ 64 → Each (IsTerm n ws p) v → HasSmallExponents v → Each (IsPrintable n ws) v
printable_terms n ws p [] below h s = tt
printable_terms n ws p (t ∷ v) below h s = (
  record { weighed = h.0.weighed; nonzero = h.0.nonzero; residue = (let less = h.0.reduced in omega (arith, less, below)); exponents = s.0 },
  printable_terms n ws p v below h.1 s.1,
)

-- and so have vectors
printable :
    (ring : Ring) (rank : ℕ) (list : List (List (Key × ℕ))) → AreVectorsOver ring (ring_comparison ring) list → Each (HasPositions rank) list → Each HasSmallExponents list
    → Each (IsPrintableVector (variables ring) ring.weights rank (ring_comparison ring (variables ring))) list
printable ring rank [] h positions s = tt
printable ring rank (v ∷ list) h positions s = (
  record {
    each = printable_terms (variables ring) ring.weights ring.modulus.value v (let b = is_modulus-below ring.modulus.value ring.modulus.table in omega (arith, b)) h.0.each s.0;
    positions = positions.0;
    descends = h.0.descends;
  },
  printable ring rank list h.1 positions.1 s.1,
)

module _ (ring : Ring) (rank : ℕ) (first second G H : List (List (Key × ℕ))) (names : AreDistinctNames (names_of ring))
    (f : Each (HasPositions rank) first) (s : Each (HasPositions rank) second)
    (g : IsReducedBasisOf ring rank first G) (h : IsReducedBasisOf ring rank second H)
    (small_g : Each HasSmallExponents G) (small_h : Each HasSmallExponents H) where
  same_module : (G ≡ H) ↔ IsOneModule ring first second
  same_module = equal_where_one ring rank first second G H (lawful ring rank) (one_reduced ring rank) f s g h

  same_list : list_text (names_of ring) rank G ≡ list_text (names_of ring) rank H → G ≡ H
  same_list e =
      list_injective (names_of ring) ring.weights rank (ring_comparison ring (variables ring)) G H names (lawful ring rank).order
      (printable ring rank G g.vectors g.positions small_g) (printable ring rank H h.vectors h.positions small_h) e

  same_lines : (list_text (names_of ring) rank G ≡ list_text (names_of ring) rank H) ↔ IsOneModule ring first second
  same_lines = ((λ e. same_module.0 (same_list e)), (λ m. ap (list_text (names_of ring) rank) (same_module.1 m)))

at_rank :
    (ring : Ring) (left right : Value) (rank : ℕ) (x y : List ℕ) → AreDistinctNames (names_of ring) → left.rank ≡ rank → right.rank ≡ rank
    → Each (HasPositions rank) left.list → Each (HasPositions rank) right.list
    → (a : AreMembersOf ring left x) → (b : AreMembersOf ring right y)
    → IsReducedBasisOf ring rank left.list a.basis → IsReducedBasisOf ring rank right.list b.basis
    → x ≡ list_text (names_of ring) rank a.basis → y ≡ list_text (names_of ring) rank b.basis
    → (x ≡ y) ↔ IsOneModule ring left.list right.list
at_rank ring left right rank x y names l r f s a b g h tx ty =
    let both = same_lines ring rank left.list right.list a.basis b.basis names f s g h a.small b.small in
    ((λ e. both.0 (sym tx ∙ e ∙ ty)), (λ m. tx ∙ both.1 m ∙ sym ty))

pub members_once :
    (ring : Ring) (left right : Value) (x y : List ℕ) → AreDistinctNames (names_of ring) → left.rank ≡ right.rank
    → Each (HasPositions left.rank) left.list → Each (HasPositions right.rank) right.list
    → AreMembersOf ring left x → AreMembersOf ring right y → (x ≡ y) ↔ IsOneModule ring left.list right.list
members_once ring left right x y names e f s a b =
    at_rank ring left right right.rank x y names e refl (subst (λ m. Each (HasPositions m) left.list) e f) s a b
    (subst (λ m. IsReducedBasisOf ring m left.list a.basis) e a.reduced) b.reduced
    (subst (λ m. x ≡ list_text (names_of ring) m a.basis) e a.text_is) b.text_is

-- a heading and the members are what `gb` prints
pub members_printed :
    (ring : Ring) (value : Value) (members : List ℕ) → AreMembersOf ring value members
    → (count : ℕ) × IsAnswer ring value basis (heading (codes "gb") value.name count ++ members)
members_printed ring value members h =
    (length h.basis, (h.basis, h.reduced, ap (λ l. heading (codes "gb") value.name (length h.basis) ++ l) h.text_is))
