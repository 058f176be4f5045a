-- There is one text for a polynomial by others
use Rattle.std.proofs.Common.{List, None, Option, Some, [], ap, get_or, subst, sym, ℕ, ◌∙◌, ◌≡◌}
use Rattle.formal_sums.proofs.Sameness.{IsSame_sym, IsSame_trans}
use Rattle.formal_sums.specs.FormalSums.{FormalSum, Key}
use Rattle.orders.proofs.KeyOrdering.{KeyDivides_trans}
use Rattle.bases.specs.Bases.{IsCovered}
use Rattle.bases.specs.Leads.{leads}
use Rattle.bases.specs.Settings.{Setting}
use Rattle.map_laws.proofs.Images.{one_law}
use Rattle.term_lists.proofs.NormalVectors.{vector_unique}
use Rattle.term_lists.specs.Rings.{ring_comparison, variables}
use Rattle.term_lists.specs.Vectors.{sum_of, sums_of}
use Rattle.term_lists.specs.declared.key.Key.{Key as CodeKey}
use Rattle.term_lists.specs.declared.ring.Ring.{Ring}
use Rattle.ring_maps.specs.Maps.{IsExpression, IsExpressionAnswer, grevlex_ring, grevlex_setting}
use Rattle.script_parse.proofs.Working.{lawful}
use Rattle.std.proofs.lemmas.Option.{same_Some}
use Rattle.session_reports.specs.Expressing.{IsExpressionText, expression_text}
use Rattle.session_lang.specs.Lines.{Expresses}
use Rattle.session_values.specs.Names.{ScriptState}

abbrev Terms : Type 0
Terms = List (CodeKey × ℕ)

module _ (ring : Ring) (images : List Terms) (f p q : Terms) (g : IsExpression ring images f p) (h : IsExpression ring images f q) where
  abbrev S : Setting (variables ring)
  S = grevlex_setting ring

  -- both kernels have the same members, so each lead of the one is covered by the other
  covered : (k : Key (variables ring)) → IsCovered S g.kernel k → IsCovered S h.kernel k
  covered k c =
      let v : FormalSum (variables ring) = get_or g.kernel c.0 [] in
      let inside = (h.members v).1 ((g.members v).0 (g.basis.reduced.basis.members c.0 c.1)) in
      let d = h.basis.reduced.basis.covers v (leads g.kernel c.0) inside c.2 in
      (d.0, d.1, d.2, KeyDivides_trans (leads h.kernel d.0) (leads g.kernel c.0) k d.3 c.3)

  one_expression : p ≡ q
  one_expression =
      vector_unique ring (ring_comparison ring) 1 p q (lawful ring 1) g.vector h.vector
      (one_law S (sums_of (variables ring) images) g.kernel (sum_of (variables ring) p) (sum_of (variables ring) q) (lawful (grevlex_ring ring) 1)
      g.basis g.members g.image_is.0 h.image_is.0 g.free (λ k c. h.free k (covered k c))
      (IsSame_trans g.image_is.1 (IsSame_sym h.image_is.1)))

-- an answer and that there is none exclude one another
answers_same :
    (ring : Ring) (images : List Terms) (f : Terms) (a b : Option Terms) → IsExpressionAnswer ring images f a → IsExpressionAnswer ring images f b → a ≡ b
answers_same ring images f (Some p) (Some q) g h = ap Some (one_expression ring images f p q g h)
answers_same ring images f (Some p) None g h = absurd (h (sum_of (variables ring) p) g.image_is)
answers_same ring images f None (Some q) g h = absurd (g (sum_of (variables ring) q) h.image_is)
answers_same ring images f None None g h = λ i. None

text_once : (ring : Ring) (images : List Terms) (f : Terms) (x y : List ℕ) → IsExpressionText ring images f x → IsExpressionText ring images f y → x ≡ y
text_once ring images f x y g h = g.2 ∙ ap (expression_text ring) (answers_same ring images f g.0 h.0 g.1 h.1) ∙ sym h.2

pub expresses_once :
    (before : ScriptState) (f g : Terms) (images others : List Terms) (x y : List ℕ) → f ≡ g → images ≡ others
    → Expresses before f images x → Expresses before g others y → x ≡ y
expresses_once before f g images others x y e i a b =
    text_once a.0 images f x y a.2
    (subst (λ r. IsExpressionText r images f y) (same_Some _ _ (sym b.1 ∙ a.1))
    (subst (λ l. IsExpressionText b.0 l f y) (sym i) (subst (λ v. IsExpressionText b.0 others v y) (sym e) b.2)))
