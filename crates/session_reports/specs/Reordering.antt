-- The reduced basis of an ideal in another order (IVA chapter 5, section 3)
use Rattle.std.specs.Prelude.{List, codes, ℕ, ◌≡◌}
use Rattle.monomial_orders.specs.declared.order.Order.{Order}
use Rattle.term_lists.specs.Rings.{variables}
use Rattle.term_lists.specs.Vectors.{sums_of}
use Rattle.term_lists.specs.declared.key.Key.{Key}
use Rattle.term_lists.specs.declared.ring.Ring.{Ring}
use Rattle.groebner_iface.specs.Runs.{IsReducedBasisOf}
use Rattle.change_laws.specs.Standard.{HasMany, IsInfinite, lead_monomials}
use Rattle.order_change.specs.Reordered.{with_order}
use Rattle.order_change.specs.Stops.{AreFew}
use Rattle.script_parse.specs.declared.kind.Kind.{Kind}
use Rattle.script_parse.specs.declared.kind.Kind.TheVariants as kinds
use Rattle.session_values.specs.Names.{Value}
use Rattle.session_values.specs.Texts.{listing}

-- the text has the value's reduced basis in this order, and nothing refuses it: by the leads of the one in the ring's order there
-- are finitely many standard monomials, at most 256
pub record IsReorderedText (ring : Ring) (value : Value) (order : Order) (text : List ℕ) : Type 0 where
  pub basis : List (List (Key × ℕ))
  pub reduced : IsReducedBasisOf ring value.rank value.list basis
  pub few : AreFew (lead_monomials (sums_of (variables ring) basis))
  pub reordered : List (List (Key × ℕ))
  pub reduced_anew : IsReducedBasisOf (with_order order ring) value.rank value.list reordered
  pub text_is : text ≡ listing (codes "fglm") ring value reordered

-- the change of order is refused for this kind: some variable has no power among the leads of the reduced basis, or if each has
-- one, there are more than 256 standard monomials
abbrev pub RefusesReordering : Ring → Value → Kind → Type 0
RefusesReordering ring value kinds.Infinite =
    (G : List (List (Key × ℕ))) × IsReducedBasisOf ring value.rank value.list G × IsInfinite (lead_monomials (sums_of (variables ring) G))
RefusesReordering ring value kinds.Many =
    (G : List (List (Key × ℕ))) × IsReducedBasisOf ring value.rank value.list G
    × (IsInfinite (lead_monomials (sums_of (variables ring) G)) → ⊥) × HasMany (lead_monomials (sums_of (variables ring) G))
RefusesReordering ring value _ = ⊥
