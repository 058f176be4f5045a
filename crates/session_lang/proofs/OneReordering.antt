-- A basis in another order has one text, or it is refused for one kind
use Rattle.std.proofs.Common.{List, ap, codes, refl, subst, subst₂, sym, ℕ, ◌∙◌, ◌≡◌}
use Rattle.monomials.specs.Exponents.{Exponents}
use Rattle.monomial_orders.specs.declared.order.Order.{Order}
use Rattle.term_lists.specs.Rings.{variables}
use Rattle.term_lists.specs.Vectors.{sums_of}
use Rattle.term_lists.specs.declared.key.Key.{Key}
use Rattle.term_lists.specs.declared.ring.Ring.{Ring}
use Rattle.groebner_iface.specs.Runs.{IsReducedBasisOf}
use Rattle.change_laws.specs.Standard.{HasMany, IsInfinite, lead_monomials}
use Rattle.order_change.specs.Reordered.{with_order}
use Rattle.script_parse.specs.declared.kind.Kind.{Kind}
use Rattle.script_parse.specs.declared.kind.Kind.TheVariants as kinds
use Rattle.session_lang.proofs.OneAnswer.{one_ring, one_value}
use Rattle.session_lang.proofs.OneForm.{one_reduced}
use Rattle.session_lang.specs.Lines.{Reorders}
use Rattle.session_values.specs.Names.{HasValue, ScriptState, Value}
use Rattle.session_reports.specs.Reordering.{IsReorderedText, RefusesReordering}
use Rattle.session_values.specs.Texts.{listing}

module _ (ring : Ring) (value : Value) where
  -- the text in one order is one
  text_once : (order : Order) (x y : List ℕ) → IsReorderedText ring value order x → IsReorderedText ring value order y → x ≡ y
  text_once order x y g h =
      g.text_is
      ∙ ap (listing (codes "fglm") ring value)
      (one_reduced (with_order order ring) value.rank value.list g.reordered h.reordered g.reduced_anew h.reduced_anew)
      ∙ sym h.text_is

  -- what is said of the leads of one reduced basis is said of the other
  leads_alike :
      (P : List (Exponents (variables ring)) → Type 0) (G H : List (List (Key × ℕ)))
      → IsReducedBasisOf ring value.rank value.list G → IsReducedBasisOf ring value.rank value.list H
      → P (lead_monomials (sums_of (variables ring) G)) → P (lead_monomials (sums_of (variables ring) H))
  leads_alike P G H g h = subst (λ B. P (lead_monomials (sums_of (variables ring) B))) (one_reduced ring value.rank value.list G H g h)

  -- what is printed is not refused
  printed_not_refused : (order : Order) (x : List ℕ) (kind : Kind) → IsReorderedText ring value order x → RefusesReordering ring value kind → ⊥
  printed_not_refused order x kinds.Infinite g h = g.few.finite (leads_alike (λ L. IsInfinite L) h.0 g.basis h.1 g.reduced h.2)
  printed_not_refused order x kinds.Many g h = g.few.few (leads_alike (λ L. HasMany L) h.0 g.basis h.1 g.reduced h.3)
  printed_not_refused order x kinds.Syntax g h = absurd h
  printed_not_refused order x kinds.Numeral g h = absurd h
  printed_not_refused order x kinds.Ring g h = absurd h
  printed_not_refused order x kinds.Modulus g h = absurd h
  printed_not_refused order x kinds.Name g h = absurd h
  printed_not_refused order x kinds.OfKind g h = absurd h
  printed_not_refused order x kinds.Rank g h = absurd h
  printed_not_refused order x kinds.Degree g h = absurd h
  printed_not_refused order x kinds.Leads g h = absurd h
  printed_not_refused order x kinds.Large g h = absurd h
  printed_not_refused order x kinds.Homogeneous g h = absurd h

  -- infinitely many and finitely many
  infinite_and_many : RefusesReordering ring value kinds.Infinite → RefusesReordering ring value kinds.Many → ⊥
  infinite_and_many g h = h.2 (leads_alike (λ L. IsInfinite L) g.0 h.0 g.1 h.1 g.2)

  kind_once : (j k : Kind) → RefusesReordering ring value j → RefusesReordering ring value k → j ≡ k
  kind_once kinds.Infinite kinds.Infinite g h = refl
  kind_once kinds.Infinite kinds.Many g h = absurd (infinite_and_many g h)
  kind_once kinds.Many kinds.Infinite g h = absurd (infinite_and_many h g)
  kind_once kinds.Many kinds.Many g h = refl
  kind_once kinds.Infinite kinds.Syntax g h = absurd h
  kind_once kinds.Many kinds.Syntax g h = absurd h
  kind_once kinds.Infinite kinds.Numeral g h = absurd h
  kind_once kinds.Many kinds.Numeral g h = absurd h
  kind_once kinds.Infinite kinds.Ring g h = absurd h
  kind_once kinds.Many kinds.Ring g h = absurd h
  kind_once kinds.Infinite kinds.Modulus g h = absurd h
  kind_once kinds.Many kinds.Modulus g h = absurd h
  kind_once kinds.Infinite kinds.Name g h = absurd h
  kind_once kinds.Many kinds.Name g h = absurd h
  kind_once kinds.Infinite kinds.OfKind g h = absurd h
  kind_once kinds.Many kinds.OfKind g h = absurd h
  kind_once kinds.Infinite kinds.Rank g h = absurd h
  kind_once kinds.Many kinds.Rank g h = absurd h
  kind_once kinds.Infinite kinds.Degree g h = absurd h
  kind_once kinds.Many kinds.Degree g h = absurd h
  kind_once kinds.Infinite kinds.Leads g h = absurd h
  kind_once kinds.Many kinds.Leads g h = absurd h
  kind_once kinds.Infinite kinds.Large g h = absurd h
  kind_once kinds.Infinite kinds.Homogeneous g h = absurd h
  kind_once kinds.Many kinds.Large g h = absurd h
  kind_once kinds.Many kinds.Homogeneous g h = absurd h
  kind_once kinds.Syntax k g h = absurd g
  kind_once kinds.Numeral k g h = absurd g
  kind_once kinds.Ring k g h = absurd g
  kind_once kinds.Modulus k g h = absurd g
  kind_once kinds.Name k g h = absurd g
  kind_once kinds.OfKind k g h = absurd g
  kind_once kinds.Rank k g h = absurd g
  kind_once kinds.Degree k g h = absurd g
  kind_once kinds.Leads k g h = absurd g
  kind_once kinds.Large k g h = absurd g
  kind_once kinds.Homogeneous k g h = absurd g

-- the same of a value by its name
abbrev pub RefusesNamed : ScriptState → List ℕ → Kind → Type 0
RefusesNamed before name kind = (ring : Ring) × (value : Value) × HasValue before name ring value × RefusesReordering ring value kind

module _ (before : ScriptState) (m n : List ℕ) where
  -- what is said of the value with a name is said of the one with the same name
  pub there : m ≡ n → (r s : Ring) (v w : Value) (P : Ring → Value → Type 0) → HasValue before m r v → HasValue before n s w → P s w → P r v
  there e r s v w P g h p =
      let same : HasValue before m s w = subst (λ z. HasValue before z s w) (sym e) h in
      subst₂ P (sym (one_ring before m m r s v w g same)) (sym (one_value before m r s v w g same)) p

  pub reorders_once : (o q : Order) (x y : List ℕ) → m ≡ n → o ≡ q → Reorders before m o x → Reorders before n q y → x ≡ y
  reorders_once o q x y e f g h =
      text_once g.0 g.1 o x y g.3
      (there e g.0 h.0 g.1 h.1 (λ r v. IsReorderedText r v o y) g.2 h.2 (subst (λ z. IsReorderedText h.0 h.1 z y) (sym f) h.3))

  pub reorders_or_refuses : (o q : Order) → m ≡ n → o ≡ q → (x : List ℕ) (kind : Kind) → Reorders before m o x → RefusesNamed before n kind → ⊥
  reorders_or_refuses o q e f x kind g h =
      printed_not_refused g.0 g.1 o x kind g.3 (there e g.0 h.0 g.1 h.1 (λ r v. RefusesReordering r v kind) g.2 h.2 h.3)

  pub reordering_refused_once : m ≡ n → (j k : Kind) → RefusesNamed before m j → RefusesNamed before n k → j ≡ k
  reordering_refused_once e j k g h =
      kind_once g.0 g.1 j k g.3 (there e g.0 h.0 g.1 h.1 (λ r v. RefusesReordering r v k) g.2 h.2 h.3)
