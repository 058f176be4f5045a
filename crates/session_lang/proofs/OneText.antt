-- A lift has one text, and so have the numbers of a value
use Rattle.std.proofs.Common.{List, [], ap, ap₂, get_or, inl, inr, length, refl, subst, subst₂, suc, sym, ℕ, ◌∙◌, ◌∷◌, ◌≡◌}
use Rattle.std.specs.Prelude.{pos, ℤ}
use Rattle.formal_sums.proofs.OfRank.{IsMember_of}
use Rattle.hilbert_laws.proofs.Orders.{dimension_one}
use Rattle.hilbert_laws.proofs.Recurrence.{IsNumerator_unique}
use Rattle.hilbert_laws.specs.Numerators.{module_count}
use Rattle.hilbert_series.specs.Large.{IsLarge}
use Rattle.hilbert_series.specs.Leads.{EndsInNonzero, keys_of}
use Rattle.term_lists.specs.Rings.{variables}
use Rattle.term_lists.specs.Vectors.{sum_of, sums_of}
use Rattle.term_lists.specs.declared.key.Key.{Key}
use Rattle.term_lists.specs.declared.ring.Ring.{Ring}
use Rattle.script_parse.proofs.Working.{lawful}
use Rattle.script_parse.specs.declared.kind.Kind.{Kind}
use Rattle.script_parse.specs.declared.kind.Kind.TheVariants as kinds
use Rattle.syzygy_engine.proofs.OneLift.{one_lift_of}
use Rattle.session_lang.proofs.OneAnswer.{one_ring, one_value}
use Rattle.session_lang.proofs.OneForm.{one_reduced}
use Rattle.session_values.specs.Answers.{IsInModule}
use Rattle.session_reports.specs.Lifting.{IsLiftOver, IsLiftText, cofactor_text}
use Rattle.session_lang.specs.Lines.{Counts, Lifts}
use Rattle.session_values.specs.Names.{HasValue, ScriptState, Value}
use Rattle.session_values.specs.Numbers.{HasManyLeads, IsNumbersText, IsNumeratorFor, RefusesNumbers, leads_of, numbers_text}

-- ---- lifts
-- what has a lift is in the module
lifted_is_inside : (ring : Ring) (list : List (List (Key × ℕ))) (v a : List (Key × ℕ)) → IsLiftOver ring list v a → IsInModule ring list v
lifted_is_inside ring list v a h = IsMember_of (sums_of (variables ring) list) (sum_of (variables ring) a) (sum_of (variables ring) v) h.1.lift.sums

lift_text_once : (ring : Ring) (value : Value) (v : List (Key × ℕ)) (x y : List ℕ) → IsLiftText ring value v x → IsLiftText ring value v y → x ≡ y
lift_text_once ring value v x y (inl g) (inl h) =
    g.2 ∙ ap (cofactor_text ring value.list) (one_lift_of ring value.list (lawful ring 0) v g.0 h.0 g.1.0 h.1.0 g.1.1 h.1.1) ∙ sym h.2
lift_text_once ring value v x y (inl g) (inr h) = absurd (h.0 (lifted_is_inside ring value.list v g.0 g.1))
lift_text_once ring value v x y (inr g) (inl h) = absurd (g.0 (lifted_is_inside ring value.list v h.0 h.1))
lift_text_once ring value v x y (inr g) (inr h) = g.1 ∙ sym h.1

pub lifts_once :
    (before : ScriptState) (m n : List ℕ) (v w : List (Key × ℕ)) (x y : List ℕ) → m ≡ n → v ≡ w → Lifts before m v x → Lifts before n w y → x ≡ y
lifts_once before m n v w x y e f g h =
    let there : HasValue before m h.0 h.1 = subst (λ z. HasValue before z h.0 h.1) (sym e) h.2 in
    let of_v : IsLiftText h.0 h.1 v y = subst (λ z. IsLiftText h.0 h.1 z y) (sym f) h.3 in
    lift_text_once g.0 g.1 v x y g.3
    (subst₂ (λ r u. IsLiftText r u v y) (sym (one_ring before m m g.0 h.0 g.1 h.1 g.2 there)) (sym (one_value before m g.0 h.0 g.1 h.1 g.2 there)) of_v)

-- ---- numbers
later : (a : ℤ) (K : List ℤ) → EndsInNonzero (a ∷ K) → EndsInNonzero K
later a K ends k e z = ends (suc k) (ap suc e) z

-- lists of coefficients that end in others than 0 are one
coefficients_once : (K L : List ℤ) → EndsInNonzero K → EndsInNonzero L → ((d : ℕ) → get_or K d (pos 0) ≡ get_or L d (pos 0)) → K ≡ L
coefficients_once [] [] e f h = refl
coefficients_once [] (b ∷ L) e f h = absurd (f (length L) refl (sym (h (length L))))
coefficients_once (a ∷ K) [] e f h = absurd (e (length K) refl (h (length K)))
coefficients_once (a ∷ K) (b ∷ L) e f h = ap₂ (λ c M. c ∷ M) (h 0) (coefficients_once K L (later a K e) (later b L f) (λ d. h (suc d)))

numerator_once :
    (ring : Ring) (rank : ℕ) (G : List (List (Key × ℕ))) (K L : List ℤ) → IsNumeratorFor ring rank G K → IsNumeratorFor ring rank G L → K ≡ L
numerator_once ring rank G K L g h =
    coefficients_once K L g.ends h.ends
    (IsNumerator_unique (variables ring) ring.weights K L (module_count ring.weights rank (keys_of (variables ring) (leads_of G))) g.counts h.counts)

numbers_text_same :
    (name : List ℕ) (K L : List ℤ) (a b c d : ℤ) → K ≡ L → a ≡ b → c ≡ d → numbers_text name K a c ≡ numbers_text name L b d
numbers_text_same name K L a b c d e f g = λ i. numbers_text name (e i) (f i) (g i)

module _ (ring : Ring) (value : Value) (x y : List ℕ) (g : IsNumbersText ring value x) (h : IsNumbersText ring value y) where
  bases_same : g.basis ≡ h.basis
  bases_same = one_reduced ring value.rank value.list g.basis h.basis g.reduced h.reduced

  numerators_same : g.numerator ≡ h.numerator
  numerators_same =
      numerator_once ring value.rank g.basis g.numerator h.numerator g.counts
      (subst (λ G. IsNumeratorFor ring value.rank G h.numerator) (sym bases_same) h.counts)

  measures_same : (g.dimension ≡ h.dimension) × (g.degree ≡ h.degree)
  measures_same =
      dimension_one (variables ring) g.numerator h.numerator g.dimension g.degree h.dimension h.degree
      (λ i. ap (λ K. get_or K i (pos 0)) numerators_same) g.measured h.measured

  numbers_once : x ≡ y
  numbers_once =
      g.text_is
      ∙ numbers_text_same value.name g.numerator h.numerator g.dimension h.dimension g.degree h.degree numerators_same measures_same.0 measures_same.1
      ∙ sym h.text_is

pub counts_once : (before : ScriptState) (m n : List ℕ) (x y : List ℕ) → m ≡ n → Counts before m x → Counts before n y → x ≡ y
counts_once before m n x y e g h =
    let there : HasValue before m h.0 h.1 = subst (λ z. HasValue before z h.0 h.1) (sym e) h.2 in
    numbers_once g.0 g.1 x y g.3
    (subst₂ (λ r u. IsNumbersText r u y) (sym (one_ring before m m g.0 h.0 g.1 h.1 g.2 there)) (sym (one_value before m g.0 h.0 g.1 h.1 g.2 there)) h.3)

-- ---- refusals
module _ (ring : Ring) (value : Value) where
  -- what is printed is not refused
  printed_not_refused : (x : List ℕ) (kind : Kind) → IsNumbersText ring value x → RefusesNumbers ring value kind → ⊥
  printed_not_refused x kinds.Leads g h =
      g.few (subst (HasManyLeads ring value.rank) (one_reduced ring value.rank value.list h.0 g.basis h.1 g.reduced) h.2)
  printed_not_refused x kinds.Large g h =
      g.narrow
      (subst IsLarge
      (numerator_once ring value.rank g.basis h.3.0 g.numerator
      (subst (λ G. IsNumeratorFor ring value.rank G h.3.0) (one_reduced ring value.rank value.list h.0 g.basis h.1 g.reduced) h.3.1) g.counts)
      h.3.2)
  printed_not_refused x kinds.Syntax g h = absurd h
  printed_not_refused x kinds.Numeral g h = absurd h
  printed_not_refused x kinds.Ring g h = absurd h
  printed_not_refused x kinds.Modulus g h = absurd h
  printed_not_refused x kinds.Name g h = absurd h
  printed_not_refused x kinds.OfKind g h = absurd h
  printed_not_refused x kinds.Rank g h = absurd h
  printed_not_refused x kinds.Degree g h = absurd h
  printed_not_refused x kinds.Infinite g h = absurd h
  printed_not_refused x kinds.Many g h = absurd h
  printed_not_refused x kinds.Homogeneous g h = absurd h

  -- too many leads, and not too many
  many_and_few : RefusesNumbers ring value kinds.Leads → RefusesNumbers ring value kinds.Large → ⊥
  many_and_few g h = h.2 (subst (HasManyLeads ring value.rank) (one_reduced ring value.rank value.list g.0 h.0 g.1 h.1) g.2)

  kind_of_leads : (k : Kind) → RefusesNumbers ring value kinds.Leads → RefusesNumbers ring value k → kinds.Leads ≡ k
  kind_of_leads kinds.Leads g h = refl
  kind_of_leads kinds.Large g h = absurd (many_and_few g h)
  kind_of_leads kinds.Syntax g h = absurd h
  kind_of_leads kinds.Numeral g h = absurd h
  kind_of_leads kinds.Ring g h = absurd h
  kind_of_leads kinds.Modulus g h = absurd h
  kind_of_leads kinds.Name g h = absurd h
  kind_of_leads kinds.OfKind g h = absurd h
  kind_of_leads kinds.Rank g h = absurd h
  kind_of_leads kinds.Degree g h = absurd h
  kind_of_leads kinds.Infinite g h = absurd h
  kind_of_leads kinds.Many g h = absurd h
  kind_of_leads kinds.Homogeneous g h = absurd h

  kind_of_large : (k : Kind) → RefusesNumbers ring value kinds.Large → RefusesNumbers ring value k → kinds.Large ≡ k
  kind_of_large kinds.Large g h = refl
  kind_of_large kinds.Leads g h = absurd (many_and_few h g)
  kind_of_large kinds.Syntax g h = absurd h
  kind_of_large kinds.Numeral g h = absurd h
  kind_of_large kinds.Ring g h = absurd h
  kind_of_large kinds.Modulus g h = absurd h
  kind_of_large kinds.Name g h = absurd h
  kind_of_large kinds.OfKind g h = absurd h
  kind_of_large kinds.Rank g h = absurd h
  kind_of_large kinds.Degree g h = absurd h
  kind_of_large kinds.Infinite g h = absurd h
  kind_of_large kinds.Many g h = absurd h
  kind_of_large kinds.Homogeneous g h = absurd h

  -- the numbers are refused for one kind
  kind_once : (j k : Kind) → RefusesNumbers ring value j → RefusesNumbers ring value k → j ≡ k
  kind_once kinds.Leads k g h = kind_of_leads k g h
  kind_once kinds.Large k g h = kind_of_large k g h
  kind_once kinds.Syntax k g h = absurd g
  kind_once kinds.Numeral k g h = absurd g
  kind_once kinds.Ring k g h = absurd g
  kind_once kinds.Modulus k g h = absurd g
  kind_once kinds.Name k g h = absurd g
  kind_once kinds.OfKind k g h = absurd g
  kind_once kinds.Rank k g h = absurd g
  kind_once kinds.Degree k g h = absurd g
  kind_once kinds.Infinite k g h = absurd g
  kind_once kinds.Many k g h = absurd g
  kind_once kinds.Homogeneous k g h = absurd g

-- the same of a value by its name
abbrev pub RefusesNamed : ScriptState → List ℕ → Kind → Type 0
RefusesNamed before name kind = (ring : Ring) × (value : Value) × HasValue before name ring value × RefusesNumbers ring value kind

module _ (before : ScriptState) (m n : List ℕ) (e : m ≡ n) where
  pub counts_or_refuses : (x : List ℕ) (kind : Kind) → Counts before m x → RefusesNamed before n kind → ⊥
  counts_or_refuses x kind g h =
      let there : HasValue before m h.0 h.1 = subst (λ z. HasValue before z h.0 h.1) (sym e) h.2 in
      printed_not_refused g.0 g.1 x kind g.3
      (subst₂ (λ r u. RefusesNumbers r u kind) (sym (one_ring before m m g.0 h.0 g.1 h.1 g.2 there)) (sym (one_value before m g.0 h.0 g.1 h.1 g.2 there)) h.3)

  pub refuses_once : (j k : Kind) → RefusesNamed before m j → RefusesNamed before n k → j ≡ k
  refuses_once j k g h =
      let there : HasValue before m h.0 h.1 = subst (λ z. HasValue before z h.0 h.1) (sym e) h.2 in
      kind_once g.0 g.1 j k g.3
      (subst₂ (λ r u. RefusesNumbers r u k) (sym (one_ring before m m g.0 h.0 g.1 h.1 g.2 there)) (sym (one_value before m g.0 h.0 g.1 h.1 g.2 there)) h.3)
