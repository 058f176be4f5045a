-- From a line's form to the answer
use Rattle.std.proofs.Common.{◌≡◌, ℕ, ◌<◌, ◌≤◌, inl, inr, true, false, List, [], length, Option, Some, None, Result, Ok, Err, Vec, Global, refl, sym, ap, subst, ◌∙◌, arith}
use Rattle.std.specs.List.{AllByRecursion, list_all}
use Rattle.std.specs.Prelude.{Contains}
use Rattle.poly_grammar.specs.Numerals.{numeral_value}
use Rattle.poly_grammar.specs.declared.step.PolyStep.{PolyStep}
use Rattle.zp_field.specs.Moduli.{is_modulus}
use Rattle.term_lists.specs.declared.ring.Ring.{Ring}
use Rattle.script_forms.specs.Forms.{IsFormOf, IsLineOf, head_of}
use Rattle.script_forms.specs.RingForms.{ring_line_of}
use Rattle.script_forms.specs.Written.{IsLine, RingLine, Written, given_by, nothing, polys_of, ring_line, value_places}
use Rattle.script_forms.specs.declared.form.Form.{Form}
use Rattle.script_forms.specs.declared.form.Form.TheVariants as forms
use Rattle.script_forms.specs.declared.form.Head.{Head}
use Rattle.script_forms.specs.declared.ring_words.RingForm.{RingForm}
use Rattle.script_forms.proofs.Lines.{one_line}
use Rattle.script_parse.specs.Answers.{AnswersLine}
use Rattle.script_parse.specs.Tests.{AnswersForm, HoldsOf, IsFormed, AreStepsOfPolynomial, IsStated, known_names, low_degree, number_fits, rank_fits, repeats, right_kinds}
use Rattle.script_parse.specs.Refusals.{HasFaultyRing, HasGreatDegree, HasGreatNumeral, HasOtherElim, HasOtherFactor, HasOtherKind, HasOtherModulus, HasOtherRank, HasOtherWeights, HasUnknownName, RefusalHolds, LacksRing, place_of_kind}
use Rattle.script_parse.specs.Statements.{Makes}
use Rattle.script_parse.specs.declared.kind.Kind.{Kind}
use Rattle.script_parse.specs.declared.kind.Kind.TheVariants as kinds
use Rattle.script_parse.specs.declared.kind.ParseStop.{ParseStop}
use Rattle.script_parse.specs.declared.kind.ParseStop.TheVariants.{Memory, Refused}
use Rattle.script_parse.specs.declared.named.NameInfo.{NameInfo}
use Rattle.script_parse.specs.declared.stated.Statement.{Statement}
use Rattle.script_parse.specs.declared.stated.Statement.TheVariants as statements
use Rattle.script_parse.proofs.Testing.{each_known, each_right, great_degree, has_ring, lacks_ring, low_degrees, other_kind, other_rank, right_rank, unknown_name}
use Rattle.script_parse.proofs.Texts.{are_polynomials, repeats_not}

none_before_syntax : (ring : Option Ring) (infos : List NameInfo) (line : List ℕ) (earlier : Kind) → place_of_kind earlier < 1 → RefusalHolds ring infos line earlier → ⊥
none_before_syntax ring infos line kinds.Syntax lt h = omega (arith, lt)
none_before_syntax ring infos line kinds.Numeral lt h = omega (arith, lt)
none_before_syntax ring infos line kinds.Ring lt h = omega (arith, lt)
none_before_syntax ring infos line kinds.Modulus lt h = omega (arith, lt)
none_before_syntax ring infos line kinds.Name lt h = omega (arith, lt)
none_before_syntax ring infos line kinds.OfKind lt h = omega (arith, lt)
none_before_syntax ring infos line kinds.Rank lt h = omega (arith, lt)
none_before_syntax ring infos line kinds.Degree lt h = omega (arith, lt)
none_before_syntax ring infos line kinds.Homogeneous lt h = omega (arith, lt)
none_before_syntax ring infos line kinds.Leads lt h = omega (arith, lt)
none_before_syntax ring infos line kinds.Large lt h = omega (arith, lt)
none_before_syntax ring infos line kinds.Infinite lt h = omega (arith, lt)
none_before_syntax ring infos line kinds.Many lt h = omega (arith, lt)

none_before_numeral : (ring : Option Ring) (infos : List NameInfo) (line : List ℕ) → ((w : Written) × IsLine line w) → (earlier : Kind) → place_of_kind earlier < 2 → RefusalHolds ring infos line earlier → ⊥
none_before_numeral ring infos line is kinds.Syntax lt h = h is.0 is.1
none_before_numeral ring infos line is kinds.Numeral lt h = omega (arith, lt)
none_before_numeral ring infos line is kinds.Ring lt h = omega (arith, lt)
none_before_numeral ring infos line is kinds.Modulus lt h = omega (arith, lt)
none_before_numeral ring infos line is kinds.Name lt h = omega (arith, lt)
none_before_numeral ring infos line is kinds.OfKind lt h = omega (arith, lt)
none_before_numeral ring infos line is kinds.Rank lt h = omega (arith, lt)
none_before_numeral ring infos line is kinds.Degree lt h = omega (arith, lt)
none_before_numeral ring infos line is kinds.Homogeneous lt h = omega (arith, lt)
none_before_numeral ring infos line is kinds.Leads lt h = omega (arith, lt)
none_before_numeral ring infos line is kinds.Large lt h = omega (arith, lt)
none_before_numeral ring infos line is kinds.Infinite lt h = omega (arith, lt)
none_before_numeral ring infos line is kinds.Many lt h = omega (arith, lt)

-- what is refused before the form is looked at
pub early : (ring : Option Ring) (infos : List NameInfo) (line : List ℕ) (stop : ParseStop) → IsFormed line (Err stop) → AnswersLine ring infos line (Err stop)
early ring infos line Memory h = tt
early ring infos line (Refused kinds.Syntax) h = record { holds = h; first = none_before_syntax ring infos line }
early ring infos line (Refused kinds.Numeral) h = record { holds = h.0; first = none_before_numeral ring infos line h.1 }
early ring infos line (Refused kinds.Ring) h = absurd h
early ring infos line (Refused kinds.Modulus) h = absurd h
early ring infos line (Refused kinds.Name) h = absurd h
early ring infos line (Refused kinds.OfKind) h = absurd h
early ring infos line (Refused kinds.Rank) h = absurd h
early ring infos line (Refused kinds.Degree) h = absurd h
early ring infos line (Refused kinds.Homogeneous) h = absurd h
early ring infos line (Refused kinds.Leads) h = absurd h
early ring infos line (Refused kinds.Large) h = absurd h
early ring infos line (Refused kinds.Infinite) h = absurd h
early ring infos line (Refused kinds.Many) h = absurd h

module _ (ring : Option Ring) (infos : List NameInfo) (line : List ℕ) (w : Written) (is : IsLine line w) (none : HasGreatNumeral line → ⊥) where
  of_form : (kind : Kind) → RefusalHolds ring infos line kind → HoldsOf ring infos line w kind
  of_form kinds.Syntax h = absurd (h w is)
  of_form kinds.Numeral h = absurd (none h)
  of_form kinds.Ring h = subst (λ v. LacksRing ring line v) (one_line line h.0 w h.1 is) h.2
  of_form kinds.Modulus h = subst (λ v. HasOtherModulus line v) (one_line line h.0 w h.1 is) h.2
  of_form kinds.Name h = subst (λ v. HasUnknownName ring infos line v) (one_line line h.0 w h.1 is) h.2
  of_form kinds.OfKind h = subst (λ v. HasOtherKind ring infos line v) (one_line line h.0 w h.1 is) h.2
  of_form kinds.Rank h = subst (λ v. HasOtherRank ring infos line v) (one_line line h.0 w h.1 is) h.2
  of_form kinds.Degree h = subst (λ v. HasGreatDegree ring line v) (one_line line h.0 w h.1 is) h.2
  of_form kinds.Homogeneous h = h
  of_form kinds.Leads h = h
  of_form kinds.Large h = h
  of_form kinds.Infinite h = h
  of_form kinds.Many h = h

  of_line : (kind : Kind) → HoldsOf ring infos line w kind → RefusalHolds ring infos line kind
  of_line kinds.Syntax h = absurd h
  of_line kinds.Numeral h = absurd h
  of_line kinds.Ring h = (w, is, h)
  of_line kinds.Modulus h = (w, is, h)
  of_line kinds.Name h = (w, is, h)
  of_line kinds.OfKind h = (w, is, h)
  of_line kinds.Rank h = (w, is, h)
  of_line kinds.Degree h = (w, is, h)
  of_line kinds.Homogeneous h = h
  of_line kinds.Leads h = h
  of_line kinds.Large h = h
  of_line kinds.Infinite h = h
  of_line kinds.Many h = h

  -- what is answered to the form is answered to the line
  pub late : (result : Result Statement ParseStop) → AnswersForm ring infos line w result → AnswersLine ring infos line result
  late (Ok statement) h = record { written = w; is_line = is; free = λ kind k. h.1 kind (of_form kind k); says = h.0 }
  late (Err Memory) h = tt
  late (Err (Refused kind)) h = record { holds = of_line kind h.0; first = λ earlier lt k. h.1 earlier lt (of_form earlier k) }

-- a blank line and a ring line have no POLY and no NAME of a value
none_of : {X : Type 0} (xs : List X) (x : X) → xs ≡ [] → Contains xs x → ⊥
none_of xs x e c = let lt : c.0 < length xs = c.1 in let n : length xs ≡ 0 = ap length e in omega arith

none_great : (ring : Option Ring) (line : List ℕ) (w : Written) → polys_of w ≡ [] → HasGreatDegree ring line w → ⊥
none_great None line w polys h = h
none_great (Some ring) line w polys h = none_of (polys_of w) h.0 polys h.1

module _ (ring : Option Ring) (infos : List NameInfo) (line : List ℕ) (w : Written) (polys : polys_of w ≡ []) (values : value_places w ≡ []) (given : given_by w ≡ []) (factor : HasOtherFactor infos line w → ⊥) where
  no_unknown : HasUnknownName ring infos line w → ⊥
  no_unknown (inl (t, inl s, no_var, no_val)) = none_of (polys_of w) s.0 polys s.1
  no_unknown (inl (t, inr c, no_var, no_val)) = none_of (value_places w) t values c
  no_unknown (inr (t, c, v)) = none_of (given_by w) t given c

  no_other_kind : HasOtherKind ring infos line w → ⊥
  no_other_kind (inl (t, s, v)) = none_of (polys_of w) s.0 polys s.1
  no_other_kind (inr (inl (t, c, v))) = none_of (value_places w) t values c
  no_other_kind (inr (inr h)) = factor h

  no_great_degree : HasGreatDegree ring line w → ⊥
  no_great_degree h = none_great ring line w polys h

blank_free : (ring : Option Ring) (infos : List NameInfo) (line : List ℕ) (kind : Kind) → HoldsOf ring infos line nothing kind → ⊥
blank_free ring infos line kinds.Syntax h = h
blank_free ring infos line kinds.Numeral h = h
blank_free ring infos line kinds.Ring h = h
blank_free ring infos line kinds.Modulus h = h
blank_free ring infos line kinds.Name h = no_unknown ring infos line nothing refl refl refl (λ k. k) h
blank_free ring infos line kinds.OfKind h = no_other_kind ring infos line nothing refl refl refl (λ k. k) h
blank_free ring infos line kinds.Rank h = h
blank_free ring infos line kinds.Degree h = no_great_degree ring infos line nothing refl refl refl (λ k. k) h
blank_free ring infos line kinds.Homogeneous h = h
blank_free ring infos line kinds.Leads h = h
blank_free ring infos line kinds.Large h = h
blank_free ring infos line kinds.Infinite h = h
blank_free ring infos line kinds.Many h = h

blank_at : (ring : Option Ring) (infos : List NameInfo) (line : List ℕ) (w : Written) → IsLine line w → IsFormOf forms.Nothing w → (HasGreatNumeral line → ⊥) → AnswersLine ring infos line (Ok statements.Nothing)
blank_at ring infos line nothing is h none = late ring infos line nothing is none (Ok statements.Nothing) (tt, blank_free ring infos line)
blank_at ring infos line _ is h none = absurd h

pub blank : (ring : Option Ring) (infos : List NameInfo) (line : List ℕ) (form : Form) → form ≡ forms.Nothing → IsFormed line (Ok form) → AnswersLine ring infos line (Ok statements.Nothing)
blank ring infos line form e h = let f = subst (λ x. IsFormed line (Ok x)) e h in blank_at ring infos line f.0 f.1 f.2 f.4

ring_at :
    (ring : Option Ring) (infos : List NameInfo) (line : List ℕ) (w : Written) (form : RingForm) (result : Result Statement ParseStop) → IsLine line w
    → IsFormOf (forms.Ring form) w → (HasGreatNumeral line → ⊥) → AnswersForm ring infos line (ring_line (ring_line_of form)) result → AnswersLine ring infos line result
ring_at ring infos line (ring_line r) form result is h none f =
    late ring infos line (ring_line r) is none result (subst (λ x. AnswersForm ring infos line (ring_line x) result) h f)
ring_at ring infos line _ form result is h none f = absurd h

pub ring_answered :
    (ring : Option Ring) (infos : List NameInfo) (line : List ℕ) (form : Form) (words : RingForm) (result : Result Statement ParseStop) → form ≡ forms.Ring words
    → IsFormed line (Ok form) → AnswersForm ring infos line (ring_line (ring_line_of words)) result → AnswersLine ring infos line result
ring_answered ring infos line form words result e h f =
    let g = subst (λ x. IsFormed line (Ok x)) e h in ring_at ring infos line g.0 words result g.1 g.2 g.4 f

pub line_answered : (ring : Option Ring) (infos : List NameInfo) (line : List ℕ) (form : Form) (head : Head) (pieces : Vec (Vec PolyStep Global) Global) (result : Result Statement ParseStop) → form ≡ forms.Line head pieces → IsFormed line (Ok form)
    → ((w : Written) → IsLineOf head pieces.items w → AnswersForm ring infos line w result) → AnswersLine ring infos line result
line_answered ring infos line form head pieces result e h f =
    let g = subst (λ x. IsFormed line (Ok x)) e h in late ring infos line g.0 g.1 g.4 result (f g.0 g.2)

-- the polynomials of a line are some
pub line_polynomials : (line : List ℕ) (form : Form) (head : Head) (pieces : Vec (Vec PolyStep Global) Global) → form ≡ forms.Line head pieces → IsFormed line (Ok form) → AllByRecursion AreStepsOfPolynomial pieces.items
line_polynomials line form head pieces e h = let g = subst (λ x. IsFormed line (Ok x)) e h in are_polynomials pieces.items (polys_of g.0) g.2.steps_are

-- the head and the polynomials are those of a line
pub line_of : (line : List ℕ) (form : Form) (head : Head) (pieces : Vec (Vec PolyStep Global) Global) → form ≡ forms.Line head pieces → IsFormed line (Ok form)
    → (w : Written) × IsLineOf head pieces.items w
line_of line form head pieces e h = let g = subst (λ x. IsFormed line (Ok x)) e h in (g.0, g.2)

-- the ring lines
pub no_fault :
    (line : List ℕ) (r : RingLine) (n : ℕ) → n ≡ length r.names → n ≤ 15 → repeats line r.names ≡ false → (HasOtherElim line n r.order → ⊥)
    → (HasOtherWeights line n r.weights → ⊥) → HasFaultyRing line r → ⊥
no_fault line r n e few once elim_fits weights_fit (inl many) = omega (arith, e, few, many)
no_fault line r n e few once elim_fits weights_fit (inr (inl twice)) = repeats_not line r.names once twice
no_fault line r n e few once elim_fits weights_fit (inr (inr (inl h))) = elim_fits (subst (λ k. HasOtherElim line k r.order) (sym e) h)
no_fault line r n e few once elim_fits weights_fit (inr (inr (inr h))) = weights_fit (subst (λ k. HasOtherWeights line k r.weights) (sym e) h)

module _ (ring : Option Ring) (infos : List NameInfo) (line : List ℕ) (r : RingLine) where
  before_ring : (earlier : Kind) → place_of_kind earlier < 3 → HoldsOf ring infos line (ring_line r) earlier → ⊥
  before_ring kinds.Syntax lt h = h
  before_ring kinds.Numeral lt h = h
  before_ring kinds.Ring lt h = omega (arith, lt)
  before_ring kinds.Modulus lt h = omega (arith, lt)
  before_ring kinds.Name lt h = omega (arith, lt)
  before_ring kinds.OfKind lt h = omega (arith, lt)
  before_ring kinds.Rank lt h = omega (arith, lt)
  before_ring kinds.Degree lt h = omega (arith, lt)
  before_ring kinds.Homogeneous lt h = omega (arith, lt)
  before_ring kinds.Leads lt h = omega (arith, lt)
  before_ring kinds.Large lt h = omega (arith, lt)
  before_ring kinds.Infinite lt h = omega (arith, lt)
  before_ring kinds.Many lt h = omega (arith, lt)

  -- a faulty line makes no ring
  pub no_ring : HasFaultyRing line r → AnswersForm ring infos line (ring_line r) (Err (Refused kinds.Ring))
  no_ring h = (h, before_ring)

  before_modulus : (HasFaultyRing line r → ⊥) → (earlier : Kind) → place_of_kind earlier < 4 → HoldsOf ring infos line (ring_line r) earlier → ⊥
  before_modulus fine kinds.Syntax lt h = h
  before_modulus fine kinds.Numeral lt h = h
  before_modulus fine kinds.Ring lt h = fine h
  before_modulus fine kinds.Modulus lt h = omega (arith, lt)
  before_modulus fine kinds.Name lt h = omega (arith, lt)
  before_modulus fine kinds.OfKind lt h = omega (arith, lt)
  before_modulus fine kinds.Rank lt h = omega (arith, lt)
  before_modulus fine kinds.Degree lt h = omega (arith, lt)
  before_modulus fine kinds.Homogeneous lt h = omega (arith, lt)
  before_modulus fine kinds.Leads lt h = omega (arith, lt)
  before_modulus fine kinds.Large lt h = omega (arith, lt)
  before_modulus fine kinds.Infinite lt h = omega (arith, lt)
  before_modulus fine kinds.Many lt h = omega (arith, lt)

  pub no_modulus : (HasFaultyRing line r → ⊥) → is_modulus (numeral_value line r.modulus) ≡ false → AnswersForm ring infos line (ring_line r) (Err (Refused kinds.Modulus))
  no_modulus fine other = (other, before_modulus fine)

  ring_free : (HasFaultyRing line r → ⊥) → is_modulus (numeral_value line r.modulus) ≡ true → (kind : Kind) → HoldsOf ring infos line (ring_line r) kind → ⊥
  ring_free fine known kinds.Syntax h = h
  ring_free fine known kinds.Numeral h = h
  ring_free fine known kinds.Ring h = fine h
  ring_free fine known kinds.Modulus h = absurd cc
  ring_free fine known kinds.Name h = no_unknown ring infos line (ring_line r) refl refl refl (λ k. k) h
  ring_free fine known kinds.OfKind h = no_other_kind ring infos line (ring_line r) refl refl refl (λ k. k) h
  ring_free fine known kinds.Rank h = h
  ring_free fine known kinds.Degree h = no_great_degree ring infos line (ring_line r) refl refl refl (λ k. k) h
  ring_free fine known kinds.Homogeneous h = h
  ring_free fine known kinds.Leads h = h
  ring_free fine known kinds.Large h = h
  ring_free fine known kinds.Infinite h = h
  ring_free fine known kinds.Many h = h

  pub ring_made :
      (made : Ring) → (HasFaultyRing line r → ⊥) → is_modulus made.modulus.value ≡ true → Makes line r made
      → AnswersForm ring infos line (ring_line r) (Ok (statements.Ring made))
  ring_made made fine table makes = (makes, ring_free fine (ap is_modulus (sym makes.modulus_is) ∙ table))

-- ---- the lines that need a ring

no_other_modulus : (line : List ℕ) (w : Written) (head : Head) → head_of w ≡ Some head → HasOtherModulus line w → ⊥
no_other_modulus line (ring_line r) head e h = absurd cc
no_other_modulus line _ head e h = h

module _ (o : Option Ring) (ring : Ring) (infos : List NameInfo) (line : List ℕ) (w : Written) (head : Head) (pieces : List (Vec PolyStep Global)) (stated : o ≡ Some ring) (is : IsLineOf head pieces w) where
  -- no kind before the place n holds, by the tests that were passed
  record Passed (n : ℕ) : Type 0 where
    number : 3 < n → number_fits (length ring.vars) line head ≡ true
    name : 5 < n → known_names ring.vars infos line head pieces ≡ true
    kind : 6 < n → right_kinds ring.vars infos line head pieces ≡ true
    rank : 7 < n → rank_fits (length ring.vars) infos line head (length pieces) ≡ true
    degree : 8 < n → list_all (λ v. low_degree ring line v.items) pieces ≡ true

  none_before : (n : ℕ) → Passed n → (earlier : Kind) → place_of_kind earlier < n → HoldsOf (Some ring) infos line w earlier → ⊥
  none_before n p kinds.Syntax lt h = h
  none_before n p kinds.Numeral lt h = h
  none_before n p kinds.Ring lt h = has_ring ring infos line w head pieces is (p.number lt) h
  none_before n p kinds.Modulus lt h = no_other_modulus line w head is.head_is h
  none_before n p kinds.Name lt h = each_known ring infos line w head pieces is (p.name lt) h
  none_before n p kinds.OfKind lt h = each_right ring infos line w head pieces is (p.kind lt) h
  none_before n p kinds.Rank lt h = right_rank ring infos line w head pieces is (p.rank lt) h
  none_before n p kinds.Degree lt h = low_degrees ring infos line w head pieces is (p.degree lt) h
  none_before n p kinds.Homogeneous lt h = h
  none_before n p kinds.Leads lt h = h
  none_before n p kinds.Large lt h = h
  none_before n p kinds.Infinite lt h = h
  none_before n p kinds.Many lt h = h

  refused : (kind : Kind) → Passed (place_of_kind kind) → HoldsOf (Some ring) infos line w kind → AnswersForm o infos line w (Err (Refused kind))
  refused kind p h = subst (λ r. AnswersForm r infos line w (Err (Refused kind))) (sym stated) (h, none_before (place_of_kind kind) p)

  pub ring_refused : number_fits (length ring.vars) line head ≡ false → AnswersForm o infos line w (Err (Refused kinds.Ring))
  ring_refused e = refused kinds.Ring (record { number = λ lt. absurd (omega (arith, lt)); name = λ lt. absurd (omega (arith, lt)); kind = λ lt. absurd (omega (arith, lt)); rank = λ lt. absurd (omega (arith, lt)); degree = λ lt. absurd (omega (arith, lt)) }) (lacks_ring ring infos line w head pieces is e)

  pub name_refused : number_fits (length ring.vars) line head ≡ true → known_names ring.vars infos line head pieces ≡ false → AnswersForm o infos line w (Err (Refused kinds.Name))
  name_refused m e = refused kinds.Name (record { number = λ lt. m; name = λ lt. absurd (omega (arith, lt)); kind = λ lt. absurd (omega (arith, lt)); rank = λ lt. absurd (omega (arith, lt)); degree = λ lt. absurd (omega (arith, lt)) }) (unknown_name ring infos line w head pieces is e)

  pub kind_refused : number_fits (length ring.vars) line head ≡ true → known_names ring.vars infos line head pieces ≡ true → right_kinds ring.vars infos line head pieces ≡ false → AnswersForm o infos line w (Err (Refused kinds.OfKind))
  kind_refused m n e = refused kinds.OfKind (record { number = λ lt. m; name = λ lt. n; kind = λ lt. absurd (omega (arith, lt)); rank = λ lt. absurd (omega (arith, lt)); degree = λ lt. absurd (omega (arith, lt)) }) (other_kind ring infos line w head pieces is e)

  pub rank_refused : number_fits (length ring.vars) line head ≡ true → known_names ring.vars infos line head pieces ≡ true → right_kinds ring.vars infos line head pieces ≡ true → rank_fits (length ring.vars) infos line head (length pieces) ≡ false → AnswersForm o infos line w (Err (Refused kinds.Rank))
  rank_refused m n k e = refused kinds.Rank (record { number = λ lt. m; name = λ lt. n; kind = λ lt. k; rank = λ lt. absurd (omega (arith, lt)); degree = λ lt. absurd (omega (arith, lt)) }) (other_rank ring infos line w head pieces is e)

  pub degree_refused :
      number_fits (length ring.vars) line head ≡ true → known_names ring.vars infos line head pieces ≡ true → right_kinds ring.vars infos line head pieces ≡ true → rank_fits (length ring.vars) infos line head (length pieces) ≡ true
      → list_all (λ v. low_degree ring line v.items) pieces ≡ false → AnswersForm o infos line w (Err (Refused kinds.Degree))
  degree_refused m n k r e = refused kinds.Degree (record { number = λ lt. m; name = λ lt. n; kind = λ lt. k; rank = λ lt. r; degree = λ lt. absurd (omega (arith, lt)) }) (great_degree ring infos line w head pieces is e)

  place_small : (kind : Kind) → place_of_kind kind < 14
  place_small kinds.Syntax = omega arith
  place_small kinds.Numeral = omega arith
  place_small kinds.Ring = omega arith
  place_small kinds.Modulus = omega arith
  place_small kinds.Name = omega arith
  place_small kinds.OfKind = omega arith
  place_small kinds.Rank = omega arith
  place_small kinds.Degree = omega arith
  place_small kinds.Homogeneous = omega arith
  place_small kinds.Leads = omega arith
  place_small kinds.Large = omega arith
  place_small kinds.Infinite = omega arith
  place_small kinds.Many = omega arith

  pub line_stated :
      number_fits (length ring.vars) line head ≡ true → known_names ring.vars infos line head pieces ≡ true → right_kinds ring.vars infos line head pieces ≡ true → rank_fits (length ring.vars) infos line head (length pieces) ≡ true → list_all (λ v. low_degree ring line v.items) pieces ≡ true
      → (result : Result Statement ParseStop) → IsStated ring line head pieces result → AnswersForm o infos line w result
  line_stated m n k r d result h = subst (λ x. AnswersForm x infos line w result) (sym stated) (by_result result h)
    where
      by_result : (result : Result Statement ParseStop) → IsStated ring line head pieces result → AnswersForm (Some ring) infos line w result
      by_result (Ok statement) h = (h w is, λ kind. none_before 14 (record { number = λ lt. m; name = λ lt. n; kind = λ lt. k; rank = λ lt. r; degree = λ lt. d }) kind (place_small kind))
      by_result (Err Memory) h = tt
      by_result (Err (Refused kind)) h = absurd h
