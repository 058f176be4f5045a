-- Steps on a stack of sums
use Rattle.std.proofs.Common.{◌≡◌, ℕ, ◌*◌, ◌+◌, ◌-◌, ◌<◌, ◌^◌, ◌≤◌, ◌++◌, List, [], ◌∷◌, Option, Some, None, Result, Ok, Err, IfOk, OnOk, arith, drop, get_or, length, refl, subst, suc, sym, ap, ◌∙◌}
use Rattle.std.proofs.Math.Seq.{drop-cons}
use Rattle.std.proofs.lemmas.Option.{none-some, same_Some}
use Rattle.std.specs.List.{AllByRecursion}
use Rattle.script_tokens.specs.declared.token.Token.{Token}
use Rattle.monomials.specs.Exponents.{unit}
use Rattle.formal_sums.proofs.Sameness.{IsSame_sym, IsSame_trans}
use Rattle.formal_sums.specs.FormalSums.{FormalSum, scale}
use Rattle.poly_grammar.specs.Algebras.{Algebra, ◌>>=◌, stack_top, worth_of_steps, worth_step, worths}
use Rattle.poly_grammar.specs.Numerals.{numeral_value}
use Rattle.poly_grammar.specs.Steps.{numbers_of_steps}
use Rattle.poly_grammar.specs.declared.step.PolyStep.{PolyStep}
use Rattle.poly_grammar.specs.declared.step.PolyStep.TheVariants.{Add, Multiply, Name, Negate, Number, Power, Subtract}
use Rattle.term_lists.specs.Rings.{variables}
use Rattle.term_lists.specs.Vectors.{StandsFor, sum_of}
use Rattle.term_lists.specs.declared.key.Key.{Key}
use Rattle.term_lists.specs.declared.ring.Ring.{Ring}
use Rattle.sparse_poly.proofs.Bounding.{HasDegreeWithin_same}
use Rattle.sparse_poly.specs.Degrees.{HasDegreeWithin}
use Rattle.poly_value.proofs.Degrees.{allowed, within_step}
use Rattle.poly_value.specs.Parts.{Advances, AreParts, HaveDegreesWithin, IsOperandPart, IsStepReady, PowerFits, ProductFitsBounds}
use Rattle.poly_value.specs.declared.operands.Operand.{Operand}
use Rattle.poly_value.specs.Values.{line_degrees, polynomials_of}

-- minus v
abbrev pub minus : (ring : Ring) → FormalSum (variables ring) → FormalSum (variables ring)
minus ring v = scale (ring.modulus.value - 1) (unit (variables ring)) v

-- sum is the sum of two operands
abbrev pub Joins : (ring : Ring) → Operand → Operand → Operand → Type 0
Joins ring left right sum = (v w : FormalSum (variables ring))
    → IsOperandPart ring v left.terms.items → IsOperandPart ring w right.terms.items → IsOperandPart ring (v ++ w) sum.terms.items

-- opposite is minus the terms
abbrev pub Opposes : (ring : Ring) → List (Key × ℕ) → List (Key × ℕ) → Type 0
Opposes ring terms opposite = (v : FormalSum (variables ring)) → IsOperandPart ring v terms → IsOperandPart ring (minus ring v) opposite

add_advances :
    (ring : Ring) (line : List ℕ) (rest : List Operand) (left right sum : Operand)
    → Joins ring left right sum → Advances ring line Add (right ∷ left ∷ rest) (sum ∷ rest)
add_advances ring line rest left right sum j [] out h w = absurd h
add_advances ring line rest left right sum j (b ∷ []) out h w = absurd h.1
add_advances ring line rest left right sum j (b ∷ a ∷ vs) out h w = subst (AreParts ring (sum ∷ rest)) (same_Some ((a ++ b) ∷ vs) out w) (j a b h.1.0 h.0, h.1.1)

subtract_advances :
    (ring : Ring) (line : List ℕ) (rest : List Operand) (left right opposite sum : Operand)
    → Opposes ring right.terms.items opposite.terms.items → Joins ring left opposite sum
    → Advances ring line Subtract (right ∷ left ∷ rest) (sum ∷ rest)
subtract_advances ring line rest left right opposite sum o j [] out h w = absurd h
subtract_advances ring line rest left right opposite sum o j (b ∷ []) out h w = absurd h.1
subtract_advances ring line rest left right opposite sum o j (b ∷ a ∷ vs) out h w =
    subst (AreParts ring (sum ∷ rest)) (same_Some ((a ++ minus ring b) ∷ vs) out w) (j a (minus ring b) h.1.0 (o b h.0), h.1.1)

negate_advances :
    (ring : Ring) (line : List ℕ) (rest : List Operand) (operand opposite : Operand)
    → Opposes ring operand.terms.items opposite.terms.items → Advances ring line Negate (operand ∷ rest) (opposite ∷ rest)
negate_advances ring line rest operand opposite o [] out h w = absurd h
negate_advances ring line rest operand opposite o (a ∷ vs) out h w =
    subst (AreParts ring (opposite ∷ rest)) (same_Some (minus ring a ∷ vs) out w) (o a h.0, h.1)

-- the same where one was taken from a stack, and one was put
moved_one :
    {E : Type 0} (ring : Ring) (line : List ℕ) (step : PolyStep) (old rest new : List Operand) (x y : Operand) (r : Result (Unit {0}) E)
    → old ≡ x ∷ rest → Advances ring line step (x ∷ rest) (y ∷ rest) → OnOk r (new ≡ y ∷ rest) → OnOk r (Advances ring line step old new)
moved_one ring line step old rest new x y (Ok u) e h n = subst (λ s. Advances ring line step s new) (sym e) (subst (λ s. Advances ring line step (x ∷ rest) s) (sym n) h)
moved_one ring line step old rest new x y (Err stop) e h n = tt

-- where two were taken
moved_two :
    {E : Type 0} (ring : Ring) (line : List ℕ) (step : PolyStep) (old mid rest new : List Operand) (left right sum : Operand) (r : Result (Unit {0}) E)
    → old ≡ right ∷ mid → mid ≡ left ∷ rest → Advances ring line step (right ∷ left ∷ rest) (sum ∷ rest) → OnOk r (new ≡ sum ∷ rest)
    → OnOk r (Advances ring line step old new)
moved_two ring line step old mid rest new left right sum (Ok u) e f h n =
    subst (λ s. Advances ring line step s new) (sym (e ∙ ap (λ s. right ∷ s) f)) (subst (λ s. Advances ring line step (right ∷ left ∷ rest) s) (sym n) h)
moved_two ring line step old mid rest new left right sum (Err stop) e f h n = tt

pub added :
    {E : Type 0} (ring : Ring) (line : List ℕ) (old mid rest new : List Operand) (left right sum : Operand) (r : Result (Unit {0}) E)
    → old ≡ right ∷ mid → mid ≡ left ∷ rest → Joins ring left right sum → OnOk r (new ≡ sum ∷ rest)
    → OnOk r (Advances ring line Add old new)
added ring line old mid rest new left right sum r e f j n = moved_two ring line Add old mid rest new left right sum r e f (add_advances ring line rest left right sum j) n

pub subtracted :
    {E : Type 0} (ring : Ring) (line : List ℕ) (old mid rest new : List Operand) (left right opposite sum : Operand) (r : Result (Unit {0}) E)
    → old ≡ right ∷ mid → mid ≡ left ∷ rest → Opposes ring right.terms.items opposite.terms.items → Joins ring left opposite sum
    → OnOk r (new ≡ sum ∷ rest)
    → OnOk r (Advances ring line Subtract old new)
subtracted ring line old mid rest new left right opposite sum r e f o j n =
    moved_two ring line Subtract old mid rest new left right sum r e f (subtract_advances ring line rest left right opposite sum o j) n

pub negated :
    {E : Type 0} (ring : Ring) (line : List ℕ) (old rest new : List Operand) (operand opposite : Operand) (r : Result (Unit {0}) E)
    → old ≡ operand ∷ rest → Opposes ring operand.terms.items opposite.terms.items → OnOk r (new ≡ opposite ∷ rest)
    → OnOk r (Advances ring line Negate old new)
negated ring line old rest new operand opposite r e o n =
    moved_one ring line Negate old rest new operand opposite r e (negate_advances ring line rest operand opposite o) n

-- the numbers among the first of steps and among the others
first_numerals : (P : Token → Type 0) (step : PolyStep) (more : List PolyStep) → AllByRecursion P (numbers_of_steps (step ∷ more)) → AllByRecursion P (numbers_of_steps (step ∷ []))
first_numerals P (Number t) more h = (h.0, tt)
first_numerals P (Power t) more h = (h.0, tt)
first_numerals P (Name t) more h = tt
first_numerals P Multiply more h = tt
first_numerals P Add more h = tt
first_numerals P Subtract more h = tt
first_numerals P Negate more h = tt

other_numerals : (P : Token → Type 0) (step : PolyStep) (more : List PolyStep) → AllByRecursion P (numbers_of_steps (step ∷ more)) → AllByRecursion P (numbers_of_steps more)
other_numerals P (Number t) more h = h.1
other_numerals P (Power t) more h = h.1
other_numerals P (Name t) more h = h
other_numerals P Multiply more h = h
other_numerals P Add more h = h
other_numerals P Subtract more h = h
other_numerals P Negate more h = h

-- where all steps have a worth, the first of them has one
has_worth : {A : Type 0} (g : Algebra A) (step : PolyStep) (more : List PolyStep) (stack : List A) (all : Option A) (x : A) → all ≡ Some x
    → (worths g (step ∷ more) stack >>= stack_top) ≡ all → (left : List A) × (worth_step g step stack ≡ Some left) × ((worths g more left >>= stack_top) ≡ all)
has_worth {A} g step more stack all x w h = go (worth_step g step stack) refl h
  where
    go : (o : Option (List A)) → worth_step g step stack ≡ o → ((o >>= worths g more) >>= stack_top) ≡ all
        → (left : List A) × (worth_step g step stack ≡ Some left) × ((worths g more left >>= stack_top) ≡ all)
    go None e r = absurd (none-some x (r ∙ w))
    go (Some left) e r = (left, e, r)

-- The stack stands for values from which the steps that are left give what all of them give, and so it is with the degrees.
pub record IsWorking (ring : Ring) (line : List ℕ) (all left : List PolyStep) (stack : List Operand) : Type 0 where
  pub values : List (FormalSum (variables ring))
  pub parts : AreParts ring stack values
  pub worth_is : (worths (polynomials_of ring line) left values >>= stack_top) ≡ worth_of_steps (polynomials_of ring line) all
  pub bounds : List ℕ
  pub within : HaveDegreesWithin ring.weights ring.modulus.value values bounds
  pub degree_is : (worths (line_degrees ring line) left bounds >>= stack_top) ≡ worth_of_steps (line_degrees ring line) all
  pub numerals : AllByRecursion (λ t. numeral_value line t < 2 ^ 128) (numbers_of_steps left)

module _ (ring : Ring) (line : List ℕ) (all : List PolyStep) (x : FormalSum (variables ring)) (d : ℕ)
    (w : worth_of_steps (polynomials_of ring line) all ≡ Some x) (low : worth_of_steps (line_degrees ring line) all ≡ Some d) where
  pub starts : AllByRecursion (λ t. numeral_value line t < 2 ^ 128) (numbers_of_steps all) → IsWorking ring line all all []
  starts h = record { values = []; parts = tt; worth_is = refl; bounds = []; within = tt; degree_is = refl; numerals = h }

  ready : (more : List PolyStep) (step : PolyStep) (old : List Operand) → IsWorking ring line all (step ∷ more) old → IsStepReady ring line step old
  ready more step old h =
      let one = has_worth (polynomials_of ring line) step more h.values _ x w h.worth_is in
      let other = has_worth (line_degrees ring line) step more h.bounds _ d low h.degree_is in
      record { values = h.values; parts = h.parts; worth = (one.0, one.1); bounds = h.bounds; within = h.within; degree = (other.0, other.1); numerals = first_numerals _ step more h.numerals }

  working_step : (more : List PolyStep) (step : PolyStep) (old new : List Operand) → IsWorking ring line all (step ∷ more) old → Advances ring line step old new → IsWorking ring line all more new
  working_step more step old new h advances =
      let one = has_worth (polynomials_of ring line) step more h.values _ x w h.worth_is in
      let other = has_worth (line_degrees ring line) step more h.bounds _ d low h.degree_is in
      record {
        values = one.0;
        parts = advances h.values one.0 h.parts one.1;
        worth_is = one.2;
        bounds = other.0;
        within = within_step ring line step h.values one.0 h.bounds other.0 one.1 other.1 h.within;
        degree_is = other.2;
        numerals = other_numerals _ step more h.numerals;
      }

  module _ (i : ℕ) (step other : PolyStep) (old : List Operand) (lt : i < length all) (e : step ≡ get_or all i other) (h : IsWorking ring line all (drop i all) old) where
    here : IsWorking ring line all (step ∷ drop (i + 1) all) old
    here =
        let s : suc i ≡ i + 1 = omega arith in
        let first : drop i all ≡ step ∷ drop (i + 1) all = drop-cons all i other lt ∙ ap (λ y. y ∷ drop (suc i) all) (sym e) ∙ ap (λ k. step ∷ drop k all) s in
        subst (λ l. IsWorking ring line all l old) first h

    -- one step of the loop can be done
    pub is_ready : IsStepReady ring line step old
    is_ready = ready (drop (i + 1) all) step old here

    -- and leads on
    pub working_on : (new : List Operand) → Advances ring line step old new → IsWorking ring line all (drop (i + 1) all) new
    working_on new advances = working_step (drop (i + 1) all) step old new here advances

sum_within : (ring : Ring) (d : ℕ) (v : FormalSum (variables ring)) (terms : List (Key × ℕ)) → IsOperandPart ring v terms → HasDegreeWithin ring.weights ring.modulus.value d v
    → HasDegreeWithin ring.weights ring.modulus.value d (sum_of (variables ring) terms)
sum_within ring d v terms h g = HasDegreeWithin_same (IsSame_sym h.stands) g

-- the degrees of a product and a power that can be worked out
pub product_fits :
    (ring : Ring) (line : List ℕ) (stack mid rest : List Operand) (right left : Operand)
    → IsStepReady ring line Multiply stack → stack ≡ right ∷ mid → mid ≡ left ∷ rest → ProductFitsBounds ring left.terms.items right.terms.items
product_fits ring line stack mid rest right left h e f = go h.values h.bounds (subst (λ l. AreParts ring l h.values) (e ∙ ap (λ l. right ∷ l) f) h.parts) h.within h.degree.1
  where
    go :
        (vs : List (FormalSum (variables ring))) (ds : List ℕ) → AreParts ring (right ∷ left ∷ rest) vs → HaveDegreesWithin ring.weights ring.modulus.value vs ds
        → worth_step (line_degrees ring line) Multiply ds ≡ Some h.degree.0 → ProductFitsBounds ring left.terms.items right.terms.items
    go [] ds p q r = absurd p
    go (b ∷ []) ds p q r = absurd p.1
    go (b ∷ a ∷ vs) [] p q r = absurd q
    go (b ∷ a ∷ vs) (d ∷ []) p q r = absurd q.1
    go (b ∷ a ∷ vs) (d ∷ c ∷ ds) p q r =
        let le = (allowed (c + d) ds h.degree.0 r).0 in
        (c, d, sum_within ring c a left.terms.items p.1.0 q.1.0, sum_within ring d b right.terms.items p.0 q.0, omega arith)

pub power_fits :
    (ring : Ring) (line : List ℕ) (token : Token) (stack rest : List Operand) (base : Operand) (n : ℕ)
    → IsStepReady ring line (Power token) stack → stack ≡ base ∷ rest → n ≡ numeral_value line token → PowerFits ring base.terms.items n
power_fits ring line token stack rest base n h e is = go h.values h.bounds (subst (λ l. AreParts ring l h.values) e h.parts) h.within h.degree.1
  where
    go :
        (vs : List (FormalSum (variables ring))) (ds : List ℕ) → AreParts ring (base ∷ rest) vs → HaveDegreesWithin ring.weights ring.modulus.value vs ds
        → worth_step (line_degrees ring line) (Power token) ds ≡ Some h.degree.0 → PowerFits ring base.terms.items n
    go [] ds p q r = absurd p
    go (v ∷ vs) [] p q r = absurd q
    go (v ∷ vs) (d ∷ ds) p q r =
        let k : ℕ = numeral_value line token in
        let le : d * k ≤ 1000 = (allowed (d * k) ds h.degree.0 r).0 in
        let fits : k * d ≤ 65535 = omega arith in
        (d, sum_within ring d v base.terms.items p.0 q.0, subst (λ m. m * d ≤ 65535) (sym is) fits)

-- at the end there is something on top
pub working_has_top :
    (ring : Ring) (line : List ℕ) (all left : List PolyStep) (stack : List Operand) (x : FormalSum (variables ring))
    → left ≡ [] → stack ≡ [] → worth_of_steps (polynomials_of ring line) all ≡ Some x → IsWorking ring line all left stack → ⊥
working_has_top ring line all left stack x n s w h =
    go h.values (subst (λ l. AreParts ring l h.values) s h.parts) (sym (ap (λ l. worths (polynomials_of ring line) l h.values >>= stack_top) n) ∙ h.worth_is ∙ w)
  where
    go : (vs : List (FormalSum (variables ring))) → AreParts ring [] vs → stack_top vs ≡ Some x → ⊥
    go [] p e = none-some x e
    go (v ∷ vs) p e = absurd p

-- what is left on top at the end
pub working_ends :
    (ring : Ring) (line : List ℕ) (all left : List PolyStep) (stack rest : List Operand) (operand : Operand) (x : FormalSum (variables ring))
    → left ≡ [] → stack ≡ operand ∷ rest → worth_of_steps (polynomials_of ring line) all ≡ Some x
    → IsWorking ring line all left stack → IsOperandPart ring x operand.terms.items
working_ends ring line all left stack rest operand x n s w h =
    go h.values (subst (λ l. AreParts ring l h.values) s h.parts) (sym (ap (λ l. worths (polynomials_of ring line) l h.values >>= stack_top) n) ∙ h.worth_is ∙ w)
  where
    go : (vs : List (FormalSum (variables ring))) → AreParts ring (operand ∷ rest) vs → stack_top vs ≡ Some x → IsOperandPart ring x operand.terms.items
    go [] p e = absurd p
    go (v ∷ vs) p e = subst (λ y. IsOperandPart ring y operand.terms.items) (same_Some v x e) p.0

-- the normal form of a part
pub normal_stands :
    {E A : Type 0} (view : A → List (Key × ℕ)) (ring : Ring) (x : FormalSum (variables ring)) (terms : List (Key × ℕ)) (r : Result A E)
    → IsOperandPart ring x terms → IfOk r (λ v. StandsFor ring (view v) (sum_of (variables ring) terms)) → IfOk r (λ v. StandsFor ring (view v) x)
normal_stands view ring x terms (Ok v) part same = IsSame_trans same part.stands
normal_stands view ring x terms (Err stop) part same = tt
