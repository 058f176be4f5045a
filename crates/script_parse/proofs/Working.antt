-- Working out the polynomials of a line
use Rattle.std.proofs.Common.{◌≡◌, ℕ, zero, suc, ◌+◌, ◌*◌, ◌<◌, ◌≤◌, ◌^◌, max, cond, Bool, true, false, List, [], ◌∷◌, ◌++◌, drop, get_or, length, set, take, Option, Some, None, Result, Ok, Err, IfOk, Vec, Global, option_and_then, refl, sym, ap, ap₂, subst, ◌∙◌, arith, add-one, append_assoc, drop-cons, length-append, length-take-le}
use Rattle.std.proofs.lemmas.List.{append-nil, length-map, map-append}
use Rattle.std.specs.List.{AllByRecursion, list_all}
use Rattle.std.specs.Option.{option_map}
use Rattle.std.specs.Prelude.{is_some, not, ◌&&◌}
use Rattle.script_tokens.specs.declared.token.Token.{Token}
use Rattle.poly_grammar.specs.Algebras.{push, stack_top, worth_of_steps, worths}
use Rattle.poly_grammar.specs.Degrees.{bounded, degrees, formal_degree}
use Rattle.poly_grammar.specs.Numerals.{numeral_value, text_of}
use Rattle.poly_grammar.specs.Steps.{numbers_of_steps, steps}
use Rattle.poly_grammar.specs.Trees.{Poly}
use Rattle.poly_grammar.specs.declared.step.PolyStep.{PolyStep}
use Rattle.poly_grammar.specs.declared.step.PolyStep.TheVariants.{Number, Name, Power, Multiply, Add, Subtract, Negate}
use Rattle.poly_grammar.proofs.Worths.{worth_is_left}
use Rattle.monomials.specs.Exponents.{exponents_of, times, unit}
use Rattle.monomials.proofs.Monomials.{times-unit, times_comm}
use Rattle.formal_sums.specs.FormalSums.{Each, FormalSum, HasRank, IsSame, product}
use Rattle.formal_sums.proofs.Multiplying.{IsSame_product}
use Rattle.formal_sums.proofs.OfRank.{IsOfRank_of}
use Rattle.formal_sums.proofs.Sameness.{IsSame_append, IsSame_of, IsSame_trans}
use Rattle.formal_sums.proofs.WeightedSums.{Each_append}
use Rattle.bases.specs.Settings.{IsLawful}
use Rattle.zp_field.proofs.TableFields.{is_modulus-domain}
use Rattle.monomial_orders.specs.Laws.{key_comparison_order}
use Rattle.term_lists.specs.Rings.{ring_comparison, setting, variables}
use Rattle.term_lists.specs.Vectors.{AreTermsOver, HasPositions, IsTerm, IsVectorOver, StandsFor, sum_of}
use Rattle.term_lists.specs.declared.key.Key.{Key}
use Rattle.term_lists.specs.declared.ring.Ring.{Ring}
use Rattle.term_lists.proofs.Merges.{sum_of-append}
use Rattle.term_lists.proofs.NormalVectors.{vector_positions}
use Rattle.term_lists.proofs.Scaling.{take_item}
use Rattle.poly_value.specs.Values.{line_degrees, name_weight, place_of, polynomials, polynomials_of}
use Rattle.script_parse.specs.Tests.{AreWorths, HasEntryTerms, IsWorkable, IsWorth, moved_to, knows, low_degree}
use Rattle.script_parse.specs.Statements.{entries_from}

-- where the degrees can be worked out and the names are known, so can the polynomials
module _ (n p : ℕ) (vars : List (List ℕ)) (line : List ℕ) (weight : Token → ℕ) where
  abbrev Runs : List PolyStep → List (FormalSum n) → List ℕ → Type 0
  Runs xs vs ds = (left : List (FormalSum n)) × (worths (polynomials n p vars (text_of line) (numeral_value line)) xs vs ≡ Some left) × (length left ≡ length ds)

  abbrev Goes : List PolyStep → Type 0
  Goes xs = (ds left : List ℕ) (vs : List (FormalSum n)) → length vs ≡ length ds → knows vars line xs ≡ true → worths (degrees weight (numeral_value line)) xs ds ≡ Some left → Runs xs vs left

  pushed : (xs : List PolyStep) (o : Option ℕ) (ds left : List ℕ) (v : FormalSum n) (vs : List (FormalSum n)) → Goes xs → length vs ≡ length ds → knows vars line xs ≡ true
      → option_and_then (worths (degrees weight (numeral_value line)) xs) (push ds o) ≡ Some left → Runs xs (v ∷ vs) left
  pushed xs None ds left v vs go e known h = absurd cc
  pushed xs (Some d) ds left v vs go e known h = go (d ∷ ds) left (v ∷ vs) (omega (arith, e)) known h

  named :
      (xs : List PolyStep) (o w : Option ℕ) (f : ℕ → FormalSum n) (ds left : List ℕ) (vs : List (FormalSum n)) → Goes xs → length vs ≡ length ds → is_some o ≡ true → knows vars line xs ≡ true
      → option_and_then (worths (degrees weight (numeral_value line)) xs) (push ds w) ≡ Some left
      → (end : List (FormalSum n)) × (option_and_then (worths (polynomials n p vars (text_of line) (numeral_value line)) xs) (push vs (option_map f o)) ≡ Some end) × (length end ≡ length left)
  named xs None w f ds left vs go e some known h = absurd cc
  named xs (Some i) None f ds left vs go e some known h = absurd cc
  named xs (Some i) (Some d) f ds left vs go e some known h = go (d ∷ ds) left (f i ∷ vs) (omega (arith, e)) known h

  both_true : (a b : Bool) → cond a b false ≡ true → (a ≡ true) × (b ≡ true)
  both_true true b h = (refl, h)
  both_true false b h = absurd cc

  goes : (xs : List PolyStep) → Goes xs
  goes [] ds left vs e known h = (vs, refl, (let s : ds ≡ left = cc (h) in e ∙ ap length s))
  goes (Number t ∷ xs) ds left vs e known h = goes xs (0 ∷ ds) left (_ ∷ vs) (omega (arith, e)) known h
  goes (Name t ∷ xs) ds left vs e known h =
      let k = both_true (is_some (place_of vars (text_of line t))) (knows vars line xs) known in
      named xs (place_of vars (text_of line t)) (bounded (weight t)) _ ds left vs (goes xs) e k.0 k.1 h
  goes (Power t ∷ xs) [] left vs e known h = absurd cc
  goes (Power t ∷ xs) (d ∷ ds) left [] e known h = absurd (omega (arith, e))
  goes (Power t ∷ xs) (d ∷ ds) left (v ∷ vs) e known h = pushed xs (bounded (d * numeral_value line t)) ds left _ vs (goes xs) (omega (arith, e)) known h
  goes (Multiply ∷ xs) [] left vs e known h = absurd cc
  goes (Multiply ∷ xs) (d ∷ []) left vs e known h = absurd cc
  goes (Multiply ∷ xs) (d ∷ c ∷ ds) left [] e known h = absurd (omega (arith, e))
  goes (Multiply ∷ xs) (d ∷ c ∷ ds) left (v ∷ []) e known h = absurd (omega (arith, e))
  goes (Multiply ∷ xs) (d ∷ c ∷ ds) left (v ∷ u ∷ vs) e known h = pushed xs (bounded (c + d)) ds left _ vs (goes xs) (omega (arith, e)) known h
  goes (Add ∷ xs) [] left vs e known h = absurd cc
  goes (Add ∷ xs) (d ∷ []) left vs e known h = absurd cc
  goes (Add ∷ xs) (d ∷ c ∷ ds) left [] e known h = absurd (omega (arith, e))
  goes (Add ∷ xs) (d ∷ c ∷ ds) left (v ∷ []) e known h = absurd (omega (arith, e))
  goes (Add ∷ xs) (d ∷ c ∷ ds) left (v ∷ u ∷ vs) e known h = goes xs (max c d ∷ ds) left (_ ∷ vs) (omega (arith, e)) known h
  goes (Subtract ∷ xs) [] left vs e known h = absurd cc
  goes (Subtract ∷ xs) (d ∷ []) left vs e known h = absurd cc
  goes (Subtract ∷ xs) (d ∷ c ∷ ds) left [] e known h = absurd (omega (arith, e))
  goes (Subtract ∷ xs) (d ∷ c ∷ ds) left (v ∷ []) e known h = absurd (omega (arith, e))
  goes (Subtract ∷ xs) (d ∷ c ∷ ds) left (v ∷ u ∷ vs) e known h = goes xs (max c d ∷ ds) left (_ ∷ vs) (omega (arith, e)) known h
  goes (Negate ∷ xs) [] left vs e known h = absurd cc
  goes (Negate ∷ xs) (d ∷ ds) left [] e known h = absurd (omega (arith, e))
  goes (Negate ∷ xs) (d ∷ ds) left (v ∷ vs) e known h = goes xs (d ∷ ds) left (_ ∷ vs) (omega (arith, e)) known h

  on_top : (o : Option (List ℕ)) (d : ℕ) → option_and_then stack_top o ≡ Some d → (rest : List ℕ) × (o ≡ Some (d ∷ rest))
  on_top None d h = absurd cc
  on_top (Some []) d h = absurd cc
  on_top (Some (c ∷ rest)) d h = let same : c ≡ d = cc (h) in (rest, ap (λ x. Some (x ∷ rest)) same)

  has_top : (o : Option (List (FormalSum n))) (left : List (FormalSum n)) (k : ℕ) → o ≡ Some left → length left ≡ suc k → (x : FormalSum n) × (option_and_then stack_top o ≡ Some x)
  has_top o [] k e l = absurd (omega (arith, l))
  has_top o (x ∷ rest) k e l = (x, rw e refl)

  pub has_worth : (xs : List PolyStep) (d : ℕ) → knows vars line xs ≡ true → worth_of_steps (degrees weight (numeral_value line)) xs ≡ Some d → (x : FormalSum n) × (worth_of_steps (polynomials n p vars (text_of line) (numeral_value line)) xs ≡ Some x)
  has_worth xs d known h =
      let t = on_top (worths (degrees weight (numeral_value line)) xs []) d h in
      let r = goes xs [] (d ∷ t.0) [] refl known t.1 in
      has_top (worths (polynomials n p vars (text_of line) (numeral_value line)) xs []) r.0 (length t.0) r.1 (r.2)

-- the weights of a line's names
abbrev pub weight_of : Ring → List ℕ → Token → ℕ
weight_of ring line t = name_weight ring (text_of line t)

pub degree_of_steps :
    (ring : Ring) (line : List ℕ) (xs : List PolyStep) (p : Poly) (o : Option ℕ) → xs ≡ steps p → o ≡ formal_degree (weight_of ring line) (numeral_value line) p
    → worth_of_steps (line_degrees ring line) xs ≡ o
degree_of_steps ring line xs p o is e = ap (worth_of_steps (line_degrees ring line)) is ∙ worth_is_left (line_degrees ring line) p ∙ sym e

-- ---- tests of a list's items one by one

pub item_of : {X : Type 0} (P : X → Type 0) (xs : List X) (i : ℕ) (x : X) → AllByRecursion P xs → i < length xs → x ≡ get_or xs i x → P x
item_of P [] i x h lt e = absurd (omega (arith, lt))
item_of P (y ∷ xs) zero x h lt e = subst P (sym e) h.0
item_of P (y ∷ xs) (suc i) x h lt e = item_of P xs i x h.1 (omega (arith, lt)) e

pub dropped : {X : Type 0} (xs : List X) (i : ℕ) (x : X) → i < length xs → x ≡ get_or xs i x → drop i xs ≡ x ∷ drop (i + 1) xs
dropped xs i x lt e = drop-cons xs i x lt ∙ ap₂ (λ y k. y ∷ drop k xs) (sym e) (sym (add-one i))

pub all_ends : {X : Type 0} (f : X → Bool) (xs : List X) (i : ℕ) (x : X) → i < length xs → x ≡ get_or xs i x → list_all f (drop i xs) ≡ list_all f xs → f x ≡ false → false ≡ list_all f xs
all_ends f xs i x lt e h fails = ap (λ b. b && list_all f (drop (i + 1) xs)) (sym fails) ∙ sym (ap (list_all f) (dropped xs i x lt e)) ∙ h

pub all_goes : {X : Type 0} (f : X → Bool) (xs : List X) (i : ℕ) (x : X) → i < length xs → x ≡ get_or xs i x → list_all f (drop i xs) ≡ list_all f xs → f x ≡ true → list_all f (drop (i + 1) xs) ≡ list_all f xs
all_goes f xs i x lt e h passes = ap (λ b. b && list_all f (drop (i + 1) xs)) (sym passes) ∙ sym (ap (list_all f) (dropped xs i x lt e)) ∙ h

pub low_is :
    (ring : Ring) (line : List ℕ) (xs : List PolyStep) (p : Poly) (o : Option ℕ) (r : Bool) → xs ≡ steps p → o ≡ formal_degree (weight_of ring line) (numeral_value line) p
    → is_some o ≡ not r → low_degree ring line xs ≡ not r
low_is ring line xs p o r is e f = ap is_some (degree_of_steps ring line xs p o is e) ∙ f

-- ---- lists of worths

worths_push : (ring : Ring) (line : List ℕ) (pieces : List (Vec PolyStep Global)) (us : List (List (Key × ℕ))) (v : Vec PolyStep Global) (u : List (Key × ℕ)) → AreWorths ring line pieces us → IsWorth ring line v.items u → AreWorths ring line (pieces ++ v ∷ []) (us ++ u ∷ [])
worths_push ring line [] [] v u h w = (w, tt)
worths_push ring line [] (x ∷ us) v u h w = absurd h
worths_push ring line (p ∷ pieces) [] v u h w = absurd h
worths_push ring line (p ∷ pieces) (x ∷ us) v u h w = (h.0, worths_push ring line pieces us v u h.1 w)

pub worths_go :
    (ring : Ring) (line : List ℕ) (pieces : List (Vec PolyStep Global)) (i : ℕ) (v : Vec PolyStep Global) (old new : List (List (Key × ℕ))) (u : List (Key × ℕ))
    → i < length pieces → v ≡ get_or pieces i v → new ≡ old ++ u ∷ [] → AreWorths ring line (take i pieces) old → IsWorth ring line v.items u → AreWorths ring line (take (i + 1) pieces) new
worths_go ring line pieces i v old new u lt e f h w =
    subst (λ l. AreWorths ring line l new) (sym (take_item pieces i v lt e)) (subst (λ l. AreWorths ring line (take i pieces ++ v ∷ []) l) (sym f) (worths_push ring line (take i pieces) old v u h w))

-- ---- what working a polynomial out asks of its steps
module _ (ring : Ring) (line : List ℕ) (v : Vec PolyStep Global) (xs : List PolyStep) (is : xs ≡ v.items) (able : IsWorkable ring line v) where
  pub worth_by : (x : FormalSum (variables ring)) × (worth_of_steps (polynomials_of ring line) xs ≡ Some x)
  worth_by = subst (λ l. (x : FormalSum (variables ring)) × (worth_of_steps (polynomials_of ring line) l ≡ Some x)) (sym is) able.worth

  pub degree_by : (d : ℕ) × (worth_of_steps (line_degrees ring line) xs ≡ Some d)
  degree_by = subst (λ l. (d : ℕ) × (worth_of_steps (line_degrees ring line) l ≡ Some d)) (sym is) able.degree

  pub numerals_by : AllByRecursion (λ t. numeral_value line t < 2 ^ 128) (numbers_of_steps xs)
  numerals_by = subst (λ l. AllByRecursion (λ t. numeral_value line t < 2 ^ 128) (numbers_of_steps l)) (sym is) able.numerals

-- the first of those that can be worked out
pub first_workable : (ring : Ring) (line : List ℕ) (pieces more : List (Vec PolyStep Global)) (v : Vec PolyStep Global) → pieces ≡ v ∷ more → AllByRecursion
    (IsWorkable ring line) pieces → IsWorkable ring line v
first_workable ring line pieces more v e able = let all = subst (λ l. AllByRecursion (IsWorkable ring line) l) e able in all.0

-- ---- terms moved to a position

abbrev moved : ℕ → Key × ℕ → Key × ℕ
moved i t = (record { position = i; monomial = t.0.monomial }, t.1)

move_get : (p : ℕ) (xs : List (Key × ℕ)) (i : ℕ) (d : Key × ℕ) → i < length xs → get_or (moved_to p (take i xs) ++ drop i xs) i d ≡ get_or xs i d
move_get p [] i d lt = absurd (omega (arith, lt))
move_get p (x ∷ xs) zero d lt = refl
move_get p (x ∷ xs) (suc i) d lt = move_get p xs i d (omega (arith, lt))

move_set : (p : ℕ) (xs : List (Key × ℕ)) (i : ℕ) (t : Key × ℕ) → i < length xs → t ≡ get_or xs i t → set (moved_to p (take i xs) ++ drop i xs) i (moved p t) ≡ moved_to p (take (suc i) xs) ++ drop (suc i) xs
move_set p [] i t lt e = absurd (omega (arith, lt))
move_set p (x ∷ xs) zero t lt e = ap (λ y. moved p y ∷ xs) e
move_set p (x ∷ xs) (suc i) t lt e = ap (λ r. moved p x ∷ r) (move_set p xs i t (omega (arith, lt)) e)

pub move_step :
    (p : ℕ) (xs ys : List (Key × ℕ)) (i : ℕ) (y : Key × ℕ) → i < length xs → ys ≡ moved_to p (take i xs) ++ drop i xs → y ≡ get_or ys i y
    → set ys i (moved p y) ≡ moved_to p (take (i + 1) xs) ++ drop (i + 1) xs
move_step p xs ys i y lt e hy =
    let ey : y ≡ get_or xs i y = hy ∙ ap (λ z. get_or z i y) e ∙ move_get p xs i y lt in
    ap (λ z. set z i (moved p y)) e ∙ move_set p xs i y lt ey ∙ ap₂ (λ j k. moved_to p (take j xs) ++ drop k xs) (sym (add-one i)) (sym (add-one i))

-- they stand for the polynomial times the unit vector there
moved_sum : (n i : ℕ) (terms : List (Key × ℕ)) → sum_of n (moved_to i terms) ≡ product (sum_of n terms) (((i, unit n), 1) ∷ [])
moved_sum n i [] = refl
moved_sum n i (t ∷ terms) =
    let e = exponents_of n t.0.monomial.exponents in
    let m : e ≡ times e (unit n) = sym (times-unit e) ∙ times_comm (unit n) e in
    let c : t.1 ≡ t.1 * 1 = omega arith in
    ap₂ ◌∷◌ (ap₂ (λ x y. ((i, x), y)) m c) (moved_sum n i terms)

moved_over : (ring : Ring) (i : ℕ) (terms : List (Key × ℕ)) → Each (IsTerm (variables ring) ring.weights ring.modulus.value) terms → AreTermsOver ring (moved_to i terms)
moved_over ring i [] h = tt
moved_over ring i (t ∷ terms) h = ((h.0.weighed, h.0.reduced), moved_over ring i terms h.1)

moved_positions : (i : ℕ) (terms : List (Key × ℕ)) → HasPositions (i + 1) (moved_to i terms)
moved_positions i [] = tt
moved_positions i (t ∷ terms) = (omega arith, moved_positions i terms)

more_positions : (i k : ℕ) (terms : List (Key × ℕ)) → i ≤ k → HasPositions i terms → HasPositions k terms
more_positions i k [] le h = tt
more_positions i k (t ∷ terms) le h = let lt : t.0.position < i = h.0 in (omega arith, more_positions i k terms le h.1)

entries_push : {n : ℕ} (i : ℕ) (xs : List (FormalSum n)) (x : FormalSum n) → entries_from i (xs ++ x ∷ []) ≡ entries_from i xs ++ product x (((i + length xs, unit n), 1) ∷ [])
entries_push {n = n} i [] x =
    let e : i ≡ i + 0 = omega arith in
    append-nil (product x (((i, unit n), 1) ∷ [])) ∙ ap (λ k. product x (((k, unit n), 1) ∷ [])) e
entries_push {n = n} i (y ∷ xs) x =
    let e : (i + 1) + length xs ≡ i + suc (length xs) = omega arith in
    ap (λ l. product y (((i, unit n), 1) ∷ []) ++ l) (entries_push (i + 1) xs x ∙ ap (λ k. entries_from (i + 1) xs ++ product x (((k, unit n), 1) ∷ [])) e)
    ∙ sym (append_assoc (product y (((i, unit n), 1) ∷ [])) (entries_from (i + 1) xs) (product x (((i + suc (length xs), unit n), 1) ∷ [])))

positive : (ring : Ring) → 0 < ring.modulus.value
positive ring = let d = is_modulus-domain ring.modulus.value ring.modulus.table in omega (arith, d.above_one)

-- one more entry
pub entries_go :
    (ring : Ring) (line : List ℕ) (pieces : List (Vec PolyStep Global)) (i : ℕ) (v : Vec PolyStep Global) (old new u : List (Key × ℕ))
    → i < length pieces → v ≡ get_or pieces i v → new ≡ old ++ moved_to i u → HasEntryTerms ring line (take i pieces) old → IsWorkable ring line v → IsWorth ring line v.items u
    → HasEntryTerms ring line (take (i + 1) pieces) new
entries_go ring line pieces i v old new u lt e f h able w =
    subst (λ l. HasEntryTerms ring line (take (i + 1) pieces) l) (sym f) (subst (λ l. HasEntryTerms ring line l (old ++ moved_to i u)) (sym (take_item pieces i v lt e)) more)
  where
    n : ℕ
    n = variables ring

    first : List (Vec PolyStep Global)
    first = take i pieces

    count : length (take i pieces) ≡ i
    count = length-take-le i pieces (omega (arith, lt))

    x : FormalSum (variables ring)
    x = able.worth.0

    many : length h.stands.entries ≡ i
    many = sym (length-map h.stands.entries Some) ∙ ap length (sym h.stands.worths_are) ∙ length-map (take i pieces) (λ y. worth_of_steps (polynomials_of ring line) y.items) ∙ count

    last : IsSame ring.modulus.value (sum_of (variables ring) (moved_to i u)) (product able.worth.0 (((0 + length h.stands.entries, unit (variables ring)), 1) ∷ []))
    last =
        let place : i ≡ 0 + length h.stands.entries = omega (arith, many) in
        IsSame_trans (IsSame_of ring.modulus.value _ _ (moved_sum (variables ring) i u ∙ ap (λ k. product (sum_of (variables ring) u) (((k, unit (variables ring)), 1) ∷ [])) place))
        (IsSame_product (positive ring) (sum_of (variables ring) u) able.worth.0 (((0 + length h.stands.entries, unit (variables ring)), 1) ∷ []) (w.value able.worth.0 able.worth.1))

    more : HasEntryTerms ring line (take i pieces ++ v ∷ []) (old ++ moved_to i u)
    more = record {
      over = Each_append _ old (moved_to i u) h.over (moved_over ring i u w.vector.each);
      positions =
          let size : length (take i pieces ++ v ∷ []) ≡ i + 1 = length-append (take i pieces) (v ∷ []) ∙ ap (λ k. k + 1) count in
          let low : HasPositions i old = subst (λ k. HasPositions k old) count h.positions in
          subst (λ k. HasPositions k (old ++ moved_to i u)) (sym size) (Each_append _ old (moved_to i u) (more_positions i (i + 1) old (omega arith) low) (moved_positions i u));
      stands = record {
        entries = h.stands.entries ++ able.worth.0 ∷ [];
        worths_are = map-append (λ y. worth_of_steps (polynomials_of ring line) y.items) (take i pieces) (v ∷ []) ∙ ap₂ (λ l o. l ++ o ∷ []) h.stands.worths_are able.worth.1 ∙ sym (map-append Some h.stands.entries (able.worth.0 ∷ []));
        stands = IsSame_trans (IsSame_of ring.modulus.value _ _ (sum_of-append (variables ring) old (moved_to i u)))
            (IsSame_trans (IsSame_append h.stands.stands last) (IsSame_of ring.modulus.value _ _ (sym (entries_push 0 h.stands.entries able.worth.0))));
      };
    }

pub lawful : (ring : Ring) (rank : ℕ) → IsLawful (setting ring (variables ring) (ring_comparison ring (variables ring)) rank)
lawful ring rank = record { domain = is_modulus-domain ring.modulus.value ring.modulus.table; order = key_comparison_order ring.module_order ring.order ring.weights (variables ring) rank }

sum_rank : (n m : ℕ) (terms : List (Key × ℕ)) → HasPositions m terms → HasRank m (sum_of n terms)
sum_rank n m [] h = tt
sum_rank n m (t ∷ terms) h = (h.0, sum_rank n m terms h.1)

pub positions_of_terms :
    {A E : Type 0} (view : A → List (Key × ℕ)) (ring : Ring) (m : ℕ) (terms : List (Key × ℕ)) (r : Result A E) → HasPositions m terms
    → IfOk r (λ v. IsVectorOver ring (ring_comparison ring) (view v)) → IfOk r (λ v. StandsFor ring (view v) (sum_of (variables ring) terms)) → IfOk r (λ v. HasPositions m (view v))
positions_of_terms view ring m terms (Ok v) h vector same = vector_positions ring (ring_comparison ring) m m (view v) (sum_of (variables ring) terms) (lawful ring m) vector same (IsOfRank_of ring.modulus.value m (sum_of (variables ring) terms) (sum_rank (variables ring) m terms h))
positions_of_terms view ring m terms (Err stop) h vector same = tt
