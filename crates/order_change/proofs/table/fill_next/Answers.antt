use Rattle.std.proofs.Common.{MatchOption, arith, length, subst, ◌<◌}
use Rattle.std.specs.Prelude.{slice_index}
use Rattle.monomials.specs.Exponents.{exponents_of}
use Rattle.monomial_orders.specs.Comparisons.{comparison}
use Rattle.term_lists.specs.Vectors.{sums_of}
use Rattle.order_change.proofs.Filling.{filling_candidate, filling_least, filling_more, sum_below}
use Rattle.order_change.proofs.Items.{length_monomials}
use Rattle.order_change.specs.Products.{HadAllItems, IsCandidate, IsLeast}
use Rattle.monomial_orders.specs.Kept.{monomials}
use Rattle.order_change.proofs.table.fill_next.Goals as goal

pub product_form-requires-clause-candidate : goal.product_form-requires-clause-candidate
product_form-requires-clause-candidate c =
    let ring = c.args.ring.now in
    let n = length ring.weights in
    let standard = c.args.standard.now in
    let turns = c.args.turns.now in
    let both = subst (λ z. MatchOption z (HadAllItems (slice_index turns) n (length standard)) (λ x. IsCandidate n ring.weights standard (slice_index turns) x
    × IsLeast n (comparison ring.order ring.weights n) (monomials n standard) (slice_index turns) n (exponents_of n x.monomial.exponents))) c.in-Some.is c.in_ok-candidate.ensures in
    filling_candidate (comparison ring.order ring.weights n) ring.modulus.value (sums_of n c.args.basis.now) ring.weights standard turns c.args.table.now c.in-Some.candidate c.requires.filling both.0

pub product_form-requires-clause-least : goal.product_form-requires-clause-least
product_form-requires-clause-least c =
    let ring = c.args.ring.now in
    let n = length ring.weights in
    let standard = c.args.standard.now in
    let turns = c.args.turns.now in
    let both = subst (λ z. MatchOption z (HadAllItems (slice_index turns) n (length standard)) (λ x. IsCandidate n ring.weights standard (slice_index turns) x
    × IsLeast n (comparison ring.order ring.weights n) (monomials n standard) (slice_index turns) n (exponents_of n x.monomial.exponents))) c.in-Some.is c.in_ok-candidate.ensures in
    filling_least (comparison ring.order ring.weights n) ring.modulus.value (sums_of n c.args.basis.now) (monomials n standard) turns c.args.table.now (exponents_of n c.in-Some.candidate.monomial.exponents) c.requires.filling both.1

pub returns-in_ok-push-in-Some-clause-filling : goal.returns-in_ok-push-in-Some-clause-filling
returns-in_ok-push-in-Some-clause-filling c =
    let ring = c.args.ring.now in
    let n = length ring.weights in
    let standard = c.args.standard.now in
    let turns = c.args.turns.now in
    let x = c.in-Some.candidate in
    let both = subst (λ z. MatchOption z (HadAllItems (slice_index turns) n (length standard)) (λ x. IsCandidate n ring.weights standard (slice_index turns) x
    × IsLeast n (comparison ring.order ring.weights n) (monomials n standard) (slice_index turns) n (exponents_of n x.monomial.exponents))) c.in-Some.is c.in_ok-candidate.ensures in
    let candidate = both.0 in
    let kl : x.parent < length (monomials n standard) = (let lt = candidate.parent in omega (arith, lt, length_monomials n standard)) in
    filling_more (comparison ring.order ring.weights n) ring.modulus.value (sums_of n c.args.basis.now) (monomials n standard) turns c.pass.new.self c.args.table.now c.push.new.self
    x.variable x.parent (exponents_of n x.monomial.exponents) c.in_ok-form-in-Some.form c.requires.filling candidate.variable kl candidate.turns candidate.product c.in_ok-form-in-Some.ensures
    c.in_ok-push-in-Some.ensures.long c.in_ok-push-in-Some.ensures.at c.in_ok-push-in-Some.ensures.others c.pass.ensures.long c.pass.ensures.at c.pass.ensures.others

pub returns-in_ok-push-in-Some-clause-more : goal.returns-in_ok-push-in-Some-clause-more
returns-in_ok-push-in-Some-clause-more c =
    let ring = c.args.ring.now in
    let n = length ring.weights in
    let standard = c.args.standard.now in
    let turns = c.args.turns.now in
    let x = c.in-Some.candidate in
    let both = subst (λ z. MatchOption z (HadAllItems (slice_index turns) n (length standard)) (λ x. IsCandidate n ring.weights standard (slice_index turns) x
    × IsLeast n (comparison ring.order ring.weights n) (monomials n standard) (slice_index turns) n (exponents_of n x.monomial.exponents))) c.in-Some.is c.in_ok-candidate.ensures in
    let candidate = both.0 in
    let filling = c.requires.filling in
    λ e. (
      c.pass.ensures.sum,
      sum_below turns (length standard) x.variable
          (λ v lt. let vn : v < n = (let t = filling.turns_long in omega (arith, lt, t)) in let le = filling.most v vn in omega (arith, le, length_monomials n standard))
          (let lt = candidate.variable in let t = filling.turns_long in omega (arith, lt, t))
          (let lt = candidate.parent in let t = candidate.turns in omega (arith, lt, t)),
      c.pass.ensures.long,
    )

pub product_form-requires-clause-given : goal.product_form-requires-clause-given
product_form-requires-clause-given c = c.requires.given
