use Rattle.std.proofs.Common.{[], ap, get_or, length, subst, subst₂, sym, ◌++◌, ◌<◌, ◌∙◌}
use Rattle.std.proofs.lemmas.List.{get_or_default}
use Rattle.monomials.specs.Exponents.{exponents_of}
use Rattle.formal_sums.specs.FormalSums.{scale}
use Rattle.term_lists.specs.Rings.{variables}
use Rattle.term_lists.specs.Stops.{ScaledStops}
use Rattle.term_lists.specs.Vectors.{IsVectorOver, StandsFor, sum_of}
use Rattle.induced_leads.proofs.LeastLeads.{each_at}
use Rattle.schreyer_resolution.proofs.Trailing.{key_inside}
use Rattle.schreyer_resolution.proofs.column.first_product.Goals as goal

pub add_scaled-requires-clause-factor : goal.add_scaled-requires-clause-factor
add_scaled-requires-clause-factor g c = (c.lawful_setting.ensures 0).domain.above_one

pub add_scaled-requires-clause-variables : goal.add_scaled-requires-clause-variables
add_scaled-requires-clause-variables g c = c.requires.monomial

pub add_scaled-requires-clause-right : goal.add_scaled-requires-clause-right
add_scaled-requires-clause-right g c =
    let ring = g.F.Frame.over c.args.frame.now in
    let cols = c.args.columns.now in
    let key = c.args.key.now in
    let x = c.index-as_slice-key.result in
    each_at (IsVectorOver ring (g.F.Frame.compare c.args.frame.now)) cols x c.requires.vectors
    (key.position, key_inside (variables ring) cols key c.requires.pair, sym (c.index-as_slice-key.is ∙ ap (λ l. get_or l key.position x) c.as_slice.ensures))

pub first_stop-requires-clause-vectors : goal.first_stop-requires-clause-vectors
first_stop-requires-clause-vectors g c = c.requires.vectors

pub first_stop-requires-clause-base : goal.first_stop-requires-clause-base
first_stop-requires-clause-base g c = c.requires.base

pub first_stop-requires-clause-monomial : goal.first_stop-requires-clause-monomial
first_stop-requires-clause-monomial g c = c.requires.monomial

pub first_stop-requires-clause-pair : goal.first_stop-requires-clause-pair
first_stop-requires-clause-pair g c = c.requires.pair

pub first_stop-requires-clause-stop : goal.first_stop-requires-clause-stop
first_stop-requires-clause-stop g c =
    let n = variables (g.F.Frame.over c.args.frame.now) in
    let cols = c.args.columns.now in
    let key = c.args.key.now in
    let x = c.index-as_slice-key.result in
    let at = c.index-as_slice-key.is ∙ ap (λ l. get_or l key.position x) c.as_slice.ensures ∙ get_or_default cols key.position x [] (key_inside n cols key c.requires.pair) in
    subst (λ v. ScaledStops 1 key.monomial v c.in-Err.stop) at c.in-Err.ensures.stop

pub returns-in-Ok-clause-product : goal.returns-in-Ok-clause-product
returns-in-Ok-clause-product g c =
    let ring = g.F.Frame.over c.args.frame.now in
    let n = variables ring in
    let cols = c.args.columns.now in
    let key = c.args.key.now in
    let x = c.index-as_slice-key.result in
    let at = c.index-as_slice-key.is ∙ ap (λ l. get_or l key.position x) c.as_slice.ensures ∙ get_or_default cols key.position x [] (key_inside n cols key c.requires.pair) in
    record {
      vector = c.in-Ok.ensures.vector;
      is = subst₂ (λ z v. StandsFor ring c.add_scaled.new.self (sum_of n z ++ scale 1 (exponents_of n key.monomial.exponents) (sum_of n v))) c.zero-product.ensures at c.in-Ok.ensures.sum;
    }

pub bounds-as_slice-key : goal.bounds-as_slice-key
bounds-as_slice-key g c =
    subst (λ l. c.args.key.now.position < length l) (sym c.as_slice.ensures)
    (key_inside (variables (g.F.Frame.over c.args.frame.now)) c.args.columns.now c.args.key.now c.requires.pair)
