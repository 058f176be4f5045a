use Rattle.std.proofs.Common.{ap, ◌∷◌, ◌∙◌, [], subst, sym, ◌<◌}
use Rattle.term_lists.specs.Rings.{variables}
use Rattle.vector_division.specs.Progress.{room_of}
use Rattle.vector_division.specs.Runs.{IsNext, total, with_next}
use Rattle.vector_division.proofs.Keeping.{room_taken}
use Rattle.schreyer_resolution.specs.Columns.{IsColumnUnderway}
use Rattle.schreyer_resolution.proofs.Dividing.{underway_end, underway_start, underway_taken}
use Rattle.schreyer_resolution.proofs.column.divided.Goals as goal

pub loop-next-init : goal.loop-next-init
loop-next-init g c =
    let ring = g.F.Frame.over c.args.frame.now in
    let n = variables ring in
    let compare = g.F.Frame.compare c.args.frame.now in
    let order = g.met.F.Frame.laws c.args.frame.now n 0 in
    let base = c.requires.base in
    let lawful = c.lawful_setting.ensures base.rank in
    let cols = c.args.columns.now in
    let key = c.args.key.now in
    let old = c.in_ok-buckets.buckets in
    let next = c.in_ok-next.next in
    record {
      next = c.in_ok-next.ensures.taken.next;
      underway = subst (λ qs. IsColumnUnderway ring compare cols key qs c.take_top.new.self (with_next n next (total n c.take_top.new.self))) (sym c.new-quotients.ensures.items)
          (underway_taken ring compare base.rank lawful order cols c.requires.vectors base.monic base.basis key c.requires.pair [] old c.take_top.new.self next
          (underway_start ring compare base.rank lawful order cols c.requires.vectors base.monic base.basis key c.requires.pair c.in-Ok.product c.in_ok-kept.kept old
          c.in-Ok.ensures.product c.in_ok-kept.ensures (c.in_ok-buckets.ensures ∙ ap (λ v. v ∷ []) c.from_vect.ensures))
          c.in_ok-next.ensures.runs c.in_ok-next.ensures.taken);
    }

pub returns-in-None-clause-done : goal.returns-in-None-clause-done
returns-in-None-clause-done g c =
    let ring = g.F.Frame.over c.args.frame.now in
    let n = variables ring in
    let compare = g.F.Frame.compare c.args.frame.now in
    let base = c.requires.base in
    let cols = c.args.columns.now in
    let key = c.args.key.now in
    let runs = c.loop-next.buckets in
    let qs = c.loop-next.quotients.items in
    underway_end ring compare base.rank (c.lawful_setting.ensures base.rank) (g.met.F.Frame.laws c.args.frame.now n 0) cols c.requires.vectors base.monic base.basis key c.requires.pair qs runs
    (subst (IsNext n ring.weights ring.modulus.value (compare n) runs) c.in-None.is c.loop-next.invariant.next)
    (subst (λ x. IsColumnUnderway ring compare cols key qs runs (with_next n x (total n runs))) c.in-None.is c.loop-next.invariant.underway)

pub loop-next-smaller : goal.loop-next-smaller
loop-next-smaller g c =
    let ring = g.F.Frame.over c.args.frame.now in
    let n = variables ring in
    let compare = g.F.Frame.compare c.args.frame.now n in
    let next = c.in_ok-next-in-Some.next in
    let term = c.in-Some.term in
    subst (λ x. room_of compare (with_next n next []) < room_of compare (with_next n x [])) (sym c.in-Some.is)
    (room_taken n ring.weights ring.modulus.value compare (g.met.F.Frame.laws c.args.frame.now n 0) [] c.args.columns.now term.0 term.1 c.advance.new.buckets c.take_top-in-Some.new.self next c.in_ok-advance-in-Some.ensures.below c.in_ok-next-in-Some.ensures.taken)

pub loop-next-preserved : goal.loop-next-preserved
loop-next-preserved g c =
    let ring = g.F.Frame.over c.args.frame.now in
    let n = variables ring in
    let base = c.requires.base in
    record {
      next = c.in_ok-next-in-Some.ensures.taken.next;
      underway = underway_taken ring (g.F.Frame.compare c.args.frame.now) base.rank (c.lawful_setting.ensures base.rank) (g.met.F.Frame.laws c.args.frame.now n 0) c.args.columns.now c.requires.vectors base.monic base.basis
          c.args.key.now c.requires.pair c.advance.new.quotients.items c.advance.new.buckets c.take_top-in-Some.new.self c.in_ok-next-in-Some.next
          c.in_ok-advance-in-Some.ensures.underway c.in_ok-next-in-Some.ensures.runs c.in_ok-next-in-Some.ensures.taken;
    }

pub first_product-requires-clause-vectors : goal.first_product-requires-clause-vectors
first_product-requires-clause-vectors g c = c.requires.vectors

pub first_product-requires-clause-base : goal.first_product-requires-clause-base
first_product-requires-clause-base g c = c.requires.base

pub first_product-requires-clause-monomial : goal.first_product-requires-clause-monomial
first_product-requires-clause-monomial g c = c.requires.monomial

pub first_product-requires-clause-pair : goal.first_product-requires-clause-pair
first_product-requires-clause-pair g c = c.requires.pair

pub covered_terms-requires-clause-vectors : goal.covered_terms-requires-clause-vectors
covered_terms-requires-clause-vectors g c = c.requires.vectors

pub covered_terms-requires-clause-index : goal.covered_terms-requires-clause-index
covered_terms-requires-clause-index g c = c.requires.index

pub advance-requires-clause-vectors : goal.advance-requires-clause-vectors
advance-requires-clause-vectors g c = c.requires.vectors

pub advance-requires-clause-base : goal.advance-requires-clause-base
advance-requires-clause-base g c = c.requires.base

pub advance-requires-clause-index : goal.advance-requires-clause-index
advance-requires-clause-index g c = c.requires.index

pub advance-requires-clause-monomial : goal.advance-requires-clause-monomial
advance-requires-clause-monomial g c = c.requires.monomial

pub advance-requires-clause-pair : goal.advance-requires-clause-pair
advance-requires-clause-pair g c = c.requires.pair

pub advance-requires-clause-variables : goal.advance-requires-clause-variables
advance-requires-clause-variables g c =
    let ring = g.F.Frame.over c.args.frame.now in
    let n = variables ring in
    (subst (IsNext n ring.weights ring.modulus.value (g.F.Frame.compare c.args.frame.now n) c.loop-next.buckets) c.in-Some.is c.loop-next.invariant.next).0

pub advance-requires-clause-reduced : goal.advance-requires-clause-reduced
advance-requires-clause-reduced g c =
    let ring = g.F.Frame.over c.args.frame.now in
    let n = variables ring in
    (subst (IsNext n ring.weights ring.modulus.value (g.F.Frame.compare c.args.frame.now n) c.loop-next.buckets) c.in-Some.is c.loop-next.invariant.next).1

pub advance-requires-clause-below : goal.advance-requires-clause-below
advance-requires-clause-below g c =
    let ring = g.F.Frame.over c.args.frame.now in
    let n = variables ring in
    (subst (IsNext n ring.weights ring.modulus.value (g.F.Frame.compare c.args.frame.now n) c.loop-next.buckets) c.in-Some.is c.loop-next.invariant.next).2

pub advance-requires-clause-underway : goal.advance-requires-clause-underway
advance-requires-clause-underway g c =
    let ring = g.F.Frame.over c.args.frame.now in
    let n = variables ring in
    let compare = g.F.Frame.compare c.args.frame.now in
    let here = c.loop-next in
    subst (λ x. IsColumnUnderway ring compare c.args.columns.now c.args.key.now here.quotients.items here.buckets (with_next n x (total n here.buckets)))
    c.in-Some.is c.loop-next.invariant.underway
