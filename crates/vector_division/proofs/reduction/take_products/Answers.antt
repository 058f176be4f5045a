use Rattle.std.proofs.Common.{[], false, refl, subst, subst₂, sym, ◌<◌, ◌∙◌}
use Rattle.term_lists.specs.Rings.{variables}
use Rattle.vector_division.specs.Progress.{room_of}
use Rattle.vector_division.specs.Runs.{IsSplit, IsNext, total, with_next}
use Rattle.vector_division.proofs.Ending.{ended_empty, ended_first, none_stays}
use Rattle.vector_division.proofs.Keeping.{kept_first, kept_taken, room_taken}
use Rattle.vector_division.proofs.reduction.take_products.Goals as goal

pub loop-next-init : goal.loop-next-init
loop-next-init g c =
    let ring = g.F.Frame.over c.args.frame.now in
    let n = variables ring in
    let p = ring.modulus.value in
    let compare = g.F.Frame.compare c.args.frame.now n in
    let order = g.met.F.Frame.laws c.args.frame.now n 0 in
    let list = g.L.Vectors.listed c.args.list.now in
    let old = c.in_ok-left.left in
    let new = c.take_top.new.self in
    let next = c.in_ok-next.next in
    record {
      next = c.in_ok-next.ensures.taken.next;
      kept = subst₂ (λ qs rest. IsSplit n ring.weights p compare c.args.v.now list qs rest new (with_next n next (total n new)))
          (sym c.new-quotients.ensures.items) (sym c.new-rest.ensures.items)
          (kept_taken n ring.weights p compare order c.args.v.now list [] [] old new next
          (kept_first n ring.weights p compare order c.args.v.now list old c.from_vect.result c.in_ok-left.ensures
          (c.from_vect.ensures ∙ c.in_ok-try_copy.ensures) c.requires.vector)
          c.in_ok-next.ensures.runs c.in_ok-next.ensures.taken);
      none = λ _. c.new-rest.ensures.items;
    }

pub returns-in-None-clause-kept : goal.returns-in-None-clause-kept
returns-in-None-clause-kept g c =
    let ring = g.F.Frame.over c.args.frame.now in
    let n = variables ring in
    let here = c.loop-next in
    subst (λ x. IsSplit n ring.weights ring.modulus.value (g.F.Frame.compare c.args.frame.now n) c.args.v.now (g.L.Vectors.listed c.args.list.now)
    here.quotients.items here.rest.items here.left (with_next n x (total n here.left)))
    c.in-None.is here.invariant.kept

pub returns-in-None-clause-ended : goal.returns-in-None-clause-ended
returns-in-None-clause-ended g c =
    let ring = g.F.Frame.over c.args.frame.now in
    let n = variables ring in
    let compare = g.F.Frame.compare c.args.frame.now n in
    let here = c.loop-next in
    ended_empty n compare here.left c.args.lead_alone here.rest.items here.invariant.none
    (subst (IsNext n ring.weights ring.modulus.value compare here.left) c.in-None.is here.invariant.next)

pub returns-then-is_lead_there-clause-kept : goal.returns-then-is_lead_there-clause-kept
returns-then-is_lead_there-clause-kept g c = c.in_ok-advance-in-Some.ensures.kept

pub returns-then-is_lead_there-clause-ended : goal.returns-then-is_lead_there-clause-ended
returns-then-is_lead_there-clause-ended g c =
    let n = variables (g.F.Frame.over c.args.frame.now) in
    ended_first n (g.F.Frame.compare c.args.frame.now n) c.advance.new.buckets c.args.lead_alone c.loop-next.rest.items c.advance.new.rest.items
    c.in-Some.term c.loop-next.invariant.none (c.if-is_lead_there.ensures.holds refl) c.in_ok-advance-in-Some.ensures.rest
    c.in_ok-advance-in-Some.ensures.below

pub loop-next-smaller : goal.loop-next-smaller
loop-next-smaller g c =
    let ring = g.F.Frame.over c.args.frame.now in
    let n = variables ring in
    let compare = g.F.Frame.compare c.args.frame.now n in
    let next = c.in_ok-next-in-Some.next in
    let term = c.in-Some.term in
    subst (λ x. room_of compare (with_next n next []) < room_of compare (with_next n x [])) (sym c.in-Some.is)
    (room_taken n ring.weights ring.modulus.value compare (g.met.F.Frame.laws c.args.frame.now n 0) c.args.v.now
    (g.L.Vectors.listed c.args.list.now) term.0 term.1 c.advance.new.buckets c.take_top-in-Some.new.self next
    c.in_ok-advance-in-Some.ensures.below c.in_ok-next-in-Some.ensures.taken)

pub loop-next-preserved : goal.loop-next-preserved
loop-next-preserved g c =
    let ring = g.F.Frame.over c.args.frame.now in
    let n = variables ring in
    record {
      next = c.in_ok-next-in-Some.ensures.taken.next;
      kept = kept_taken n ring.weights ring.modulus.value (g.F.Frame.compare c.args.frame.now n) (g.met.F.Frame.laws c.args.frame.now n 0)
          c.args.v.now (g.L.Vectors.listed c.args.list.now) c.advance.new.quotients.items c.advance.new.rest.items c.advance.new.buckets
          c.take_top-in-Some.new.self c.in_ok-next-in-Some.next
          c.in_ok-advance-in-Some.ensures.kept c.in_ok-next-in-Some.ensures.runs c.in_ok-next-in-Some.ensures.taken;
      none = none_stays c.args.lead_alone false c.advance.new.rest.items c.if-is_lead_there.ensures refl;
    }

pub advance-requires-clause-list : goal.advance-requires-clause-list
advance-requires-clause-list g c = c.requires.list

pub advance-requires-clause-divisors : goal.advance-requires-clause-divisors
advance-requires-clause-divisors g c = c.requires.divisors

pub advance-requires-clause-free : goal.advance-requires-clause-free
advance-requires-clause-free g c = c.requires.free

pub advance-requires-clause-kept : goal.advance-requires-clause-kept
advance-requires-clause-kept g c =
    let ring = g.F.Frame.over c.args.frame.now in
    let n = variables ring in
    let compare = g.F.Frame.compare c.args.frame.now n in
    let list = g.L.Vectors.listed c.args.list.now in
    let here = c.loop-next in
    subst (λ x. IsSplit n ring.weights ring.modulus.value compare c.args.v.now list here.quotients.items here.rest.items here.left
    (with_next n x (total n here.left)))
    c.in-Some.is c.loop-next.invariant.kept

pub advance-requires-clause-variables : goal.advance-requires-clause-variables
advance-requires-clause-variables g c =
    let ring = g.F.Frame.over c.args.frame.now in
    let n = variables ring in
    (subst (IsNext n ring.weights ring.modulus.value (g.F.Frame.compare c.args.frame.now n) c.loop-next.left) c.in-Some.is c.loop-next.invariant.next).0

pub advance-requires-clause-reduced : goal.advance-requires-clause-reduced
advance-requires-clause-reduced g c =
    let ring = g.F.Frame.over c.args.frame.now in
    let n = variables ring in
    (subst (IsNext n ring.weights ring.modulus.value (g.F.Frame.compare c.args.frame.now n) c.loop-next.left) c.in-Some.is c.loop-next.invariant.next).1

pub advance-requires-clause-below : goal.advance-requires-clause-below
advance-requires-clause-below g c =
    let ring = g.F.Frame.over c.args.frame.now in
    let n = variables ring in
    (subst (IsNext n ring.weights ring.modulus.value (g.F.Frame.compare c.args.frame.now n) c.loop-next.left) c.in-Some.is c.loop-next.invariant.next).2
