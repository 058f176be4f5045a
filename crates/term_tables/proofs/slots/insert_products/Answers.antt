use Rattle.std.proofs.Common.{subst, ◌*◌, ◌++◌, ◌≤◌}
use Rattle.std.proofs.lemmas.List.{nil_from_length}
use Rattle.formal_sums.specs.FormalSums.{IsSame, product, scale}
use Rattle.term_tables.proofs.Sums.{IsSame_comm, moved, no_rest}
use Rattle.term_tables.specs.Digits.{EachPair, HaveNoCarry, monomial_at, packed_sum}
use Rattle.term_tables.proofs.slots.insert_products.Goals as goal

pub loop-s-init : goal.loop-s-init
loop-s-init c = record {
  small = c.requires.small;
  apart = λ bs h. h;
  sum = λ n p bs z h. IsSame_comm p (packed_sum n bs c.args.slots.now.items) (product (packed_sum n bs c.args.a.now) (packed_sum n bs c.args.b.now));
}

pub loop-s-preserved : goal.loop-s-preserved
loop-s-preserved c =
    let parts = c.in-Some.ensures.cases.0 in
    let b = c.args.b.now in
    record {
      small = (subst (λ xs. EachPair (λ s t. s.1 * t.1 ≤ c.args.square) xs b) parts c.loop-s.invariant.small).1;
      apart = λ bs h. (subst (λ xs. EachPair (λ s t. HaveNoCarry bs s.0 t.0) xs b) parts (c.loop-s.invariant.apart bs h)).1;
      sum = λ n p bs z h.
          moved (packed_sum n bs c.insert_multiple.new.slots.items) (packed_sum n bs c.loop-s.slots.items) (scale c.in-Some.s.now.1 (monomial_at n bs c.in-Some.s.now.0) (packed_sum n bs b))
          (product (packed_sum n bs c.in-Some.more.now) (packed_sum n bs b)) _
          (c.in_ok-insert_multiple.ensures n p bs z (subst (λ xs. EachPair (λ s t. HaveNoCarry bs s.0 t.0) xs b) parts (c.loop-s.invariant.apart bs h)).0 c.if-not-branch.false)
          (subst (λ xs. IsSame p (packed_sum n bs c.loop-s.slots.items ++ product (packed_sum n bs xs) (packed_sum n bs b))
          (product (packed_sum n bs c.args.a.now) (packed_sum n bs b) ++ packed_sum n bs c.args.slots.now.items)) parts (c.loop-s.invariant.sum n p bs z h));
    }

pub returns : goal.returns
returns c = λ n p bs z h done.
    no_rest n p (packed_sum n bs c.loop-s.slots.items) _
    (subst (λ xs. IsSame p (packed_sum n bs c.loop-s.slots.items ++ product (packed_sum n bs xs) (packed_sum n bs c.args.b.now))
    (product (packed_sum n bs c.args.a.now) (packed_sum n bs c.args.b.now) ++ packed_sum n bs c.args.slots.now.items))
    (nil_from_length c.loop-s.rest.now c.in_default.ensures.cases) (c.loop-s.invariant.sum n p bs z h))
