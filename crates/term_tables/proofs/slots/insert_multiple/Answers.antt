use Rattle.std.proofs.Common.{subst, ◌*◌, ◌++◌, ◌≤◌}
use Rattle.std.proofs.lemmas.List.{nil_from_length}
use Rattle.formal_sums.specs.FormalSums.{Each, IsSame, scale}
use Rattle.term_tables.proofs.Sums.{IsSame_comm, no_rest, product_put}
use Rattle.term_tables.specs.Digits.{HaveNoCarry, monomial_at, packed_sum}
use Rattle.term_tables.proofs.slots.insert_multiple.Goals as goal

pub loop-t-init : goal.loop-t-init
loop-t-init c = record {
  small = c.requires.small;
  apart = λ bs h. h;
  sum = λ n p bs z h. IsSame_comm p (packed_sum n bs c.args.slots.now.items) (scale c.args.c (monomial_at n bs c.args.key) (packed_sum n bs c.args.terms.now));
}

pub loop-t-preserved : goal.loop-t-preserved
loop-t-preserved c =
    let parts = c.in-Some.ensures.cases.0 in
    record {
      small = (subst (λ xs. Each (λ t. c.args.c * t.1 ≤ c.args.square) xs) parts c.loop-t.invariant.small).1;
      apart = λ bs h. (subst (λ xs. Each (λ t. HaveNoCarry bs c.args.key t.0) xs) parts (c.loop-t.invariant.apart bs h)).1;
      sum = λ n p bs z h.
          product_put n p bs c.args.key c.args.c c.in-Some-checked_add.sum c.times.result c.in-Some.t.now c.loop-t.rest.now c.in-Some.more.now c.insert.new.slots.items c.loop-t.slots.items _
          parts c.in-Some-checked_add.ensures.1 c.times.ensures
          (subst (λ xs. Each (λ t. HaveNoCarry bs c.args.key t.0) xs) parts (c.loop-t.invariant.apart bs h)).0
          (c.in_ok-insert.ensures n p bs z c.if-not-branch.false) (c.loop-t.invariant.sum n p bs z h);
    }

pub returns : goal.returns
returns c = λ n p bs z h done.
    no_rest n p (packed_sum n bs c.loop-t.slots.items) _
    (subst (λ xs. IsSame p (packed_sum n bs c.loop-t.slots.items ++ scale c.args.c (monomial_at n bs c.args.key) (packed_sum n bs xs))
    (scale c.args.c (monomial_at n bs c.args.key) (packed_sum n bs c.args.terms.now) ++ packed_sum n bs c.args.slots.now.items))
    (nil_from_length c.loop-t.rest.now c.in_default.ensures.cases) (c.loop-t.invariant.sum n p bs z h))
