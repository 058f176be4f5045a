use Rattle.std.proofs.Common.{arith, refl, subst, ◌*◌, ◌++◌, ◌+◌, ◌<◌, ◌∷◌, ◌≤◌}
use Rattle.std.proofs.lemmas.List.{nil_from_length}
use Rattle.std.specs.Vec.{vec_len}
use Rattle.formal_sums.specs.FormalSums.{Each, IsSame, scale}
use Rattle.term_tables.proofs.Sums.{IsSame_comm, no_rest, product_added}
use Rattle.term_tables.specs.Digits.{HaveNoCarry, monomial_at, packed_sum}
use Rattle.term_tables.specs.Tables.{table_sum}
use Rattle.term_tables.proofs.table.add_multiple.Goals as goal

pub loop-t-init : goal.loop-t-init
loop-t-init c = record {
  len = refl;
  places = c.requires.places;
  small = c.requires.small;
  apart = λ bs h. h;
  sum = λ n p bs z h. IsSame_comm p (table_sum n bs 0 c.args.sums.now.items) (scale c.args.c (monomial_at n bs c.args.key) (packed_sum n bs c.args.terms.now));
}

pub loop-t-preserved : goal.loop-t-preserved
loop-t-preserved c =
    let parts = c.in-Some.ensures.cases.0 in
    record {
      len = (let e = c.loop-t.invariant.len in let f = c.add_at.ensures.len in omega arith);
      places = (subst (λ xs. Each (λ t. c.args.key + t.0 < vec_len c.args.sums.now) xs) parts c.loop-t.invariant.places).1;
      small = (subst (λ xs. Each (λ t. c.args.c * t.1 ≤ c.args.square) xs) parts c.loop-t.invariant.small).1;
      apart = λ bs h. (subst (λ xs. Each (λ t. HaveNoCarry bs c.args.key t.0) xs) parts (c.loop-t.invariant.apart bs h)).1;
      sum = λ n p bs z h.
          product_added n p bs c.args.key c.args.c c.in-Some.t.now c.in-Some.more.now c.add_at.new.sums.items c.loop-t.sums.items _
          (subst (λ xs. Each (λ t. HaveNoCarry bs c.args.key t.0) xs) parts (c.loop-t.invariant.apart bs h)).0
          (subst (λ x. IsSame p (table_sum n bs 0 c.add_at.new.sums.items) (((0, monomial_at n bs (c.args.key + c.in-Some.t.now.0)), x) ∷ table_sum n bs 0 c.loop-t.sums.items)) c.times.ensures (c.add_at.ensures.sum n p bs z))
          (subst (λ xs. IsSame p (table_sum n bs 0 c.loop-t.sums.items ++ scale c.args.c (monomial_at n bs c.args.key) (packed_sum n bs xs))
          (scale c.args.c (monomial_at n bs c.args.key) (packed_sum n bs c.args.terms.now) ++ table_sum n bs 0 c.args.sums.now.items)) parts (c.loop-t.invariant.sum n p bs z h));
    }

pub returns-clause-sum : goal.returns-clause-sum
returns-clause-sum c = λ n p bs z h.
    no_rest n p (table_sum n bs 0 c.loop-t.sums.items) _
    (subst (λ xs. IsSame p (table_sum n bs 0 c.loop-t.sums.items ++ scale c.args.c (monomial_at n bs c.args.key) (packed_sum n bs xs))
    (scale c.args.c (monomial_at n bs c.args.key) (packed_sum n bs c.args.terms.now) ++ table_sum n bs 0 c.args.sums.now.items))
    (nil_from_length c.loop-t.rest.now c.in_default.ensures.cases) (c.loop-t.invariant.sum n p bs z h))
