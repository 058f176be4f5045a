use Rattle.std.proofs.Common.{arith, refl, subst, sym, ◌*◌, ◌++◌, ◌+◌, ◌<◌, ◌≤◌}
use Rattle.std.proofs.lemmas.List.{nil_from_length}
use Rattle.std.specs.Vec.{vec_len}
use Rattle.formal_sums.specs.FormalSums.{Each, IsSame, product, scale}
use Rattle.term_tables.proofs.Sums.{IsSame_comm, moved, no_rest}
use Rattle.term_tables.specs.Digits.{EachPair, HaveNoCarry, monomial_at, packed_sum}
use Rattle.term_tables.specs.Tables.{table_sum}
use Rattle.term_tables.proofs.table.add_products.Goals as goal

pub loop-s-init : goal.loop-s-init
loop-s-init c = record {
  len = refl;
  places = c.requires.places;
  small = c.requires.small;
  apart = λ bs h. h;
  sum = λ n p bs z h. IsSame_comm p (table_sum n bs 0 c.args.sums.now.items) (product (packed_sum n bs c.args.a.now) (packed_sum n bs c.args.b.now));
}

pub add_multiple-requires-clause-places : goal.add_multiple-requires-clause-places
add_multiple-requires-clause-places c =
    let parts = c.in-Some.ensures.cases.0 in
    subst (λ l. Each (λ t. c.in-Some.s.now.0 + t.0 < l) c.args.b.now) (sym c.loop-s.invariant.len)
    (subst (λ xs. EachPair (λ s t. s.0 + t.0 < vec_len c.args.sums.now) xs c.args.b.now) parts c.loop-s.invariant.places).0

pub loop-s-preserved : goal.loop-s-preserved
loop-s-preserved c =
    let parts = c.in-Some.ensures.cases.0 in
    let b = c.args.b.now in
    record {
      len = (let e = c.loop-s.invariant.len in let f = c.add_multiple.ensures.len in omega arith);
      places = (subst (λ xs. EachPair (λ s t. s.0 + t.0 < vec_len c.args.sums.now) xs b) parts c.loop-s.invariant.places).1;
      small = (subst (λ xs. EachPair (λ s t. s.1 * t.1 ≤ c.args.square) xs b) parts c.loop-s.invariant.small).1;
      apart = λ bs h. (subst (λ xs. EachPair (λ s t. HaveNoCarry bs s.0 t.0) xs b) parts (c.loop-s.invariant.apart bs h)).1;
      sum = λ n p bs z h.
          moved (table_sum n bs 0 c.add_multiple.new.sums.items) (table_sum n bs 0 c.loop-s.sums.items) (scale c.in-Some.s.now.1 (monomial_at n bs c.in-Some.s.now.0) (packed_sum n bs b))
          (product (packed_sum n bs c.in-Some.more.now) (packed_sum n bs b)) _
          (c.add_multiple.ensures.sum n p bs z (subst (λ xs. EachPair (λ s t. HaveNoCarry bs s.0 t.0) xs b) parts (c.loop-s.invariant.apart bs h)).0)
          (subst (λ xs. IsSame p (table_sum n bs 0 c.loop-s.sums.items ++ product (packed_sum n bs xs) (packed_sum n bs b))
          (product (packed_sum n bs c.args.a.now) (packed_sum n bs b) ++ table_sum n bs 0 c.args.sums.now.items)) parts (c.loop-s.invariant.sum n p bs z h));
    }

pub returns : goal.returns
returns c = record {
  sum = λ n p bs z h.
      no_rest n p (table_sum n bs 0 c.loop-s.sums.items) _
      (subst (λ xs. IsSame p (table_sum n bs 0 c.loop-s.sums.items ++ product (packed_sum n bs xs) (packed_sum n bs c.args.b.now))
      (product (packed_sum n bs c.args.a.now) (packed_sum n bs c.args.b.now) ++ table_sum n bs 0 c.args.sums.now.items))
      (nil_from_length c.loop-s.rest.now c.in_default.ensures.cases) (c.loop-s.invariant.sum n p bs z h));
}
