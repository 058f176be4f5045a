use Rattle.std.proofs.Common.{arith, subst, sym, ◌<◌}
use Rattle.formal_sums.specs.FormalSums.{Each}
use Rattle.term_lists.proofs.Scaling.{Each_at}
use Rattle.term_lists.specs.Rings.{variables}
use Rattle.constant_passes.proofs.Listings.{below_put, constants_more, constants_start, reduced_put}
use Rattle.constant_passes.proofs.listing.find_constants.Goals as goal

pub loop-term-init : goal.loop-term-init
loop-term-init c = record {
  constants = λ rows h. constants_start (variables c.args.ring.now) rows c.clear.new.self.items c.clear.ensures.items;
  below = subst (Each (λ e. e.0 < 0)) (sym c.clear.ensures.items) tt;
  reduced = subst (Each (λ e. e.1 < c.args.ring.now.modulus.value)) (sym c.clear.ensures.items) tt;
}

pub constant_of-requires : goal.constant_of-requires
constant_of-requires c = (Each_at _ c.args.terms.now c.loop-term.term-index c.term-item.result c.requires (omega arith) c.term-item.is).0

pub loop-term-preserved : goal.loop-term-preserved
loop-term-preserved c =
    let terms = c.args.terms.now in
    let i = c.loop-term.term-index in
    let t = c.term-item.result in
    let old = c.loop-term.found.entries.items in
    let new = c.put_entry.new.found.entries.items in
    let found = c.in_ok-constant_of.field-0 in
    record {
      constants = λ rows h. constants_more (variables c.args.ring.now) rows terms i t old new found (omega arith) c.term-item.is
          (c.loop-term.invariant.constants rows h) (c.in_ok-constant_of.ensures.constant rows h) c.in_ok-put_entry.ensures.entries;
      below = below_put old new found c.loop-term.found.width c.put_entry.new.found.width c.loop-term.invariant.below c.in_ok-put_entry.ensures.wider
          c.in_ok-put_entry.ensures.below c.in_ok-put_entry.ensures.entries;
      reduced = reduced_put c.args.ring.now.modulus.value t.1 old new found c.loop-term.invariant.reduced
          (Each_at _ terms i t c.requires (omega arith) c.term-item.is).1 c.in_ok-constant_of.ensures.residue c.in_ok-put_entry.ensures.entries;
    }
