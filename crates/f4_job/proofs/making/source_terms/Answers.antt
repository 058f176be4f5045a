use Rattle.std.proofs.Common.{List, ap, arith, get_or, length, map, ◌+◌, ◌<◌, ◌∙◌}
use Rattle.std.proofs.lemmas.List.{get_or_default, take_all}
use Rattle.term_lists.proofs.Scaling.{Each_at}
use Rattle.row_matrix.specs.Rows.{Entry}
use Rattle.vector_division.specs.Reductions.{term_of}
use Rattle.f4_job.proofs.MadeRows.{source_terms_more}
use Rattle.f4_job.specs.Made.{source_parts}
use Rattle.f4_job.proofs.making.source_terms.Goals as goal

pub loop-source-init : goal.loop-source-init
loop-source-init c = record {
  items = c.in_ok-terms.ensures.items;
  len = c.in_ok-terms.ensures.len;
  room = c.in_ok-terms.ensures.capacity;
}

pub bounds-products-source : goal.bounds-products-source
bounds-products-source c =
    let products = c.args.products.now in
    let sources = c.args.sources.now in
    let i = c.loop-source.source-index in
    let e = get_or sources i (0, 0) in
    Each_at (λ (x : Entry). x.0 < length products) sources i e c.requires c.loop-source-test.true (get_or_default sources i (0, 0) e c.loop-source-test.true)

pub push_reserved-requires : goal.push_reserved-requires
push_reserved-requires c = omega (arith, c.loop-source.invariant.len, c.loop-source.invariant.room, c.loop-source-test.true)

pub loop-source-preserved : goal.loop-source-preserved
loop-source-preserved c =
    let products = c.args.products.now in
    let sources = c.args.sources.now in
    let i = c.loop-source.source-index in
    let e = get_or sources i (0, 0) in
    let known : e.0 < length products = Each_at (λ (x : Entry). x.0 < length products) sources i e c.requires c.loop-source-test.true
    (get_or_default sources i (0, 0) e c.loop-source-test.true) in
    record {
      items = source_terms_more products sources i c.index-products-source.result c.in_ok-try_copy.field-0 c.loop-source.terms.items _ c.loop-source-test.true
          known c.index-products-source.is c.in_ok-try_copy.ensures.ok c.loop-source.invariant.items c.push_reserved.ensures.items;
      len = c.push_reserved.ensures.len ∙ ap (λ k. k + 1) c.loop-source.invariant.len;
      room = omega (arith, c.push_reserved.ensures.capacity, c.loop-source.invariant.room);
    }

pub returns : goal.returns
returns c = c.loop-source.invariant.items
    ∙ ap (λ (es : List Entry). map term_of (source_parts c.args.products.now es))
    (take_all c.loop-source.source-index c.args.sources.now (omega (arith, c.loop-source-test.false)))
