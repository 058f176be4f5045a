use Rattle.std.proofs.Common.{List, [], subst, subst₂, sym, take, ◌∙◌, ◌+◌}
use Rattle.std.proofs.lemmas.List.{take_all}
use Rattle.formal_sums.specs.FormalSums.{Each}
use Rattle.term_lists.proofs.Scaling.{Each_at}
use Rattle.term_lists.specs.Rings.{ring_comparison}
use Rattle.term_lists.specs.Vectors.{AreVectorsOver, IsVectorOver}
use Rattle.degree_engine.specs.Resorted.{AreResorted}
use Rattle.degree_engine.proofs.Resorting.{Terms, resorted_more, resorted_none, vectors_more}
use Rattle.degree_engine.proofs.by_change.resorted_list.Goals as goal

pub resorted-requires-clause-graded : goal.resorted-requires-clause-graded
resorted-requires-clause-graded c = c.requires.graded

pub resorted-requires-clause-vector : goal.resorted-requires-clause-vector
resorted-requires-clause-vector c =
    let ring = c.args.ring.now in
    let P = IsVectorOver ring (ring_comparison ring) in
    let items = c.as_slice-v-items.result.now in
    Each_at P items c.loop-v.v-index c.v-item.result (subst (Each P) (sym c.as_slice-v-items.ensures) c.requires.vectors) c.loop-v-test.true c.v-item.is

pub loop-v-init : goal.loop-v-init
loop-v-init c =
    let graded = c.args.graded.now in
    let ring = c.args.ring.now in
    record {
      vectors = subst (AreVectorsOver graded (ring_comparison graded)) (sym c.in_ok-vectors.ensures.items) tt;
      same = subst (AreResorted ring []) (sym c.in_ok-vectors.ensures.items) (resorted_none ring);
    }

pub loop-v-preserved : goal.loop-v-preserved
loop-v-preserved c =
    let graded = c.args.graded.now in
    let ring = c.args.ring.now in
    let u = c.in_ok-resorted.field-0 in
    let h = c.loop-v.invariant in
    record {
      vectors = subst (AreVectorsOver graded (ring_comparison graded)) (sym {A = List Terms} c.in_ok-push.ensures.items)
          (vectors_more graded c.loop-v.vectors.items u h.vectors c.in_ok-resorted.ensures.vector);
      same = subst (AreResorted ring (take (c.loop-v.v-index + 1) c.as_slice-v-items.result.now)) (sym {A = List Terms} c.in_ok-push.ensures.items)
          (resorted_more ring c.as_slice-v-items.result.now c.loop-v.vectors.items c.loop-v.v-index c.v-item.result u
          c.loop-v-test.true c.v-item.is h.same c.in_ok-resorted.ensures.same);
    }

pub returns : goal.returns
returns c =
    let graded = c.args.graded.now in
    let ring = c.args.ring.now in
    let h = c.loop-v.invariant in
    record {
      vectors = subst (AreVectorsOver graded (ring_comparison graded)) (sym c.from_vec.ensures) h.vectors;
      same = subst₂ (AreResorted ring) (take_all c.loop-v.v-index c.as_slice-v-items.result.now c.loop-v-test.false ∙ c.as_slice-v-items.ensures)
          (sym c.from_vec.ensures) h.same;
    }
