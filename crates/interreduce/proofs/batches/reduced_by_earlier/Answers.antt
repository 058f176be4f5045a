use Rattle.std.proofs.Common.{arith}
use Rattle.interreduce.proofs.Earlier.{all_vectors, first_known, leads_reduced, next_batch}
use Rattle.interreduce.proofs.batches.reduced_by_earlier.Goals as goal

pub loop-start-init : goal.loop-start-init
loop-start-init g c =
    let list = g.L.Vectors.listed c.args.list.now in
    record {
      within = omega arith;
      reduced = first_known (g.F.Frame.over c.args.frame.now) (g.F.Frame.compare c.args.frame.now) list c.args.kept.now c.args.others.now
          c.len-width.result c.from_vec-known.result c.new-vectors.result.items c.push_members.new.vectors.items
          c.new-vectors.ensures.items c.in_ok-push_members.ensures c.from_vec-known.ensures (omega arith);
      divisors = c.in_ok-divisors.ensures;
      place = omega arith;
    }

pub with_batch-requires-clause-known : goal.with_batch-requires-clause-known
with_batch-requires-clause-known g c κs within =
    all_vectors (g.F.Frame.over c.args.frame.now) (g.F.Frame.compare c.args.frame.now) (g.L.Vectors.listed c.args.list.now)
    c.args.kept.now c.args.others.now c.len-width.result c.loop-start.start c.loop-start.known c.requires.vectors c.loop-start.invariant.reduced

pub with_batch-requires-clause-divisors : goal.with_batch-requires-clause-divisors
with_batch-requires-clause-divisors g c κs within = c.loop-start.invariant.divisors

pub with_batch-requires-clause-free : goal.with_batch-requires-clause-free
with_batch-requires-clause-free g c κs within = c.in_ok-free.ensures

pub with_batch-requires-clause-serving : goal.with_batch-requires-clause-serving
with_batch-requires-clause-serving g c κs within =
    leads_reduced (g.F.Frame.over c.args.frame.now) (g.F.Frame.compare c.args.frame.now) (g.L.Vectors.listed c.args.list.now)
    c.args.kept.now c.requires.needed c.args.others.now c.len-width.result c.loop-start.start c.loop-start.known
    c.loop-start.invariant.within c.loop-start.invariant.reduced

pub with_batch-requires-clause-place : goal.with_batch-requires-clause-place
with_batch-requires-clause-place g c κs within = c.loop-start.invariant.place

pub loop-start-preserved : goal.loop-start-preserved
loop-start-preserved g c =
    record {
      within = c.batch_end-end.ensures.1;
      reduced = next_batch (g.F.Frame.over c.args.frame.now) (g.F.Frame.compare c.args.frame.now) c.lawful_setting.ensures
          (g.L.Vectors.listed c.args.list.now) c.args.kept.now c.requires.needed c.args.others.now c.len-width.result c.loop-start.start
          c.loop-start.known c.loop-start.invariant.reduced c.batch_end-end.result c.in-Ok.more c.batch_end-end.ensures c.in-Ok.ensures.known;
      divisors = c.in-Ok.ensures.divisors;
      place = c.in-Ok.ensures.place;
    }
