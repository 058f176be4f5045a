use Rattle.std.proofs.Common.{false, refl, sym, ◌∙◌}
use Rattle.std.proofs.lemmas.Bool.{false≢true}
use Rattle.basis_steps.specs.Pairs.{Pair}
use Rattle.pair_queue.proofs.Putting.{put_fewer, put_here, put_other}
use Rattle.pair_updates.proofs.CriterionTests.{not_true}
use Rattle.pair_queue.specs.Tables.{flag}
use Rattle.pair_queue.proofs.closing.close_pair.Goals as goal

pub returns-then-divides_lcm : goal.returns-then-divides_lcm
returns-then-divides_lcm c =
    let f = flag c.args.due.now in
    let g = flag c.put.new.self in
    let p : Pair = (c.args.i, c.args.j) in
    record {
      sizes = c.put.ensures.sizes;
      other = put_other f g p false c.put.ensures.flags;
      fewer = put_fewer f g p c.put.ensures.flags;
      closed = λ e d. c.divides_lcm.ensures.0 c.if-divides_lcm.true;
      free = λ e d. false≢true (sym (put_here f g p false c.put.ensures.flags) ∙ e);
    }

pub returns-else-divides_lcm : goal.returns-else-divides_lcm
returns-else-divides_lcm c = record {
  sizes = refl;
  other = λ x e. refl;
  fewer = λ x e. e;
  closed = λ e d. absurd (false≢true (sym e ∙ d));
  free = λ e d. not_true c.divides_lcm.result c.if-divides_lcm.false (c.divides_lcm.ensures.1 d);
}

pub divides_lcm-requires-clause-order : goal.divides_lcm-requires-clause-order
divides_lcm-requires-clause-order c = c.requires.order

pub divides_lcm-requires-clause-within : goal.divides_lcm-requires-clause-within
divides_lcm-requires-clause-within c = c.requires.within

pub divides_lcm-requires-clause-known : goal.divides_lcm-requires-clause-known
divides_lcm-requires-clause-known c = c.requires.k
