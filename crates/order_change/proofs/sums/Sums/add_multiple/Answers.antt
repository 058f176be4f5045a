use Rattle.std.proofs.Common.{refl, ◌*◌, ◌∙◌}
use Rattle.order_change.proofs.Summing.{all_below, all_sums, left_behind, nothing_added, one_more_sum}
use Rattle.order_change.proofs.sums.Sums.add_multiple.Goals as goal

pub loop-k-init : goal.loop-k-init
loop-k-init c = record {
  long = refl;
  numbers = c.requires.numbers;
  sums = λ j lt. nothing_added c.args.modulus.now.value c.args.c c.args.form.now c.args.self.now j (c.low-k.ensures j lt);
  rest = λ j le. refl;
}

pub loop-k-preserved : goal.loop-k-preserved
loop-k-preserved c =
    let p = c.args.modulus.now.value in
    let l = c.loop-k in
    let put = c.put.ensures in
    let sum = c.add_product-sum in
    record {
      long = put.long ∙ l.invariant.long;
      numbers = all_below l.self c.put.new.self l.k sum.result put.at put.others (p * p) sum.ensures.small l.invariant.numbers;
      sums = one_more_sum l.self c.put.new.self l.k sum.result put.at put.others p c.args.c c.at.result c.at-in-loop-k.result c.args.form.now c.args.self.now
          c.at.ensures c.at-in-loop-k.ensures sum.ensures.congruent l.invariant.sums l.invariant.rest;
      rest = left_behind l.self c.put.new.self l.k sum.result put.at put.others c.args.self.now l.invariant.rest;
    }

pub returns : goal.returns
returns c = record {
  long = c.loop-k.invariant.long;
  numbers = c.loop-k.invariant.numbers;
  sums = all_sums c.args.modulus.now.value c.args.c c.args.form.now c.args.self.now c.loop-k.self c.loop-k.k c.high-k-end.result c.loop-k-test.false
      c.loop-k.invariant.sums c.loop-k.invariant.rest c.high-k-end.ensures.behind;
}
