use Rattle.std.proofs.Common.{ap, inl, inr, sym, ◌∙◌}
use Rattle.std.specs.Int.{bit_at}
use Rattle.pair_queue.proofs.Reaching.{narrowed_fewer, narrowed_short, no_bit_or_one}
use Rattle.pair_queue.proofs.reach.Reach.reaching.Goals as goal
use Rattle.pair_queue.proofs.reach.Reach.reaching.Goals.{else-above-v, then-above-v}

pub loop-v-preserved : goal.loop-v-preserved
loop-v-preserved c =
    let inv = c.loop-v.invariant in
    let old = c.loop-v.found in
    let new = c.if-above-v.found in
    elim c.if-above-v.branch [
      | then-above-v w ↦ record {
        fewer = λ r one. inv.fewer r (narrowed_fewer old w.word-found.result new r w.found-is one);
        short = λ r all none. elim (no_bit_or_one old r) [
          | inl e ↦ inv.short r all e
          | inr e ↦ (
            c.loop-v.v,
            c.loop-v-test.true,
            w.if-above-v.true,
            ap (λ z. bit_at z r) (sym w.word-found.ensures) ∙ narrowed_short old w.word-found.result new r w.found-is e none,
          )
        ];
      }
      | else-above-v w ↦ record {
        fewer = λ r one. inv.fewer r (ap (λ z. bit_at z r) (sym w.found-is) ∙ one);
        short = λ r all none. inv.short r all (ap (λ z. bit_at z r) (sym w.found-is) ∙ none);
      }
    ]
