use Rattle.std.proofs.Common.{◌∙◌, ap, sym, codes, arith}
use Rattle.large_script.specs.Script.{state_after}
use Rattle.large_script.proofs.Steps.{no_polynomials, one_polynomial_more, state_behind, state_none}
use Rattle.large_script.proofs.script.append_polynomials.Goals as goal

pub loop-k-init : goal.loop-k-init
loop-k-init c = record { state = sym (state_none c.args.seed) ∙ ap (state_after c.args.seed) (omega arith); text = no_polynomials (codes ", ") c.args.seed c.args.out.now.items }

pub loop-k-preserved : goal.loop-k-preserved
loop-k-preserved c =
    record {
      state = c.in-Ok-append_polynomial.ensures.state ∙ ap (λ x. state_after x 21) c.loop-k.invariant.state ∙ sym (state_behind c.args.seed c.loop-k.k);
      text = one_polynomial_more c.args.seed c.loop-k.k c.args.out.now.items c.loop-k.out.items c.separate.new.out.items c.append_polynomial.new.out.items
          c.loop-k.state c.loop-k.invariant.state c.loop-k.invariant.text c.in-Ok.ensures.ok c.in-Ok-append_polynomial.ensures.text;
    }
