use Rattle.std.proofs.Common.{◌∙◌, [], ap, codes, get_or, refl, sym}
use Rattle.large_script.specs.Script.{next_state}
use Rattle.large_script.specs.declared.script.TheConstants.{PRODUCTS}
use Rattle.large_script.proofs.Steps.{no_terms, one_term_more, state_next, state_none}
use Rattle.large_script.proofs.script.append_polynomial.Goals as goal

pub loop-k-init : goal.loop-k-init
loop-k-init c = record { state = sym (state_none c.args.start); text = no_terms (codes "+") c.args.start c.args.out.now.items }

pub loop-k-preserved : goal.loop-k-preserved
loop-k-preserved c =
    let here = c.advance-state.ensures ∙ ap next_state c.loop-k.invariant.state ∙ sym (state_next c.args.start c.loop-k.k) in
    record {
      state = here;
      text = one_term_more c.args.start c.loop-k.k c.args.out.now.items c.loop-k.out.items c.append_term.new.out.items c.advance-state.result
          (get_or PRODUCTS c.loop-k.k []) refl here c.loop-k.invariant.text c.in-Ok.ensures.ok;
    }
