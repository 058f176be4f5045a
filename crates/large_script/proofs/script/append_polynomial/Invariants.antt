use Rattle.std.proofs.Common.{◌≡◌, ◌++◌, codes}
use Rattle.large_script.specs.Script.{separated, state_after, terms}
use Rattle.large_script.proofs.script.append_polynomial.Given as goal

abbrev pub invariant-loop-k : goal.invariant-loop-k
invariant-loop-k l = record {
  state : l.state ≡ state_after l.fn.start l.k;
  text : l.out.items ≡ l.initial.out.items ++ separated (codes "+") (terms l.fn.start l.k);
}
