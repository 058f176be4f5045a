use Rattle.std.proofs.Common.{◌≡◌, ◌*◌, ◌++◌, codes}
use Rattle.large_script.specs.Script.{polynomials, separated, state_after}
use Rattle.large_script.proofs.script.append_polynomials.Given as goal

abbrev pub invariant-loop-k : goal.invariant-loop-k
invariant-loop-k l = record {
  state : l.state ≡ state_after l.fn.seed (21 * l.k);
  text : l.out.items ≡ l.initial.out.items ++ separated (codes ", ") (polynomials l.fn.seed l.k);
}
