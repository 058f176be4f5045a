use Rattle.std.proofs.Common.{List, ap, length, subst, sym, ℕ, ◌∙◌, ◌≡◌}
use Rattle.monomials.specs.Exponents.{exponents_of, unit}
use Rattle.term_lists.specs.Rings.{variables}
use Rattle.term_lists.specs.declared.key.Key.{Key as CodeKey}
use Rattle.module_vectors.specs.Trails.{IsKeptProduct, KeptProduct}
use Rattle.basis_core.specs.Rows.{vectors_in}
use Rattle.basis_core.proofs.Chaining.{each_item}
use Rattle.basis_core.proofs.trails.trace_back.Goals as goal

-- the ring's number of variables
variables_here : (c : goal.After-chain-1) → c.variables.result ≡ variables c.args.members.now.shared.ring
variables_here c =
    let n : ℕ = variables c.args.members.now.shared.ring in
    let ws : List ℕ = c.args.members.now.shared.ring.weights in
    let vs : List (List (CodeKey × ℕ)) = vectors_in c.args.members.now.list in
    let known : IsKeptProduct n ws vs c.index-all-0.result =
    each_item (IsKeptProduct n ws vs) c.args.all.now 0 c.index-all-0.result c.requires.all c.requires.some c.index-all-0.is in
    c.variables.ensures ∙ ap (λ (s : KeptProduct). length s.1.exponents) (sym c.index-all-0.is) ∙ known.1.variables

pub trace_to_pair-requires-clause-nonzero : goal.trace_to_pair-requires-clause-nonzero
trace_to_pair-requires-clause-nonzero c = c.requires.nonzero

pub trace_to_pair-requires-clause-variables : goal.trace_to_pair-requires-clause-variables
trace_to_pair-requires-clause-variables c = c.in_ok-one.ensures.ok.variables ∙ variables_here c

pub trace_to_pair-requires-clause-unit : goal.trace_to_pair-requires-clause-unit
trace_to_pair-requires-clause-unit c =
    subst (λ k. exponents_of k c.in_ok-one.one.exponents ≡ unit k) (variables_here c) c.in_ok-one.ensures.ok.exponents

pub trace_to_pair-requires-clause-pairs : goal.trace_to_pair-requires-clause-pairs
trace_to_pair-requires-clause-pairs c = c.requires.pairs

pub trace_to_pair-requires-clause-all : goal.trace_to_pair-requires-clause-all
trace_to_pair-requires-clause-all c = c.requires.all

pub trace_to_pair-requires-clause-some : goal.trace_to_pair-requires-clause-some
trace_to_pair-requires-clause-some c = c.requires.some

pub trace_to_pair-requires-clause-traced : goal.trace_to_pair-requires-clause-traced
trace_to_pair-requires-clause-traced c = c.requires.traced

pub trace_to_pair-requires-clause-none : goal.trace_to_pair-requires-clause-none
trace_to_pair-requires-clause-none c = c.new-chain.ensures.items
