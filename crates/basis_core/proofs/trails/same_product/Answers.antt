use Rattle.std.proofs.Common.{List, ap, ap₂, arith, get_or, length, sym, ℕ, ◌+◌, ◌∙◌, ◌≡◌}
use Rattle.formal_sums.specs.FormalSums.{Key}
use Rattle.basis_core.proofs.Chaining.{times_apart, times_same}
use Rattle.basis_core.proofs.trails.same_product.Goals as goal

-- the sums of what the calls returned are those of the arguments
same_sums :
    (a b c d w x y z : List ℕ) (k : ℕ) → w ≡ a → x ≡ b → y ≡ c → z ≡ d
    → get_or a k 0 + get_or b k 0 ≡ get_or c k 0 + get_or d k 0 → get_or w k 0 + get_or x k 0 ≡ get_or y k 0 + get_or z k 0
same_sums a b c d w x y z k ea eb ec ed h =
    (λ i. get_or (ea i) k 0 + get_or (eb i) k 0) ∙ h ∙ (λ i. get_or (sym ec i) k 0 + get_or (sym ed i) k 0)

pub returns-then-first-i-clause-apart : goal.returns-then-first-i-clause-apart
returns-then-first-i-clause-apart c z e =
    let n : ℕ = length c.args.t.now.exponents in
    let a : List ℕ = c.args.t.now.exponents in
    let b : List ℕ = c.args.key.now.monomial.exponents in
    let d : List ℕ = c.args.u.now.exponents in
    let f : List ℕ = c.args.other.now.monomial.exponents in
    c.if-first-i.true (same_sums a b d f
    c.exponents-first.result.now c.exponents-second.result.now c.exponents-third.result.now c.exponents-fourth.result.now c.loop-i.i
    c.exponents-first.ensures.value c.exponents-second.ensures.value c.exponents-third.ensures.value c.exponents-fourth.ensures.value
    (times_apart n a b d f (omega arith) c.requires.left c.requires.right c.requires.other (ap (λ (k : Key n). k.1) e) c.loop-i.i
    (omega (arith, ap length c.exponents-first.ensures.value))))

pub returns-clause-same : goal.returns-clause-same
returns-clause-same c z =
    let a : List ℕ = c.args.t.now.exponents in
    let b : List ℕ = c.args.key.now.monomial.exponents in
    let d : List ℕ = c.args.u.now.exponents in
    let f : List ℕ = c.args.other.now.monomial.exponents in
    ap₂ (λ i m. (i, m)) c.if-key-other.false
    (times_same (length a) a b d f (omega arith) c.requires.left c.requires.right c.requires.other
    (λ k l. same_sums
    c.exponents-first.result.now c.exponents-second.result.now c.exponents-third.result.now c.exponents-fourth.result.now a b d f k
    (sym c.exponents-first.ensures.value) (sym c.exponents-second.ensures.value) (sym c.exponents-third.ensures.value)
    (sym c.exponents-fourth.ensures.value) (c.loop-i.invariant k (omega (arith, l, ap length c.exponents-first.ensures.value)))))
