-- Pairs that go out with a worker
use Rattle.std.proofs.Common.{List, [], ap, append_assoc, arith, get_or, length, suc, sym, take, zero, ℕ, ◌++◌, ◌+◌, ◌<◌, ◌∙◌, ◌∷◌, ◌≡◌}
use Rattle.std.proofs.lemmas.List.{map-append}
use Rattle.formal_sums.specs.FormalSums.{Each}
use Rattle.pair_criteria.specs.declared.pair.Pair.{Pair as CodePair}
use Rattle.basis_steps.specs.Pairs.{Pair}
use Rattle.basis_steps.specs.States.{pairs_out}
use Rattle.basis_steps.specs.Steps.{out_with}
use Rattle.pair_queue.specs.Outs.{outs_of}
use Rattle.pair_updates.specs.Pairs.{index_pair_of, pairs_of}
use Rattle.pair_queue.specs.declared.out.Out.{Out}

pub take_next : (xs : List CodePair) (k : ℕ) (x : CodePair) → k < length xs → x ≡ get_or xs k x
    → take (k + 1) (pairs_of xs) ≡ take k (pairs_of xs) ++ index_pair_of x ∷ []
take_next [] k x l e = absurd (omega arith)
take_next (y ∷ xs) zero x l e =
    let one : 0 + 1 ≡ 1 = omega arith in
    ap (λ m. take m (pairs_of (y ∷ xs))) one ∙ ap (λ (z : CodePair). index_pair_of z ∷ []) (sym e)
take_next (y ∷ xs) (suc k) x l e =
    let one : suc k + 1 ≡ suc (k + 1) = omega arith in
    ap (λ m. take m (pairs_of (y ∷ xs))) one ∙ ap (λ z. index_pair_of y ∷ z) (take_next xs k x (omega arith) e)

pub outs_next :
    (start out : List Out) (o : Out) (ps : List Pair)
    → outs_of out ≡ outs_of start ++ out_with o.worker ps
    → outs_of (out ++ o ∷ []) ≡ outs_of start ++ out_with o.worker (ps ++ (o.i, o.j) ∷ [])
outs_next start out o ps e =
    map-append (λ (o : Out). ((o.i, o.j), o.worker)) out (o ∷ [])
    ∙ ap (λ z. z ++ ((o.i, o.j), o.worker) ∷ []) e
    ∙ append_assoc (outs_of start) (out_with o.worker ps) (((o.i, o.j), o.worker) ∷ [])
    ∙ ap (λ z. outs_of start ++ z) (sym (map-append (λ (x : Pair). (x, o.worker)) ps ((o.i, o.j) ∷ [])))

pub each_out : (P : Pair → Type 0) (xs : List Out) → Each P (pairs_out (outs_of xs)) → Each (λ o. P (o.i, o.j)) xs
each_out P [] h = tt
each_out P (x ∷ xs) h = (h.0, each_out P xs h.1)
