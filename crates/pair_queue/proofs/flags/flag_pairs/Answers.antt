use Rattle.std.proofs.Common.{Bool, List, [], ap, arith, cond, false, not, refl, sym, take, true, ◌++◌, ◌+◌, ◌∙◌, ◌∷◌, ◌≡◌}
use Rattle.std.proofs.lemmas.Bool.{false≢true}
use Rattle.term_lists.proofs.Scaling.{Each_at}
use Rattle.pair_criteria.specs.declared.pair.Pair.{Pair as CodePair}
use Rattle.basis_steps.proofs.Counting.{count-append}
use Rattle.basis_steps.specs.Criteria.{IsPair}
use Rattle.basis_steps.specs.Pairs.{Pair, count, is_same_pair}
use Rattle.pair_updates.proofs.Leading.{leads_length}
use Rattle.pair_queue.proofs.OutPairs.{take_next}
use Rattle.pair_queue.proofs.Putting.{each_more, others_more, set_more}
use Rattle.pair_updates.specs.Leads.{sums_shown}
use Rattle.pair_updates.specs.Pairs.{index_pair_of, pairs_of}
use Rattle.pair_updates.specs.LeadCriteria.{ProductSpares}
use Rattle.pair_queue.specs.Tables.{flag}
use Rattle.pair_queue.proofs.flags.flag_pairs.Goals as goal

pub loop-k-init : goal.loop-k-init
loop-k-init c = record {
  waits_size = c.requires.waits;
  due_size = c.requires.due;
  waits = λ x. refl;
  others = λ x e. refl;
  shut = λ x l. absurd (omega (arith, l));
  free = λ x l. absurd (omega (arith, l));
}

pub put-requires-clause-order : goal.put-requires-clause-order
put-requires-clause-order c = (Each_at (λ (x : CodePair). IsPair (sums_shown c.args.leads.now) (index_pair_of x)) c.args.pairs.now c.loop-k.k
    c.index-pairs-k.result c.requires.real c.loop-k-test.true c.index-pairs-k.is).ordered

pub put-requires-clause-within : goal.put-requires-clause-within
put-requires-clause-within c =
    let real = Each_at (λ (x : CodePair). IsPair (sums_shown c.args.leads.now) (index_pair_of x)) c.args.pairs.now c.loop-k.k c.index-pairs-k.result
    c.requires.real c.loop-k-test.true c.index-pairs-k.is in
    omega (arith, real.within, leads_length c.args.leads.now.variables c.args.leads.now.keys, c.loop-k.invariant.waits_size)

pub product_spares-requires : goal.product_spares-requires
product_spares-requires c = Each_at (λ (x : CodePair). IsPair (sums_shown c.args.leads.now) (index_pair_of x)) c.args.pairs.now c.loop-k.k
    c.index-pairs-k.result c.requires.real c.loop-k-test.true c.index-pairs-k.is

not_false : (b : Bool) → not b ≡ false → b ≡ true
not_false true e = refl
not_false false e = sym e

not_of_true : (b : Bool) → not b ≡ true → b ≡ false
not_of_true true e = sym e
not_of_true false e = refl

pub loop-k-preserved : goal.loop-k-preserved
loop-k-preserved c =
    let x : CodePair = c.index-pairs-k.result in
    let p : Pair = index_pair_of x in
    let ps : List Pair = pairs_of c.args.pairs.now in
    let k = c.loop-k.k in
    let inv = c.loop-k.invariant in
    let next : take (k + 1) ps ≡ take k ps ++ p ∷ [] = take_next c.args.pairs.now k x c.loop-k-test.true c.index-pairs-k.is in
    let more : (y : Pair) → count y (take (k + 1) ps) ≡ count y (take k ps) + (cond (is_same_pair y p) 1 0 + 0) = λ y. ap (count y) next
    ∙ count-append y (take k ps) (p ∷ []) in
    record {
      waits_size = c.put.ensures.sizes ∙ inv.waits_size;
      due_size = c.put-in-loop-k.ensures.sizes ∙ inv.due_size;
      waits = λ y. c.put.ensures.flags y ∙ ap (λ z. cond (is_same_pair y p) true z) (inv.waits y)
          ∙ set_more (count y (take k ps)) (count y (take (k + 1) ps)) (is_same_pair y p) (flag c.args.waits.now y) (more y);
      others = others_more (flag c.loop-k.due) (flag c.put-in-loop-k.new.self) p (not c.product_spares.result) (λ y. count y (take k ps))
          (λ y. count y (take (k + 1) ps)) c.put-in-loop-k.ensures.flags more (flag c.args.due.now) inv.others;
      shut = each_more (flag c.loop-k.due) (flag c.put-in-loop-k.new.self) p (not c.product_spares.result) (λ y. count y (take k ps))
          (λ y. count y (take (k + 1) ps)) c.put-in-loop-k.ensures.flags more false (ProductSpares c.args.leads.now)
          (λ e. c.product_spares.ensures.0 (not_false c.product_spares.result e)) inv.shut;
      free = each_more (flag c.loop-k.due) (flag c.put-in-loop-k.new.self) p (not c.product_spares.result) (λ y. count y (take k ps))
          (λ y. count y (take (k + 1) ps)) c.put-in-loop-k.ensures.flags more true (λ y. ProductSpares c.args.leads.now y → ⊥)
          (λ e q. false≢true (sym (not_of_true c.product_spares.result e) ∙ c.product_spares.ensures.1 q)) inv.free;
    }
