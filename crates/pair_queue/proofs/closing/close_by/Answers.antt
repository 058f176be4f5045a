use Rattle.std.proofs.Common.{List, ap, arith, false, length, subst, subst₂, sym, true, ℕ, ◌*◌, ◌+◌, ◌<◌, ◌∙◌, ◌≡◌, ◌≤◌}
use Rattle.std.specs.Int.{bit_at}
use Rattle.std.proofs.lemmas.Bool.{false≢true}
use Rattle.basis_steps.specs.Pairs.{Pair, pair_of}
use Rattle.pair_updates.specs.LeadCriteria.{DividesLcm}
use Rattle.pair_queue.proofs.ClosedWords.{IsClosedBy, bit_here, chains_more, frees_more, frees_passed, member_of}
use Rattle.pair_queue.proofs.Reaching.{free_of_all, room_of_index}
use Rattle.pair_queue.specs.Reaches.{FallsShort, place_of_word}
use Rattle.pair_queue.specs.Tables.{flag}
use Rattle.pair_queue.proofs.closing.close_by.Goals as goal

pub at-requires : goal.at-requires
at-requires c = record { known = c.requires.k }

pub at-requires-2 : goal.at-requires-2
at-requires-2 c = record { known = c.requires.a }

pub loop-index-init : goal.loop-index-init
loop-index-init c = record {
  sizes = c.requires.due;
  fewer = λ x e. e;
  closed = λ x e f. absurd (false≢true (sym e ∙ f));
  free = frees_passed c.args.leads.now c.args.due.now c.args.waits.now c.args.a c.args.k 0 c.next_without-index.result c.next_without-index.ensures.before
      (λ d l. absurd (omega (arith, l)));
}

pub next_without-index-requires-clause-end : goal.next_without-index-requires-clause-end
next_without-index-requires-clause-end c = omega (arith, c.len.ensures, c.div_ceil-end.ensures, c.requires.due)

pub next_without-index-requires-in-loop-index-clause-end : goal.next_without-index-requires-in-loop-index-clause-end
next_without-index-requires-in-loop-index-clause-end c =
    omega (arith, c.len.ensures, c.div_ceil-end.ensures, c.close_each.ensures.sizes, c.loop-index.invariant.sizes)

pub close_each-requires-clause-a : goal.close_each-requires-clause-a
close_each-requires-clause-a c = c.requires.a

pub close_each-requires-clause-k : goal.close_each-requires-clause-k
close_each-requires-clause-k c = c.requires.k

pub reaching-reaching-requires-clause-variables : goal.reaching-reaching-requires-clause-variables
reaching-reaching-requires-clause-variables c =
    ap length c.exponents-below.ensures.value ∙ c.at-2.ensures.variables ∙ sym (ap length c.exponents-above.ensures.value ∙ c.at.ensures.variables)

pub reaching-reaching-requires-clause-room : goal.reaching-reaching-requires-clause-room
reaching-reaching-requires-clause-room c = λ v lv.
    let index = c.loop-index.index in
    let n : length c.exponents-above.result.now ≡ c.args.leads.now.variables = ap length c.exponents-above.ensures.value ∙ c.at.ensures.variables in
    let first : 64 * index < length c.args.leads.now.keys =
    omega (arith, c.loop-index-test.true, c.len.ensures, c.div_ceil-end.ensures) in
    subst (λ (z : ℕ). place_of_word z index v 15 ≤ length c.args.reach.now.words.items) (sym n)
    (room_of_index c.args.leads.now c.args.reach.now index v c.requires.reach first (omega (arith, lv, n)))

pub close_each-requires-clause-found : goal.close_each-requires-clause-found
close_each-requires-clause-found c = λ r l one.
    let at = 64 * c.loop-index.index + r in
    bit_here c.word_without-found.result r (flag c.loop-index.due (pair_of c.args.a at)) (flag c.args.waits.now (pair_of c.args.k at))
    (c.word_without-found.ensures r l) (c.reaching-reaching.ensures.fewer r one)

pub loop-index-preserved : goal.loop-index-preserved
loop-index-preserved c =
    let m = c.args.leads.now in
    let inv = c.loop-index.invariant in
    let old = c.loop-index.due in
    let new = c.close_each.new.due in
    let index = c.loop-index.index in
    let found = c.word_without-found.result in
    let closed : (x : Pair) → flag new x ≡ false → flag old x ≡ true → IsClosedBy m c.args.a c.args.k (64 * index) found x =
    λ x e f. let (r, l, one, is, divides) = c.close_each.ensures.closed x e f in (r, l, c.reaching-reaching.ensures.fewer r one, is, divides) in
    let free : (r : ℕ) → r < 64 → bit_at found r ≡ 1 → flag new (pair_of c.args.a (64 * index + r)) ≡ true
    → DividesLcm m (pair_of c.args.a (64 * index + r)) c.args.k → ⊥ =
    free_of_all m c.args.reach.now c.requires.reach c.args.a c.args.k index c.at.result.now c.at-2.result.now c.at.ensures.lead c.at-2.ensures.lead
    c.at.ensures.variables c.at-2.ensures.variables found c.reaching-reaching.result (λ r. flag new (pair_of c.args.a (64 * index + r)) ≡ true)
    (λ r l one.
    let at = 64 * index + r in
    let due = bit_here found r (flag old (pair_of c.args.a at)) (flag c.args.waits.now (pair_of c.args.k at)) (c.word_without-found.ensures r l) one in
    omega (arith, member_of old c.args.a at due, inv.sizes))
    (subst₂ (λ (xs ys : List ℕ). (r : ℕ) → bit_at found r ≡ 1 → bit_at c.reaching-reaching.result r ≡ 0
    → FallsShort c.args.reach.now.words.items xs ys index r) c.exponents-above.ensures.value c.exponents-below.ensures.value c.reaching-reaching.ensures.short)
    c.close_each.ensures.free in
    record {
      sizes = c.close_each.ensures.sizes ∙ inv.sizes;
      fewer = λ x e. inv.fewer x (c.close_each.ensures.fewer x e);
      closed = chains_more m c.args.due.now old new c.args.waits.now c.args.a c.args.k index found c.word_without-found.ensures c.requires.k c.requires.apart
          c.requires.gone c.requires.shut closed inv.closed;
      free = frees_passed m new c.args.waits.now c.args.a c.args.k (index + 1) c.next_without-index-in-loop-index.result c.next_without-index-in-loop-index.ensures.before
          (frees_more m c.args.due.now old new c.args.waits.now c.args.a c.args.k index found c.word_without-found.ensures c.requires.k c.requires.apart
          c.requires.gone c.requires.shut c.close_each.ensures.fewer free inv.free);
    }

pub returns-clause-free : goal.returns-clause-free
returns-clause-free c = λ d f chain.
    let inv = c.loop-index.invariant in
    inv.free d (omega (arith, member_of c.loop-index.due c.args.a d f, inv.sizes, c.loop-index-test.false, c.len.ensures, c.div_ceil-end.ensures)) f chain
