use Rattle.std.proofs.Common.{ap, arith, false, get_or, subst, sym, true, ◌∙◌, ◌≡◌}
use Rattle.std.proofs.lemmas.List.{get_or_default}
use Rattle.term_lists.proofs.Parts.{Each_member}
use Rattle.term_lists.specs.Vectors.{IsMonomialOver}
use Rattle.row_matrix.specs.Hashes.{no_key}
use Rattle.remainders.proofs.Keeping.{kept_more, kept_none}
use Rattle.remainders.specs.Leaving.{IsTermKept}
use Rattle.remainders.proofs.substituting.keep_left.Goals as goal

pub returns-then-residue-eq0 : goal.returns-then-residue-eq0
returns-then-residue-eq0 c = λ _.
    kept_none c.args.ring.now c.args.list.now c.args.numbers.now c.args.number c.args.terms.now.items c.args.residue (omega (arith, c.if-residue-eq0.true))

pub returns : goal.returns
returns c = λ _.
    let ring = c.args.ring.now in
    let keys = c.args.numbers.now in
    let number = c.args.number in
    let key = c.in_ok-key.key in
    let old = c.args.terms.now.items in
    let flag : get_or c.args.free.now number false ≡ true = c.if-not-free-number.false in
    let is : key ≡ get_or keys number no_key = c.in_ok-key.ensures.ok ∙ c.index-keys-number.is ∙ ap (λ ks. get_or ks number c.index-keys-number.result) c.keys.ensures.keys ∙ get_or_default keys number c.index-keys-number.result no_key c.requires.number in
    let over : IsMonomialOver ring key.monomial = subst (λ k. IsMonomialOver ring k.monomial) (sym is) (Each_member (λ k. IsMonomialOver ring k.monomial) keys number no_key c.requires.keys c.requires.number) in
    subst (IsTermKept ring c.args.list.now keys number c.args.residue old) (sym c.in_ok-push.ensures.items)
    (kept_more ring c.args.list.now keys number old c.args.residue key is over c.requires.residue (c.requires.flags.free number flag))
