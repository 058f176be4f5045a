use Rattle.std.proofs.Common.{subst₂, sym}
use Rattle.std.specs.Prelude.{Vec, ℕ}
use Rattle.std.specs.Global.{Global}
use Rattle.numbered_sums.specs.declared.work.Work.{Work}
use Rattle.schreyer_resolution.specs.Sharing.{AreTakenAway}
use Rattle.schreyer_resolution.proofs.substituting.take_word.Goals.{else-place-len, then-place-len+in_ok-take_product}
use Rattle.schreyer_resolution.proofs.substituting.take_word.Goals as goal

pub bits-preserved : goal.bits-preserved
bits-preserved c =
    let taken : Vec (ℕ × ℕ) Global → Work → Type 0 =
    λ es work. AreTakenAway c.args.ring.now c.args.columns.now c.args.key.now c.args.products.now es.items work in
    elim c.if-place-len.branch [
      | then-place-len+in_ok-take_product w ↦ subst₂ taken (sym w.taken-is) (sym w.work-is) w.in_ok-take_product.ensures
      | else-place-len w ↦ subst₂ taken (sym w.taken-is) (sym w.work-is) c.bits.invariant
    ]
