use Rattle.std.proofs.Common.{subst, sym}
use Rattle.session_lang.specs.Fitting.{IsOperable}
use Rattle.session_values.specs.Operations.{WorksOn, colon, eliminate, intersect, multiply, preimage, quotient, saturate, sum, syzygies}
use Rattle.session_values.specs.Tasks.{IsReady}
use Rattle.session_lang.proofs.Making.{colon_does, eliminate_does, intersect_does, preimage_does, product_does, quotient_does, saturate_does, sum_does, syzygies_does}
use Rattle.session_lang.proofs.session.Session.task.Goals as goal

pub operand-left-requires : goal.operand-left-requires
operand-left-requires c =
    let h = subst (IsOperable c.args.self.now) c.in-Sum.is c.requires in
    (h.0, h.1, h.3)

pub operand-right-requires : goal.operand-right-requires
operand-right-requires c =
    let h = subst (IsOperable c.args.self.now) c.in-Sum.is c.requires in
    (h.0, h.2, h.4)

pub returns-in-Sum : goal.returns-in-Sum
returns-in-Sum c = λ ring stated.
    let left = c.operand-left.result in
    let right = c.operand-right.result in
    let work = sum left.rank left.list.now right.list.now in
    subst (λ x. WorksOn c.args.self.now x ring work × IsReady ring work) (sym c.in-Sum.is)
    (sum_does c.args.self.now ring c.in-Sum.a c.in-Sum.b left.rank right.rank left.list.now right.list.now
    (subst (IsOperable c.args.self.now) c.in-Sum.is c.requires) (c.operand-left.ensures ring stated) (c.operand-right.ensures ring stated))

pub operand-left-requires-in-Product : goal.operand-left-requires-in-Product
operand-left-requires-in-Product c =
    let h = subst (IsOperable c.args.self.now) c.in-Product.is c.requires in
    (h.0, h.1, h.3)

pub operand-right-requires-in-Product : goal.operand-right-requires-in-Product
operand-right-requires-in-Product c =
    let h = subst (IsOperable c.args.self.now) c.in-Product.is c.requires in
    (h.0, h.2, h.4)

pub returns-in-Product : goal.returns-in-Product
returns-in-Product c = λ ring stated.
    let left = c.operand-left-in-Product.result in
    let right = c.operand-right-in-Product.result in
    let work = multiply right.rank left.list.now right.list.now in
    subst (λ x. WorksOn c.args.self.now x ring work × IsReady ring work) (sym c.in-Product.is)
    (product_does c.args.self.now ring c.in-Product.a c.in-Product.b left.rank right.rank left.list.now right.list.now
    (subst (IsOperable c.args.self.now) c.in-Product.is c.requires) (c.operand-left-in-Product.ensures ring stated) (c.operand-right-in-Product.ensures ring stated))

pub operand-left-requires-in-Intersect : goal.operand-left-requires-in-Intersect
operand-left-requires-in-Intersect c =
    let h = subst (IsOperable c.args.self.now) c.in-Intersect.is c.requires in
    (h.0, h.1, h.3)

pub operand-right-requires-in-Intersect : goal.operand-right-requires-in-Intersect
operand-right-requires-in-Intersect c =
    let h = subst (IsOperable c.args.self.now) c.in-Intersect.is c.requires in
    (h.0, h.2, h.4)

pub returns-in-Intersect : goal.returns-in-Intersect
returns-in-Intersect c = λ ring stated.
    let left = c.operand-left-in-Intersect.result in
    let right = c.operand-right-in-Intersect.result in
    let work = intersect left.rank left.list.now right.list.now in
    subst (λ x. WorksOn c.args.self.now x ring work × IsReady ring work) (sym c.in-Intersect.is)
    (intersect_does c.args.self.now ring c.in-Intersect.a c.in-Intersect.b left.rank right.rank left.list.now right.list.now
    (subst (IsOperable c.args.self.now) c.in-Intersect.is c.requires) (c.operand-left-in-Intersect.ensures ring stated) (c.operand-right-in-Intersect.ensures ring stated))

pub operand-left-requires-in-Colon : goal.operand-left-requires-in-Colon
operand-left-requires-in-Colon c =
    let h = subst (IsOperable c.args.self.now) c.in-Colon.is c.requires in
    (h.0, h.1, h.3)

pub operand-right-requires-in-Colon : goal.operand-right-requires-in-Colon
operand-right-requires-in-Colon c =
    let h = subst (IsOperable c.args.self.now) c.in-Colon.is c.requires in
    (h.0, h.2, h.4)

pub returns-in-Colon : goal.returns-in-Colon
returns-in-Colon c = λ ring stated.
    let left = c.operand-left-in-Colon.result in
    let right = c.operand-right-in-Colon.result in
    let work = colon left.rank left.list.now right.list.now in
    subst (λ x. WorksOn c.args.self.now x ring work × IsReady ring work) (sym c.in-Colon.is)
    (colon_does c.args.self.now ring c.in-Colon.a c.in-Colon.b left.rank right.rank left.list.now right.list.now
    (subst (IsOperable c.args.self.now) c.in-Colon.is c.requires) (c.operand-left-in-Colon.ensures ring stated) (c.operand-right-in-Colon.ensures ring stated))

pub operand-value-requires : goal.operand-value-requires
operand-value-requires c =
    let h = subst (IsOperable c.args.self.now) c.in-Quotient.is c.requires in
    (h.0, h.1, h.2)

pub returns-in-Quotient : goal.returns-in-Quotient
returns-in-Quotient c = λ ring stated.
    let value = c.operand-value.result in
    let work = quotient value.rank value.list.now c.in-Quotient.f in
    subst (λ x. WorksOn c.args.self.now x ring work × IsReady ring work) (sym c.in-Quotient.is)
    (quotient_does c.args.self.now ring c.in-Quotient.a value.rank value.list.now c.in-Quotient.f
    (subst (IsOperable c.args.self.now) c.in-Quotient.is c.requires) (c.operand-value.ensures ring stated))

pub operand-value-requires-in-Saturate : goal.operand-value-requires-in-Saturate
operand-value-requires-in-Saturate c =
    let h = subst (IsOperable c.args.self.now) c.in-Saturate.is c.requires in
    (h.0, h.1, h.2)

pub returns-in-Saturate : goal.returns-in-Saturate
returns-in-Saturate c = λ ring stated.
    let value = c.operand-value-in-Saturate.result in
    let work = saturate value.rank value.list.now c.in-Saturate.f in
    subst (λ x. WorksOn c.args.self.now x ring work × IsReady ring work) (sym c.in-Saturate.is)
    (saturate_does c.args.self.now ring c.in-Saturate.a value.rank value.list.now c.in-Saturate.f
    (subst (IsOperable c.args.self.now) c.in-Saturate.is c.requires) (c.operand-value-in-Saturate.ensures ring stated))

pub returns-in-Eliminate : goal.returns-in-Eliminate
returns-in-Eliminate c = λ ring stated.
    let value = c.operand-value-in-Eliminate.result in
    let work = eliminate value.rank value.list.now c.in-Eliminate.k in
    subst (λ x. WorksOn c.args.self.now x ring work × IsReady ring work) (sym c.in-Eliminate.is)
    (eliminate_does c.args.self.now ring c.in-Eliminate.a value.rank value.list.now c.in-Eliminate.k
    (c.operand-value-in-Eliminate.ensures ring stated))

pub operand-value-requires-in-Syzygies : goal.operand-value-requires-in-Syzygies
operand-value-requires-in-Syzygies c =
    let h = subst (IsOperable c.args.self.now) c.in-Syzygies.is c.requires in
    (h.0, h.1, h.2)

pub returns-in-Syzygies : goal.returns-in-Syzygies
returns-in-Syzygies c = λ ring stated.
    let value = c.operand-value-in-Syzygies.result in
    let work = syzygies value.rank value.list.now in
    subst (λ x. WorksOn c.args.self.now x ring work × IsReady ring work) (sym c.in-Syzygies.is)
    (syzygies_does c.args.self.now ring c.in-Syzygies.a value.rank value.list.now
    (subst (IsOperable c.args.self.now) c.in-Syzygies.is c.requires) (c.operand-value-in-Syzygies.ensures ring stated))

pub operand-value-requires-in-Preimage : goal.operand-value-requires-in-Preimage
operand-value-requires-in-Preimage c =
    let h = subst (IsOperable c.args.self.now) c.in-Preimage.is c.requires in
    (h.0, h.1, h.2)

pub returns-in-Preimage : goal.returns-in-Preimage
returns-in-Preimage c = λ ring stated.
    let value = c.operand-value-in-Preimage.result in
    let work = preimage c.in-Preimage.images value.list.now in
    subst (λ x. WorksOn c.args.self.now x ring work × IsReady ring work) (sym c.in-Preimage.is)
    (preimage_does c.args.self.now ring c.in-Preimage.a value.rank value.list.now c.in-Preimage.images
    (subst (IsOperable c.args.self.now) c.in-Preimage.is c.requires) (c.operand-value-in-Preimage.ensures ring stated))
