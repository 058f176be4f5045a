use Rattle.std.proofs.Common.{subst, subst₂}
use Rattle.vector_division.specs.Divisions.{DivisionStops, IsDivisionTrail}
use Rattle.interreduce.specs.Members.{HasDivision}
use Rattle.interreduce.proofs.Tails.{reduced, rest_below}
use Rattle.interreduce.proofs.member.reduced_by.Goals as goal

pub with_lead_of-requires-clause-below : goal.with_lead_of-requires-clause-below
with_lead_of-requires-clause-below g c =
    let ring = g.F.Frame.over c.args.frame.now in
    let compare = g.F.Frame.compare c.args.frame.now in
    let list = g.L.Vectors.listed c.args.list.now in
    rest_below ring compare 0 (c.lawful_setting.ensures 0) list c.requires.list c.args.member.now c.in_ok-tail.tail c.in-Ok.reduction.rest c.in-Ok.reduction.quotients.items
    c.requires.some c.requires.member c.in_ok-tail.ensures c.in-Ok.ensures.rest c.in-Ok.ensures.met c.in-Ok.ensures.bounded c.in-Ok.ensures.sum

pub returns-in-Ok-clause-reduced : goal.returns-in-Ok-clause-reduced
returns-in-Ok-clause-reduced g c =
    let ring = g.F.Frame.over c.args.frame.now in
    let compare = g.F.Frame.compare c.args.frame.now in
    let list = g.L.Vectors.listed c.args.list.now in
    reduced ring compare 0 (c.lawful_setting.ensures 0) list c.requires.list c.args.member.now c.in_ok-tail.tail c.in-Ok.reduction.rest c.in_ok-reduced-in-Ok.reduced c.monic.new.self c.in-Ok.reduction.quotients.items
    c.requires.some c.in_ok-tail.ensures c.in-Ok.ensures.quotients c.in-Ok.ensures.sum c.in-Ok.ensures.reduced c.in_ok-reduced-in-Ok.ensures.terms c.monic.ensures.vector c.monic.ensures.monic

pub returns-in-Ok-clause-divided : goal.returns-in-Ok-clause-divided
returns-in-Ok-clause-divided g c =
    let ring = g.F.Frame.over c.args.frame.now in
    let list = g.L.Vectors.listed c.args.list.now in
    subst (HasDivision ring list) c.in_ok-tail.ensures (record {
      products = c.in-Ok.reduction.quotients.items;
      rest = c.in-Ok.reduction.rest;
      known = c.in-Ok.ensures.quotients;
      met = c.in-Ok.ensures.met;
      sum = c.in-Ok.ensures.sum;
      free = c.in-Ok.ensures.reduced;
    })

pub returns-clause-stop : goal.returns-clause-stop
returns-clause-stop g c =
    let ring = g.F.Frame.over c.args.frame.now in
    let list = g.L.Vectors.listed c.args.list.now in
    let t = c.in-Err-Degree.trail in
    let v = c.args.member.now in
    let d : IsDivisionTrail ring c.in_ok-tail.tail list t = subst (DivisionStops ring c.in_ok-tail.tail list) c.in-Err-Degree.field-0-is c.in-Err-Degree.ensures.stop in
    subst₂ (λ r m. IsDivisionTrail r v m c.in_ok-trail-in-Err-Degree.trail) d.over d.members c.in_ok-trail-in-Err-Degree.ensures

pub tail_of-requires-clause-some : goal.tail_of-requires-clause-some
tail_of-requires-clause-some g c = c.requires.some

pub tail_of-requires-clause-vector : goal.tail_of-requires-clause-vector
tail_of-requires-clause-vector g c = c.requires.member

pub with_lead_of-requires-clause-some : goal.with_lead_of-requires-clause-some
with_lead_of-requires-clause-some g c = c.requires.some

pub with_lead_of-requires-clause-vector : goal.with_lead_of-requires-clause-vector
with_lead_of-requires-clause-vector g c = c.requires.member
