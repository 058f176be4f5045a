use Rattle.std.proofs.Common.{arith, length, ◌<◌}
use Rattle.script_parse.proofs.Working.{entries_go, item_of}
use Rattle.script_parse.specs.Tests.{IsWorkable}
use Rattle.script_parse.proofs.values.entry_terms.Goals as goal

pub push_entry-requires : goal.push_entry-requires
push_entry-requires c =
    item_of (IsWorkable c.args.ring.now c.args.line.now) c.args.polynomials.now c.loop-i.i c.index-polynomials-i.result
    c.requires (omega arith) c.index-polynomials-i.is

pub loop-i-preserved : goal.loop-i-preserved
loop-i-preserved c =
    let ring = c.args.ring.now in
    let line = c.args.line.now in
    let pieces = c.args.polynomials.now in
    let i = c.loop-i.i in
    let item = c.index-polynomials-i.result in
    let lt : i < length pieces = omega arith in
    let put = c.in_ok-push_entry.ensures in
    entries_go ring line pieces i item c.loop-i.all.items c.push_entry.new.all.items put.0 lt c.index-polynomials-i.is put.1 c.loop-i.invariant
    (item_of (IsWorkable ring line) pieces i item c.requires lt c.index-polynomials-i.is) put.2
