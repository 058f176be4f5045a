use Rattle.pair_updates.proofs.NewFates.{live_fate, spared_fate}
use Rattle.pair_updates.proofs.dropping.fate_in_group.Goals as goal

pub returns-in-Some : goal.returns-in-Some
returns-in-Some c =
    spared_fate c.args.leads.now c.args.news.now c.args.pair.now c.requires.new c.requires.remains c.in-Some.c c.fate_behind.result
    c.in-Some.ensures c.fate_behind.ensures.same c.fate_behind.ensures.other

pub returns-in-None : goal.returns-in-None
returns-in-None c =
    let m = c.args.leads.now in
    live_fate m c.args.news.now c.args.pair.now c.requires.new c.requires.remains c.first_of_group.result c.fate_behind-in-None.result
    c.first_of_group.ensures.member (c.first_of_group.ensures.first c.requires.group)
    c.in-None.ensures c.fate_behind-in-None.ensures.same c.fate_behind-in-None.ensures.other
