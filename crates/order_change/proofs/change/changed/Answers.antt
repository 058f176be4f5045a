use Rattle.order_change.proofs.change.changed.Goals as goal

pub returns : goal.returns
returns c =
    let change = c.advance.new.self in
    let h = c.in_ok-advance.ensures.changing in
    record {
      monos = change.monomials.items;
      forms = change.forms.items;
      rows = change.rows.items;
      heads = change.leads.items;
      turns = change.turns;
      standard = h.known.standard;
      members_are = h.known.members;
      turned = h.turns;
      over = c.in_ok-advance.ensures.over c.if-branch.false;
    }
