use Rattle.line_text.proofs.Sending.{some_written}
use Rattle.line_text.proofs.text.LineText.write_to.Goals as goal

pub returns-clause-front : goal.returns-clause-front
returns-clause-front g c =
    some_written _ _ _ _ _ _ _ _ c.clear.ensures c.self.view_is (rw (c.deref.ensures.value, c.deref-2.ensures.value) at c.in_ok-put_spread.ensures.all)
    c.flush.ensures.front
