use Rattle.line_text.proofs.Sending.{sent_front_end, sent_end}
use Rattle.line_text.proofs.text.put_run.Goals as goal

pub returns-clause-all : goal.returns-clause-all
returns-clause-all g c = sent_end _ _ _ _ _ _ _ _ _ c.in_ok-put.ensures.all c.put_zeros.ensures.all

pub returns-clause-front : goal.returns-clause-front
returns-clause-front g c = sent_front_end _ _ _ _ _ _ _ _ c.in_ok-put.ensures.all c.put_zeros.ensures.front
