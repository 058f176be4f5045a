use Rattle.byte_ports.proofs.Endings.{front_two}
use Rattle.line_text.proofs.Sending.{sent_through}
use Rattle.line_text.proofs.pieces.Pieces.put.Goals as goal

pub returns-then-bytes-gt-PIECE-clause-all : goal.returns-then-bytes-gt-PIECE-clause-all
returns-then-bytes-gt-PIECE-clause-all g c =
    sent_through _ _ _ _ _ _ _ c.in_ok-flush.ensures.all.0 c.in_ok-flush.ensures.all.1 c.write_all_to.ensures.all

pub returns-then-bytes-gt-PIECE-clause-front : goal.returns-then-bytes-gt-PIECE-clause-front
returns-then-bytes-gt-PIECE-clause-front g c = front_two _ _ _ _ _ _ c.in_ok-flush.ensures.all.0 c.write_all_to.ensures.front
