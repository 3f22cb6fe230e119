-- What is written, what is open and what is left decide.
use Rattle.lines.proofs.Exchanging.{exchanged_read, is_open}
use Rattle.lines.proofs.Input.exchange.Goals as goal

pub returns : goal.returns
returns g c =
    record { exchanged = exchanged_read c.write_out.ensures.written (is_open c.write_out.new.self.source c.if-ne.ensures) c.if-self.false c.read_more.ensures }
