use Rattle.source.proofs.Cutting.{cut_length}
use Rattle.source.proofs.reading.line_length.Goals as goal

pub returns : goal.returns
returns c = rw (c.unwrap_or.ensures, c.first_newline.ensures) (cut_length c.args.s.now)
