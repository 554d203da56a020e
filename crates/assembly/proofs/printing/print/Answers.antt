use Rattle.assembly.proofs.Outputs.{as_printed}
use Rattle.assembly.proofs.printing.print.Goals as goal

pub returns : goal.returns
returns c =
    (as_printed c.put.new.out c.args.input.now c.put.ensures.is, c.put.ensures.fits)
