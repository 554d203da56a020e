use Rattle.text.proofs.Outputs.{as_shown}
use Rattle.text.proofs.running.show.Goals as goal

pub returns : goal.returns
returns c =
    (as_shown c.print.new.out c.args.input.now c.print.ensures.is, c.print.ensures.fits)
