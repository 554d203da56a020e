use mathlib.Core.Path.{refl}
use native.Mathlib.Omega.{arith}
use Rattle.tokens.proofs.Places.{to_end}
use Rattle.source.proofs.Places.{first_last, first_inner, within}
use Rattle.source.proofs.each_line.LinesIterator.next.Goals as goal
use Rattle.source.proofs.each_line.LinesIterator.next.Goals.{then-n-rest, else-n-rest}

pub returns-clause-steps : goal.returns-clause-steps
returns-clause-steps c =
    let text = c.args.self.now.text.now in
    let at = c.in_ok-at.at in
    let n = c.line_length-n.result in
    let z = to_end text at in
    let cut = rw z at c.line_length-n.ensures in
    let bytes = rw z at c.read.ensures.bytes in
    let heard = rw z at c.read.ensures.heard in
    let inside = rw c.in_ok-at.was at c.args.self.now.inside in
    let size = within text at n cut inside bytes in
    record {
      text = refl;
      place = c.in_ok-at.was;
      lines = rw bytes (elim c.if-n-rest.branch [
        | then-n-rest w ↦ rw w.self-is (first_inner text at n cut (rw z at w.if-n-rest.true))
        | else-n-rest w ↦ let l = rw z at w.if-n-rest.false in let i = cut.inside in rw w.self-is (first_last text at n cut (omega arith))
      ]);
      heard = rw bytes heard;
      inside = size.1;
      next = elim c.if-n-rest.branch [
        | then-n-rest w ↦ rw (w.self-is, size.0)
        | else-n-rest w ↦ rw w.self-is tt
      ];
    }
