-- One register after the other is the image's.
use native.Mathlib.Omega.{arith}
use Rattle.std.proofs.Common.{ap, sym, ◌∙◌}
use Rattle.std.proofs.lemmas.List.{ext_get_or}
use Rattle.vliw.specs.Cell.{still}
use Rattle.isa.specs.declared.Place.{Place}
use Rattle.machine.specs.Image.{cell_in, registers_in}
use Rattle.machine.specs.State.{registers_of}
use Rattle.machine.proofs.Arrays.{registers_of_length, put_more}
use Rattle.machine.proofs.Images.{registers_length, register_at}
use Rattle.machine.proofs.image.read.Goals as goal

pub loop-r-init : goal.loop-r-init
loop-r-init c =
    let a = c.still-s.ensures.at in (
      c.still-s.ensures.sized,
      ap (λ (p : Place). p.0) a.0 ∙ c.word_at.ensures,
      ap (λ (p : Place). p.0) a.1 ∙ rw c.offset.ensures at c.word_at-2.ensures,
      λ k h. absurd (omega arith),
    )

pub loop-r-preserved : goal.loop-r-preserved
loop-r-preserved c =
    let i = c.loop-r.invariant in
    let a = c.put.ensures.at in (
      c.put.ensures.sized,
      ap (λ (p : Place). p.0) a.0 ∙ i.1,
      ap (λ (p : Place). p.0) a.1 ∙ i.2,
      put_more (cell_in c.args.image.now) (registers_of c.loop-r.s) (registers_of c.put.new.self) c.loop-r.r _
          (omega (arith, registers_of_length i.0)) c.register_at.ensures c.put.ensures.registers i.3,
    )

pub returns-clause-place_value : goal.returns-clause-place_value
returns-clause-place_value c =
    let i = c.loop-r.invariant in
    let image = c.args.image.now in
    let n = registers_of_length i.0 in (
      i.1,
      ext_get_or still (registers_of c.loop-r.s) (registers_in image) (n ∙ sym (registers_length image))
          (λ k h. sym (i.3 k (omega (arith, n))) ∙ sym (register_at image k (omega (arith, n)))),
      i.2,
    )
