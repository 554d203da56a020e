-- The part that is copied over is a store for each byte.
use Rattle.std.proofs.Common.{◌≡◌, ◌+◌, ◌∙◌, sym, append_assoc, arith}
use native.Mathlib.Nat.{div-one}
use lib.Seq.{sets-eq}
use borrow.Rule.Slice.PartMut.{Post-is}
use Rattle.word.specs.Bytes.{bytes}
use Rattle.word.proofs.number.put_word.Goals as goal

pub returns : goal.returns
returns c =
    let a = c.args in
    let e : c.copy_from_slice.new.self ≡ bytes 4 a.w = rw div-one (c.copy_from_slice.ensures.after ∙ c.to_be_bytes.ensures) in
    rw (e, Post-is a.at (a.at + 4) a.l.now (omega arith)) (sym (rw append_assoc at (sets-eq (bytes 4 a.w) a.l.now a.at (omega arith))))
