use borrow.Author.Tests.{eq-eqb, ne_eqb}
use mathlib.Core.Path.{◌≡◌, refl, sym, ◌∙◌, ap}
use mathlib.Core.List.{List, ◌++◌}
use Prim.Native.Nat.{ℕ, ◌%◌, ◌^◌}
use native.Mathlib.Omega.{arith}
use lib.ListN.{length}
use lib.Seq.{sets}
use Rattle.word.specs.Bytes.{bytes, put_word}
use Rattle.word.proofs.Bytes.{bytes_mod, sets_append, sets_all}
use Rattle.loader.specs.Answer.{room_with}
use Rattle.loader.proofs.answers.write.Goals as goal

-- three words, one after the other, are the whole room
filled : (room : List ℕ) (n c p : ℕ) → length room ≡ 12
    → put_word 8 (p % 2 ^ 32) (put_word 4 (c % 2 ^ 32) (put_word 0 n room)) ≡ bytes 4 n ++ (bytes 4 c ++ bytes 4 p)
filled room n c p h =
    let w = bytes 4 n ++ bytes 4 (c % 2 ^ 32) in
    ap (λ (l : List ℕ). sets l 8 (bytes 4 (p % 2 ^ 32))) (sets_append room 0 (bytes 4 n) (bytes 4 (c % 2 ^ 32)) refl)
    ∙ sets_append room 0 w (bytes 4 (p % 2 ^ 32)) refl
    ∙ sets_all room (w ++ bytes 4 (p % 2 ^ 32)) (sym h)
    ∙ λ i. bytes 4 n ++ (bytes_mod 4 c i ++ bytes_mod 4 p i)

pub returns-then-room-eq12 : goal.returns-then-room-eq12
unfolding room_with
returns-then-room-eq12 c =
    let whole : length c.args.room.now ≡ 12 = omega (arith, c.if-room-eq12.true) in
    rw (eq-eqb _ _ whole)
    (c.put_word-then-room-eq12-2.ensures ∙ ap (put_word 8 _) (c.put_word-then-room-eq12.ensures ∙ ap (put_word 4 _) c.put_word.ensures) ∙ filled c.args.room.now c.args.a.number c.args.a.count c.args.a.place whole)

pub returns-else-room-eq12 : goal.returns-else-room-eq12
unfolding room_with
returns-else-room-eq12 c = rw (ne_eqb _ _ c.if-room-eq12.false)
