-- What a read gave stands after what the reads before it gave.
use Rattle.std.proofs.Common.{rules, ◌≡◌, ℕ, ◌+◌, ◌-◌, ◌≤◌, List, ◌++◌, length, take, sym, subst, take_at, drop_at, length-take-le}
use Rattle.std.specs.Io.KnownBytes.{Consumes}
use Rattle.std.proofs.KnownBytes.{Consumes-trans}
use borrow.Rule.Slice.PartMut.{put_mid, post_of}
use lib.Seq.{take-add, take-append-le}
use Rattle.input.proofs.read_full.Goals as goal

joined : (at k n : ℕ) (xs ys : List ℕ) → at ≤ length xs → n ≤ length ys → take (at + n) (put_mid at k xs ys) ≡ take at xs ++ take n ys
joined at k n xs ys h fits =
    let e = length-take-le at xs h in
    rw (take-add at n (put_mid at k xs ys), take_at (take at xs) (ys ++ post_of at k xs) at e, drop_at (take at xs) (ys ++ post_of at k xs) at e)
    rw (take-append-le n ys (post_of at k xs) fits)

pub loop-done-preserved : goal.loop-done-preserved
loop-done-preserved g c =
    let l = c.loop-done in
    let part = c.read.new.buf in
    let fits : c.in_ok-n.n ≤ length part = c.in_ok-n.ensures.bound.0 in
    let e = joined l.done (length l.buffer - l.done) c.in_ok-n.n l.buffer part l.invariant.0 fits in
    (search rules, subst (Consumes _ _) (sym e) (Consumes-trans _ _ _ _ _ l.invariant.1 c.in_ok-n.ensures.bytes.0))
