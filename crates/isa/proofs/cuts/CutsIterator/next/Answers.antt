-- The instruction at the place is cut out, and the next one starts behind it.
use mathlib.Core.Path.{◌≡◌, refl}
use mathlib.Core.Bool.{true}
use mathlib.Core.List.{List}
use Prim.Native.Nat.{ℕ, ◌+◌, ◌/◌, ◌<◌}
use native.Mathlib.Omega.{arith}
use lib.ListN.{length}
use Rattle.std.proofs.Common.{rules}
use Rattle.word.specs.Bytes.{words}
use Rattle.word.proofs.Bytes.{words_length}
use Rattle.isa.specs.Program.{spots, is_start, instruction_at}
use Rattle.isa.proofs.Instructions.{after, following_after, next_start}
use Rattle.isa.proofs.cuts.CutsIterator.next.Goals as goal

behind : (p l : List ℕ) (at : ℕ) → spots (words l) ≡ instruction_at p at → at < length p → at + length l / 4 < length p → is_start p (at + length l / 4) ≡ true
behind p l at e b h = let k = after p at l e in rw k (next_start p at b (rw k at h))

pub returns-then-self-at-clause-steps : goal.returns-then-self-at-clause-steps
returns-then-self-at-clause-steps c = omega (arith, words_length c.args.self.now.program.now)

pub cut-stretch-requires : goal.cut-stretch-requires
cut-stretch-requires c = c.args.self.now.starts (omega (arith, words_length c.args.self.now.program.now))

pub invariant_of-self : goal.invariant_of-self
invariant_of-self c =
    let p = c.args.self.now.program.now in
    record { starts = behind (words p) c.cut-stretch.result.now c.args.self.now.at.0 c.cut-stretch.ensures (omega (arith, words_length p)) }

pub returns-clause-steps : goal.returns-clause-steps
returns-clause-steps c =
    let p = c.args.self.now.program.now in
    record {
      same = refl;
      place = refl;
      start = c.args.self.now.starts (omega (arith, words_length p));
      syllables = c.cut-stretch.ensures;
      next = after (words p) c.args.self.now.at.0 c.cut-stretch.result.now c.cut-stretch.ensures;
    }

pub returns-clause-goes : goal.returns-clause-goes
returns-clause-goes c =
    let p = c.args.self.now.program.now in
    record {
      on = λ _. (search rules, search rules, omega (arith, words_length p, after (words p) c.args.self.now.at.0 c.cut-stretch.result.now c.cut-stretch.ensures, following_after (words p) c.args.self.now.at.0 (omega (arith, words_length p))));
      keeps = search rules;
      rests = search rules;
    }
