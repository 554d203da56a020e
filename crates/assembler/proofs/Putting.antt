-- Laws of syllables that are put into the program one after another.
use mathlib.Core.Path.{◌≡◌, refl, ap, ◌∙◌}
use mathlib.Core.Logic.{◌⊎◌, inl, inr}
use mathlib.Core.Bool.{true, false}
use mathlib.Core.List.{List, [], ◌∷◌, ◌++◌, map}
use Prim.Native.Nat.{ℕ, zero, suc, ◌+◌, ◌*◌, ◌-◌, ◌≤◌}
use native.Mathlib.Numerals.{add-one}
use native.Mathlib.Omega.{arith}
use borrow.Author.Tests.{eqb-true, eqb-false, lt-ltb, le-ltb}
use lib.Dec.{eqb, ltb}
use lib.ListN.{length, length-append}
use Rattle.std.specs.Prelude.{Some}
use lib.Seq.{sets, length-sets}
use Rattle.word.proofs.Bytes.{sets_append}
use Rattle.word.proofs.Choice.{by_test}
use Rattle.values.specs.Values.{Value}
use Rattle.lines.specs.Lines.{word_bytes}
use Rattle.source.specs.Heard.{Heard}
use Rattle.source.specs.Walk.{Walk, start, refused, step, walked}
use Rattle.source.specs.Reader.{hear, hear_all}
use Rattle.operations.specs.declared.Operation.{Operation}
use Rattle.source.specs.Seek.{does_in, heard_in}
use Rattle.source.specs.Each.{left, Gives}
use Rattle.source.specs.declared.reading.Says.{Says}
use Rattle.source.specs.declared.reading.Line.{Line}
use Rattle.source.specs.declared.reading.ReadLine.{ReadLine}
use Rattle.source.specs.declared.each_line.Lines.{Lines}
use Rattle.source.proofs.Places.{left_here}
use Rattle.evaluation.specs.Evaluated.{labels_of}
use Rattle.assembler.specs.Program.{opens, nops}
use Rattle.assembler.specs.Program.{program as program_of}
use Rattle.assembler.specs.Passes.{kept, closing, fills, keeps, ending, adds, lastly, writes}
use Rattle.assembler.proofs.Counts.{nops_length, program_written, count}

bytes_append : (xs ys : List ℕ) → word_bytes (xs ++ ys) ≡ word_bytes xs ++ word_bytes ys
bytes_append [] ys = refl
bytes_append (x ∷ xs) ys = rw (bytes_append xs ys)

bytes_size : (xs : List ℕ) → length (word_bytes xs) ≡ length xs * 4
bytes_size [] = refl
bytes_size (x ∷ xs) = let i = bytes_size xs in omega arith

-- a run of syllables, and one behind it
pub put_more : (l : List ℕ) (out : ℕ) (xs ys : List ℕ) {to : ℕ} → to ≡ out + length xs
    → sets (sets l (out * 4) (word_bytes xs)) (to * 4) (word_bytes ys) ≡ sets l (out * 4) (word_bytes (xs ++ ys))
put_more l out xs ys e = rw (bytes_append xs ys) (sets_append l (out * 4) (word_bytes xs) (word_bytes ys) (omega (arith, bytes_size xs)))

nops_suc : (n : ℕ) → nops n ++ (opens ∷ []) ≡ nops (suc n)
nops_suc zero = refl
nops_suc (suc n) = ap (λ l. opens ∷ l) (nops_suc n)

pub nops_more : (n : ℕ) → nops n ++ (opens ∷ []) ≡ nops (n + 1)
nops_more n = rw add-one (nops_suc n)

-- ---- what a line puts

module _ (line : List ℕ) (o : Operation) (w : Walk) (last : ℕ) where
  pub fills_size : length (fills w last (does_in line (Some o))) ≡ length (kept w last) + (o.cluster - w.opened)
  fills_size = length-append (kept w last) (nops (o.cluster - w.opened)) ∙ ap (λ n. length (kept w last) + n) (nops_length (o.cluster - w.opened))

  pub fills_put : (program : List ℕ) (out : ℕ) {to : ℕ} → to ≡ out + length (kept w last)
      → sets (sets program (out * 4) (word_bytes (kept w last))) (to * 4) (word_bytes (nops (o.cluster - w.opened)))
      ≡ sets program (out * 4) (word_bytes (fills w last (does_in line (Some o))))
  fills_put program out e = put_more program out (kept w last) (nops (o.cluster - w.opened)) e

-- a line that is not refused
module _ (line : List ℕ) (l : Line) (w : Walk) (last : ℕ) (env : List ℕ → Value) {says : Says} (e : l.says ≡ Some says) (r : refused w (heard_in line l) ≡ false) where
  pub lastly_keeps : lastly env w last (heard_in line l) ≡ keeps env w last (does_in line says.operation)
  lastly_keeps = rw (r, e)

  module _ {next : ℕ} (k : next ≡ keeps env w last (does_in line says.operation)) where
    adds_parts : adds env w last (heard_in line l) ≡ fills w last (does_in line says.operation) ++ ending says.ends next
    adds_parts = rw (r, e, k)

    pub adds_size : length (adds env w last (heard_in line l)) ≡ length (fills w last (does_in line says.operation)) + length (ending says.ends next)
    adds_size = ap length adds_parts ∙ length-append (fills w last (does_in line says.operation)) (ending says.ends next)

    pub adds_put : (program : List ℕ) (out : ℕ) {to : ℕ} → to ≡ out + length (fills w last (does_in line says.operation))
        → sets (sets program (out * 4) (word_bytes (fills w last (does_in line says.operation)))) (to * 4) (word_bytes (ending says.ends next))
        ≡ sets program (out * 4) (word_bytes (adds env w last (heard_in line l)))
    adds_put program out t = rw adds_parts (put_more program out (fills w last (does_in line says.operation)) (ending says.ends next) t)

-- ---- from line to line

-- at the end of the text the syllable that is kept ends its instruction
closes : (w : Walk) (last : ℕ) → ending (ltb 0 w.opened) last ≡ closing w last
closes w last = go (by_test (eqb w.opened 0))
  where
    go : (eqb w.opened 0 ≡ true) ⊎ (eqb w.opened 0 ≡ false) → ending (ltb 0 w.opened) last ≡ closing w last
    go (inl e) = let z = eqb-true w.opened 0 e in rw (e, le-ltb 0 w.opened (omega arith))
    go (inr e) = let z = eqb-false w.opened 0 e in rw (e, lt-ltb 0 w.opened (omega arith))

-- what the lines from here on put makes the whole, and has room
pub record Rest (env : List ℕ → Value) (program whole : List ℕ) (w : Walk) (out last : ℕ) (hs : List Heard) : Type 0 where
  pub room : (out + length (writes env w last hs)) * 4 ≤ length program
  pub makes : sets program (out * 4) (word_bytes (writes env w last hs)) ≡ whole

module _ {env : List ℕ → Value} {program whole : List ℕ} {w : Walk} {out last : ℕ} where
  module _ {h : Heard} {hs : List Heard} (f : Rest env program whole w out last (h ∷ hs)) where
    size : length (writes env w last (h ∷ hs)) ≡ length (adds env w last h) + length (writes env (step w h) (lastly env w last h) hs)
    size = length-append (adds env w last h) (writes env (step w h) (lastly env w last h) hs)

    line_room : (out + length (adds env w last h)) * 4 ≤ length program
    line_room = omega (arith, f.room, size)

    rest_more : {after : List ℕ} {v : Walk} {to next : ℕ} → after ≡ sets program (out * 4) (word_bytes (adds env w last h))
        → v ≡ step w h → to ≡ out + length (adds env w last h) → next ≡ lastly env w last h → Rest env after whole v to next hs
    rest_more a s t n =
        rw (s, n) (record {
          room = omega (arith, f.room, size, ap length a, length-sets program (out * 4) (word_bytes (adds env w last h)));
          makes = rw a (put_more program out (adds env w last h) _ t) ∙ f.makes;
        })

  module _ (f : Rest env program whole w out last []) where
    pub end_room : (out + length (ending (ltb 0 w.opened) last)) * 4 ≤ length program
    end_room = rw (closes w last) f.room

    pub rest_none : {after : List ℕ} → after ≡ sets program (out * 4) (word_bytes (ending (ltb 0 w.opened) last)) → after ≡ whole
    rest_none a = a ∙ rw (closes w last) f.makes

-- at the start all lines are left
pub rest_all : (text program : List ℕ) → (walked start (hear_all text)).count * 4 ≤ length program
    → Rest (labels_of text) program (sets program 0 (word_bytes (program_of (hear_all text)))) start 0 0 (hear_all text)
rest_all text program h =
    let e = program_written (hear_all text) in
    record { room = rw e (omega (arith, count (hear_all text))); makes = rw e }

-- the line at a place, and those below it
module _ {s t : Lines} {at : ℕ} {l : ReadLine} (g : Gives s at l t) {env : List ℕ → Value} {program whole : List ℕ} {w : Walk} {out last : ℕ}
    (f : Rest env program whole w out last (map hear (left s))) where
  rest_here : Rest env program whole w out last (heard_in l.bytes.now l.line ∷ map hear (left t))
  rest_here = rw (left_here g, ← g.heard) at f

  pub room_here : (out + length (adds env w last (heard_in l.bytes.now l.line))) * 4 ≤ length program
  room_here = line_room rest_here

  pub rest_on : {after : List ℕ} {v : Walk} {to next : ℕ} → after ≡ sets program (out * 4) (word_bytes (adds env w last (heard_in l.bytes.now l.line)))
      → v ≡ step w (heard_in l.bytes.now l.line) → to ≡ out + length (adds env w last (heard_in l.bytes.now l.line)) → next ≡ lastly env w last (heard_in l.bytes.now l.line)
      → Rest env after whole v to next (map hear (left t))
  rest_on a e t n = rest_more rest_here a e t n
