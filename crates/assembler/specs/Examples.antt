-- Some texts, worked out by the definitions alone. A reader that refuses everything breaks the first ones, one that accepts everything the others.
use Rattle.std.specs.Prelude.{◌≡◌, List, [], ◌∷◌, ◌++◌, ℕ, ◌*◌, ◌-◌, replicate}
use Prim.Native.String.{String}
use Rattle.lines.specs.Lines.{word_bytes}
use Rattle.tokens.specs.Tokens.{letters}
use Rattle.loader.specs.Answer.{answer}
use Rattle.assembler.specs.Answer.{Assembled, assembled}

-- a text, and the syllables that it is read into, with 16 bytes lent for them
abbrev pub Gives : String → List ℕ → ℕ → Type 0
Gives text syllables n =
    let a : Assembled = record { answer = answer 0 n 0; program = word_bytes syllables ++ replicate (16 - n * 4) 0 } in
    assembled (letters text) (replicate 16 0) 12 ≡ a

abbrev pub Refused : String → ℕ → ℕ → Type 0
Refused text number place = let a : Assembled = record { answer = answer number 0 place; program = replicate 16 0 } in assembled (letters text) (replicate 16 0) 12 ≡ a

pub record Examples : Type 0 where
  pub stop : Gives "c0 stop" (0xC0040000 ∷ []) 1
  -- the first minus the second: s1 is register 2, s2 register 3
  pub sub : Gives "c0 sub $r0.1 = $r0.3, $r0.2" (0xC2042003 ∷ []) 1
  pub negative : Gives "c0 add $r0.1 = $r0.2, 0-5" (0xC1042FFB ∷ []) 1
  -- opcode 42, since it goes to a branch register
  pub compared : Gives "c0 cmplt $b0.1 = $r0.2, $r0.3" (0xEA042003 ∷ []) 1
  -- a label used before it is given
  pub forward : Gives "c0 goto x ;;\nx: c0 stop" (0xFD000001 ∷ 0xC0040000 ∷ []) 2
  -- a nop for cluster 0
  pub idle : Gives "c1 nop" (0x40000000 ∷ 0xC0000000 ∷ []) 2
  pub left : Gives "c0 goto 10-3-2" (0xFD000005 ∷ []) 1
  pub star : Gives "c0 goto 2+3*4" (0xFD00000E ∷ []) 1
  -- 16 brackets inside each other, and 17
  pub deep : Gives "c0 goto ((((((((((((((((0))))))))))))))))" (0xFD000000 ∷ []) 1
  pub deeper : Refused "c0 goto (((((((((((((((((0)))))))))))))))))" 18 1
  pub halt : Refused "c0 halt" 18 1
  pub fallen : Refused "c1 nop\nc0 nop" 18 2
  pub twice : Refused "x:\nx: c0 stop" 19 2
  -- the lowest line, not the lowest number
  pub lowest : Refused "c0 goto y\nc0 halt" 19 1
  -- outside at one step, though the next brings it back
  pub step : Refused "c0 goto 2147483647+1-1" 20 1
  pub nothing : Refused "" 2 0
