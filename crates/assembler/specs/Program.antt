-- The syllables of a text. An instruction is its operations, whichever lines they stand on.
use Rattle.std.specs.Prelude.{Bool, false, List, [], ◌∷◌, ◌++◌, ℕ, zero, suc, ◌+◌, ◌-◌, ◌^◌, ltb, Ok, Err}
use Rattle.std.proofs.Math.Option.{Option, none, some}
use Rattle.word.specs.Choice.{pick}
use Rattle.values.specs.Values.{Value}
use Rattle.operations.specs.Meaning.{Said, syllable_of, Syllable}
use Rattle.source.specs.Heard.{Heard, says, unread}
use Rattle.source.specs.Walk.{Walk, start, refused, step}
use Rattle.source.specs.Labels.{value_of}
use Rattle.assembler.specs.Faults.{does_by}

abbrev pub ends_by : Heard → Bool
ends_by (says given does ends) = ends
ends_by (unread given) = false

abbrev pub onward : List Said → Option Said → List Said
onward begun none = begun
onward begun (some s) = begun ++ (s ∷ [])

-- "The last instruction may go without `;;`."
abbrev pub at_end : List Said → List (List Said)
at_end [] = []
at_end (s ∷ ss) = (s ∷ ss) ∷ []

-- the instructions of a text, from a line on where `begun` are the operations of the one that is open
abbrev pub instructions : Walk → List Said → List Heard → List (List Said)
instructions w begun [] = at_end begun
instructions w begun (h ∷ hs) =
    let skipped = instructions w begun hs in
    let now = onward begun (does_by h) in
    let ended = instructions (step w h) [] hs in
    let goes = instructions (step w h) now hs in
    pick (refused w h) skipped (pick (ends_by h) (now ∷ ended) goes)

-- bits 30 and 31 of a syllable
abbrev pub opens : ℕ
opens = 2 ^ 30

abbrev pub ends : ℕ
ends = 2 ^ 31

-- "A cluster without an operation below one that has some gets a nop"
abbrev pub nops : ℕ → List ℕ
nops zero = []
nops (suc n) = opens ∷ nops n

-- of a text without a fault each operation has its syllable
abbrev pub bits_of : Syllable → ℕ
bits_of (Ok s) = s
bits_of (Err w) = 0

abbrev pub if_last : List Said → ℕ
if_last [] = ends
if_last (s ∷ ss) = 0

-- bit 30 is set where a cluster is opened: `opened` of them are already
abbrev pub if_opens : ℕ → Said → ℕ
if_opens opened s = pick (ltb s.cluster opened) 0 opens

abbrev pub syllables : (List ℕ → Value) → ℕ → List Said → List ℕ
syllables env opened [] = []
syllables env opened (s ∷ ss) =
    nops (s.cluster - opened) ++ ((bits_of (syllable_of env s) + if_opens opened s + if_last ss) ∷ syllables env (suc s.cluster) ss)

abbrev pub joined : (List ℕ → Value) → List (List Said) → List ℕ
joined env [] = []
joined env (i ∷ is) = syllables env 0 i ++ joined env is

unfoldable pub program : List Heard → List ℕ
program hs = joined (value_of hs) (instructions start [] hs)
