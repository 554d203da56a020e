-- Where the form is known, the code makes the form's line of `decodeAs`, by `fields`.
use mathlib.Core.Path.{◌≡◌, sym, ◌∙◌}
use Prim.Native.Nat.{ℕ}
use Rattle.isa.specs.Syllable.{opcode}
use Rattle.isa.specs.Register.{general}
use Rattle.isa.specs.Control.{way_as, way_of}
use Rattle.isa.specs.Decode.{two_to, decode_as, decode}
use Rattle.isa.specs.declared.Op.{Op}
use Rattle.isa.specs.declared.Way.{Way}
use Rattle.isa.specs.declared.Format.{Format}
use Rattle.isa.proofs.Formats.{Among, format_of_lem}
use Rattle.isa.proofs.Steps.{steps}

pub as_form : (c s : ℕ) (f : Format) (r : Op) → Among f (opcode s) → r ≡ decode_as c s f → r ≡ decode c s
unfolding decode
as_form c s f r a h = rw (format_of_lem f (opcode s) a) h

-- field by field
pub made : {o o' x x' y y' z z' k k' n n' a a' d d' e e' : ℕ} {w w' : Way}
    → o ≡ o' → x ≡ x' → y ≡ y' → z ≡ z' → k ≡ k' → n ≡ n' → a ≡ a' → d ≡ d' → e ≡ e' → w ≡ w'
    → ◌≡◌ {A = Op}
    (record { opcode = o; s1 = x; s2 = y; b = z; stored = k; immediate = n; offset = a; t = d; carry = e; way = w })
    (record { opcode = o'; s1 = x'; s2 = y'; b = z'; stored = k'; immediate = n'; offset = a'; t = d'; carry = e'; way = w' })
made o x y z k n a d e w =
    λ i. record { opcode = o i; s1 = x i; s2 = y i; b = z i; stored = k i; immediate = n i; offset = a i; t = d i; carry = e i; way = w i }

-- the way of a syllable whose form is known
pub way_of_lem : (s : ℕ) (f : Format) → Among f (opcode s) → way_of s ≡ way_as s f
unfolding way_of
way_of_lem s f a = rw (format_of_lem f (opcode s) a)

pub as_way : (s : ℕ) (f : Format) (w : Way) → Among f (opcode s) → w ≡ way_as s f → w ≡ way_of s
as_way s f w a h = h ∙ sym (way_of_lem s f a)

-- copy's cluster, and the destination of the forms with s2 as a register or a number, come from other functions
pub from_cluster : (c c' x r : ℕ) → r ≡ general c' x → c' ≡ c → r ≡ general c x
from_cluster c c' x r h e = rw (← e) h

pub into : (c s t t' : ℕ) (r : Op) → r ≡ two_to c s t' → t' ≡ t → r ≡ two_to c s t
into c s t t' r h e = rw (← e) h

pub ruleset fields = (made, from_cluster, into, steps)
