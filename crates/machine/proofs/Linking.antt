-- Where an instruction has one control operation, it reads every register exactly if it calls or goes back.
use mathlib.Core.Path.{◌≡◌, refl}
use mathlib.Core.Bool.{Bool, true, false, ◌||◌}
use mathlib.Core.List.{List, [], ◌∷◌, map}
use Prim.Native.Nat.{ℕ, ◌+◌, ◌≤◌}
use native.Mathlib.Omega.{arith}
use lib.Dec.{eqb}
use lib.ListN.{get_or}
use Rattle.word.specs.Choice.{bit}
use Rattle.word.specs.Lists.{any, count}
use Rattle.isa.specs.Control.{place, controls, reads_every, turn_of}
use Rattle.isa.specs.declared.Op.{Op}
use Rattle.isa.specs.declared.Turn.{Turn}
use Rattle.isa.specs.declared.Way.{Way}
use Rattle.isa.specs.declared.Way.TheVariants.{Along, Stop, Goto, Branch, Call, Return}
use Rattle.isa.proofs.Steps.{either_way}
use Rattle.machine.specs.Instruction.{fire, Next, calls, back, stops, next_by, next_of}
use Rattle.machine.specs.Instruction.{at as goes_to}

abbrev pub by_link : Next → Bool
by_link (goes_to k) = false
by_link (calls k) = true
by_link back = true
by_link stops = false

-- an operation that reads every register is control
none_reads : (os : List Op) → count (λ o. controls o.way) os ≤ 0 → any (λ o. reads_every o.way) os ≡ false
none_reads [] h = refl
none_reads (o ∷ os) h = by o.way h (none_reads os)
  where
    by : (w : Way) → bit (controls w) + count (λ p. controls p.way) os ≤ 0 → (count (λ p. controls p.way) os ≤ 0 → any (λ p. reads_every p.way) os ≡ false)
        → reads_every w || any (λ p. reads_every p.way) os ≡ false
    by Along h more = more (omega arith)
    by Stop h more = absurd (omega arith)
    by (Goto t) h more = absurd (omega arith)
    by (Branch v t) h more = absurd (omega arith)
    by (Call t) h more = absurd (omega arith)
    by Return h more = absurd (omega arith)

pub reads_by_link : (j : ℕ) (f : List ℕ) (os : List Op) → count (λ o. controls o.way) os ≤ 1 → any (λ o. reads_every o.way) os ≡ by_link (next_of j (map (fire f) os))
reads_by_link j f [] h = refl
reads_by_link j f (o ∷ os) h = by o.way h (reads_by_link j f os)
  where
    next : Next
    next = next_of j (map (fire f) os)

    by : (w : Way) → bit (controls w) + count (λ p. controls p.way) os ≤ 1
        → (count (λ p. controls p.way) os ≤ 1 → any (λ p. reads_every p.way) os ≡ by_link next)
        → reads_every w || any (λ p. reads_every p.way) os ≡ by_link (next_by (turn_of w (get_or f o.b 0) (place j)) next)
    by Along h more = more (omega arith)
    by Stop h more = none_reads os (omega arith)
    by (Goto t) h more = none_reads os (omega arith)
    by (Branch v t) h more =
        either_way (λ (u : Turn). any (λ p. reads_every p.way) os ≡ by_link (next_by u next)) (eqb (get_or f o.b 0) v) _ _
        (none_reads os (omega arith)) (none_reads os (omega arith))
    by (Call t) h more = refl
    by Return h more = refl
