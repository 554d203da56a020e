-- Laws of a program's instructions: where they start, where the following one is, and which syllables they have.
use mathlib.Core.Path.{◌≡◌, refl, sym, ap, subst, ◌∙◌}
use mathlib.Core.Logic.{⊎_elim}
use mathlib.Core.Bool.{Bool, true, false, false≢true}
use mathlib.Core.List.{List, [], ◌∷◌, map}
use Prim.Native.Nat.{ℕ, zero, suc, ◌+◌, ◌-◌, ◌/◌, ◌≤◌, ◌<◌, zero-le, suc-le-suc}
use native.Mathlib.Nat.{add-zero, zero-add, le_refl, not-suc-le-zero, le_of_suc-le-suc, eq-or-lt_of_le}
use native.Mathlib.Omega.{arith}
use lib.ListN.{length, get_or, take, drop, length-map, drop_of_length-le, get_or-map}
use lib.Seq.{drop-cons, get_or-take, get_or-drop}
use Rattle.word.specs.Bytes.{words}
use Rattle.word.specs.Choice.{pick, bit}
use Rattle.word.proofs.Bytes.{words_length}
use Rattle.word.proofs.Choice.{never_both, is_false}
use Rattle.word.proofs.Lists.{get_d_any}
use Rattle.isa.specs.Syllable.{ends, opens}
use Rattle.isa.specs.Program.{nowhere, spots_from, spots, spot_at, is_start, Starts, stretch, instruction_at, following, operation, operations_at, cluster, next_spot, spot_before}
use Rattle.isa.specs.Decode.{decode}
use Rattle.isa.specs.declared.Op.{Op}
use Rattle.isa.specs.declared.Spot.{Spot}

-- ---- the spots of a list of syllables

-- each spot has its syllable
syllables : (f : Bool) (k : ℕ) (l : List ℕ) → map (λ (x : Spot). x.syllable) (spots_from f k l) ≡ l
syllables f k [] = refl
syllables f k (s ∷ ss) = rw (syllables (ends s) _ ss)

-- and the last one of an instruction has its end bit
lasts : (f : Bool) (k : ℕ) (l : List ℕ) (i : ℕ) → (get_or (spots_from f k l) i nowhere).last ≡ ends (get_or l i 0)
lasts f k [] i = refl
lasts f k (s ∷ ss) zero = refl
lasts f k (s ∷ ss) (suc i) = lasts (ends s) _ ss i

from_next : (f : Bool) (k : ℕ) (l : List ℕ) (i : ℕ) (d : Spot) → suc i < length l
    → get_or (spots_from f k l) (suc i) d ≡ next_spot (get_or (spots_from f k l) i d) (get_or l (suc i) 0)
from_next f k [] i d h = absurd (not-suc-le-zero h)
from_next f k (s ∷ []) i d h = absurd (not-suc-le-zero (le_of_suc-le-suc h))
from_next f k (s ∷ t ∷ ss) zero d h = refl
from_next f k (s ∷ t ∷ ss) (suc i) d h = from_next (ends s) _ (t ∷ ss) i d (le_of_suc-le-suc h)

from_take : (f : Bool) (k n : ℕ) (l : List ℕ) → take n (spots_from f k l) ≡ spots_from f k (take n l)
from_take f k zero l = refl
from_take f k (suc n) [] = refl
from_take f k (suc n) (s ∷ ss) = rw (from_take (ends s) _ n ss)

from_drop : (f : Bool) (k i : ℕ) (l : List ℕ) (d : Spot) → i < length l
    → drop (suc i) (spots_from f k l) ≡ spots_from (ends (get_or l i 0)) (get_or (spots_from f k l) i d).opened (drop (suc i) l)
from_drop f k i [] d h = absurd (not-suc-le-zero h)
from_drop f k zero (s ∷ ss) d h = refl
from_drop f k (suc i) (s ∷ ss) d h = from_drop (ends s) _ i ss d (le_of_suc-le-suc h)

-- a first syllable forgets what was opened before it
from_first_lem : (k : ℕ) (l : List ℕ) → spots_from true k l ≡ spots_from true 0 l
from_first_lem k [] = refl
from_first_lem k (s ∷ ss) = refl

-- ---- the spots of a program

pub spots_length : (p : List ℕ) → length (spots p) ≡ length p
spots_length p = sym (length-map (spots p) (λ (x : Spot). x.syllable)) ∙ ap length (syllables true 0 p)

pub spot_syllable : (p : List ℕ) (i : ℕ) → (spot_at p i).syllable ≡ get_or p i 0
spot_syllable p i = sym (get_or-map (λ (x : Spot). x.syllable) (spots p) i _) ∙ ap (λ (l : List ℕ). get_or l i 0) (syllables true 0 p)

pub spot_last : (p : List ℕ) (i : ℕ) → (spot_at p i).last ≡ ends (get_or p i 0)
spot_last p i = lasts true 0 p i

pub spot_next : (p : List ℕ) (i : ℕ) → suc i < length p → spot_at p (suc i) ≡ next_spot (spot_at p i) (get_or p (suc i) 0)
spot_next p i h = from_next true 0 p i _ h

-- the walk: each spot comes from the one before it, and no more are opened than there are syllables
pub spot_walk : (p : List ℕ) (i : ℕ) → i < length p → next_spot (spot_before p i) (get_or p i 0) ≡ spot_at p i
spot_walk [] zero h = absurd (not-suc-le-zero h)
spot_walk (s ∷ ss) zero h = refl
spot_walk p (suc i) h = sym (spot_next p i h)

pub bit_one : (b : Bool) → bit b ≤ 1
bit_one true = le_refl 1
bit_one false = zero-le

pick_below : (b : Bool) (k n : ℕ) → k ≤ n → pick b 0 k ≤ n
pick_below true k n h = zero-le
pick_below false k n h = h

opened_step : (x : Spot) (s n : ℕ) → x.opened ≤ n → (next_spot x s).opened ≤ suc n
opened_step x s n h = omega (arith, bit_one (opens s), pick_below x.last x.opened n h)

pub walk_opened : (p : List ℕ) (i : ℕ) → i ≤ length p → (spot_before p i).opened ≤ i
walk_opened p zero h = zero-le
walk_opened p (suc i) h =
    subst (λ (x : Spot). x.opened ≤ suc i) (spot_walk p i h) (opened_step (spot_before p i) (get_or p i 0) i (walk_opened p i (omega arith)))

-- inside an instruction none is closed
pub opened_inside : (p : List ℕ) (i : ℕ) → ((k : ℕ) → suc k < length p → (spot_at p k).last ≡ false) → i < length p
    → (spot_at p i).opened ≡ (spot_before p i).opened + bit (opens (get_or p i 0))
opened_inside p zero h b = sym (ap (λ (x : Spot). x.opened) (spot_walk p 0 b))
opened_inside p (suc i) h b = ap (λ (x : Spot). x.opened) (spot_next p i b) ∙ rw (h i b)

pub spots_take : (n : ℕ) (p : List ℕ) → spots (take n p) ≡ take n (spots p)
spots_take n p = sym (from_take true 0 n p)

first_inside : (xs : List Spot) (i : ℕ) (d : Spot) → d.first ≡ false → (get_or xs i d).first ≡ true → i < length xs
first_inside [] i d n h = absurd (never_both h n)
first_inside (x ∷ xs) zero d n h = suc-le-suc zero-le
first_inside (x ∷ xs) (suc i) d n h = suc-le-suc (first_inside xs i d n h)

pub start_inside : (p : List ℕ) (i : ℕ) → is_start p i ≡ true → i < length p
start_inside p i h = rw spots_length at (first_inside (spots p) i _ refl h)

pub start_outside : (p : List ℕ) (i : ℕ) → length p ≤ i → is_start p i ≡ false
start_outside p i h = is_false (is_start p i) (λ e. omega (arith, start_inside p i e))

pub start_zero : (p : List ℕ) → 0 < length p → is_start p 0 ≡ true
start_zero [] h = absurd (not-suc-le-zero h)
start_zero (s ∷ ss) h = refl

pub start_next : (p : List ℕ) (i : ℕ) → suc i < length p → is_start p (suc i) ≡ ends (get_or p i 0)
start_next p i h = ap (λ (x : Spot). x.first) (spot_next p i h) ∙ spot_last p i

pub start_after : (p : List ℕ) (i : ℕ) → 0 < i → i < length p → is_start p i ≡ ends (get_or p (i - 1) 0)
start_after p zero a b = absurd (not-suc-le-zero a)
start_after p (suc i) a b = let e : suc i - 1 ≡ i = omega arith in rw e (start_next p i b)

pub starts : (p : List ℕ) → Starts p
starts p = record { first = start_zero p; after = start_after p; outside = start_outside p }

pub opened_next : (p : List ℕ) (i : ℕ) → suc i < length p
    → (spot_at p (suc i)).opened ≡ pick (is_start p (suc i)) 0 (spot_at p i).opened + bit (opens (get_or p (suc i) 0))
opened_next p i h = cc (spot_next p i h)

pub opened_first : (p : List ℕ) (i : ℕ) → is_start p i ≡ true → (spot_at p i).opened ≡ bit (opens (get_or p i 0))
opened_first [] i h = absurd (false≢true h)
opened_first (s ∷ ss) zero h = zero-add _
opened_first (s ∷ ss) (suc i) h = opened_next (s ∷ ss) i (start_inside (s ∷ ss) (suc i) h) ∙ rw h (zero-add _)

-- the spots from a start on are those of a program of its own
pub drop_start : (p : List ℕ) (i : ℕ) → is_start p i ≡ true → drop i (spots p) ≡ spots (drop i p)
drop_start p zero h = refl
drop_start p (suc i) h =
    let b : suc i < length p = start_inside p (suc i) h in
    let e : ends (get_or p i 0) ≡ true = sym (start_next p i b) ∙ h in
    from_drop true 0 i p nowhere (omega arith) ∙ rw e (from_first_lem _ (drop (suc i) p))

-- ---- the following place

pub following_end : (p : List ℕ) (i : ℕ) → length p ≤ i → following p i ≡ i
following_end p i h = rw (drop_of_length-le (spots p) {i = i} (rw spots_length h)) (add-zero i)

following_step : (p : List ℕ) (i : ℕ) → i < length p → following p i ≡ pick (ends (get_or p i 0)) (suc i) (following p (suc i))
following_step p i h = rw (drop-cons (spots p) i nowhere (rw spots_length h), spot_last p i) (by (ends (get_or p i 0)))
  where
    by : (b : Bool) → i + suc (length (pick b [] (instruction_at p (suc i)))) ≡ pick b (suc i) (following p (suc i))
    by true = omega arith
    by false = omega arith

pub following_here : (p : List ℕ) (i : ℕ) → i < length p → ends (get_or p i 0) ≡ true → following p i ≡ suc i
following_here p i h e = following_step p i h ∙ rw e

pub following_on : (p : List ℕ) (i : ℕ) → i < length p → ends (get_or p i 0) ≡ false → following p i ≡ following p (suc i)
following_on p i h e = following_step p i h ∙ rw e

pub following_after : (p : List ℕ) (i : ℕ) → i < length p → i < following p i
following_after p i h = rw (drop-cons (spots p) i nowhere (rw spots_length h)) (omega arith)

-- n is after the first end bit from i on, or the program's end
record Follows (p : List ℕ) (i n : ℕ) : Type 0 where
  within : n ≤ length p
  inside : (j : ℕ) → i ≤ j → suc j < n → ends (get_or p j 0) ≡ false
  last : n < length p → ends (get_or p (n - 1) 0) ≡ true

follows_up : (p : List ℕ) (n i : ℕ) → i + n ≡ length p → Follows p i (following p i)
follows_up p zero i e =
    rw (following_end p i (omega arith))
    (record { within = omega arith; inside = λ j a b. absurd (omega arith); last = λ b. absurd (omega arith) })
follows_up p (suc n) i e = by (ends (get_or p i 0)) refl (follows_up p n (suc i) (omega arith))
  where
    by : (b : Bool) → ends (get_or p i 0) ≡ b → Follows p (suc i) (following p (suc i)) → Follows p i (following p i)
    by true t f =
        let k : suc i - 1 ≡ i = omega arith in
        rw (following_here p i (omega arith) t)
        (record { within = omega arith; inside = λ j a b. absurd (omega arith); last = λ _. rw k t })
    by false t f =
        rw (following_on p i (omega arith) t)
        (record {
          within = f.within;
          inside = λ j a b. ⊎_elim (λ (q : i ≡ j). rw (← q) t) (λ q. f.inside j q b) (eq-or-lt_of_le a);
          last = f.last;
        })

follows : (p : List ℕ) (i : ℕ) → i < length p → Follows p i (following p i)
follows p i h = follows_up p (length p - i) i (omega arith)

pub following_within : (p : List ℕ) (i : ℕ) → i < length p → following p i ≤ length p
following_within p i h = (follows p i h).within

-- an instruction's syllables before its last have no end bit
pub following_inside : (p : List ℕ) (i j : ℕ) → i < length p → i ≤ j → suc j < following p i → ends (get_or p j 0) ≡ false
following_inside p i j h = (follows p i h).inside j

-- its last has it, but for the program's last
pub following_last : (p : List ℕ) (i : ℕ) → i < length p → following p i < length p → ends (get_or p (following p i - 1) 0) ≡ true
following_last p i h = (follows p i h).last

-- and that one too where it is tested
pub following_ends : (p : List ℕ) (i : ℕ) → i < length p → ends (get_or p (length p - 1) 0) ≡ true → ends (get_or p (following p i - 1) 0) ≡ true
following_ends p i h e = ⊎_elim (λ (k : following p i ≡ length p). rw k e) (following_last p i h) (eq-or-lt_of_le (following_within p i h))

pub next_start : (p : List ℕ) (i : ℕ) → i < length p → following p i < length p → is_start p (following p i) ≡ true
next_start p i h b = start_after p (following p i) (omega (arith, following_after p i h)) b ∙ following_last p i h b

pub between : (p : List ℕ) (i j : ℕ) → i < length p → i < j → j < following p i → is_start p j ≡ false
between p i j h a b =
    start_after p j (omega arith) (omega (arith, following_within p i h)) ∙ following_inside p i (j - 1) h (omega arith) (omega arith)

-- each syllable belongs to an instruction
pub covered : (p : List ℕ) (j : ℕ) → j < length p → (i : ℕ) × (is_start p i ≡ true) × (i ≤ j) × (j < following p i)
covered p zero h = (0, start_zero p h, zero-le, following_after p 0 h)
covered p (suc j) h =
    let (i, s, a, b) = covered p j (omega arith) in
    ⊎_elim
    (λ (e : suc j ≡ following p i). (suc j, rw e (next_start p i (omega arith) (omega arith)), le_refl (suc j), following_after p (suc j) h))
    (λ c. (i, s, omega arith, c))
    (eq-or-lt_of_le b)

-- ---- the syllables of an instruction

stretch_take : (xs : List Spot) → stretch xs ≡ take (length (stretch xs)) xs
stretch_take [] = refl
stretch_take (x ∷ xs) = by x.last (stretch_take xs)
  where
    by : (b : Bool) → stretch xs ≡ take (length (stretch xs)) xs → x ∷ pick b [] (stretch xs) ≡ take (suc (length (pick b [] (stretch xs)))) (x ∷ xs)
    by true e = refl
    by false e = ap (λ (r : List Spot). x ∷ r) e

pub instruction_length : (p : List ℕ) (i : ℕ) → length (instruction_at p i) ≡ following p i - i
instruction_length p i = omega arith

instruction_take : (p : List ℕ) (i : ℕ) → instruction_at p i ≡ take (following p i - i) (drop i (spots p))
instruction_take p i = rw (← instruction_length p i) (stretch_take (drop i (spots p)))

pub instruction_syllables : (p : List ℕ) (i : ℕ) → is_start p i ≡ true → instruction_at p i ≡ spots (take (following p i - i) (drop i p))
instruction_syllables p i h = instruction_take p i ∙ ap (take (following p i - i)) (drop_start p i h) ∙ sym (spots_take (following p i - i) (drop i p))

pub instruction_at_lem : (p : List ℕ) (i j : ℕ) (d : Spot) → j < following p i - i → get_or (instruction_at p i) j d ≡ spot_at p (i + j)
instruction_at_lem p i j d h =
    get_d_any (instruction_at p i) j d nowhere (omega (arith, instruction_length p i))
    ∙ rw (instruction_take p i, get_or-take (following p i - i) _ j nowhere h, get_or-drop)

pub operations_length : (p : List ℕ) (i : ℕ) → length (operations_at p i) ≡ following p i - i
operations_length p i = length-map (instruction_at p i) _ ∙ instruction_length p i

pub operation_at : (p : List ℕ) (i j : ℕ) (d : Op) → j < following p i - i
    → get_or (operations_at p i) j d ≡ decode (cluster (spot_at p (i + j))) (get_or p (i + j) 0)
operation_at p i j d h =
    get_d_any (operations_at p i) j d (operation nowhere) (omega (arith, operations_length p i))
    ∙ get_or-map operation (instruction_at p i) j nowhere
    ∙ rw (instruction_at_lem p i j nowhere h, spot_syllable p (i + j))

-- an instruction's stretch is as long as the instruction
pub after : (p : List ℕ) (at : ℕ) (l : List ℕ) → spots (words l) ≡ instruction_at p at → at + length l / 4 ≡ following p at
after p at l e = omega (arith, words_length l, spots_length (words l), ap (λ (xs : List Spot). length xs) e)
