-- What is refused: "One answer for a text: of all lines' faults the lowest line, and on it the lowest number."
use Rattle.std.specs.Prelude.{◌≡◌, Bool, true, false, not, ◌&&◌, ◌||◌, List, [], ◌∷◌, ◌++◌, ℕ, suc, ◌≤◌, ◌<◌, eqb, length, get_or, take, Ok, Err}
use Rattle.std.proofs.Math.Option.{Option, none, some}
use Rattle.word.specs.Choice.{pick}
use Rattle.word.specs.Lists.{any}
use Rattle.values.specs.Values.{Value}
use Rattle.operations.specs.Meaning.{Said, syllable_of, Syllable}
use Rattle.values.specs.declared.Fault.TheVariants.{Missing, Outside}
use Rattle.source.specs.Heard.{Heard, says, unread}
use Rattle.source.specs.Walk.{Walk, start, refused, step, walked}
use Rattle.source.specs.Labels.{given_by, gives, value_of}

abbrev pub is_missing : Syllable → Bool
is_missing (Ok s) = false
is_missing (Err Missing) = true
is_missing (Err Outside) = false

abbrev pub is_outside : Syllable → Bool
is_outside (Ok s) = false
is_outside (Err Missing) = false
is_outside (Err Outside) = true

abbrev pub does_by : Heard → Option Said
does_by (says given does ends) = does
does_by (unread given) = none

-- a line without an operation has nothing that is missing or outside
abbrev pub syllable_in : (List ℕ → Value) → Option Said → Syllable
syllable_in env none = Ok 0
syllable_in env (some s) = syllable_of env s

abbrev pub is_in : List Heard → Option (List ℕ) → Bool
is_in above none = false
is_in above (some name) = any (gives name) above

module _ (env : List ℕ → Value) (above : List Heard) (w : Walk) (h : Heard) where
  -- "A line that is not as above is 18, and so is one whose operation falls below the cluster before it, or whose label or `;;` stands where none may."
  abbrev pub has18 : Bool
  has18 = refused w h

  -- "A label is given twice: 19 at the line of each giving but the first. A label that no line gives: 19 at the line of its use." "Of a line with
  -- 18 nothing counts but a label"
  abbrev pub has19 : Bool
  has19 = is_in above (given_by h) || (not has18 && is_missing (syllable_in env (does_by h)))

  -- "20 is asked only of a line with neither 18 nor 19."
  abbrev pub has20 : Bool
  has20 = not has18 && not has19 && is_outside (syllable_in env (does_by h))

  abbrev pub has : ℕ → Bool
  has k = (eqb k 18 && has18) || (eqb k 19 && has19) || (eqb k 20 && has20)

-- line i of a text, from 0, has the fault k
abbrev pub broken : List Heard → ℕ → ℕ → Bool
broken hs i k = has (value_of hs) (take i hs) (walked start (take i hs)) (get_or hs i (says none none false)) k

pub record Lowest (hs : List Heard) (i k : ℕ) : Type 0 where
  pub inside : i < length hs
  pub there : broken hs i k ≡ true
  pub line : (j m : ℕ) → j < length hs → broken hs j m ≡ true → i ≤ j
  pub number : (m : ℕ) → broken hs i m ≡ true → k ≤ m

-- how many syllables a text has, where there is no fault; or the line, from 0, and the number
pub data Verdict : Type 0 where
  Sound : ℕ → Verdict
  Fault : ℕ → ℕ → Verdict

-- a verdict on a text: no fault at all, and how many syllables there are, or the lowest fault
abbrev pub Judges : List Heard → Verdict → Type 0
Judges hs (Sound n) = ((j m : ℕ) → j < length hs → broken hs j m ≡ true → ⊥) × (n ≡ (walked start hs).count)
Judges hs (Fault i k) = Lowest hs i k

-- a line's number, 0 where it has no fault
abbrev pub number_of : (List ℕ → Value) → List Heard → Walk → Heard → ℕ
number_of env above w h = pick (has18 env above w h) 18 (pick (has19 env above w h) 19 (pick (has20 env above w h) 20 0))

-- the first line with a number, from line i on
abbrev pub verdict_from : (List ℕ → Value) → List Heard → Walk → ℕ → List Heard → Verdict
verdict_from env above w i [] = Sound w.count
verdict_from env above w i (h ∷ hs) =
    let later = verdict_from env (above ++ (h ∷ [])) (step w h) (suc i) hs in
    pick (eqb (number_of env above w h) 0) later (Fault i (number_of env above w h))

unfoldable pub verdict : List Heard → Verdict
verdict hs = verdict_from (value_of hs) [] start 0 hs
