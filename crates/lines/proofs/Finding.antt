-- Laws of what the code finds at a place.
use mathlib.Core.Path.{◌≡◌, refl, sym, ap, ◌∙◌}
use mathlib.Core.Logic.{⊎_elim}
use mathlib.Core.Bool.{Bool, true, false, ◌&&◌}
use mathlib.Core.List.{List}
use Prim.Native.Nat.{ℕ, ◌+◌, ◌*◌, ◌^◌, ◌≤◌, ◌<◌}
use native.Mathlib.Nat.{zero-lt-suc, pow-le-pow_right}
use native.Mathlib.Omega.{arith}
use lib.Dec.{eqb, ltb}
use lib.ListN.{length, get_or, take, drop}
use lib.Seq.{get_or-drop, length-take-le}
use borrow.Author.Tests.{lt-ltb, le-ltb, ltb-true, ltb-false}
use Rattle.std.specs.Prelude.{Option, None, Some}
use Rattle.word.specs.Choice.{pick}
use Rattle.word.proofs.Choice.{by_test, and_true}
use Rattle.lines.specs.Digits.{is_digit, number_of}
use Rattle.lines.specs.Lines.{every, newline, blank}
use Rattle.lines.specs.Items.{number_in, followed, item_at, value_of}
use Rattle.lines.specs.declared.items.Item.{Item}
use Rattle.lines.specs.declared.items.Item.TheVariants.{Inner, Last}
use Rattle.lines.proofs.Digits.{number_lt}

pub item_short : (d : ℕ) (text : List ℕ) → length text ≤ d → item_at d text ≡ None
unfolding item_at
item_short d text h = rw (le-ltb d (length text) h)

module _ (d : ℕ) (text : List ℕ) (h : d < length text) where
  pub item_none : number_in (take d text) ≡ None → item_at d text ≡ None
  unfolding item_at
  item_none e = rw (lt-ltb d (length text) h) (by (every is_digit (take d text)) _ _ e)
    where
      by : (t : Bool) (v : ℕ) (i : Option Item) → pick t (Some v) None ≡ None → pick t i None ≡ None
      by true v i f = cc
      by false v i f = refl

  pub item_found : {v : ℕ} → number_in (take d text) ≡ Some v → item_at d text ≡ followed (get_or (drop d text) 0 0) v
  unfolding item_at
  item_found {v} e =
      let z : d + 0 ≡ d = omega arith in
      let g : get_or (drop d text) 0 0 ≡ get_or text d 0 = get_or-drop d text 0 0 ∙ ap (λ (k : ℕ). get_or text k 0) z in
      rw (lt-ltb d (length text) h, g) (by (every is_digit (take d text)) (number_of (take d text)) (get_or text d 0) e)
    where
      by : (t : Bool) (u b : ℕ) {v : ℕ} → pick t (Some u) None ≡ Some v → pick t (followed b u) None ≡ followed b v
      by true u b f = cc
      by false u b f = cc

-- ---- an item of d digits is below 16 ^ d

of_item : Option Item → ℕ
of_item None = 0
of_item (Some i) = value_of i

followed_le : (v : ℕ) (s n : Bool) → of_item (pick s (Some (Inner v)) (pick n (Some (Last v)) None)) ≤ v
unfolding of_item
followed_le v true n = omega arith
followed_le v false true = omega arith
followed_le v false false = omega arith

item_le : (d : ℕ) (t : List ℕ) → ltb d (length t) && every is_digit (take d t) ≡ true → number_of (take d t) < 16 ^ d
item_le d t e =
    let p = and_true (ltb d (length t)) (every is_digit (take d t)) e in
    let n : length (take d t) ≡ d = length-take-le d t (let h = ltb-true d (length t) p.0 in omega arith) in
    let h : number_of (take d t) < (0 + 1) * 16 ^ d = rw n at (number_lt 0 (take d t) p.1) in
    omega arith

item_lt : (d : ℕ) (t : List ℕ) → of_item (item_at d t) < 16 ^ d
unfolding item_at of_item
item_lt d t =
    ⊎_elim
    (λ e. let h = item_le d t e in
    let l = followed_le (number_of (take d t)) (eqb (get_or t d 0) blank) (eqb (get_or t d 0) newline) in
    rw e (omega arith))
    (λ e. rw e (let h : 16 ^ 0 ≤ 16 ^ d = pow-le-pow_right (zero-lt-suc 15) {i = 0} {j = d} (omega arith) in omega arith))
    (by_test (ltb d (length t) && every is_digit (take d t)))

pub item_below : (d : ℕ) (t : List ℕ) {item : Item} → item_at d t ≡ Some item → value_of item < 16 ^ d
unfolding of_item
item_below d t e = rw (sym (ap of_item e)) (item_lt d t)

-- ---- an item stands before the end of the text

pub found_long : (d : ℕ) (t : List ℕ) {item : Item} → item_at d t ≡ Some item → d < length t
found_long d t {item} e =
    ⊎_elim (λ h. ltb-true d (length t) h)
    (λ h. let n : Some item ≡ None = sym e ∙ item_short d t (ltb-false d (length t) h) in cc)
    (by_test (ltb d (length t)))

pub ruleset item_steps = (item_short, item_none, item_found, item_below)
