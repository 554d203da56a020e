-- The table of labels, entry by entry.
use mathlib.Core.Path.{◌≡◌, refl, ap}
use mathlib.Core.Bool.{Bool, true, false}
use mathlib.Core.List.{List, [], ◌∷◌}
use Prim.Native.Nat.{ℕ, suc, ◌+◌, ◌<◌}
use native.Mathlib.Numerals.{add-one}
use native.Mathlib.Decide.{dec_lt}
use native.Mathlib.Omega.{arith}
use lib.ListN.{length, take, drop, get_or}
use lib.Seq.{drop-cons}
use Rattle.std.specs.Prelude.{Option}
use Rattle.source.specs.Labels.{gives}
use Rattle.source.specs.Reader.{hear}
use Rattle.source.specs.Seek.{Cut}
use Rattle.evaluation.specs.Known.{hash_of, head_of, line_at, in_table, Sound, AllSound}
use Rattle.source.specs.declared.seeking.Given.{Given}
use Rattle.evaluation.specs.declared.labels.Known.{Known}

-- the line at a place, as a part of the text
pub line_at_lem : (text : List ℕ) (place n : ℕ) → Cut (drop place text) n → line_at text place ≡ take n (drop place text)
line_at_lem text place n c = go (dec_lt n (length (drop place text)))
  where
    go : Dec (n < length (drop place text)) → line_at text place ≡ take n (drop place text)
    go (yes p) = ap head_of (c.inner p)
    go (no p) = let i = c.inside in ap head_of (c.last (omega arith))

-- there are as many labels as hashes
pub as_many : (text hashes : List ℕ) (known : List Known) → AllSound text hashes known → length hashes ≡ length known
as_many text [] [] s = refl
as_many text [] (k ∷ known) s = absurd s
as_many text (h ∷ hashes) [] s = absurd s
as_many text (h ∷ hashes) (k ∷ known) s = ap suc (as_many text hashes known s.1)

module _ (text hashes : List ℕ) (known : List Known) (name : List ℕ) (later : Option Given) (i : ℕ) (blank : Known) where
  abbrev here : Known
  here = get_or known i blank

  abbrev given : Bool
  given = gives name (hear (line_at text here.place))

  -- one label further in the table, where the line of this one does not give the name
  pub further : i < length hashes → length hashes ≡ length known → AllSound text (drop i hashes) (drop i known) → (get_or hashes i 0 ≡ hash_of name → given ≡ false)
      → AllSound text (drop (i + 1) hashes) (drop (i + 1) known) × (in_table text (drop i known) name later ≡ in_table text (drop (i + 1) known) name later)
  further h e s f =
      let y : drop i known ≡ here ∷ drop (suc i) known = drop-cons known i blank (omega arith) in
      let z : Sound text (get_or hashes i 0) here × AllSound text (drop (suc i) hashes) (drop (suc i) known) = rw (drop-cons hashes i 0 h, y) at s in
      (rw add-one z.1, rw (add-one, y, go z.0 f given refl))
    where
      go : Sound text (get_or hashes i 0) here → (get_or hashes i 0 ≡ hash_of name → given ≡ false) → (t : Bool) → given ≡ t → given ≡ false
      go s f true g = f (s.1 name g)
      go s f false g = g
