-- Private to the code, nobody has to believe it: the labels that are given first, in a table, and where the search for the others goes on.
use Rattle.std.specs.Prelude.{◌≡◌, true, List, [], ◌∷◌, ℕ, ◌+◌, ◌*◌, ◌%◌, ◌^◌, ◌≤◌, length, drop, refl, Option, None, Some, Err}
use Rattle.std.specs.Coded.{Coded, Coded-set, code_by, coded×, coded_option, coded_ℕ, ×_prop, Π_prop, Unit-prop, le_prop}
use Rattle.word.specs.Choice.{pick}
use Rattle.word.specs.Lists.{fold}
use Rattle.values.specs.Values.{within, Value}
use Rattle.values.specs.declared.Fault.TheVariants.{Missing}
use Rattle.source.specs.Grammar.{lines_of}
use Rattle.source.specs.Walk.{start}
use Rattle.source.specs.Labels.{gives}
use Rattle.source.specs.Reader.{hear}
use Rattle.source.specs.Seek.{walk_of, seek}
use Rattle.source.specs.declared.seeking.Given.{Given}
use Rattle.source.specs.declared.walking.Walk.{Walk}
use Rattle.evaluation.specs.declared.labels.Known.{Known}

abbrev pub mixed : ℕ → ℕ → ℕ
mixed h b = (h * 31 + b) % 2 ^ 32

abbrev pub hash_of : List ℕ → ℕ
hash_of = fold mixed 0

abbrev pub head_of : List (List ℕ) → List ℕ
head_of [] = []
head_of (l ∷ ls) = l

-- the line at a place
abbrev pub line_at : List ℕ → ℕ → List ℕ
line_at text place = head_of (lines_of (drop place text))

-- the first line of the table that gives a name, or what comes later
abbrev pub in_table : List ℕ → List Known → List ℕ → Option Given → Option Given
in_table text [] name later = later
in_table text (k ∷ known) name later =
    let rest = in_table text known name later in
    pick (gives name (hear (line_at text k.place))) (Some (record { place = k.place; value = k.value })) rest

-- a label of the table: its line is in the text, and its hash that of the name that the line gives
abbrev pub Sound : List ℕ → ℕ → Known → Type 0
Sound text hash k = (k.place ≤ length text) × ((name : List ℕ) → gives name (hear (line_at text k.place)) ≡ true → hash ≡ hash_of name)

-- as many hashes as labels, in the same order
abbrev pub AllSound : List ℕ → List ℕ → List Known → Type 0
AllSound text [] [] = Unit {0}
AllSound text [] (k ∷ known) = ⊥
AllSound text (h ∷ hashes) [] = ⊥
AllSound text (h ∷ hashes) (k ∷ known) = Sound text h k × AllSound text hashes known

-- the table, and the search after it, find what the whole text has
abbrev pub Seeks : List ℕ → List Known → ℕ → Walk → Type 0
Seeks text known at w =
    (name : List ℕ) → seek start 0 (lines_of text) name ≡ in_table text known name (seek (walk_of w) at (lines_of (drop at text)) name)

pub record Tabled (text hashes : List ℕ) (known : List Known) (at : ℕ) (w : Walk) : Type 0 where
  pub at_inside : at ≤ length text
  pub count : w.count ≤ at * 2
  pub sound : AllSound text hashes known
  pub seeks : Seeks text known at w

given_code : Coded Given
given_code = code_by (ℕ × ℕ) (coded× coded_ℕ coded_ℕ) (λ g. (g.place, g.value)) (λ p. record { place = p.0; value = p.1 }) (λ _. refl)

sound_prop : (text hashes : List ℕ) (known : List Known) → IsProp (AllSound text hashes known)
sound_prop text [] [] = Unit-prop
sound_prop text [] (k ∷ known) = λ x y. absurd x
sound_prop text (h ∷ hashes) [] = λ x y. absurd x
sound_prop text (h ∷ hashes) (k ∷ known) =
    ×_prop (×_prop le_prop (Π_prop (λ name. Π_prop (λ _. Coded-set coded_ℕ h (hash_of name))))) (sound_prop text hashes known)

-- there is one proof of it, as a ghost field asks
pub tabled_prop : (text hashes : List ℕ) (known : List Known) (at : ℕ) (w : Walk) → IsProp (Tabled text hashes known at w)
tabled_prop text hashes known at w x y =
    let seeks_prop : IsProp (Seeks text known at w) =
    Π_prop (λ name. Coded-set (coded_option given_code) (seek start 0 (lines_of text) name) (in_table text known name (seek (walk_of w) at (lines_of (drop at text)) name))) in
    λ i. record {
      at_inside = le_prop x.at_inside y.at_inside i;
      count = le_prop x.count y.count i;
      sound = sound_prop text hashes known x.sound y.sound i;
      seeks = seeks_prop x.seeks y.seeks i;
    }

abbrev pub seen_value : Option Given → Value
seen_value None = Err Missing
seen_value (Some g) = within g.value 0
