-- Document 01, "The delay table": "the cluster count C; for each cluster its width, ALU, MUL, MEM and COPY counts; then five delays:
-- ALU, CMPB, MUL, LOAD, COPY."
use Rattle.std.specs.Prelude.{Bool, not, ◌||◌, List, [], ◌∷◌, ℕ, ◌+◌, ◌*◌, eqb, ltb, get_or, length}
use Rattle.word.specs.Choice.{pick}
use Rattle.word.specs.Lists.{any_below}
use Rattle.isa.specs.declared.Table.{Table}

module _ (bytes : List ℕ) where
  abbrev pub clusters_of : ℕ
  clusters_of = get_or bytes 0 0

  -- the j-th number of cluster k
  abbrev pub unit : ℕ → ℕ → ℕ
  unit j k = get_or bytes (1 + 5 * k + j) 0

  abbrev pub delay : ℕ → ℕ
  delay j = get_or bytes (1 + 5 * clusters_of + j) 0

  -- "C is 1 to 4, width 1 to 8, ALU 0 to 8, the other counts 0 to 4, each delay 1 to 8. The table's length is exactly 6 + 5C."
  abbrev pub outside : ℕ → ℕ → ℕ → Bool
  outside least most x = ltb x least || ltb most x

  abbrev pub bad_units : ℕ → Bool
  bad_units k =
      outside 1 8 (unit 0 k) || outside 0 8 (unit 1 k) || outside 0 4 (unit 2 k) || outside 0 4 (unit 3 k) || outside 0 4 (unit 4 k)

  unfoldable pub bad_table : Bool
  bad_table =
      outside 1 4 clusters_of || not (eqb (length bytes) (6 + 5 * clusters_of)) || any_below bad_units clusters_of
      || any_below (λ j. outside 1 8 (delay j)) 5

  -- a count of each of four clusters, 0 from C up
  abbrev pub column : ℕ → List ℕ
  column j = of 0 ∷ of 1 ∷ of 2 ∷ of 3 ∷ []
    where
      of : ℕ → ℕ
      of k = pick (ltb k clusters_of) (unit j k) 0

  unfoldable pub table_of : Table
  table_of =
      record {
        clusters = clusters_of;
        width = column 0;
        alu = column 1;
        mul = column 2;
        mem = column 3;
        copy = column 4;
        delays = record { alu = delay 0; cmpb = delay 1; mul = delay 2; load = delay 3; copy = delay 4 };
      }
