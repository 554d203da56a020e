-- One label more in the table.
use mathlib.Core.Path.{◌≡◌, refl, sym, ap, subst, ◌∙◌}
use mathlib.Core.Bool.{true, false, ◌||◌, true≢false}
use mathlib.Core.List.{List, [], ◌∷◌, ◌++◌, append-nil, map}
use mathlib.Core.Option.{Option as Maybe, none, some}
use Prim.Native.Nat.{ℕ, ◌+◌, ◌*◌, ◌≤◌}
use native.Mathlib.Omega.{arith}
use borrow.Author.Tests.{ltb-false}
use lib.Dec.{ltb}
use lib.ListN.{length, drop}
use lib.Seq.{drop-length}
use Rattle.std.specs.Prelude.{Option, None, Some, IfSome}
use Rattle.word.specs.Choice.{pick}
use Rattle.word.proofs.Choice.{or_false}
use Rattle.tokens.specs.Tokens.{tokens}
use Rattle.tokens.proofs.Same.{same_true}
use Rattle.source.specs.Grammar.{lines_of}
use Rattle.source.specs.Heard.{Heard, says, unread}
use Rattle.source.specs.Walk.{Walk, start, refused, step, inside, empty, falls}
use Rattle.source.specs.Labels.{given_by, gives, next}
use Rattle.source.specs.Reader.{read_line, hear}
use Rattle.source.specs.Seek.{name_in, walk_of, hear_from, lines_from, operates, seek}
use Rattle.source.specs.Each.{Gives}
use Rattle.source.specs.declared.reading.ReadLine.{ReadLine}
use Rattle.source.specs.declared.each_line.Lines.{Lines}
use Rattle.source.specs.declared.seeking.Given.{Given}
use Rattle.source.specs.declared.walking.Walk.{Walk as Walked}
use Rattle.source.proofs.Places.{lines_here, next_shut, few_more, few_next, seek_from}
use Rattle.evaluation.specs.Known.{hash_of, head_of, line_at, in_table, Sound, AllSound, Tabled}
use Rattle.evaluation.specs.declared.labels.Known.{Known}
use Rattle.assembler.specs.Passes.{hashed, noted}
use Rattle.assembler.proofs.Numbering.{given_is}

-- the table's last label is asked last
table_more : (text : List ℕ) (known : List Known) (k : Known) (name : List ℕ) (later : Option Given)
    → in_table text (known ++ (k ∷ [])) name later
    ≡ in_table text known name (pick (gives name (hear (line_at text k.place))) (Some (record { place = k.place; value = k.value })) later)
table_more text [] k name later = refl
table_more text (j ∷ known) k name later =
    ap (pick (gives name (hear (line_at text j.place))) (Some (record { place = j.place; value = j.value }))) (table_more text known k name later)

sound_more : (text hashes : List ℕ) (known : List Known) (h : ℕ) (k : Known) → AllSound text hashes known → Sound text h k
    → AllSound text (hashes ++ (h ∷ [])) (known ++ (k ∷ []))
sound_more text [] [] h k a s = (s, tt)
sound_more text [] (j ∷ known) h k a s = absurd a
sound_more text (g ∷ hashes) [] h k a s = absurd a
sound_more text (g ∷ hashes) (j ∷ known) h k a s = (a.0, sound_more text hashes known h k a.1 s)

-- a label stands where no instruction is open
given_shut : (w : Walk) (x : Heard) (name : List ℕ) → given_by x ≡ some name → refused w x ≡ false → w.opened ≡ 0
given_shut w (unread g) name p r = absurd (true≢false r)
given_shut w (says g does ends) name p r =
    let i = (or_false (inside w g) (empty w does ends) (or_false (inside w g || empty w does ends) (falls w does) r).0).0 in
    let o : ltb 0 w.opened ≡ false = rw p at i in
    let z = ltb-false 0 w.opened o in
    omega arith

-- nothing is given behind the last line
behind : (w : Walk) (text name : List ℕ) → None ≡ seek w (length text) (lines_of (drop (length text) text)) name
unfolding hear read_line tokens
behind w text name = rw (drop-length text)

-- a table of the labels above a place, and what the lines from there on have
pub record Upto (text hashes : List ℕ) (known : List Known) (from : Option ℕ) (w : Walked) : Type 0 where
  pub sound : AllSound text hashes known
  pub count : w.count ≤ length text * 2
  pub few : IfSome from (λ at. w.count ≤ at * 2)
  pub seeks : (name : List ℕ) → seek start 0 (lines_of text) name ≡ in_table text known name (seek_from (walk_of w) text from name)

pub upto_start : (text : List ℕ) → Upto text [] [] (Some 0) (record { count = 0; opened = 0 })
upto_start text = record { sound = tt; count = omega arith; few = omega arith; seeks = λ name. refl }

module _ {text hashes : List ℕ} {known : List Known} {from : Option ℕ} {w : Walked} (u : Upto text hashes known from w) where
  pub upto_end : from ≡ None → Tabled text hashes known (length text) w
  upto_end e =
      record {
        at_inside = omega arith;
        count = u.count;
        sound = u.sound;
        seeks = λ name. u.seeks name ∙ ap (in_table text known name) (rw e (behind (walk_of w) text name));
      }

  pub upto_here : {at : ℕ} → from ≡ Some at → at ≤ length text → Tabled text hashes known at w
  upto_here e h =
      record {
        at_inside = h;
        count = subst (λ (o : Option ℕ). IfSome o (λ n. w.count ≤ n * 2)) e u.few;
        sound = u.sound;
        seeks = λ name. u.seeks name ∙ ap (in_table text known name) (rw e);
      }

module _ {s t : Lines} {at : ℕ} {l : ReadLine} (g : Gives s at l t) where
  this_line : line_at s.text.now at ≡ l.bytes.now
  this_line = ap head_of g.lines

  given : given_by (hear l.bytes.now) ≡ name_in l.bytes.now l.line.label
  given = ap given_by (sym g.heard) ∙ given_is l.bytes.now l.line

  -- what is found from this line on: here, or below
  sought : (w : Walk) (name : List ℕ) → seek_from w s.text.now s.next name
      ≡ pick (gives name (hear l.bytes.now)) (Some (record { place = at; value = next w (hear_from s.text.now at) })) (seek_from (step w (hear l.bytes.now)) s.text.now t.next name)
  sought w name = rw (g.place, lines_here g) (ap (pick (gives name (hear l.bytes.now)) (Some (record { place = at; value = next w (map hear (l.bytes.now ∷ lines_from s.text.now t.next)) }))) (go t.next g.next))
    where
      v : Walk
      v = step w (hear l.bytes.now)

      go : (o : Option ℕ) → IfSome o (λ n. n ≡ at + length l.bytes.now + 1) → seek v (at + length l.bytes.now + 1) (lines_from s.text.now o) name ≡ seek_from v s.text.now o name
      go None e = refl
      go (Some n) e = rw e

  module _ {hashes : List ℕ} {known : List Known} {w : Walked} (u : Upto s.text.now hashes known s.next w) (r : refused (walk_of w) (hear l.bytes.now) ≡ false) where
    abbrev hashes_then : List ℕ
    hashes_then = hashes ++ hashed (name_in l.bytes.now l.line.label)

    abbrev then : List Known
    then = known ++ noted (name_in l.bytes.now l.line.label) at w.count

    sound_then : at ≤ length s.text.now → AllSound s.text.now hashes_then then
    sound_then h = go (name_in l.bytes.now l.line.label) refl
      where
        go : (n : Maybe (List ℕ)) → name_in l.bytes.now l.line.label ≡ n → AllSound s.text.now (hashes ++ hashed n) (known ++ noted n at w.count)
        go none e = rw (append-nil hashes, append-nil known) u.sound
        go (some name) e =
            sound_more s.text.now hashes known _ _ u.sound (
              h,
              λ other f.
                  let y : gives other (hear l.bytes.now) ≡ true = rw this_line at f in
                  ap hash_of (same_true name other (rw (given, e) at y)),
            )

    seeks_then : (other : List ℕ) → seek start 0 (lines_of s.text.now) other ≡ in_table s.text.now then other (seek_from (step (walk_of w) (hear l.bytes.now)) s.text.now t.next other)
    seeks_then other = u.seeks other ∙ (ap (in_table s.text.now known other) (sought (walk_of w) other) ∙ go (name_in l.bytes.now l.line.label) refl)
      where
        later : Option Given
        later = seek_from (step (walk_of w) (hear l.bytes.now)) s.text.now t.next other

        go : (n : Maybe (List ℕ)) → name_in l.bytes.now l.line.label ≡ n
            → in_table s.text.now known other (pick (gives other (hear l.bytes.now)) (Some (record { place = at; value = next (walk_of w) (hear_from s.text.now at) })) later)
            ≡ in_table s.text.now (known ++ noted n at w.count) other later
        go none e =
            let no : gives other (hear l.bytes.now) ≡ false = rw (given, e) in
            rw (no, append-nil)
        go (some name) e =
            let shut = given_shut (walk_of w) (hear l.bytes.now) name (given ∙ e) r in
            rw (next_shut (walk_of w) (hear_from s.text.now at) shut)
            (sym (table_more s.text.now known (record { place = at; value = w.count }) other later ∙ rw this_line))

    pub upto_more : {v : Walked} → walk_of v ≡ step (walk_of w) (hear l.bytes.now) → v.count ≤ w.count + 4 → (operates l.line ≡ false → v.count ≡ w.count)
        → Upto s.text.now hashes_then then t.next v
    upto_more e a b =
        let m = few_more g u.few a b in
        record {
          sound = sound_then (omega (arith, g.inside));
          count = omega (arith, m, g.inside);
          few = few_next g u.few a b;
          seeks = λ other. rw e (seeks_then other);
        }
