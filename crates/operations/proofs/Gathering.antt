-- What a loop over a row's items gathers: the whole reading is the rest's, added to what was gathered.
use mathlib.Core.Path.{◌≡◌, refl, sym, subst, ap, ap₂, ◌∙◌}
use mathlib.Core.Bool.{true}
use mathlib.Core.List.{List, [], ◌∷◌}
use Prim.Native.Nat.{ℕ, ◌+◌, ◌^◌, ◌≤◌, ◌<◌}
use native.Mathlib.Omega.{arith}
use borrow.Author.Tests.{ne_eqb}
use Rattle.std.specs.Prelude.{Option, Some, None}
use Rattle.std.specs.Option.{option_or}
use lib.ListN.{length, get_or, drop}
use Rattle.tokens.specs.Tokens.{Token, tokens}
use Rattle.tokens.proofs.Places.{byte_at}
use Rattle.expressions.specs.Reader.{Got, bad, got, and_then, map_got}
use Rattle.operations.specs.Table.{Item, item_of}
use Rattle.operations.specs.Grammar.{Operand, Front}
use Rattle.operations.specs.Meaning.{Asked, asked, or_else, asked_by, asked_of, placed, bits, Said}
use Rattle.operations.specs.Reader.{read_item, read_items}
use Rattle.operations.specs.Parsed.{Asks, breadth, asked_at, said_by, told, Begins}
use Rattle.operations.specs.Code.{items_in, front_of, Effect, effect, step_by, is_asked, firm, Within, StepsAs, most, most_of, joined_by, sums, said_from}
use Rattle.operations.specs.declared.Operation.{Operation}
use Rattle.operations.specs.declared.Step.{Step}
use Rattle.operations.proofs.Breadths.{breadth_some}

-- ---- the letters of a row

module _ (row : List ℕ) (i : ℕ) where
  pub items_more : i < length row → (get_or row i 0 ≡ 32 → ⊥) → items_in (drop i row) ≡ item_of (get_or row i 0) ∷ items_in (drop (i + 1) row)
  items_more h e = rw (byte_at row i h, ne_eqb (get_or row i 0) 32 e)

-- ---- one item more

else_assoc : (a b c : Asked) → or_else a (or_else b c) ≡ or_else (or_else a b) c
else_assoc Asked.none b c = refl
else_assoc (asked f e) b c = refl

else_none : (a : Asked) → or_else a Asked.none ≡ a
else_none Asked.none = refl
else_none (asked f e) = refl

abbrev plus : Said → Effect → Said
plus s e = record { cluster = s.cluster; bits = s.bits + e.adds; asks = or_else s.asks e.asks }

sums_one : (s : Said) (i : Item) (is : List Item) (o : Operand) (os : List Operand) → sums s (i ∷ is) (o ∷ os) ≡ sums (plus s (effect i o)) is os
sums_one s i is o os =
    let n : s.bits + (placed i o + bits is os) ≡ s.bits + placed i o + bits is os = omega arith in
    ap₂ (λ (k : ℕ) (a : Asked). record { cluster = s.cluster; bits = k; asks = a }) n (else_assoc s.asks (asked_by i o) (asked_of is os))

sums_all : (s : Said) (i : Item) (is : List Item) (o : Operand) (g : Got (List Operand)) → map_got (sums s (i ∷ is)) (map_got (λ os. o ∷ os) g) ≡ map_got (sums (plus s (effect i o)) is) g
sums_all s i is o bad = refl
sums_all s i is o (got os rest) = ap (λ x. got x rest) (sums_one s i is o os)

-- what is said from here on, after what was gathered
abbrev pub said_on : Said → Front → List Item → List Token → Got Said
said_on s front is ts = map_got (sums s is) (read_items front is ts)

module _ (s : Said) (front : Front) (i : Item) (is : List Item) (ts : List Token) where
  on_bad : bad ≡ map_got (effect i) (read_item front i ts) → said_on s front (i ∷ is) ts ≡ bad
  on_bad = go (read_item front i ts)
    where
      go : (g : Got Operand) → bad ≡ map_got (effect i) g → map_got (sums s (i ∷ is)) (and_then g (λ o rest. map_got (λ os. o ∷ os) (read_items front is rest))) ≡ bad
      go bad e = refl
      go (got o rest) e = cc

  on_got : (a : Effect) (mid : List Token) → got a mid ≡ map_got (effect i) (read_item front i ts) → said_on s front (i ∷ is) ts ≡ said_on (plus s a) front is mid
  on_got a mid = go (read_item front i ts)
    where
      go : (g : Got Operand) → got a mid ≡ map_got (effect i) g
          → map_got (sums s (i ∷ is)) (and_then g (λ o rest. map_got (λ os. o ∷ os) (read_items front is rest))) ≡ said_on (plus s a) front is mid
      go bad e = cc
      go (got o rest) e =
          let x : effect i o ≡ a = cc in
          let y : rest ≡ mid = cc in
          sums_all s i is o (read_items front is rest) ∙ ap₂ (λ (b : Effect) (u : List Token). said_on (plus s b) front is u) x y

on_end : (s : Said) (front : Front) (ts : List Token) → said_on s front [] ts ≡ got s ts
on_end s front ts =
    let n : s.bits + 0 ≡ s.bits = omega arith in
    ap₂ (λ (k : ℕ) (a : Asked). got (record { cluster = s.cluster; bits = k; asks = a }) ts) n (else_none s.asks)

-- ---- as the code gathers it

else_kept : (a b : Asked) → is_asked a ≡ true → or_else a b ≡ a
else_kept Asked.none b e = cc
else_kept (asked f e) b h = refl

module _ (line : List ℕ) where
  asks_joined : (a b : Asks) → firm line a ≡ true → or_else (asked_at line a) (asked_at line b) ≡ asked_at line (option_or a b)
  asks_joined None b f = refl
  asks_joined (Some a) b f = else_kept (asked_at line (Some a)) (asked_at line b) f

  pub joined_said : (o : Operation) (s : Step) → firm line o.asks ≡ true → plus (said_by line o) (record { adds = s.adds; asks = asked_at line s.asks }) ≡ said_by line (joined_by o s)
  joined_said o s f = ap (λ a. record { cluster = o.cluster; bits = o.bits + s.adds; asks = a }) (asks_joined o.asks s.asks f)

  joined_firm : (a b : Asks) → firm line a ≡ true → firm line b ≡ true → firm line (option_or a b) ≡ true
  joined_firm None b f g = g
  joined_firm (Some a) b f g = f

  joined_begins : (a b : Asks) → Begins line a → Begins line b → Begins line (option_or a b)
  joined_begins None b f g = g
  joined_begins (Some a) b f g = f

joined_room : (bits adds m rest : ℕ) (a b : Asks) → bits + breadth a + (m + rest) ≤ 2 ^ 30 → adds + breadth b ≤ m + 1 → bits + adds + breadth (option_or a b) + rest ≤ 2 ^ 30
joined_room bits adds m rest None b h g = omega arith
joined_room bits adds m rest (Some a) b h g = let k = breadth_some b in omega arith

pub record Gathers (line : List ℕ) (at cluster : ℕ) (from : Option ℕ) (row : List ℕ) (base p i : ℕ) (o : Operation) : Type 0 where
  pub whole : map_got (said_from cluster base (items_in row)) (read_items (front_of cluster from) (items_in row) (tokens (drop at line)))
      ≡ said_on (said_by line o) (front_of cluster from) (items_in (drop i row)) (tokens (drop p line))
  pub forth : at ≤ p
  pub within : p ≤ length line
  pub inside : Begins line o.asks
  pub own : o.cluster ≡ cluster
  pub firmly : firm line o.asks ≡ true
  pub breadth : o.bits + breadth o.asks + most_of (items_in (drop i row)) ≤ 2 ^ 30

module _ {line : List ℕ} {at cluster : ℕ} {from : Option ℕ} {row : List ℕ} {base p i : ℕ} {o : Operation} (g : Gathers line at cluster from row base p i o) where
  module _ (h : i < length row) (e : get_or row i 0 ≡ 32 → ⊥) where
    here : said_on (said_by line o) (front_of cluster from) (items_in (drop i row)) (tokens (drop p line))
        ≡ said_on (said_by line o) (front_of cluster from) (item_of (get_or row i 0) ∷ items_in (drop (i + 1) row)) (tokens (drop p line))
    here = ap (λ is. said_on (said_by line o) (front_of cluster from) is (tokens (drop p line))) (items_more row i h e)

    rooms_here : o.bits + breadth o.asks + (most (item_of (get_or row i 0)) + most_of (items_in (drop (i + 1) row))) ≤ 2 ^ 30
    rooms_here = rw (items_more row i h e) at g.breadth

    pub refused : {found : Option Step} → found ≡ None → StepsAs line p (front_of cluster from) (item_of (get_or row i 0)) found
        → told line None ≡ map_got (said_from cluster base (items_in row)) (read_items (front_of cluster from) (items_in row) (tokens (drop at line)))
    refused f s =
        sym (g.whole ∙ (here ∙ on_bad (said_by line o) (front_of cluster from) (item_of (get_or row i 0)) (items_in (drop (i + 1) row)) (tokens (drop p line)) (ap (step_by line) (sym f) ∙ s.0)))

    module _ {found : Option Step} {s : Step} (f : found ≡ Some s) (t : StepsAs line p (front_of cluster from) (item_of (get_or row i 0)) found) where
      bounds : Within line p (most (item_of (get_or row i 0))) (Some s)
      bounds = subst (λ x. Within line p (most (item_of (get_or row i 0))) x) f t.1

      pub next : {x : Operation} → x ≡ joined_by o s → Gathers line at cluster from row base s.to (i + 1) x
      next joins =
          let b = bounds in
          let a = b.0 in
          let c = g.forth in
          subst (λ x. Gathers line at cluster from row base s.to (i + 1) x) (sym joins)
          (record {
            whole = g.whole
                ∙ (here
                ∙ (on_got (said_by line o) (front_of cluster from) (item_of (get_or row i 0)) (items_in (drop (i + 1) row)) (tokens (drop p line)) (record { adds = s.adds; asks = asked_at line s.asks })
                (tokens (drop s.to line)) (ap (step_by line) (sym f) ∙ t.0)
                ∙ ap (λ x. said_on x (front_of cluster from) (items_in (drop (i + 1) row)) (tokens (drop s.to line))) (joined_said line o s g.firmly)));
            forth = omega arith;
            within = b.1;
            inside = joined_begins line o.asks s.asks g.inside b.2;
            own = g.own;
            firmly = joined_firm line o.asks s.asks g.firmly b.4;
            breadth = joined_room o.bits s.adds (most (item_of (get_or row i 0))) (most_of (items_in (drop (i + 1) row))) o.asks s.asks rooms_here b.3;
          })
