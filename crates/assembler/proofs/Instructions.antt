-- What is written line by line, the last syllable kept back, is the program instruction by instruction.
use mathlib.Core.Path.{◌≡◌, refl, sym, ap, ap₂, ◌∙◌}
use mathlib.Core.Bool.{Bool, true, false, ◌||◌}
use mathlib.Core.List.{List, [], ◌∷◌, ◌++◌, append_assoc, append-nil}
use mathlib.Core.Option.{Option, none, some}
use Prim.Native.Nat.{ℕ, suc, ◌+◌, ◌-◌}
use native.Mathlib.Omega.{arith}
use borrow.Author.Tests.{eq-eqb, ne_eqb}
use lib.Dec.{eqb}
use lib.ListN.{length, length-append}
use Rattle.word.proofs.Choice.{never_both, or_false}
use Rattle.values.specs.Values.{Value}
use Rattle.operations.specs.Meaning.{Said, syllable_of}
use Rattle.source.specs.Heard.{Heard, says, unread}
use Rattle.source.specs.Walk.{Walk, refused, step, inside, empty, falls}
use Rattle.assembler.specs.Program.{at_end, instructions, ends, nops, bits_of, if_opens, syllables, joined}
use Rattle.assembler.specs.Passes.{kept, closing, adds, lastly, writes}

module _ (env : List ℕ → Value) where
  -- a syllable without bit 31
  abbrev plain : ℕ → Said → ℕ
  plain opened s = bits_of (syllable_of env s) + if_opens opened s

  -- how many clusters operations have opened
  abbrev opened_by : ℕ → List Said → ℕ
  opened_by k [] = k
  opened_by k (s ∷ ss) = opened_by (suc s.cluster) ss

  -- the last of the operations' syllables, without bit 31
  abbrev last_of : ℕ → ℕ → List Said → ℕ
  last_of k d [] = d
  last_of k d (s ∷ ss) = last_of (suc s.cluster) (plain k s) ss

  -- the syllables before it
  abbrev before_last : ℕ → List Said → List ℕ
  before_last k [] = []
  before_last k (s ∷ []) = nops (s.cluster - k)
  before_last k (s ∷ t ∷ ss) = nops (s.cluster - k) ++ (plain k s ∷ before_last (suc s.cluster) (t ∷ ss))

  abbrev kept_of : ℕ → List Said → List ℕ
  kept_of last [] = []
  kept_of last (s ∷ ss) = last ∷ []

  whole : (k d : ℕ) (s : Said) (ss : List Said) → syllables env k (s ∷ ss) ≡ before_last k (s ∷ ss) ++ ((last_of k d (s ∷ ss) + ends) ∷ [])
  whole k d s [] = refl
  whole k d s (t ∷ ss) =
      let z : plain k s + 0 ≡ plain k s = omega arith in
      ap₂ (λ (x : ℕ) (l : List ℕ). nops (s.cluster - k) ++ (x ∷ l)) z (whole (suc s.cluster) (plain k s) t ss)
      ∙ sym (append_assoc (nops (s.cluster - k)) (plain k s ∷ before_last (suc s.cluster) (t ∷ ss)) ((last_of k d (s ∷ t ∷ ss) + ends) ∷ []))

  before_more : (k d : ℕ) (begun : List Said) (s : Said)
      → before_last k (begun ++ (s ∷ [])) ≡ before_last k begun ++ (kept_of (last_of k d begun) begun ++ nops (s.cluster - opened_by k begun))
  before_more k d [] s = refl
  before_more k d (b ∷ []) s = refl
  before_more k d (b ∷ t ∷ ss) s =
      ap (λ (l : List ℕ). nops (b.cluster - k) ++ (plain k b ∷ l)) (before_more (suc b.cluster) (plain k b) (t ∷ ss) s)
      ∙ sym (append_assoc (nops (b.cluster - k)) (plain k b ∷ before_last (suc b.cluster) (t ∷ ss)) (kept_of (last_of k d (b ∷ t ∷ ss)) (b ∷ t ∷ ss) ++ nops (s.cluster - opened_by k (b ∷ t ∷ ss))))

  last_more : (k d : ℕ) (begun : List Said) (s : Said) → last_of k d (begun ++ (s ∷ [])) ≡ plain (opened_by k begun) s
  last_more k d [] s = refl
  last_more k d (b ∷ ss) s = last_more (suc b.cluster) (plain k b) ss s

  opened_more : (k : ℕ) (begun : List Said) (s : Said) → opened_by k (begun ++ (s ∷ [])) ≡ suc s.cluster
  opened_more k [] s = refl
  opened_more k (b ∷ ss) s = opened_more (suc b.cluster) ss s

  opened_some : (k : ℕ) (s : Said) (ss : List Said) → eqb (opened_by k (s ∷ ss)) 0 ≡ false
  opened_some k s [] = ne_eqb (suc s.cluster) 0 (omega arith)
  opened_some k s (t ∷ ss) = opened_some (suc s.cluster) t ss

  -- `begun` are the operations of the open instruction, and `last` is the syllable that is kept
  abbrev Begun : Walk → ℕ → List Said → Type 0
  Begun w last begun = (w.opened ≡ opened_by 0 begun) × (last ≡ last_of 0 last begun)

  kept_is : (w : Walk) (last : ℕ) (begun : List Said) → w.opened ≡ opened_by 0 begun → kept w last ≡ kept_of last begun
  kept_is w last [] e = rw e
  kept_is w last (s ∷ ss) e = rw (e, opened_some 0 s ss)

  at_end_lem : (w : Walk) (last : ℕ) (begun : List Said) → Begun w last begun → before_last 0 begun ++ closing w last ≡ joined env (at_end begun)
  at_end_lem w last [] b = rw b.0
  at_end_lem w last (s ∷ ss) b =
      let c : closing w last ≡ (last + ends) ∷ [] = rw (b.0, opened_some 0 s ss) in
      ap (λ (l : List ℕ). before_last 0 (s ∷ ss) ++ l) c
      ∙ (ap (λ (x : ℕ). before_last 0 (s ∷ ss) ++ ((x + ends) ∷ [])) b.1 ∙ (sym (whole 0 last s ss) ∙ sym (append-nil (syllables env 0 (s ∷ ss)))))

  -- the syllables of an instruction, and then those of the others
  ended_with : (last : ℕ) (begun : List Said) (rest : List ℕ) → (begun ≡ [] → ⊥) → last ≡ last_of 0 last begun
      → before_last 0 begun ++ (((last + ends) ∷ []) ++ rest) ≡ syllables env 0 begun ++ rest
  ended_with last [] rest n e = absurd (n refl)
  ended_with last (s ∷ ss) rest n e =
      sym (append_assoc (before_last 0 (s ∷ ss)) ((last + ends) ∷ []) rest)
      ∙ ap (λ (l : List ℕ). l ++ rest) (ap (λ (x : ℕ). before_last 0 (s ∷ ss) ++ ((x + ends) ∷ [])) e ∙ sym (whole 0 last s ss))

  abbrev From : List Heard → Type 0
  From hs = (w : Walk) (last : ℕ) (begun : List Said) → Begun w last begun → before_last 0 begun ++ writes env w last hs ≡ joined env (instructions w begun hs)

  module _ (hs : List Heard) (again : From hs) (w : Walk) (last : ℕ) (begun : List Said) (b : Begun w last begun) where
    -- an operation is written but for its own syllable
    more : (s : Said) (rest : List ℕ) → before_last 0 begun ++ ((kept w last ++ nops (s.cluster - w.opened)) ++ rest) ≡ before_last 0 (begun ++ (s ∷ [])) ++ rest
    more s rest =
        sym (append_assoc (before_last 0 begun) (kept w last ++ nops (s.cluster - w.opened)) rest)
        ∙ ap (λ (l : List ℕ). l ++ rest) (
        ap₂ (λ (x : List ℕ) (k : ℕ). before_last 0 begun ++ (x ++ nops (s.cluster - k))) (kept_is w last begun b.0 ∙ ap (λ (x : ℕ). kept_of x begun) b.1) b.0
        ∙ sym (before_more 0 last begun s))

    begun_more : (count : ℕ) (s : Said) → Begun (record { count = count; opened = suc s.cluster }) (plain w.opened s) (begun ++ (s ∷ []))
    begun_more count s = (sym (opened_more 0 begun s), ap (λ (k : ℕ). plain k s) b.0 ∙ sym (last_more 0 (plain w.opened s) begun s))

    some_begun : (s : Said) → begun ++ (s ∷ []) ≡ [] → ⊥
    some_begun s e =
        let n : length begun + 1 ≡ 0 = sym (length-append begun (s ∷ [])) ∙ ap length e in
        absurd (omega arith)

    -- where `;;` ends what was begun on lines above
    not_empty : eqb w.opened 0 ≡ false → begun ≡ [] → ⊥
    not_empty f e = never_both (eq-eqb w.opened 0 (b.0 ∙ ap (opened_by 0) e)) f

    heed : (given : Option (List ℕ)) (does : Option Said) (e : Bool) → refused w (says given does e) ≡ false
        → before_last 0 begun ++ (adds env w last (says given does e) ++ writes env (step w (says given does e)) (lastly env w last (says given does e)) hs)
        ≡ joined env (instructions w begun (says given does e ∷ hs))
    heed given none false p = rw p (again w last begun b)
    heed given none true p =
        let f = (or_false (inside w given) (empty w none true) (or_false (inside w given || empty w none true) (falls w none) p).0).1 in
        let closed : Walk = record { count = w.count; opened = 0 } in
        rw p (ended_with last begun (writes env closed last hs) (not_empty f) b.1 ∙ ap (λ (l : List ℕ). syllables env 0 begun ++ l) (again closed last [] (refl, refl)))
    heed given (some s) false p =
        let next : Walk = record { count = w.count + (s.cluster - w.opened + 1); opened = suc s.cluster } in
        let l = plain w.opened s in
        rw p (
        ap (λ (x : List ℕ). before_last 0 begun ++ (x ++ writes env next l hs)) (append-nil (kept w last ++ nops (s.cluster - w.opened)))
        ∙ (more s (writes env next l hs) ∙ again next l (begun ++ (s ∷ [])) (begun_more next.count s)))
    heed given (some s) true p =
        let next : Walk = record { count = w.count + (s.cluster - w.opened + 1); opened = 0 } in
        let l = plain w.opened s in
        let rest = writes env next l hs in
        rw p (
        ap (λ (x : List ℕ). before_last 0 begun ++ x) (append_assoc (kept w last ++ nops (s.cluster - w.opened)) ((l + ends) ∷ []) rest)
        ∙ (more s (((l + ends) ∷ []) ++ rest)
        ∙ (ended_with l (begun ++ (s ∷ [])) rest (some_begun s) (begun_more 0 s).1 ∙ ap (λ (x : List ℕ). syllables env 0 (begun ++ (s ∷ [])) ++ x) (again next l [] (refl, refl)))))

    turn : (h : Heard) (t : Bool) → refused w h ≡ t
        → before_last 0 begun ++ (adds env w last h ++ writes env (step w h) (lastly env w last h) hs) ≡ joined env (instructions w begun (h ∷ hs))
    turn (unread given) t p = again w last begun b
    turn (says given does e) true p = rw p (again w last begun b)
    turn (says given does e) false p = heed given does e p

  pub written : (hs : List Heard) → From hs
  written [] w last begun b = at_end_lem w last begun b
  written (h ∷ hs) w last begun b = turn hs (written hs) w last begun b h (refused w h) refl
