-- What is read of a line is what the grammar derives.
use mathlib.Core.Path.{◌≡◌, refl, sym, ap, subst, ◌∙◌}
use mathlib.Core.Bool.{Bool, true, false, ◌&&◌}
use mathlib.Core.List.{List, [], ◌∷◌, ◌++◌}
use mathlib.Core.Option.{Option, none, some}
use Prim.Native.Nat.{ℕ}
use native.Mathlib.Omega.{arith}
use borrow.Author.Tests.{eqb-true}
use lib.ListN.{drop}
use Rattle.word.specs.Choice.{pick}
use Rattle.word.proofs.Choice.{and_true, never_both}
use Rattle.tokens.specs.Tokens.{Token, Word, Mark, tokens, letters}
use Rattle.tokens.specs.Written.{Written}
use Rattle.tokens.proofs.Ways.{only, written}
use Rattle.expressions.specs.Grammar.{is_label}
use Rattle.expressions.specs.Reader.{Got, bad, got}
use Rattle.operations.specs.Grammar.{Operation}
use Rattle.operations.specs.Reader.{read_operation}
use Rattle.operations.proofs.Sound.{operation_sound}
use Rattle.source.specs.Grammar.{Reading, read, unread, spell_given, spell_one, spell_end, spell_line, FitsGiven, FitsOne, Begins, BeginsWith, Reads}
use Rattle.tokens.specs.Tokens.{same}
use Rattle.source.specs.Reader.{starts_colon, label_in, behind, End, wrong, ends, end_of, with_one, operated, body_of, read_tokens, read_line}
use Rattle.source.proofs.Complete.{labelled, line_complete}
use Rattle.tokens.proofs.Same.{same_true}

-- ---- the label with its colon, and what stands behind it

Parts : List Token → Option (List ℕ) → Type 0
Parts ts g = FitsGiven g × (ts ≡ spell_given g ++ behind g ts)

colon_sound : (ts : List Token) → starts_colon ts ≡ true → ts ≡ Mark 58 ∷ drop 1 ts
colon_sound [] e = absurd (never_both e refl)
colon_sound (Word w ∷ ts) e = absurd (never_both e refl)
colon_sound (Mark b ∷ ts) e = ap (λ c. Mark c ∷ ts) (eqb-true b 58 e)

parts : (ts : List Token) → Parts ts (label_in ts)
unfolding Parts
parts [] = (tt, refl)
parts (Mark b ∷ ts) = (tt, refl)
parts (Word w ∷ ts) = go (is_label w && starts_colon ts) refl
  where
    go : (t : Bool) → is_label w && starts_colon ts ≡ t → Parts (Word w ∷ ts) (pick t (some w) none)
    go true e = let p = and_true (is_label w) (starts_colon ts) e in (p.0, ap (λ us. Word w ∷ us) (colon_sound ts p.1))
    go false e = (tt, refl)

-- ---- the end

Ended : List Token → End → Type 0
Ended ts wrong = Unit {0}
Ended ts (ends e) = ts ≡ spell_end e

is_ended : (ts : List Token) → Ended ts (end_of ts)
unfolding Ended
is_ended [] = refl
is_ended (Mark b ∷ ts) = tt
is_ended (Word w ∷ t ∷ ts) = tt
is_ended (Word w ∷ []) = go (same w (letters ";;")) refl
  where
    go : (t : Bool) → same w (letters ";;") ≡ t → Ended (Word w ∷ []) (pick t (ends true) wrong)
    go true e = ap (λ v. Word v ∷ []) (same_true w (letters ";;") e)
    go false e = tt

end_sound : (ts : List Token) (e : Bool) → end_of ts ≡ ends e → ts ≡ spell_end e
unfolding Ended
end_sound ts e f = subst (Ended ts) f (is_ended ts)

-- ---- the line

-- what a reading says of the tokens
Spelt : List Token → Reading → Type 0
Spelt ts (read l) = FitsGiven l.given × FitsOne l.operation × (ts ≡ spell_line l)
Spelt ts (unread g) = g ≡ label_in ts

pub begins_is : {line w : List ℕ} → Begins line w → label_in (tokens line) ≡ some w
begins_is {w = w} b = rw (← only b.written) (labelled w b.rest b.label)

module _ (ts rest : List Token) (g : Option (List ℕ)) (is : g ≡ label_in ts) (f : FitsGiven g) (k : ts ≡ spell_given g ++ rest) where
  ended : (o : Operation) (us : List Token) → read_operation rest ≡ got o us → (e : End) → end_of us ≡ e → Spelt ts (with_one g o e)
  unfolding Spelt
  ended o us r wrong e = is
  ended o us r (ends b) e =
      let s = operation_sound rest us o r in
      (f, s.0, k ∙ ap (λ x. spell_given g ++ x) (s.1 ∙ ap (λ x. spell_one (some o) ++ x) (end_sound us b e)))

  one : (x : Got Operation) → read_operation rest ≡ x → Spelt ts (operated g x)
  unfolding Spelt
  one bad r = is
  one (got o us) r = ended o us r (end_of us) refl

  body : (e : End) → end_of rest ≡ e → Spelt ts (body_of g e rest)
  unfolding Spelt
  body wrong e = one (read_operation rest) refl
  body (ends b) e = (f, tt, k ∙ ap (λ x. spell_given g ++ x) (end_sound rest b e))

spelt : (ts : List Token) → Spelt ts (read_tokens ts)
unfolding Parts
spelt ts = let p = parts ts in let rest = behind (label_in ts) ts in body ts rest (label_in ts) refl p.0 p.1 (end_of rest) refl

module _ (line : List ℕ) where
  begins : (g : Option (List ℕ)) → label_in (tokens line) ≡ g → BeginsWith line g
  unfolding Parts
  begins none e = λ w b. let h = begins_is b in let z : ◌≡◌ {A = ℕ} 0 1 = cc in omega arith
  begins (some w) e =
      let s = subst (Parts (tokens line)) e (parts (tokens line)) in
      record { rest = drop 2 (tokens line); label = s.0; written = subst (λ ts. Written ts line) s.1 (written line) }

  by_reading : (r : Reading) → read_line line ≡ r → Spelt (tokens line) r → Reads line r
  unfolding Spelt
  by_reading (read l) e s = record { given = s.0; operation = s.1; written = subst (λ ts. Written ts line) s.2 (written line) }
  by_reading (unread g) e s =
      ((λ l d. let h = line_complete d in let z : ◌≡◌ {A = ℕ} 0 1 = cc in omega arith), begins g (sym s))

  pub line_sound : Reads line (read_line line)
  unfolding read_line
  line_sound = by_reading (read_line line) refl (spelt (tokens line))
