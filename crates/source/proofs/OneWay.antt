-- A text is read in one way.
use mathlib.Core.Path.{◌≡◌, refl, ap, ap₂}
use mathlib.Core.List.{List, [], ◌∷◌, map}
use mathlib.Core.Option.{Option, none, some}
use Prim.Native.Nat.{ℕ}
use Rattle.source.specs.Grammar.{Line, Reading, read, unread, Derives, BeginsWith, Reads, ReadAll, end, line as first}
use Rattle.source.specs.Reader.{read_line}
use Rattle.source.proofs.Complete.{line_complete}
use Rattle.source.proofs.Sound.{begins_is, line_sound}

same_begin : (l : List ℕ) (g h : Option (List ℕ)) → BeginsWith l g → BeginsWith l h → g ≡ h
same_begin l none none b c = refl
same_begin l none (some w) b c = absurd (b w c)
same_begin l (some w) none b c = absurd (c w b)
same_begin l (some v) (some w) b c = let p = begins_is b in let q = begins_is c in cc

pub one_tree : (line : List ℕ) (l m : Line) → Derives line l → Derives line m → l ≡ m
one_tree line l m d e = let f = line_complete d in let g = line_complete e in cc

pub one_line : (line : List ℕ) (r s : Reading) → Reads line r → Reads line s → r ≡ s
one_line line (read l) (read m) d e = ap read (one_tree line l m d e)
one_line line (read l) (unread g) d e = absurd (e.0 l d)
one_line line (unread g) (read l) d e = absurd (d.0 l e)
one_line line (unread g) (unread h) d e = ap unread (same_begin line g h d.1 e.1)

pub one_text : (ls : List (List ℕ)) (rs ss : List Reading) → ReadAll ls rs → ReadAll ls ss → rs ≡ ss
one_text [] [] [] end end = refl
one_text [] [] (s ∷ ss) _ x = elim x [ ]
one_text [] (r ∷ rs) ss x _ = elim x [ ]
one_text (l ∷ ls) [] ss x _ = elim x [ ]
one_text (l ∷ ls) (r ∷ rs) [] _ x = elim x [ ]
one_text (l ∷ ls) (r ∷ rs) (s ∷ ss) (first p ps) (first q qs) = ap₂ (λ x xs. x ∷ xs) (one_line l r s p q) (one_text ls rs ss ps qs)

pub all_read : (ls : List (List ℕ)) → ReadAll ls (map read_line ls)
all_read [] = end
all_read (l ∷ ls) = first (line_sound l) (all_read ls)
