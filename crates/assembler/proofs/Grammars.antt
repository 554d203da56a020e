-- What the code reads is what the grammar reads.
use mathlib.Core.Path.{◌≡◌, refl, sym, ap, ◌∙◌}
use mathlib.Core.List.{List, [], ◌∷◌, map}
use Prim.Native.Nat.{ℕ}
use Rattle.source.specs.Grammar.{lines_of, Reading, ReadAll}
use Rattle.source.specs.Heard.{Heard, heard}
use Rattle.source.specs.Reader.{read_line, hear}
use Rattle.source.proofs.OneWay.{one_text, all_read}
use Rattle.assembler.specs.Answer.{assembled, heard_to}

heard_all : (ls : List (List ℕ)) → map hear ls ≡ map heard (map read_line ls)
unfolding hear
heard_all [] = refl
heard_all (l ∷ ls) = ap (λ (hs : List Heard). heard (read_line l) ∷ hs) (heard_all ls)

pub outcome : (text lent : List ℕ) (room : ℕ) (rs : List Reading) → ReadAll (lines_of text) rs → assembled text lent room ≡ heard_to (map heard rs) lent room
unfolding assembled
outcome text lent room rs r =
    let e = one_text (lines_of text) rs (map read_line (lines_of text)) r (all_read (lines_of text)) in
    ap (λ (hs : List Heard). heard_to hs lent room) (heard_all (lines_of text) ∙ ap (map heard) (sym e))
