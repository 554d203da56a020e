-- A line that the grammar derives is read as its tree.
use mathlib.Core.Path.{◌≡◌, refl}
use mathlib.Core.Bool.{Bool, true, false}
use mathlib.Core.List.{List, ◌∷◌, ◌++◌}
use mathlib.Core.Option.{Option, none, some}
use Prim.Native.Nat.{ℕ}
use Rattle.std.specs.Prelude as code
use Rattle.tokens.specs.Tokens.{Token, Word, Mark}
use Rattle.tokens.proofs.Ways.{only}
use Rattle.expressions.specs.Grammar.{Ends}
use Rattle.operations.specs.Grammar.{Operation, spell_from, spell_operation}
use Rattle.operations.proofs.Complete.{operation_complete}
use Rattle.source.specs.Grammar.{Line, read, spell_given, spell_one, spell_end, spell_line, FitsGiven, FitsOne, Derives}
use Rattle.source.specs.Reader.{starts_colon, label_in, behind, wrong, ends, end_of, body_of, read_tokens, read_line}

-- ---- the label

-- an operation's first word is its cluster, and no colon stands behind that
no_colon : (from : code.Option ℕ) (w : List ℕ) (ts us : List Token) → starts_colon ((spell_from from ++ Word w ∷ ts) ++ us) ≡ false
no_colon code.None w ts us = refl
no_colon (code.Some c) w ts us = refl

unlabelled : (o : Option Operation) (e : Bool) → label_in (spell_one o ++ spell_end e) ≡ none
unlabelled none false = refl
unlabelled none true = refl
unlabelled (some o) e = rw (no_colon o.front.from _ _ (spell_end e))

pub labelled : (w : List ℕ) (ts : List Token) → FitsGiven (some w) → label_in (Word w ∷ Mark 58 ∷ ts) ≡ some w
labelled w ts f = rw f

label_in_lem : (given : Option (List ℕ)) (o : Option Operation) (e : Bool) → FitsGiven given → label_in (spell_given given ++ (spell_one o ++ spell_end e)) ≡ given
label_in_lem none o e f = unlabelled o e
label_in_lem (some w) o e f = labelled w (spell_one o ++ spell_end e) f

behind_it : (given : Option (List ℕ)) (ts : List Token) → behind given (spell_given given ++ ts) ≡ ts
behind_it none ts = refl
behind_it (some w) ts = refl

-- ---- what stands behind it

end_of_lem : (e : Bool) → end_of (spell_end e) ≡ ends e
end_of_lem false = refl
end_of_lem true = refl

-- an operation has two tokens, so it is no end
no_end_lem : (from : code.Option ℕ) (v w : List ℕ) (ts us : List Token) → end_of (Word v ∷ ((spell_from from ++ Word w ∷ ts) ++ us)) ≡ wrong
no_end_lem code.None v w ts us = refl
no_end_lem (code.Some c) v w ts us = refl

may_end : (e : Bool) → Ends (spell_end e)
may_end false = record { no_sign = refl; no_star = refl }
may_end true = record { no_sign = refl; no_star = refl }

body : (given : Option (List ℕ)) (o : Option Operation) (e : Bool) → FitsOne o → let ts = spell_one o ++ spell_end e in
    body_of given (end_of ts) ts ≡ read (record { given = given; operation = o; ends = e })
body given none e f = rw (end_of_lem e)
body given (some o) e f =
    let c = operation_complete (spell_operation o ++ spell_end e) (spell_end e) o (record { fits = f; spelt = refl; ends = may_end e }) in
    rw (no_end_lem o.front.from _ _ _ (spell_end e), c, end_of_lem e)

spelt_is_read : (l : Line) → FitsGiven l.given → FitsOne l.operation → read_tokens (spell_line l) ≡ read l
spelt_is_read l f g =
    rw (label_in_lem l.given l.operation l.ends f, behind_it l.given (spell_one l.operation ++ spell_end l.ends))
    (body l.given l.operation l.ends g)

pub line_complete : {line : List ℕ} {l : Line} → Derives line l → read_line line ≡ read l
unfolding read_line
line_complete {l = l} d = rw (← only d.written) (spelt_is_read l d.given d.operation)
