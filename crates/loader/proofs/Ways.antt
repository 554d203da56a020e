-- Where an instruction goes on: to the target of one of its syllables, or to the following instruction.
use mathlib.Core.Path.{◌≡◌, refl, sym, ap, ◌∙◌}
use mathlib.Core.Bool.{true, false}
use mathlib.Core.List.Memᴰ
use mathlib.Core.List.{List, [], ◌∷◌, map, Memᴰ}
use Prim.Native.Nat.{ℕ, ◌≤◌}
use native.Mathlib.Omega.{arith}
use Rattle.std.specs.Prelude.{Some}
use Rattle.word.specs.Lists.{any, count}
use Rattle.word.proofs.Choice.{is_false}
use Rattle.word.proofs.Lists.{any_true_in}
use Rattle.isa.specs.Control.{place, way_of, controls, is_control, target_of, leaves}
use Rattle.isa.specs.Program.{cluster, operation}
use Rattle.isa.specs.Touch.{nexts_by, nexts}
use Rattle.isa.specs.declared.Spot.{Spot}
use Rattle.isa.specs.declared.Way.{Way}
use Rattle.isa.specs.declared.Way.TheVariants.{Along, Stop, Goto, Branch, Call, Return}
use Rattle.isa.proofs.Decoded.{decode_way}
use Rattle.refusals.specs.Broken.{leaving}
use Rattle.loader.proofs.Counts.{count_some}

abbrev pub controls_in : List Spot → ℕ
controls_in xs = count (λ x. is_control x.syllable) xs

leaves_control : (w : Way) → leaves w ≡ true → controls w ≡ true
leaves_control Along h = h
leaves_control Stop h = refl
leaves_control (Goto t) h = refl
leaves_control (Branch v t) h = refl
leaves_control (Call t) h = refl
leaves_control Return h = refl

none_leaves : (xs : List Spot) → controls_in xs ≤ 0 → any leaving xs ≡ false
none_leaves xs few =
    is_false _ (λ e. let (x, m, l) = any_true_in leaving xs e in omega (arith, count_some (λ y. is_control y.syllable) m (leaves_control (way_of x.syllable) l)))

-- where the one control syllable does not leave, none does
pub one_stays : {x : Spot} {xs : List Spot} → Memᴰ x xs → controls_in xs ≤ 1 → is_control x.syllable ≡ true → leaving x ≡ false → any leaving xs ≡ false
one_stays (Memᴰ.head {xs = xs} e) few c l = let rest = rw (← e, c) at few in rw (← e, l, none_leaves xs (omega arith))
one_stays {x} (Memᴰ.tail {x = y} {xs = xs} m) few c l =
    let some = count_some (λ z. is_control z.syllable) m c in
    let stays : leaving y ≡ false = is_false (leaving y) (λ e. let more = rw (leaves_control (way_of y.syllable) e) at few in omega arith) in
    rw (stays, one_stays m (omega arith) c l)

-- a next place is a target, or the following place where nothing leaves for good
pub data Next (f : ℕ) (xs : List Spot) (t : ℕ) : Type 0 where
  aimed : {x : Spot} → Memᴰ x xs → target_of (way_of x.syllable) ≡ Some (place t) → Next f xs t
  follows : t ≡ f → any leaving xs ≡ false → Next f xs t

later : {f t : ℕ} {x : Spot} {xs : List Spot} → leaving x ≡ false → Next f xs t → Next f (x ∷ xs) t
later n (aimed m e) = aimed (Memᴰ.tail m) e
later n (follows e l) = follows e (rw (n, l))

pub next_is : (f : ℕ) (xs : List Spot) {t : ℕ} → controls_in xs ≤ 1 → Memᴰ t (nexts f (map operation xs)) → Next f xs t
next_is f [] few m = follows (Memᴰ.eq_of_singleton m) refl
next_is f (x ∷ xs) {t} few m =
    by (way_of s) refl (rw (decode_way (cluster x) s) at m) (next_is f xs (omega arith))
  where
    s : ℕ
    s = x.syllable

    here : {w : Way} (g : ℕ) → way_of s ≡ w → target_of w ≡ Some (place g) → t ≡ g → Next f (x ∷ xs) t
    here g e h q = aimed (Memᴰ.head refl) (ap target_of e ∙ h ∙ ap (λ n. Some (place n)) (sym q))

    by : (w : Way) → way_of s ≡ w → Memᴰ t (nexts_by w f (nexts f (map operation xs))) → (Memᴰ t (nexts f (map operation xs)) → Next f xs t) → Next f (x ∷ xs) t
    by Along e m more = later (ap leaves e) (more m)
    by Stop e m more = absurd (Memᴰ.not-nil m)
    by (Goto g) e m more = here g.0 e refl (Memᴰ.eq_of_singleton m)
    by (Call g) e m more = here g.0 e refl (Memᴰ.eq_of_singleton m)
    by Return e m more = absurd (Memᴰ.not-nil m)
    by (Branch v g) e (Memᴰ.head q) more = here g.0 e refl q
    by (Branch v g) e (Memᴰ.tail m) more =
        let rest = rw e at few in
        follows (Memᴰ.eq_of_singleton m) (rw (e, none_leaves xs (omega arith)))
