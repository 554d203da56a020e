-- A program that is not refused has passed each test.
use mathlib.Core.Path.{◌≡◌, refl}
use mathlib.Core.Bool.{Bool, true, false}
use mathlib.Core.List.{List}
use Prim.Native.Nat.{ℕ}
use Rattle.std.specs.Prelude.{Option, Some, None, Ok, Err}
use Rattle.word.specs.Bytes.{words}
use Rattle.word.specs.Lists.{NoneBelow}
use Rattle.isa.specs.Lowest.{lowest}
use Rattle.isa.specs.declared.Place.{Place}
use Rattle.isa.specs.declared.Table.{Table}
use Rattle.isa.proofs.Lowest.{lowest_is}
use Rattle.tables.specs.Table.{bad_table, table_of}
use Rattle.loader.specs.Load.{Loaded, ◌otherwise◌, refused_if, refused_at, tested_by, loaded_with}
use Rattle.loader.specs.Passed.{Passed}
use Rattle.loader.specs.declared.Refusal.{Refusal}

pub otherwise_good : (a b : Loaded) → a otherwise b ≡ Ok tt → (a ≡ Ok tt) × (b ≡ Ok tt)
otherwise_good (Ok tt) b e = (refl, e)
otherwise_good (Err r) b e = (e, cc)

pub refused_if_good : (b : Bool) (r : Refusal) → refused_if b r ≡ Ok tt → b ≡ false
refused_if_good true r e = cc
refused_if_good false r e = refl

pub refused_at_good : (r : Place → Refusal) (f : Option Place) → refused_at r f ≡ Ok tt → f ≡ None
refused_at_good r (Some i) e = cc
refused_at_good r None e = refl

-- no place breaks a test whose search found none
pub test_good : (r : Place → Refusal) (f : ℕ → Bool) (n : ℕ) → refused_at r (lowest f n) ≡ Ok tt → NoneBelow f n
test_good r f n e = rw (refused_at_good r (lowest f n) e) at (lowest_is f n)

pub passed : (table : Table) (program : List ℕ) → tested_by table program ≡ Ok tt → Passed table program
unfolding tested_by
passed table program e =
    let (no_end, more) = otherwise_good _ _ e in
    let (bad_bits, more) = otherwise_good _ _ more in
    let (bad_cluster, more) = otherwise_good _ _ more in
    let (too_wide, more) = otherwise_good _ _ more in
    let (two_writes, bad_control) = otherwise_good _ _ more in
    record {
      no_end = test_good _ _ _ no_end;
      bad_bits = test_good _ _ _ bad_bits;
      bad_cluster = test_good _ _ _ bad_cluster;
      too_wide = test_good _ _ _ too_wide;
      two_writes = test_good _ _ _ two_writes;
      bad_control = test_good _ _ _ bad_control;
    }

-- what the inputs of an entry have passed
pub record Accepted (sizes : Loaded) (table program : List ℕ) : Type 0 where
  pub limits : bad_table table ≡ false
  pub sized : sizes ≡ Ok tt
  pub tested : tested_by (table_of table) (words program) ≡ Ok tt

pub accepted : (sizes : Loaded) (table program : List ℕ) → loaded_with sizes table program ≡ Ok tt → Accepted sizes table program
unfolding loaded_with
accepted sizes table program e =
    let (limits, more) = otherwise_good _ _ e in
    let (sized, tested) = otherwise_good sizes _ more in
    record { limits = refused_if_good _ _ limits; sized = sized; tested = tested }
