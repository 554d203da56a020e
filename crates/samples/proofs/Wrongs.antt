-- Loaders and checkers that break a promise, by what the promise says at two named calls.
use mathlib.Core.Path.{◌≡◌, refl, sym, ap, ◌∙◌}
use mathlib.Core.Logic.{◌≢◌, ⊎_elim}
use mathlib.Core.List.{List, []}
use Prim.Native.Nat.{ℕ}
use native.Mathlib.Omega.{arith}
use lib.Dec.{eqb}
use borrow.Author.Tests.{eqb-true, eq-eqb}
use Rattle.std.specs.Prelude.{Ok}
use Rattle.word.proofs.Choice.{by_test, never_both}
use Rattle.isa.specs.Syllable.{format_of}
use Rattle.isa.specs.Control.{way_of}
use Rattle.isa.specs.Decode.{decode}
use Rattle.tables.specs.Table.{bad_table, table_of}
use Rattle.zero.specs.Zero.{bad_bits}
use Rattle.refusals.specs.Broken.{no_end_at, bad_bits_at, bad_cluster_at, too_wide_at, two_writes_at, bad_control_at}
use Rattle.loader.specs.Load.{tested_by, loaded_with, loaded_of}
use Rattle.loader.specs.Answer.{RoomOutcome, answered, load_outcome}
use Rattle.schedule.specs.Rule.{Verdict}
use Rattle.schedule.specs.Answer.{verdict_answer, Checks}
use Rattle.schedule.proofs.Once.{one_outcome}
use Rattle.samples.specs.Wrong.{NeverSame, LoadCall, Loads, ChecksCall, Wrong, table, program, room, under}
use Rattle.samples.specs.Schedules.{two, three, SaidOf, too_soon}
use Rattle.samples.proofs.Examples.{two_on, three_on}

-- a promise that settles a number at two inputs, each its own
module _ {I O : Type 0} (P : I → O → Type 0) (part : O → ℕ) where
  pub never_same : (i j : I) (m n : ℕ) → m ≢ n → ((o : O) → P i o → part o ≡ m) → ((o : O) → P j o → part o ≡ n) → NeverSame P part
  never_same i j m n d p q f a h =
      ⊎_elim
      (λ e. (j, λ b. d (sym (eqb-true a m e) ∙ sym (h j) ∙ q (f j) b)))
      (λ e. (i, λ b. never_both (eq-eqb a m (sym (h i) ∙ p (f i) b)) e))
      (by_test (eqb a m))

-- 0 at one call, another number at the other
wrong : (P : LoadCall → RoomOutcome → Type 0) (taken refused : LoadCall) (k : ℕ) → k ≢ 0
    → ((o : RoomOutcome) → P taken o → o.result ≡ 0) → ((o : RoomOutcome) → P refused o → o.result ≡ k) → Wrong P taken refused
wrong P taken refused k some p q = record {
  refusing = λ f h b. h taken (p (f taken) b);
  passing = λ f h b. some (sym (q (f refused) b) ∙ h refused);
  same = never_same P (λ o. o.result) taken refused 0 k (λ e. some (sym e)) p q;
}

-- ---- load

loads : ((load_outcome table program room).result ≡ 0) × ((load_outcome [] program room).result ≡ 1)
unfolding loaded_with tested_by no_end_at bad_bits_at bad_cluster_at too_wide_at two_writes_at bad_control_at bad_table table_of bad_bits way_of format_of decode
loads = (refl, refl)

pub wrong_load : Wrong Loads (under table program) (under [] program)
wrong_load =
    wrong Loads (under table program) (under [] program) 1 (λ e. omega arith) (λ o e. ap (λ x. x.result) e ∙ loads.0) (λ o e. ap (λ x. x.result) e ∙ loads.1)

-- ---- check

good : (loaded_of table two room ≡ Ok tt) × (loaded_of table three room ≡ Ok tt)
unfolding loaded_with tested_by no_end_at bad_bits_at bad_cluster_at too_wide_at two_writes_at bad_control_at bad_table table_of bad_bits way_of format_of decode
good = (refl, refl)

-- the number that check gives a program that load takes, by the verdict
checks : (program : List ℕ) (v : Verdict) → loaded_of table program room ≡ Ok tt → SaidOf program v
    → (o : RoomOutcome) → Checks table program room o → o.result ≡ (verdict_answer v).number
checks program v e h o c =
    ap (λ (x : RoomOutcome). x.result) (one_outcome table program room o (answered (verdict_answer v) room) c (verdict_answer v, rw e (v, h, refl), refl))

pub wrong_check : Wrong ChecksCall (under table three) (under table two)
wrong_check =
    wrong ChecksCall (under table three) (under table two) 9 (λ e. omega arith) (checks three (Ok tt) good.1 three_on) (checks two (too_soon 0 2) good.0 two_on)
