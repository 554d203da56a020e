use mathlib.Core.Path.{◌≡◌, refl, ap, ◌∙◌}
use mathlib.Core.Bool.{Bool, true, false}
use mathlib.Core.List.{List}
use Prim.Native.Nat.{ℕ}
use native.Mathlib.Omega.{arith}
use Rattle.std.specs.Prelude.{Ok, Err}
use Rattle.refusals.specs.Broken.{bad_program_length}
use Rattle.loader.specs.Load.{Loaded, ◌otherwise◌, refused_if, loaded_with}
use Rattle.loader.specs.Answer.{load_answer}
use Rattle.loader.specs.declared.Answer.{Answer}
use Rattle.loader.specs.declared.Refusal.TheVariants.{ProgramLength, MemoryLength}
use Rattle.text.specs.Output.{Loads, too_much}
use Rattle.text.specs.Rows.{answer_row}
use Rattle.text.proofs.Outputs.{alone, first_put}
use Rattle.text.proofs.running.refused.Goals as goal

-- a memory that is too long is always refused
never-good : (t : Bool) → refused_if t ProgramLength otherwise Err MemoryLength ≡ Ok tt → ⊥
never-good true e = let z : ◌≡◌ {A = ℕ} 0 1 = cc in omega arith
never-good false e = let z : ◌≡◌ {A = ℕ} 0 1 = cc in omega arith

answered : (table program : List ℕ) {a : Answer} {s l : Loaded} → s ≡ refused_if (bad_program_length program) ProgramLength otherwise Err MemoryLength
    → l ≡ loaded_with s table program → a ≡ load_answer l → a ≡ load_answer (too_much table program)
answered table program e f g = g ∙ ap load_answer (f ∙ ap (λ (x : Loaded). loaded_with x table program) e)

pub returns-clause-is : goal.returns-clause-is
returns-clause-is c =
    let t = c.args.text.now in
    let e = rw (c.as_slice-table.ensures.value, c.as_slice-program.ensures.value) at (answered c.as_slice-table.result.now c.as_slice-program.result.now c.sizes.ensures c.load_with.ensures c.into.ensures) in
    alone (Loads (too_much t.table.items t.program.items)) (first_put c.requires c.push_answer.ensures.is ∙ ap answer_row e) refl
