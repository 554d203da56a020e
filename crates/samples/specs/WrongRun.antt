-- Runs that break the promise of run.
use Rattle.std.specs.Prelude.{◌≡◌, List, [], ◌∷◌, ℕ, eqb, replicate}
use Rattle.word.specs.Choice.{pick}
use Rattle.word.specs.Bytes.{word_at}
use Rattle.loader.specs.Answer.{answer, room_with}
use Rattle.machine.specs.Image.{place_in, link_in}
use Rattle.call.specs.Run.{Call, Outcome, run_outcome}
use Rattle.demands.specs.Calls.{with_limit, with_landing, Refuses}
use Rattle.samples.specs.Wrong.{NeverSame, table, program, room}

-- a state of zeros
abbrev pub zeros : List ℕ
zeros = replicate 2888 0

-- n instructions of a program from there, with these landing bytes and no memory
abbrev pub calling : List ℕ → List ℕ → ℕ → Call
calling program landing n =
    record { table = table; program = program; state = zeros; memory = []; landing = landing; n = n; room = room }

-- document 01's example
abbrev pub example : ℕ → Call
example n = calling program [] n

-- add 3 = 0, 5; add 4 = 0, 6; stop
abbrev pub adding : Call
adding = calling (0xC1 ∷ 0x0C ∷ 0x08 ∷ 0x05 ∷ 0xC1 ∷ 0x10 ∷ 0x08 ∷ 0x06 ∷ 0xC0 ∷ 0x04 ∷ 0x00 ∷ 0x00 ∷ []) [] 1

-- cmpeq to branch register 0 of registers 0 and 0, with CMPB 2; stop
abbrev pub comparing : List ℕ → Call
comparing landing = calling (0xE8 ∷ 0x00 ∷ 0x00 ∷ 0x00 ∷ 0xC0 ∷ 0x04 ∷ 0x00 ∷ 0x00 ∷ []) landing 1

-- call 2; stop; return; stop
abbrev pub visiting : Call
visiting = calling (0xC0 ∷ 0x08 ∷ 0x00 ∷ 0x02 ∷ 0xC0 ∷ 0x04 ∷ 0x00 ∷ 0x00 ∷ 0xC0 ∷ 0x0C ∷ 0x00 ∷ 0x00 ∷ 0xC0 ∷ 0x04 ∷ 0x00 ∷ 0x00 ∷ []) [] 2

-- all of the effect in the first instruction, idle after, with the right answer at each
abbrev pub finishes_first : Call → Outcome
finishes_first c =
    let o = run_outcome c in
    let last = run_outcome (with_limit 4294967295 c) in
    pick (eqb c.n 0) o (record { result = o.result; state = last.state; memory = last.memory; room = o.room })

-- as many instructions executed as were asked for
abbrev pub invents_count : Call → Outcome
invents_count c =
    let o = run_outcome c in
    record {
      result = o.result;
      state = o.state;
      memory = o.memory;
      room = room_with (answer o.result c.n (word_at 8 o.room)) c.room;
    }

abbrev pub ignores_landing : Call → Outcome
ignores_landing c = run_outcome (with_landing [] c)

abbrev pub Runs : Call → Outcome → Type 0
Runs c o = o ≡ run_outcome c

pub record WrongRun : Type 0 where
  -- whatever else they do: runs that refuse everything, that leave the state as given, that always give one number, that leave one fixed state
  pub refusing : (f : Call → Outcome) → ((c : Call) → Refuses (f c)) → Runs (example 16) (f (example 16)) → ⊥
  pub nothing : (f : Call → Outcome) → ((c : Call) → (f c).state ≡ c.state) → Runs (example 16) (f (example 16)) → ⊥
  pub same : NeverSame Runs (λ o. o.result)
  pub fixed : NeverSame Runs (λ o. o.state)
  pub at_once : Runs adding (finishes_first adding) → ⊥
  pub invented : Runs (example 16) (invents_count (example 16)) → ⊥
  -- it leaves the link as given, or it goes on after a return at what follows it
  pub unlinked : (f : Call → Outcome) → ((c : Call) → link_in (f c).state ≡ link_in c.state) → Runs visiting (f visiting) → ⊥
  pub unreturned : (o : Outcome) → place_in o.state ≡ 3 → Runs visiting o → ⊥
  pub unlanded : Runs (comparing (0 ∷ [])) (ignores_landing (comparing (0 ∷ []))) → ⊥
