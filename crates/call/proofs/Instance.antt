-- The machine as an instance of the abstract one: what loading gives it.
use mathlib.Core.Path.{◌≡◌}
use mathlib.Core.Logic.{◌≢◌, ◌⊎◌, ⊎_elim}
use mathlib.Core.Bool.{true}
use mathlib.Core.List.Memᴰ
use mathlib.Core.List.Pairwise
use mathlib.Core.List.{List, [], ◌∷◌, map-map, Memᴰ}
use Prim.Native.Nat.{ℕ, ◌+◌, ◌-◌, ◌<◌}
use native.Mathlib.Omega.{arith}
use lib.ListN.{length}
use Rattle.word.proofs.Lists.{index_of}
use Rattle.vliw.specs.Machine.{Dest}
use Rattle.vliw.specs.Demand3.{Goes, next_to, anywhere, WellFormed}
use Rattle.isa.specs.Decode.{decode}
use Rattle.isa.specs.Program.{nowhere, spot_at, is_start, instruction_at, operation, operations_at, following}
use Rattle.isa.specs.Touch.{reads_of, reads, nexts, results}
use Rattle.isa.specs.declared.Op.{Op}
use Rattle.isa.specs.declared.Table.{Table}
use Rattle.isa.specs.declared.Way.TheVariants.{Return}
use Rattle.isa.proofs.Decoded.{decoded}
use Rattle.isa.proofs.Every.{every_in}
use Rattle.isa.proofs.Instructions.{start_inside, following_within, instruction_length, instruction_at_lem}
use Rattle.isa.proofs.Results.{dests_have}
use Rattle.tables.specs.Bounds.{Bounds}
use Rattle.tables.proofs.Bounds.{delay_bounds}
use Rattle.loader.specs.Passed.{Passed}
use Rattle.loader.proofs.Taken.{in_cluster, onward, distinct}
use Rattle.loader.proofs.Subroutines.{return_writes}
use Rattle.machine.specs.Link.{change}
use Rattle.machine.specs.Instruction.{instruction_of}
use Rattle.machine.proofs.Acts.{goes_on_lem, stores_commute, not_in_flight, reads_decide}

-- a return reads every register
return_reads : (os : List Op) {o : Op} → Memᴰ o os → o.way ≡ Return → (r : ℕ) → r < 288 → Memᴰ r (reads os)
return_reads [] m w r h = elim m [ ]
return_reads (o ∷ os) (Memᴰ.head e) w r h =
    Memᴰ.append_left {s = reads_of o} (reads os) (rw (← e, w) (Memᴰ.tail (Memᴰ.tail (Memᴰ.tail (Memᴰ.tail (every_in r h))))))
return_reads (o ∷ os) (Memᴰ.tail m) w r h = Memᴰ.append_right (reads_of o) (return_reads os m w r h)

module _ {table : Table} {p : List ℕ} (ok : Passed table p) (bounds : Bounds table) where
  -- its operations are decoded in one of four clusters
  pub each_decoded : (P : Op → Type 0) → ((c s : ℕ) → c < 4 → P (decode c s)) → (i : ℕ) → is_start p i ≡ true → (o : Op) → Memᴰ o (operations_at p i) → P o
  each_decoded P h i s o m =
      let (x, here, e) = Memᴰ.of_map operation (instruction_at p i) m in
      let (k, b, q) = index_of nowhere here in
      let inside : i + k < length p = omega (arith, instruction_length p i, following_within p i (start_inside p i s)) in
      let (low, high) = in_cluster ok (i + k) inside in
      let four : (spot_at p (i + k)).opened - 1 < 4 = omega (arith, bounds.clusters.1) in
      rw (← e, ← q, instruction_at_lem p i k nowhere (omega (arith, instruction_length p i))) (h _ _ four)

  -- no result goes to another register than there are
  written_below : (i : ℕ) (d : Dest) → is_start p i ≡ true → Memᴰ d (instruction_of table.delays p i).dests → d.reg < 288
  written_below i d s =
      dests_have (λ r. r < 288) (operations_at p i)
      (each_decoded (λ o. (o.t ≢ 0 → o.t < 288) × (o.carry ≢ 0 → o.carry < 288)) (λ c s h. let d = decoded c s h in (λ n. d.t, λ n. d.carry)) i s)
      table.delays d

  goes : (i j : ℕ) → is_start p i ≡ true
      → Memᴰ j (nexts (following p i) (operations_at p i)) ⊎ ((is_start p j ≡ true) × ((o : Op) × Memᴰ o (operations_at p i) × (o.way ≡ Return)))
      → Goes (instruction_of table.delays p) (is_start p) i j
  goes i j s =
      ⊎_elim next_to
      (λ (start, (o, m, w)). anywhere start (return_writes ok i s table.delays o m w) (λ q d t n. return_reads (operations_at p i) m w d.reg (written_below q d t n)))

  pub loaded_machine : WellFormed change (instruction_of table.delays p) (is_start p)
  loaded_machine =
      record {
        onward = λ i j s m. onward ok i s m;
        delays = λ i d s m. let (r, _, e) = Memᴰ.of_map _ (results (operations_at p i)) m in rw (← e) (delay_bounds table bounds r.opcode r.register).0;
        apart = λ i s. Pairwise.of_map' {S = ◌≢◌} (λ (d : Dest). d.reg) (rw map-map (distinct ok i s));
        goes = λ i f m vs ss j s e. goes i j s (goes_on_lem (is_start p) (following p i) (operations_at p i) f m e);
        commutes = λ i f m vs ss j s e. stores_commute (is_start p) (following p i) (operations_at p i) f m e;
        faults = λ i f m s. not_in_flight (is_start p) (following p i) (operations_at p i) f m;
        reading = λ i f g m s h. reads_decide (is_start p) (following p i) (operations_at p i) f m g h;
      }
