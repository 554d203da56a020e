-- Each class in turn: what a syllable is not of stays as it is.
use mathlib.Core.Path.{◌≡◌, refl, sym, ap, ◌∙◌}
use mathlib.Core.Bool.{Bool, true, false, ◌||◌}
use mathlib.Core.Bool.{or-false as or_nothing}
use mathlib.Core.List.{List}
use Rattle.isa.specs.Syllable.{opcode, is_alu, is_mul, is_mem, is_copy}
use Rattle.isa.specs.declared.Spot.{Spot}
use Rattle.refusals.proofs.Takes.{left_of, all, Part, took_all, took_class, took_copy, none_class, none_copy, full, parts, alu_only, mul_only, mem_only}
use Rattle.refusals.proofs.instructions.overfills.Goals as goal
use Rattle.refusals.proofs.instructions.overfills.Goals.{After-is_alu, After-is_copy, After-is_mem, After-is_mul, After-take, Else-is_alu, Else-is_mem, Else-is_mul, Else-take}

twice : (b : Bool) → b || false || false ≡ b
twice true = refl
twice false = refl

thrice : (b : Bool) → b || false || false || false ≡ b
thrice true = refl
thrice false = refl

-- what the tests say of the syllable
alu-is : (c : After-is_alu) → is_alu (opcode c.args.x.syllable) ≡ c.is_alu.result
alu-is c = sym (c.is_alu.ensures ∙ ap is_alu c.opcode-o.ensures)

mul_is : (c : After-is_mul) → is_mul (opcode c.args.x.syllable) ≡ c.is_mul.result
mul_is c = sym (c.is_mul.ensures ∙ ap is_mul c.opcode-o.ensures)

mem_is : (c : After-is_mem) → is_mem (opcode c.args.x.syllable) ≡ c.is_mem.result
mem_is c = sym (c.is_mem.ensures ∙ ap is_mem c.opcode-o.ensures)

copy_is : (c : After-is_copy) → is_copy (opcode c.args.x.syllable) ≡ c.is_copy.result
copy_is c = sym (c.is_copy.ensures ∙ ap is_copy c.opcode-o.ensures)

no-alu : (c : Else-is_alu) → is_alu (opcode c.args.x.syllable) ≡ false
no-alu c = alu-is c.before ∙ c.if-is_alu.false

no-mul : (c : Else-is_mul) → is_mul (opcode c.args.x.syllable) ≡ false
no-mul c = mul_is c.before ∙ c.if-is_mul.false

no-mem : (c : Else-is_mem) → is_mem (opcode c.args.x.syllable) ≡ false
no-mem c = mem_is c.before ∙ c.if-is_mem.false

width : (c : After-take) (xs : List Spot)
    → Part c.args.left.now.clusters c.args.x xs all c.args.left.now.width c.take.result c.take.new.left
width c xs =
    took_all c.args.left.now.clusters c.args.x xs c.cluster-c.ensures c.args.left.now.width c.take.new.left c.take.result c.take.ensures

fits : (c : Else-take) (xs : List Spot)
    → Part c.args.left.now.clusters c.args.x xs all c.args.left.now.width false c.take.new.left
fits c xs = rw c.if-take.false at (width c.before xs)

pub returns-then-take-clause-is : goal.returns-then-take-clause-is
returns-then-take-clause-is c =
    λ xs.
    full c.args.left.now.clusters c.args.x xs (left_of c.args.left.now.clusters c.args.left.now.width c.args.left.now.alu c.args.left.now.mul c.args.left.now.mem c.args.left.now.copy) c.take.new.left
    (rw c.if-take.true at (width (goal.at.returns-then-take-clause-is c).After-take xs))

pub returns-then-is_alu-clause-is : goal.returns-then-is_alu-clause-is
returns-then-is_alu-clause-is c =
    let is = alu-is (goal.at.returns-then-is_alu-clause-is c).After-is_alu ∙ c.if-is_alu.true in
    let only = alu_only (opcode c.args.x.syllable) is in
    let left = left_of c.args.left.now.clusters c.args.left.now.width c.args.left.now.alu c.args.left.now.mul c.args.left.now.mem c.args.left.now.copy in
    λ xs.
    parts c.args.left.now.clusters c.args.x xs left (left_of c.args.left.now.clusters c.take.new.left c.take-then-is_alu.new.left c.args.left.now.mul c.args.left.now.mem c.args.left.now.copy) false c.take-then-is_alu.result false false false c.take-then-is_alu.result (fits (goal.at.returns-then-is_alu-clause-is c).Else-take xs)
    (took_class c.args.left.now.clusters c.args.x xs c.cluster-c.ensures is_alu c.args.left.now.alu c.take-then-is_alu.new.left c.take-then-is_alu.result (is) c.take-then-is_alu.ensures) (none_class c.args.left.now.clusters c.args.x xs is_mul c.args.left.now.mul only.0) (none_class c.args.left.now.clusters c.args.x xs is_mem c.args.left.now.mem only.1) (none_copy c.args.left.now.clusters c.args.x xs c.args.left.now.copy only.2) (thrice c.take-then-is_alu.result)

pub returns-then-is_mul-clause-is : goal.returns-then-is_mul-clause-is
returns-then-is_mul-clause-is c =
    let is = mul_is (goal.at.returns-then-is_mul-clause-is c).After-is_mul ∙ c.if-is_mul.true in
    let only = mul_only (opcode c.args.x.syllable) is in
    let left = left_of c.args.left.now.clusters c.args.left.now.width c.args.left.now.alu c.args.left.now.mul c.args.left.now.mem c.args.left.now.copy in
    λ xs.
    parts c.args.left.now.clusters c.args.x xs left (left_of c.args.left.now.clusters c.take.new.left c.args.left.now.alu c.take-then-is_mul.new.left c.args.left.now.mem c.args.left.now.copy) false false c.take-then-is_mul.result false false c.take-then-is_mul.result (fits (goal.at.returns-then-is_mul-clause-is c).Else-take xs)
    (none_class c.args.left.now.clusters c.args.x xs is_alu c.args.left.now.alu (no-alu (goal.at.returns-then-is_mul-clause-is c).Else-is_alu)) (took_class c.args.left.now.clusters c.args.x xs c.cluster-c.ensures is_mul c.args.left.now.mul c.take-then-is_mul.new.left c.take-then-is_mul.result (is) c.take-then-is_mul.ensures) (none_class c.args.left.now.clusters c.args.x xs is_mem c.args.left.now.mem only.0) (none_copy c.args.left.now.clusters c.args.x xs c.args.left.now.copy only.1) (twice c.take-then-is_mul.result)

pub returns-then-is_mem-clause-is : goal.returns-then-is_mem-clause-is
returns-then-is_mem-clause-is c =
    let is = mem_is (goal.at.returns-then-is_mem-clause-is c).After-is_mem ∙ c.if-is_mem.true in
    let left = left_of c.args.left.now.clusters c.args.left.now.width c.args.left.now.alu c.args.left.now.mul c.args.left.now.mem c.args.left.now.copy in
    λ xs.
    parts c.args.left.now.clusters c.args.x xs left (left_of c.args.left.now.clusters c.take.new.left c.args.left.now.alu c.args.left.now.mul c.take-then-is_mem.new.left c.args.left.now.copy) false false false c.take-then-is_mem.result false c.take-then-is_mem.result (fits (goal.at.returns-then-is_mem-clause-is c).Else-take xs)
    (none_class c.args.left.now.clusters c.args.x xs is_alu c.args.left.now.alu (no-alu (goal.at.returns-then-is_mem-clause-is c).Else-is_alu)) (none_class c.args.left.now.clusters c.args.x xs is_mul c.args.left.now.mul (no-mul (goal.at.returns-then-is_mem-clause-is c).Else-is_mul)) (took_class c.args.left.now.clusters c.args.x xs c.cluster-c.ensures is_mem c.args.left.now.mem c.take-then-is_mem.new.left c.take-then-is_mem.result (is) c.take-then-is_mem.ensures) (none_copy c.args.left.now.clusters c.args.x xs c.args.left.now.copy (mem_only (opcode c.args.x.syllable) is)) (or_nothing c.take-then-is_mem.result)

pub returns-then-is_copy-clause-is : goal.returns-then-is_copy-clause-is
returns-then-is_copy-clause-is c =
    let is = copy_is (goal.at.returns-then-is_copy-clause-is c).After-is_copy ∙ c.if-is_copy.true in
    let left = left_of c.args.left.now.clusters c.args.left.now.width c.args.left.now.alu c.args.left.now.mul c.args.left.now.mem c.args.left.now.copy in
    λ xs.
    parts c.args.left.now.clusters c.args.x xs left (left_of c.args.left.now.clusters c.take.new.left c.args.left.now.alu c.args.left.now.mul c.args.left.now.mem c.take_copy.new.left) false false false false c.take_copy.result c.take_copy.result (fits (goal.at.returns-then-is_copy-clause-is c).Else-take xs)
    (none_class c.args.left.now.clusters c.args.x xs is_alu c.args.left.now.alu (no-alu (goal.at.returns-then-is_copy-clause-is c).Else-is_alu)) (none_class c.args.left.now.clusters c.args.x xs is_mul c.args.left.now.mul (no-mul (goal.at.returns-then-is_copy-clause-is c).Else-is_mul)) (none_class c.args.left.now.clusters c.args.x xs is_mem c.args.left.now.mem (no-mem (goal.at.returns-then-is_copy-clause-is c).Else-is_mem)) (took_copy c.args.left.now.clusters c.args.x xs c.cluster-c.ensures c.args.left.now.copy c.take_copy.new.left c.take_copy.result c.source.ensures is c.take_copy.ensures) refl

pub returns-clause-is : goal.returns-clause-is
returns-clause-is c =
    let left = left_of c.args.left.now.clusters c.args.left.now.width c.args.left.now.alu c.args.left.now.mul c.args.left.now.mem c.args.left.now.copy in
    λ xs.
    parts c.args.left.now.clusters c.args.x xs left (left_of c.args.left.now.clusters c.take.new.left c.args.left.now.alu c.args.left.now.mul c.args.left.now.mem c.args.left.now.copy) false false false false false false (fits (goal.at.returns-clause-is c).Else-take xs)
    (none_class c.args.left.now.clusters c.args.x xs is_alu c.args.left.now.alu (no-alu (goal.at.returns-clause-is c).Else-is_alu)) (none_class c.args.left.now.clusters c.args.x xs is_mul c.args.left.now.mul (no-mul (goal.at.returns-clause-is c).Else-is_mul)) (none_class c.args.left.now.clusters c.args.x xs is_mem c.args.left.now.mem (no-mem (goal.at.returns-clause-is c).Else-is_mem)) (none_copy c.args.left.now.clusters c.args.x xs c.args.left.now.copy (copy_is (goal.at.returns-clause-is c).After-is_copy ∙ c.if-is_copy.false)) refl
