-- Each arm by its row of the table, the last by no row.
use Rattle.std.proofs.Common.{ℕ, zero, suc, ◌+◌, List, [], ◌∷◌, ◌++◌, refl}
use Rattle.ops.proofs.Rows.{at_row, at_rows, no_row, past}
use Rattle.ops.proofs.value.Goals as goal

-- the arms' keys, the last arm's first
singles : ℕ → List (List ℕ)
singles zero = []
singles (suc n) = (suc n ∷ []) ∷ singles n

pairs : ℕ → List (List ℕ)
pairs zero = []
pairs (suc n) = ((30 + n) ∷ (40 + n) ∷ []) ∷ pairs n

arms : List (List ℕ)
arms = (51 ∷ []) ∷ (50 ∷ []) ∷ (pairs 10 ++ singles 29)

pub returns-in_default : goal.returns-in_default
unfolding arms pairs singles
returns-in_default c = no_row _ _ _ _ (past arms c.in_default.in_default-own.rest 51 tt)

pub returns-in-1 : goal.returns-in-1
returns-in-1 c = at_row 1 _ _ _ c.in-1.is c.add.ensures

pub returns-in-2 : goal.returns-in-2
returns-in-2 c = at_row 2 _ _ _ c.in-2.is c.sub.ensures

pub returns-in-3 : goal.returns-in-3
returns-in-3 c = at_row 3 _ _ _ c.in-3.is c.and.ensures

pub returns-in-4 : goal.returns-in-4
returns-in-4 c = at_row 4 _ _ _ c.in-4.is c.andc.ensures

pub returns-in-5 : goal.returns-in-5
returns-in-5 c = at_row 5 _ _ _ c.in-5.is c.or.ensures

pub returns-in-6 : goal.returns-in-6
returns-in-6 c = at_row 6 _ _ _ c.in-6.is c.orc.ensures

pub returns-in-7 : goal.returns-in-7
returns-in-7 c = at_row 7 _ _ _ c.in-7.is c.xor.ensures

pub returns-in-8 : goal.returns-in-8
returns-in-8 c = at_row 8 _ _ _ c.in-8.is c.shl.ensures

pub returns-in-9 : goal.returns-in-9
returns-in-9 c = at_row 9 _ _ _ c.in-9.is c.shr.ensures

pub returns-in-10 : goal.returns-in-10
returns-in-10 c = at_row 10 _ _ _ c.in-10.is c.shru.ensures

pub returns-in-11 : goal.returns-in-11
returns-in-11 c = at_row 11 _ _ _ c.in-11.is c.shift_add.ensures

pub returns-in-12 : goal.returns-in-12
returns-in-12 c = at_row 12 _ _ _ c.in-12.is c.shift_add-in-12.ensures

pub returns-in-13 : goal.returns-in-13
returns-in-13 c = at_row 13 _ _ _ c.in-13.is c.shift_add-in-13.ensures

pub returns-in-14 : goal.returns-in-14
returns-in-14 c = at_row 14 _ _ _ c.in-14.is c.shift_add-in-14.ensures

pub returns-in-15 : goal.returns-in-15
returns-in-15 c = at_row 15 _ _ _ c.in-15.is c.max.ensures

pub returns-in-16 : goal.returns-in-16
returns-in-16 c = at_row 16 _ _ _ c.in-16.is c.maxu.ensures

pub returns-in-17 : goal.returns-in-17
returns-in-17 c = at_row 17 _ _ _ c.in-17.is c.min.ensures

pub returns-in-18 : goal.returns-in-18
returns-in-18 c = at_row 18 _ _ _ c.in-18.is c.minu.ensures

pub returns-in-19 : goal.returns-in-19
returns-in-19 c = at_row 19 _ _ _ c.in-19.is c.widen.ensures

pub returns-in-20 : goal.returns-in-20
returns-in-20 c = at_row 20 _ _ _ c.in-20.is c.widen-in-20.ensures

pub returns-in-21 : goal.returns-in-21
returns-in-21 c = at_row 21 _ _ _ c.in-21.is c.low.ensures

pub returns-in-22 : goal.returns-in-22
returns-in-22 c = at_row 22 _ _ _ c.in-22.is c.low-in-22.ensures

pub returns-in-23 : goal.returns-in-23
returns-in-23 c = at_row 23 _ _ _ c.in-23.is c.addcg.ensures

pub returns-in-24 : goal.returns-in-24
returns-in-24 c = at_row 24 _ _ _ c.in-24.is c.mpyll.ensures

pub returns-in-25 : goal.returns-in-25
returns-in-25 c = at_row 25 _ _ _ c.in-25.is c.mpyllu.ensures

pub returns-in-26 : goal.returns-in-26
returns-in-26 c = at_row 26 _ _ _ c.in-26.is c.mpylh.ensures

pub returns-in-27 : goal.returns-in-27
returns-in-27 c = at_row 27 _ _ _ c.in-27.is c.mpylhu.ensures

pub returns-in-28 : goal.returns-in-28
returns-in-28 c = at_row 28 _ _ _ c.in-28.is c.mpyhh.ensures

pub returns-in-29 : goal.returns-in-29
returns-in-29 c = at_row 29 _ _ _ c.in-29.is c.mpyhhu.ensures

pub returns-in-30 : goal.returns-in-30
returns-in-30 c = at_rows 30 40 _ _ _ c.in-30.is c.cmpeq.ensures refl

pub returns-in-31 : goal.returns-in-31
returns-in-31 c = at_rows 31 41 _ _ _ c.in-31.is c.cmpne.ensures refl

pub returns-in-32 : goal.returns-in-32
returns-in-32 c = at_rows 32 42 _ _ _ c.in-32.is c.cmplt.ensures refl

pub returns-in-33 : goal.returns-in-33
returns-in-33 c = at_rows 33 43 _ _ _ c.in-33.is c.cmple.ensures refl

pub returns-in-34 : goal.returns-in-34
returns-in-34 c = at_rows 34 44 _ _ _ c.in-34.is c.cmpgt.ensures refl

pub returns-in-35 : goal.returns-in-35
returns-in-35 c = at_rows 35 45 _ _ _ c.in-35.is c.cmpge.ensures refl

pub returns-in-36 : goal.returns-in-36
returns-in-36 c = at_rows 36 46 _ _ _ c.in-36.is c.cmpltu.ensures refl

pub returns-in-37 : goal.returns-in-37
returns-in-37 c = at_rows 37 47 _ _ _ c.in-37.is c.cmpleu.ensures refl

pub returns-in-38 : goal.returns-in-38
returns-in-38 c = at_rows 38 48 _ _ _ c.in-38.is c.cmpgtu.ensures refl

pub returns-in-39 : goal.returns-in-39
returns-in-39 c = at_rows 39 49 _ _ _ c.in-39.is c.cmpgeu.ensures refl

pub returns-in-50 : goal.returns-in-50
returns-in-50 c = at_row 50 _ _ _ c.in-50.is c.slct.ensures

pub returns-in-51 : goal.returns-in-51
returns-in-51 c = at_row 51 _ _ _ c.in-51.is c.slctf.ensures
