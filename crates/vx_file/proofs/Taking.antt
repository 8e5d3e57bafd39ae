-- Loads one after the other.
use Rattle.std.proofs.Common.{ℕ, ◌≡◌, ◌+◌, ◌-◌, ◌^◌, ◌≤◌, min, max, Option, Some, IfSome, List, refl, sym, ap, ◌∙◌, subst, arith}
use Rattle.vx_file.specs.Ranges.{RangesState, after_taking, IsSameFile, HasTaken}

capped : (x a b m : ℕ) → max (max x (min (x + a) m)) (min (max x (min (x + a) m) + b) m) ≡ max x (min (x + (a + b)) m)
capped x a b m = omega arith

none_taken : (x m : ℕ) → x ≡ max x (min (x + 0) m)
none_taken x m = omega arith

rises : (x a m : ℕ) → x ≤ max x (min (x + a) m)
rises x a m = omega arith

-- No byte.
pub taken_none : (x : RangesState) → HasTaken 0 x x
taken_none x = record { told = refl; size = refl; faults = refl; taken = none_taken x.taken (2 ^ 128 - 1) }

-- So many bytes, and then so many more.
pub taken_twice : (a b : ℕ) (x y z : RangesState) → HasTaken a x y → HasTaken b y z → HasTaken (a + b) x z
taken_twice a b x y z first second = record {
  told = second.told ∙ first.told;
  size = second.size ∙ first.size;
  faults = second.faults ∙ first.faults;
  taken = second.taken ∙ (ap (λ n. after_taking n b) first.taken ∙ capped x.taken a b (2 ^ 128 - 1));
}

-- As many bytes by another name.
pub taken_as : (m n : ℕ) (x y : RangesState) → m ≡ n → HasTaken m x y → HasTaken n x y
taken_as m n x y e h = subst (λ k. HasTaken k x y) e h

-- The file stays the same where bytes were taken of it.
pub same_taken : (n : ℕ) (x y : RangesState) → HasTaken n x y → IsSameFile x y
same_taken n x y h = record {
  told = h.told;
  size = h.size;
  faults = omega (arith, h.faults);
  taken = subst (λ k. x.taken ≤ k) (sym h.taken) (rises x.taken n (2 ^ 128 - 1));
}

-- And after both of two loads.
pub same_twice : (x y z : RangesState) → IsSameFile x y → IsSameFile y z → IsSameFile x z
same_twice x y z first second = record {
  told = second.told ∙ first.told;
  size = second.size ∙ first.size;
  faults = omega (arith, first.faults, second.faults);
  taken = omega (arith, first.taken, second.taken);
}

-- What holds of what is told.
pub at_told : (o : Option (List ℕ)) (P : List ℕ → Type 0) (bytes : List ℕ) → o ≡ Some bytes → IfSome o P → P bytes
at_told o P bytes e h =
    let Q : Option (List ℕ) → Type 0 = λ z. IfSome z P in
    subst Q e h

-- What holds of what is there.
pub if_some_at : {A : Type 0} (o : Option A) (P : A → Type 0) (x : A) → o ≡ Some x → IfSome o P → P x
if_some_at o P x e h =
    let Q : Option _ → Type 0 = λ z. IfSome z P in
    subst Q e h
