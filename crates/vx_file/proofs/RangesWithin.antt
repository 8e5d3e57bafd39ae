-- Ranges that pass the test of lying within a file.
use Rattle.std.proofs.Common.{ℕ, ◌≡◌, ◌+◌, ◌≤◌, List, [], ◌∷◌, Bool, true, refl, arith}
use Rattle.std.specs.Prelude.{nat_le}
use Rattle.std.specs.List.{AllByRecursion, list_all}
use Rattle.std.proofs.lemmas.Bool.{and_parts, and_from, leb-true, le-leb}
use Rattle.vx_file.specs.Footer.{FileRange}
use Rattle.vx_file.specs.Selecting.{EndWithin}
use Rattle.vx_file.specs.Shows.{IsWithin}
use Rattle.vx_file.specs.Within.{lies_within}

-- A test of each of a list decides a fact of each.
each_passes : {A : Type 0} (p : A → Bool) (P : A → Type 0) → ((x : A) → P x → p x ≡ true) → (xs : List A) → AllByRecursion P xs → list_all p xs ≡ true
each_passes p P h [] k = refl
each_passes p P h (x ∷ xs) k = and_from (p x) (list_all p xs) (h x k.0) (each_passes p P h xs k.1)

each_holds : {A : Type 0} (p : A → Bool) (P : A → Type 0) → ((x : A) → p x ≡ true → P x) → (xs : List A) → list_all p xs ≡ true → AllByRecursion P xs
each_holds p P h [] e = tt
each_holds p P h (x ∷ xs) e =
    let both = and_parts (p x) (list_all p xs) e in
    (h x both.0, each_holds p P h xs both.1)

within_passes : (offset : ℕ) (r : FileRange) → IsWithin offset r → lies_within offset r ≡ true
within_passes offset r w = and_from (nat_le 4 r.start) (nat_le (r.start + r.len) offset) (le-leb 4 r.start w.start) (le-leb (r.start + r.len) offset w.«end»)

passes_within : (offset : ℕ) (r : FileRange) → lies_within offset r ≡ true → IsWithin offset r
passes_within offset r e =
    let both = and_parts (nat_le 4 r.start) (nat_le (r.start + r.len) offset) e in
    record { start = leb-true 4 r.start both.0; «end» = leb-true (r.start + r.len) offset both.1 }

-- Ranges that lie within pass.
pub ranges_pass : (offset : ℕ) (rs : List FileRange) → AllByRecursion (IsWithin offset) rs → list_all (lies_within offset) rs ≡ true
ranges_pass offset rs h = each_passes (lies_within offset) (IsWithin offset) (within_passes offset) rs h

-- Ranges that pass lie within.
pub ranges_hold : (offset : ℕ) (rs : List FileRange) → list_all (lies_within offset) rs ≡ true → AllByRecursion (IsWithin offset) rs
ranges_hold offset rs e = each_holds (lies_within offset) (IsWithin offset) (passes_within offset) rs e

-- Ranges that end at or before an offset of a part end within what has that part.
pub end_within : (offset len start size : ℕ) (ranges : List FileRange) → offset ≤ len → start + len ≤ size → list_all (lies_within offset) ranges ≡ true → EndWithin size start ranges
end_within offset len start size ranges h k e = ends ranges (ranges_hold offset ranges e)
  where
    ends : (rs : List FileRange) → AllByRecursion (IsWithin offset) rs → EndWithin size start rs
    ends [] w = tt
    ends (r ∷ rs) w = (omega (arith, w.0.«end», h, k), ends rs w.1)
