-- Blobs that are written one after the other stand in their ranges.
use Rattle.std.proofs.Common.{ℕ, suc, ◌+◌, ◌-◌, ◌≡◌, ◌≤◌, List, [], ◌∷◌, ◌++◌, length, take, drop, refl, sym, ap, ◌∙◌, subst, arith, length-append, append_assoc}
use Rattle.std.specs.Prelude.{slice_range}
use Rattle.std.specs.List.{AllByRecursion}
use Rattle.std.proofs.Math.Seq.{take-append_seam, drop-append_seam}
use Rattle.vx_file.specs.Blobs.{ranges_from, all_blobs, HoldBlobs}
use Rattle.vx_file.specs.Selecting.{bytes_in}
use Rattle.vx_file.specs.Shows.{IsWithin}

-- A part in the middle is what stands there.
middle : (xs ys zs : List ℕ) → slice_range (xs ++ (ys ++ zs)) (length xs) (length xs + length ys) ≡ ys
middle xs ys zs =
    let size : length xs + length ys - length xs ≡ length ys = omega arith in
    ap (λ n. take n (drop (length xs) (xs ++ (ys ++ zs)))) size
    ∙ (ap (λ z. take (length ys) z) (drop-append_seam xs (ys ++ zs)) ∙ take-append_seam ys zs)

pub blobs_stand : (front : List ℕ) (blobs : List (List ℕ)) (rest : List ℕ) → HoldBlobs (front ++ (all_blobs blobs ++ rest)) (ranges_from (length front) blobs) blobs
blobs_stand front [] rest = tt
blobs_stand front (b ∷ bs) rest =
    let whole : front ++ ((b ++ all_blobs bs) ++ rest) ≡ front ++ (b ++ (all_blobs bs ++ rest)) = ap (λ z. front ++ z) (append_assoc b (all_blobs bs) rest) in
    let first : bytes_in (front ++ (b ++ (all_blobs bs ++ rest))) (record { start = length front; len = length b }) ≡ b = middle front b (all_blobs bs ++ rest) in
    let P : List ℕ → Type 0 = λ z. bytes_in z (record { start = length front; len = length b }) ≡ b in
    let next = blobs_stand (front ++ b) bs rest in
    let Q : ℕ → Type 0 = λ n. HoldBlobs ((front ++ b) ++ (all_blobs bs ++ rest)) (ranges_from n bs) bs in
    let R : List ℕ → Type 0 = λ z. HoldBlobs z (ranges_from (length front + length b) bs) bs in
    (subst P (sym whole) first, subst R (append_assoc front b (all_blobs bs ++ rest) ∙ sym whole) (subst Q (length-append front b) next))

-- Their ranges lie from a offset on and up to where the last blob ends.
pub ranges_within : (offset most : ℕ) (blobs : List (List ℕ)) → 4 ≤ offset → offset + length (all_blobs blobs) ≤ most → AllByRecursion (IsWithin most) (ranges_from offset blobs)
ranges_within offset most [] h k = tt
ranges_within offset most (b ∷ bs) h k =
    let len = length-append b (all_blobs bs) in
    (record { start = h; «end» = omega (arith, k, len) }, ranges_within (offset + length b) most bs (omega (arith, h)) (omega (arith, k, len)))

-- There are as many ranges as blobs.
pub ranges_count : (offset : ℕ) (blobs : List (List ℕ)) → length (ranges_from offset blobs) ≡ length blobs
ranges_count offset [] = refl
ranges_count offset (b ∷ bs) = ap suc (ranges_count (offset + length b) bs)
