-- The bytes of buffers that are taken one by one.
use Rattle.std.proofs.Common.{ℕ, ◌≡◌, ◌+◌, List, [], ◌∷◌, ◌++◌, length, refl, sym, ap, ◌∙◌, append_assoc, length-append}
use Rattle.vx_buffer.specs.Buffer.{Buffer}
use Rattle.vx_buffer.specs.Joined.{joined}

-- Those of two lists of buffers.
pub joined-append : (xs ys : List Buffer) → joined (xs ++ ys) ≡ joined xs ++ joined ys
joined-append [] ys = refl
joined-append (x ∷ xs) ys = ap (λ z. x.bytes ++ z) (joined-append xs ys) ∙ sym (append_assoc x.bytes (joined xs) (joined ys))

-- Of a list with one more at the end.
pub joined_more : (xs : List Buffer) (x : Buffer) → joined (xs ++ x ∷ []) ≡ joined xs ++ x.bytes
joined_more xs x = joined-append xs (x ∷ []) ∙ ap (λ z. joined xs ++ z) (nothing x.bytes)
  where
    nothing : (zs : List ℕ) → zs ++ [] ≡ zs
    nothing [] = refl
    nothing (z ∷ zs) = ap (λ ys. z ∷ ys) (nothing zs)
