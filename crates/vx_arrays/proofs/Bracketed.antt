-- Names by numbers in brackets, as foreign nodes have them.
use Rattle.std.proofs.Common.{subst, Result, Ok, Err, IfOk, ℕ, zero, suc, ◌≡◌, ◌≤◌, ◌<◌, ◌+◌, List, ◌++◌, Some, None, length, codes, slice_get, refl, sym, ap, ◌∙◌, add-zero, zero-add, arith}
use Rattle.std.specs.Fmt.{decimal}
use Rattle.vx_buffer.specs.Buffer.{Buffer}
use Rattle.vx_types.specs.Typ.{Typ}
use Rattle.vx_array_tree.specs.Body.{Body}
use Rattle.vx_array_tree.specs.Body as B
use Rattle.vx_array_tree.specs.Encodings.Foreigns.{Data}
use Rattle.vx_arrays.specs.Plain.{plain_body}
use Rattle.vx_arrays.specs.Slots.{bracketed, buffer_names, slot_names}
use Rattle.vx_arrays.specs.declared.body.Body.{Body as Declared}
use Rattle.vx_arrays.specs.declared.body.Body.TheVariants.{Foreign}
use Rattle.vx_rows.specs.declared.error.ArrayError.{ArrayError}

-- There are n of them.
length-bracketed : (word : List ℕ) (i k : ℕ) → length (bracketed word i k) ≡ k
length-bracketed word i zero = refl
length-bracketed word i (suc k) = ap (λ n. suc n) (length-bracketed word (suc i) k)

-- Each has its number.
at : (word : List ℕ) (i k j : ℕ) → j < k → slice_get (bracketed word i k) j ≡ Some (word ++ (codes "[" ++ (decimal (i + j) ++ codes "]")))
at word i zero j h = absurd (omega (arith, h))
at word i (suc k) zero h = ap (λ n. Some (word ++ (codes "[" ++ (decimal n ++ codes "]")))) (sym (add-zero i))
at word i (suc k) (suc j) h = at word (suc i) k j (omega (arith, h)) ∙ ap (λ n. Some (word ++ (codes "[" ++ (decimal n ++ codes "]")))) (moved i j)
  where
    moved : (m n : ℕ) → suc m + n ≡ m + suc n
    moved m n = omega arith

bracketed_at : (word : List ℕ) (k j : ℕ) → j < k → slice_get (bracketed word 0 k) j ≡ Some (word ++ (codes "[" ++ (decimal j ++ codes "]")))
bracketed_at word k j h = at word 0 k j h ∙ ap (λ n. Some (word ++ (codes "[" ++ (decimal n ++ codes "]")))) (zero-add j)

past : (word : List ℕ) (i k j : ℕ) → k ≤ j → slice_get (bracketed word i k) j ≡ None
past word i zero j h = refl
past word i (suc k) zero h = absurd (omega (arith, h))
past word i (suc k) (suc j) h = past word (suc i) k j (omega (arith, h))

-- Past the last there is none.
bracketed_past : (word : List ℕ) (k j : ℕ) → k ≤ j → slice_get (bracketed word 0 k) j ≡ None
bracketed_past word k j h = past word 0 k j h

-- ---- foreign nodes

-- A foreign node has as many slots as children.
pub foreign_count : (d : Typ) (b : Declared) (x : Data) (k : ℕ) → b ≡ Foreign x → k ≡ length (slot_names d (plain_body b) k)
foreign_count d b x k e = subst (λ (z : Declared). k ≡ length (slot_names d (plain_body z) k)) (sym e) (sym (length-bracketed (codes "child") 0 k))

module _ (c : Body) (b : Declared) (x : Data) (p : plain_body b ≡ c) (e : b ≡ Foreign x) where
  is_foreign : c ≡ B.foreign x
  is_foreign = sym p ∙ ap (λ (z : Declared). plain_body z) e

  -- Each slot is named by its number.
  pub foreign_slot : (d : Typ) (k i : ℕ) → i < length (slot_names d c k) → (r : Result (List ℕ) ArrayError) → IfOk r (λ name. name ≡ codes "child" ++ (codes "[" ++ (decimal i ++ codes "]")))
      → IfOk r (λ name. slice_get (slot_names d c k) i ≡ Some name)
  foreign_slot d k i h r q = ok r q
    where
      named : slice_get (slot_names d c k) i ≡ Some (codes "child" ++ (codes "[" ++ (decimal i ++ codes "]")))
      named =
          let l : i < length (bracketed (codes "child") 0 k) = subst (λ (z : Body). i < length (slot_names d z k)) is_foreign h in
          let n : length (bracketed (codes "child") 0 k) ≡ k = length-bracketed (codes "child") 0 k in
          subst (λ (z : Body). slice_get (slot_names d z k) i ≡ Some (codes "child" ++ (codes "[" ++ (decimal i ++ codes "]")))) (sym is_foreign) (bracketed_at (codes "child") k i (omega (arith, l, n)))

      ok : (r : Result (List ℕ) ArrayError) → IfOk r (λ name. name ≡ codes "child" ++ (codes "[" ++ (decimal i ++ codes "]"))) → IfOk r (λ name. slice_get (slot_names d c k) i ≡ Some name)
      ok (Ok a) q = named ∙ ap (λ z. Some z) (sym q)
      ok (Err r) q = tt

  module _ (bs : List Buffer) (i : ℕ) (q : bs ≡ x.buffers) where
    -- So is each buffer.
    pub foreign_buffer : i < length bs → Some (codes "buffer" ++ (codes "[" ++ (decimal i ++ codes "]"))) ≡ slice_get (buffer_names c) i
    foreign_buffer h =
        let l : i < length x.buffers = subst (λ (cs : List Buffer). i < length cs) q h in
        sym (ap (λ (z : Body). slice_get (buffer_names z) i) is_foreign ∙ bracketed_at (codes "buffer") (length x.buffers) i l)

    pub no_buffer : length bs ≤ i → None ≡ slice_get (buffer_names c) i
    no_buffer h =
        let l : length x.buffers ≤ i = subst (λ (cs : List Buffer). length cs ≤ i) q h in
        sym (ap (λ (z : Body). slice_get (buffer_names z) i) is_foreign ∙ bracketed_past (codes "buffer") (length x.buffers) i l)
