-- Texts and bytes by views: the names of their buffers, a row's view, and what tests say of them.
use Rattle.std.proofs.Common.{ℕ, zero, suc, ◌≡◌, ◌<◌, ◌+◌, ◌-◌, ◌*◌, List, [], ◌∷◌, ◌++◌, Some, None, length, take, drop, codes, slice_get, refl, sym, ap, ◌∙◌, add-zero, zero-add, arith}
use Rattle.std.specs.Fmt.{decimal}
use Rattle.vx_buffer.specs.Buffer.{Buffer}
use Rattle.vx_array_tree.specs.Encodings.VarBinViews.{Data, viewed, bytes_at}
use Rattle.vx_arrays.specs.Slots.{numbered}

-- ---- names

-- A buffer that views name is named by its number.
numbered_name : (k i : ℕ) (bs : List Buffer) (rest : List (List ℕ)) → i < length bs → slice_get (numbered k bs ++ rest) i ≡ Some (codes "buffer_" ++ decimal (k + i))
numbered_name k i [] rest h = absurd (omega (arith, h))
numbered_name k zero (b ∷ bs) rest h = ap (λ n. Some (codes "buffer_" ++ decimal n)) (sym (add-zero k))
numbered_name k (suc i) (b ∷ bs) rest h = numbered_name (suc k) i bs rest (omega (arith, h)) ∙ ap (λ n. Some (codes "buffer_" ++ decimal n)) (moved k i)
  where
    moved : (j n : ℕ) → suc j + n ≡ j + suc n
    moved j n = omega arith

-- After them stands one name more.
last_name : (k : ℕ) (bs : List Buffer) (name : List ℕ) → slice_get (numbered k bs ++ name ∷ []) (length bs) ≡ Some name
last_name k [] name = refl
last_name k (b ∷ bs) name = last_name (suc k) bs name

no_name : (k i : ℕ) (bs : List Buffer) (name : List ℕ) → length bs < i → slice_get (numbered k bs ++ name ∷ []) i ≡ None
no_name k zero bs name h = absurd (omega (arith, h))
no_name k (suc i) [] name h = refl
no_name k (suc i) (b ∷ bs) name h = no_name (suc k) i bs name (omega (arith, h))

module _ (x : Data) (n i : ℕ) (e : n ≡ length x.buffers) where
  pub name_of_buffer : (name : List ℕ) → i < n → Some (codes "buffer_" ++ decimal i) ≡ slice_get (numbered 0 x.buffers ++ name ∷ []) i
  name_of_buffer name h = sym (numbered_name 0 i x.buffers (name ∷ []) (omega (arith, h, e)) ∙ ap (λ k. Some (codes "buffer_" ++ decimal k)) (zero-add i))

  pub name_of_views : (name : List ℕ) → i ≡ n → Some name ≡ slice_get (numbered 0 x.buffers ++ name ∷ []) i
  name_of_views name q = sym (ap (λ k. slice_get (numbered 0 x.buffers ++ name ∷ []) k) (q ∙ e) ∙ last_name 0 x.buffers name)

  pub name_of_none : (name : List ℕ) → n < i → None ≡ slice_get (numbered 0 x.buffers ++ name ∷ []) i
  name_of_none name h = sym (no_name 0 i x.buffers name (omega (arith, h, e)))

-- ---- views

-- A row's view is its 16 bytes.
pub row_view : (x : Data) (i : ℕ) (bs : List Buffer) (views : List ℕ) → bs ≡ x.buffers → views ≡ x.views.bytes → viewed bs (take (16 * i + 16 - 16 * i) (drop (16 * i) views)) ≡ bytes_at x i
row_view x i bs views p q = let e : 16 * i + 16 - 16 * i ≡ 16 = omega arith in rw (e, p, q) refl
