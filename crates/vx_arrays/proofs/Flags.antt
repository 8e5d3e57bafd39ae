-- The rows of non-nullable flags.
use Rattle.std.proofs.Common.{ℕ, ◌≡◌, ◌+◌, [], Some, refl, sym, subst}
use Rattle.vx_trees.specs.Rose.{node, end, more, count}
use Rattle.vx_types.specs.Kind.{boolean}
use Rattle.vx_types.specs.Typ.{Typ}
use Rattle.vx_types.specs.Words.{nullability}
use Rattle.vx_types.specs.declared.nullability.Nullability.TheVariants.{NonNullable, Nullable}
use Rattle.vx_scalars.specs.Stats.{Stats}
use Rattle.vx_array_tree.specs.Body as B
use Rattle.vx_array_tree.specs.Encodings.Bools.{Data, bit_at, plan}
use Rattle.vx_array_tree.specs.Place.{before_validity}
use Rattle.vx_types.specs.Value.{flag_in}
use Rattle.vx_array_tree.specs.Sound.{IsSoundNode}
use Rattle.vx_array_tree.specs.Tree.{Trees, places, rows_of}
use Rattle.vx_arrays.specs.Plain.{plain_head}
use Rattle.vx_arrays.specs.declared.body.Body.{Body}
use Rattle.vx_arrays.specs.declared.body.Body.TheVariants.{Bool}

no_validity : (n : ℕ) (ts : Trees) → before_validity [] n (count ts) ≡ Some (places ts) → (count ts ≡ 1 → NonNullable ≡ Nullable) → ts ≡ end
no_validity n end p a = refl
no_validity n (more t end) p a = let e : NonNullable ≡ Nullable = a refl in absurd (cc)
no_validity n (more t (more u us)) p a = absurd (cc)

-- Flags that are never null have no validity.
bare : (d : Typ) (n : ℕ) (z : Stats) (x : Data) (ts : Trees) → d ≡ node (boolean NonNullable) end → IsSoundNode (record { dtype = d; len = n; stats = z; body = B.bool x }) ts → ts ≡ end
bare d n z x ts e s =
    no_validity n ts (subst (λ (z : Typ). plan z n (count ts) ≡ Some (places ts)) e s.planned)
    (subst (λ (z : Typ). count ts ≡ 1 → nullability z ≡ Nullable) e s.allows)

flag_at : (d : Typ) (n i : ℕ) (z : Stats) (x : Data) (ts : Trees) → ts ≡ end → Some (bit_at x.bits.bytes (x.offset + i)) ≡ flag_in ((rows_of (node (record { dtype = d; len = n; stats = z; body = B.bool x }) ts)).row i)
flag_at d n i z x ts e = subst (λ (us : Trees). Some (bit_at x.bits.bytes (x.offset + i)) ≡ flag_in ((rows_of (node (record { dtype = d; len = n; stats = z; body = B.bool x }) us)).row i)) (sym e) refl

-- A row of theirs is its bit.
pub flag_row : (d : Typ) (n i : ℕ) (z : Stats) (b : Body) (x : Data) (ts : Trees) → b ≡ Bool x → d ≡ node (boolean NonNullable) end → IsSoundNode (plain_head d n z b) ts
    → Some (bit_at x.bits.bytes (x.offset + i)) ≡ flag_in ((rows_of (node (plain_head d n z b) ts)).row i)
flag_row d n i z b x ts p e s =
    let q : IsSoundNode (plain_head d n z (Bool x)) ts = subst (λ (c : Body). IsSoundNode (plain_head d n z c) ts) p s in
    subst (λ (c : Body). Some (bit_at x.bits.bytes (x.offset + i)) ≡ flag_in ((rows_of (node (plain_head d n z c) ts)).row i)) (sym p) (flag_at d n i z x ts (bare d n z x ts e q))
